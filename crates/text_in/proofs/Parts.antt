-- The parts of a text before and after a byte, as a program cuts them: by the place where the byte stands. Assumes nothing.
use mathlib.Core.Path.{◌≡◌, refl, sym, ap, ◌∙◌}
use mathlib.Core.Bool.{Bool, true, false, cond, ◌||◌}
use mathlib.Core.List.{List, [], ◌∷◌}
use Prim.Native.Nat.{ℕ, suc, ◌+◌, ◌-◌, ◌≤◌, ◌<◌}
use native.Mathlib.Omega.{arith}
use lib.ListN.{length, take, drop, length-drop, drop_of_length-le}
use native.Mathlib.Numerals.{add-one}
use lib.Seq.{take_all}
use lib.Dec.{eqb, ltb, leb-suc-suc}
use borrow.Author.Tests.{eqb-true, lt-ltb, le-ltb, ltb-true, ltb-false}
use Rattle.std.specs.List.{position}
use Rattle.std.specs.Option.{unwrap_or}
use Rattle.std.proofs.Common.{Some, None}
use Rattle.std.proofs.lemmas.List.Recursion.{is_position_or_len}
use Rattle.text_in.specs.Text.{holds, before, past_of, after, without}

-- `&s[a..]` is what is left of s
pub rest : (a : ℕ) (s : List ℕ) → take (length s - a) (drop a s) ≡ drop a s
rest a s = take_all (length s - a) (drop a s) (omega (arith, length-drop a s))

module _ (mark : ℕ) where
  pub before_le : (s : List ℕ) → length (before mark s) ≤ length s
  unfolding before
  before_le [] = omega arith
  before_le (b ∷ s) = go (eqb b mark) (before_le s)
    where
      go : (t : Bool) → length (before mark s) ≤ length s → length (cond t [] (b ∷ before mark s)) ≤ suc (length s)
      go true h = omega arith
      go false h = omega arith

  -- the place of the byte is the one that the library's `position` finds, or the end
  pub first_place : (s : List ℕ) → unwrap_or (position (λ b. eqb b mark) s) (length s) ≡ length (before mark s)
  unfolding before
  first_place s = rw (← is_position_or_len (λ s. length (before mark s)) (λ b. eqb b mark) refl (λ b s. turn (eqb b mark) b s) s)
      (go (ltb (length (before mark s)) (length s)) refl)
    where
      turn : (t : Bool) (b : ℕ) (s : List ℕ) → length (cond t [] (b ∷ before mark s)) ≡ cond t 0 (1 + length (before mark s))
      turn true b s = refl
      turn false b s = omega arith

      go : (t : Bool) → ltb (length (before mark s)) (length s) ≡ t → unwrap_or (cond t (Some (length (before mark s))) None) (length s) ≡ length (before mark s)
      go true e = refl
      go false e = omega (arith, ltb-false (length (before mark s)) (length s) e, before_le s)

  -- the place that `find` gives is no farther than the end
  pub before_found : (s : List ℕ) {k : ℕ} → k ≡ length (before mark s) → k ≤ length s
  before_found s e = omega (arith, before_le s)

  pub before_take : (s : List ℕ) → take (length (before mark s)) s ≡ before mark s
  unfolding before
  before_take [] = refl
  before_take (b ∷ s) = go (eqb b mark) (before_take s)
    where
      go : (t : Bool) → take (length (before mark s)) s ≡ before mark s → take (length (cond t [] (b ∷ before mark s))) (b ∷ s) ≡ cond t [] (b ∷ before mark s)
      go true e = refl
      go false e = ap (λ (l : List ℕ). b ∷ l) e

  pub after_drop : (s : List ℕ) → drop (suc (length (before mark s))) s ≡ after mark s
  unfolding before after
  after_drop [] = refl
  after_drop (b ∷ s) = go (eqb b mark) (after_drop s)
    where
      go : (t : Bool) → drop (suc (length (before mark s))) s ≡ after mark s → drop (length (cond t [] (b ∷ before mark s))) s ≡ cond t s (after mark s)
      go true e = refl
      go false e = e

  pub holds_is : (s : List ℕ) → holds mark s ≡ ltb (length (before mark s)) (length s)
  unfolding holds before
  holds_is [] = refl
  holds_is (b ∷ s) = go (eqb b mark) (holds_is s)
    where
      go : (t : Bool) → holds mark s ≡ ltb (length (before mark s)) (length s)
          → (t || holds mark s) ≡ ltb (length (cond t [] (b ∷ before mark s))) (suc (length s))
      go true e = sym (lt-ltb 0 (suc (length s)) (omega arith))
      go false e = e ∙ sym (leb-suc-suc (suc (length (before mark s))) (length s))

  -- from the byte itself on: where it is skipped too, only what comes after it counts
  pub from_mark : (test : ℕ → Bool) → test mark ≡ true → (s : List ℕ) → without test (drop (length (before mark s)) s) ≡ without test (after mark s)
  unfolding before after without
  from_mark test q [] = refl
  from_mark test q (b ∷ s) = go (eqb b mark) refl (from_mark test q s)
    where
      go : (t : Bool) → eqb b mark ≡ t → without test (drop (length (before mark s)) s) ≡ without test (after mark s)
          → without test (drop (length (cond t [] (b ∷ before mark s))) (b ∷ s)) ≡ without test (cond t s (after mark s))
      go true e h = rw (eqb-true b mark e, q)
      go false e h = h

  -- where the text after the byte begins: by the place of the byte, if it is there
  module _ (s : List ℕ) where
    pub past_none : length (before mark s) ≡ length s → length s ≡ past_of mark s
    unfolding past_of
    past_none h = sym (rw (holds_is s ∙ le-ltb (length (before mark s)) (length s) (omega arith)))

    pub past_there : length (before mark s) < length s → length (before mark s) + 1 ≡ past_of mark s
    unfolding past_of
    past_there h = sym (rw (holds_is s ∙ lt-ltb (length (before mark s)) (length s) h))

    pub past_le : past_of mark s ≤ length s
    unfolding past_of
    past_le = go (holds mark s) (holds_is s)
      where
        go : (t : Bool) → t ≡ ltb (length (before mark s)) (length s) → cond t (length (before mark s) + 1) (length s) ≤ length s
        go true e = omega (arith, ltb-true (length (before mark s)) (length s) (sym e))
        go false e = omega arith

    -- the place that `past` gives is no farther than the end
    pub past_found : {k : ℕ} → k ≡ past_of mark s → k ≤ length s
    past_found e = omega (arith, past_le, e)

    pub past_more : 0 < length s → 0 < past_of mark s
    unfolding past_of
    past_more h = go (holds mark s)
      where
        go : (t : Bool) → 0 < cond t (length (before mark s) + 1) (length s)
        go true = omega arith
        go false = h

    -- as a program cuts it
    pub cut_after : take (length s - past_of mark s) (drop (past_of mark s) s) ≡ after mark s
    unfolding past_of
    cut_after = rest (past_of mark s) s ∙ go (holds mark s) (holds_is s)
      where
        go : (t : Bool) → t ≡ ltb (length (before mark s)) (length s) → drop (cond t (length (before mark s) + 1) (length s)) s ≡ after mark s
        go true e = ap (λ (k : ℕ). drop k s) (add-one (length (before mark s))) ∙ after_drop s
        go false e =
            let there : length s ≤ length s = omega arith in
            let over : length s ≤ suc (length (before mark s)) = omega (arith, ltb-false (length (before mark s)) (length s) (sym e)) in
            drop_of_length-le s there ∙ sym (drop_of_length-le s over) ∙ after_drop s

    -- what is left after a line is shorter
    pub left_shorter : 0 < length s → {k : ℕ} → k ≡ past_of mark s → length (take (length s - k) (drop k s)) < length s
    left_shorter h {k} e = omega (arith, e, past_more h, past_le, ap length (rest k s), length-drop k s)
