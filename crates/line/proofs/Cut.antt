-- The start and the length that `field_part` gives cut the position field out of the line. Assumes nothing.
use mathlib.Core.Path.{◌≡◌, refl, sym, ap, ap₂, ◌∙◌}
use mathlib.Core.Bool.{Bool, true, false, cond, true≢false}
use mathlib.Core.List.{List, [], ◌∷◌, ◌++◌, append_assoc, append-nil}
use Prim.Native.Nat.{ℕ, zero, suc, ◌+◌, ◌-◌, ◌<◌, ◌≤◌}
use native.Mathlib.Omega.{arith}
use lib.Dec.{eqb}
use lib.ListN.{length, take, drop, get_or, length-take, length-drop, take-append-drop}
use lib.Seq.{take-append_seam}
use borrow.Author.Tests.{eq-eqb, eqb-true, eqb-false}
use Rattle.refusal.specs.Answer.{Answer, given, refused}
use Rattle.text_in.specs.Text.{semicolon, is_blank, before, without, without_last, trim}
use Rattle.text_in.proofs.Parts.{before_take}
use Rattle.text_in.proofs.Texts.{last_more, last_stop, last_none}
use Rattle.line_parse.specs.Line.{Line, position_field, line_of}
use Rattle.line.specs.Field.{unless_refused, field_of, start_in, start_of}

module _ (test : ℕ → Bool) where
  -- the first byte that is left does not pass the test
  first : (s : List ℕ) (b : ℕ) (r : List ℕ) → without test s ≡ b ∷ r → test b ≡ false
  unfolding without
  first [] b r e = absurd (let k : ◌≡◌ {A = ℕ} 0 1 = cc in omega arith)
  first (x ∷ s) b r e = go (test x) refl (first s b r) e
    where
      go : (t : Bool) → test x ≡ t → (without test s ≡ b ∷ r → test b ≡ false) → cond t (without test s) (x ∷ s) ≡ b ∷ r → test b ≡ false
      go true q rec e = rec e
      go false q rec e = let k : x ≡ b = cc in ap test (sym k) ∙ q

  -- and so it stands nowhere before
  start : (s back : List ℕ) (b : ℕ) (r : List ℕ) → without test s ≡ b ∷ r → drop (length (before b (s ++ back))) (s ++ back) ≡ (b ∷ r) ++ back
  unfolding without before
  start [] back b r e = absurd (let k : ◌≡◌ {A = ℕ} 0 1 = cc in omega arith)
  start (x ∷ s) back b r e = go (test x) refl (eqb x b) refl (start s back b r) e
    where
      go : (t : Bool) → test x ≡ t → (u : Bool) → eqb x b ≡ u
          → (without test s ≡ b ∷ r → drop (length (before b (s ++ back))) (s ++ back) ≡ (b ∷ r) ++ back)
          → cond t (without test s) (x ∷ s) ≡ b ∷ r → drop (length (cond u [] (x ∷ before b (s ++ back)))) (x ∷ (s ++ back)) ≡ (b ∷ r) ++ back
      go true q true v rec e = absurd (true≢false (sym q ∙ ap test (eqb-true x b v) ∙ first s b r e))
      go true q false v rec e = rec e
      go false q true v rec e = ap (λ (l : List ℕ). l ++ back) e
      go false q false v rec e = let k : x ≡ b = cc in absurd (true≢false (sym (eq-eqb x b k) ∙ v))

  -- what is left at the front of a text, and what was taken off its end
  last_front : (n : ℕ) (t : List ℕ) → length t ≡ n → (back : List ℕ) × (t ≡ without_last test t ++ back)
  last_front zero t e = ([], last_none test t (omega arith) ∙ sym (append-nil (without_last test t)))
  last_front (suc n) t e =
      go (test (get_or t (length t - 1) 0)) refl (last_front n (take (length t - 1) t) (omega (arith, length-take (length t - 1) t)))
    where
      some : 0 < length t
      some = omega arith

      go : (u : Bool) → test (get_or t (length t - 1) 0) ≡ u → (back : List ℕ) × (take (length t - 1) t ≡ without_last test (take (length t - 1) t) ++ back)
          → (back : List ℕ) × (t ≡ without_last test t ++ back)
      go true q r = (
        r.0 ++ drop (length t - 1) t,
        sym (take-append-drop (length t - 1) t) ∙ ap (λ (l : List ℕ). l ++ drop (length t - 1) t) r.1
            ∙ append_assoc (without_last test (take (length t - 1) t)) r.0 (drop (length t - 1) t)
            ∙ ap (λ (l : List ℕ). l ++ (r.0 ++ drop (length t - 1) t)) (sym (last_more test t some q)),
      )
      go false q r = ([], last_stop test t some q ∙ sym (append-nil (without_last test t)))

module _ (line : List ℕ) where
  trimmed : (f : List ℕ) → trim (before semicolon line) ≡ f → take (length f) (drop (start_in f line) line) ≡ f
  unfolding trim
  trimmed [] e = refl
  trimmed (b ∷ s) e =
      let field : List ℕ = before semicolon line in
      let w = last_front is_blank (length (without is_blank field)) (without is_blank field) refl in
      let back : List ℕ = drop (length field) line in
      let is : line ≡ field ++ back = sym (take-append-drop (length field) line) ∙ ap (λ (l : List ℕ). l ++ back) (before_take semicolon line) in
      let left : without is_blank field ≡ b ∷ (s ++ w.0) = w.1 ∙ ap (λ (l : List ℕ). l ++ w.0) e in
      ap (λ (l : List ℕ). take (length (b ∷ s)) (drop (length (before b l)) l)) is
      ∙ ap (take (length (b ∷ s))) (start is_blank field back b (s ++ w.0) left ∙ append_assoc (b ∷ s) w.0 back)
      ∙ take-append_seam (b ∷ s) (w.0 ++ back)

  pub part_is : take (length (field_of line)) (drop (start_of line) line) ≡ field_of line
  unfolding start_of field_of
  part_is = go (line_of line)
    where
      go : (a : Answer Line) → take (length (unless_refused a (position_field line))) (drop (start_in (unless_refused a (position_field line)) line) line)
          ≡ unless_refused a (position_field line)
      go (given l) = trimmed (position_field line) refl
      go (refused n v) = refl

-- a part that a start and a length cut out of a text lies within it, unless it is empty
within : (n s : ℕ) (l f : List ℕ) → take n (drop s l) ≡ f → length f ≡ n → (n ≡ 0 → s ≡ 0) → s + n ≤ length l
within n s l f e h z = go (eqb n 0) refl
  where
    long : n ≤ length l - s
    long = omega (arith, length-take n (drop s l), length-drop s l, ap length e)

    go : (t : Bool) → eqb n 0 ≡ t → s + n ≤ length l
    go true q = omega (arith, z (eqb-true n 0 q), eqb-true n 0 q)
    go false q = omega (arith, long, eqb-false n 0 q)

empty_start : (f line : List ℕ) → length f ≡ 0 → start_in f line ≡ 0
empty_start [] line e = refl
empty_start (b ∷ s) line e = omega arith

pub part_within : (line : List ℕ) → start_of line + length (field_of line) ≤ length line
unfolding start_of
part_within line = within (length (field_of line)) (start_of line) line (field_of line) (part_is line) refl (empty_start (field_of line) line)

-- the same of any start and length that are these
pub cut_by : (line : List ℕ) (s n : ℕ) → s ≡ start_of line → n ≡ length (field_of line) → take (s + n - s) (drop s line) ≡ field_of line
cut_by line s n e h =
    let k : s + n - s ≡ n = omega arith in
    ap (λ (m : ℕ). take m (drop s line)) k ∙ ap₂ (λ (k m : ℕ). take m (drop k line)) e h ∙ part_is line

pub by_within : (line : List ℕ) (s n : ℕ) → s ≡ start_of line → n ≡ length (field_of line) → s + n ≤ length line
by_within line s n e h = omega (arith, part_within line, e, h)
