-- How many lines end in a text. Assumes nothing.
use mathlib.Core.Path.{◌≡◌, refl, sym, ap, ◌∙◌}
use mathlib.Core.Bool.{Bool, true, false, cond}
use mathlib.Core.List.{List, [], ◌∷◌, ◌++◌}
use Prim.Native.Nat.{ℕ, suc, ◌+◌, ◌≤◌, ◌<◌}
use native.Mathlib.Nat.{zero-add}
use native.Mathlib.Numerals.{add-one}
use native.Mathlib.Omega.{arith}
use lib.Dec.{eqb}
use lib.ListN.{length, drop, get_or, drop_of_length-le}
use lib.Seq.{drop-cons}
use borrow.Author.Tests.{eq-eqb}
use Rattle.line_cut.specs.Lines.{lf, ends}
use Rattle.line_cut.specs.Cut.{Open, Found, found_later, pushed, line_emptied, bare_of, find_of}

pub ends_one : (b : ℕ) → b ≡ 10 → 1 ≡ ends (b ∷ [])
unfolding ends
ends_one b e = rw (eq-eqb b 10 e)

ends_cons : (b : ℕ) (s : List ℕ) → ends (b ∷ s) ≡ ends (b ∷ []) + ends s
unfolding ends
ends_cons b s = go (eqb b lf)
  where
    go : (t : Bool) → cond t (ends s + 1) (ends s) ≡ cond t (0 + 1) 0 + ends s
    go true = omega arith
    go false = omega arith

pub ends_le : (s : List ℕ) → ends s ≤ length s
unfolding ends
ends_le [] = omega arith
ends_le (b ∷ s) = go (eqb b lf) (ends_le s)
  where
    go : (t : Bool) → ends s ≤ length s → cond t (ends s + 1) (ends s) ≤ suc (length s)
    go true h = omega arith
    go false h = omega arith

module _ (s : List ℕ) (i : ℕ) (h : i < length s) where
  ends_at : ends (drop i s) ≡ ends (get_or s i 0 ∷ []) + ends (drop (i + 1) s)
  ends_at = ap ends (drop-cons s i 0 h) ∙ ends_cons (get_or s i 0) (drop (suc i) s) ∙ ap (λ (k : ℕ). ends (get_or s i 0 ∷ []) + ends (drop k s)) (sym (add-one i))

  -- one turn of the count
  pub ends_turn : (n k : ℕ) → n + ends (drop i s) ≡ ends s → k ≡ ends (get_or s i 0 ∷ []) → n + k + ends (drop (i + 1) s) ≡ ends s
  ends_turn n k e q = let a = ends_at in omega arith

pub ends_last : (s : List ℕ) (n i : ℕ) → length s ≤ i → n + ends (drop i s) ≡ ends s → n ≡ ends s
unfolding ends
ends_last s n i h e = let a : ends (drop i s) ≡ 0 = ap ends (drop_of_length-le s h) in omega arith

-- ---- one text after another
pub ends_append : (s t : List ℕ) → ends (s ++ t) ≡ ends s + ends t
unfolding ends
ends_append [] t = sym (zero-add (ends t))
ends_append (b ∷ s) t = go (eqb b lf) (ends_append s t)
  where
    go : (x : Bool) → ends (s ++ t) ≡ ends s + ends t → cond x (ends (s ++ t) + 1) (ends (s ++ t)) ≡ cond x (ends s + 1) (ends s) + ends t
    go true e = omega arith
    go false e = e

-- ---- up to the next line's end
pub find_ends : (o : Open) (t : List ℕ) → ends t ≡ ends (drop (find_of o t).passed t) + cond (find_of o t).ended 1 0
unfolding ends find_of
find_ends o [] = refl
find_ends o (b ∷ t) = go (eqb b lf) (find_ends (pushed o b) t)
  where
    f : Found
    f = find_of (pushed o b) t

    g : Found
    g = record { passed = 1; left = line_emptied o; ended = true; size = bare_of o.held o.cr }

    go : (x : Bool) → ends t ≡ ends (drop f.passed t) + cond f.ended 1 0
        → cond x (ends t + 1) (ends t) ≡ ends (drop (cond x g (found_later f)).passed (b ∷ t)) + cond (cond x g (found_later f)).ended 1 0
    go true e = refl
    go false e = e ∙ ap (λ (k : ℕ). ends (drop k (b ∷ t)) + cond f.ended 1 0) (sym (add-one f.passed))
