-- One turn of each loop over a text: a byte looked at from the front, or from the end. Assumes nothing.
use mathlib.Core.Path.{◌≡◌, refl, sym, ap, ◌∙◌}
use mathlib.Core.Bool.{Bool, true, false, ◌&&◌, and-true, and_assoc, and_comm}
use mathlib.Core.List.{List, [], ◌∷◌, reverse, reverse-append, reverse-reverse}
use Prim.Native.Nat.{ℕ, suc, ◌+◌, ◌-◌, ◌≤◌, ◌<◌}
use native.Mathlib.Nat.{not-suc-le-zero}
use native.Mathlib.Numerals.{add-one}
use native.Mathlib.Omega.{arith}
use lib.ListN.{length, take, drop, get_or, drop_of_length-le, length-drop, length-take}
use lib.Seq.{drop-cons, take-suc, take_all, take-length}
use borrow.Author.Tests.{ne_eqb, eq-eqb}
use Rattle.laws.specs.Tests.{same}
use Rattle.text_in.specs.Text.{every, without, without_last}

-- ---- every byte
module _ (test : ℕ → Bool) (s : List ℕ) (i : ℕ) (all : Bool) (e : every test s ≡ (all && every test (drop i s))) where
  pub every_more : i < length s → (t : Bool) → t ≡ test (get_or s i 0) → every test s ≡ ((t && all) && every test (drop (i + 1) s))
  unfolding every
  every_more h t q =
      e ∙ rw (drop-cons s i 0, add-one i, ← q) (sym (and_assoc all t (every test (drop (suc i) s)))
      ∙ ap (λ (b : Bool). b && every test (drop (suc i) s)) (and_comm all t))

  pub every_end : length s ≤ i → all ≡ every test s
  unfolding every
  every_end h = sym (e ∙ rw (drop_of_length-le s h, and-true))

-- ---- the bytes at the front
pub front_shorter : (t : List ℕ) → 0 < length t → length (take (length t - 1) (drop 1 t)) < length t
front_shorter t h = simp (length-take, length-drop) (omega arith)

pub back_shorter : (t : List ℕ) → 0 < length t → length (take (length t - 1) t) < length t
back_shorter t h = simp length-take (omega arith)

pub without_more : (test : ℕ → Bool) (t : List ℕ) → 0 < length t → test (get_or t 0 0) ≡ true → without test t ≡ without test (take (length t - 1) (drop 1 t))
unfolding without
without_more test [] h q = absurd (not-suc-le-zero h)
without_more test (b ∷ t) h q = rw (q, take_all (suc (length t) - 1) t (omega arith))

pub without_stop : (test : ℕ → Bool) (t : List ℕ) → 0 < length t → test (get_or t 0 0) ≡ false → t ≡ without test t
unfolding without
without_stop test [] h q = absurd (not-suc-le-zero h)
without_stop test (b ∷ t) h q = rw q

pub without_none : (test : ℕ → Bool) (t : List ℕ) → length t ≤ 0 → t ≡ without test t
unfolding without
without_none test [] h = refl
without_none test (b ∷ t) h = absurd (not-suc-le-zero h)

-- ---- the bytes at the end
module _ (test : ℕ → Bool) (t : List ℕ) where
  turned : 0 < length t → reverse t ≡ get_or t (length t - 1) 0 ∷ reverse (take (length t - 1) t)
  turned h =
      let q : suc (length t - 1) ≡ length t = omega arith in
      ap reverse (sym (take-length t) ∙ sym (ap (λ (k : ℕ). take k t) q) ∙ take-suc t (length t - 1) 0 (omega arith))
      ∙ reverse-append (take (length t - 1) t) (get_or t (length t - 1) 0 ∷ [])

  pub last_more : 0 < length t → test (get_or t (length t - 1) 0) ≡ true → without_last test t ≡ without_last test (take (length t - 1) t)
  unfolding without_last
  last_more h q = ap (λ (l : List ℕ). reverse (without test l)) (turned h) ∙ rw q

  pub last_stop : 0 < length t → test (get_or t (length t - 1) 0) ≡ false → t ≡ without_last test t
  unfolding without_last
  last_stop h q = sym (reverse-reverse t) ∙ ap reverse (without_stop' (reverse t) (turned h))
    where
      without_stop' : (l : List ℕ) → l ≡ get_or t (length t - 1) 0 ∷ reverse (take (length t - 1) t) → l ≡ without test l
      without_stop' l e = rw e (rw q)

  pub last_none : length t ≤ 0 → t ≡ without_last test t
  unfolding without_last
  last_none h = none t h
    where
      none : (l : List ℕ) → length l ≤ 0 → l ≡ reverse (without test (reverse l))
      none [] k = refl
      none (b ∷ l) k = absurd (not-suc-le-zero k)

-- ---- two texts
module _ (s t : List ℕ) (i : ℕ) (e : same s t ≡ same (drop i s) (drop i t)) where
  pub same_more : i < length s → i < length t → get_or s i 0 ≡ get_or t i 0 → same s t ≡ same (drop (i + 1) s) (drop (i + 1) t)
  same_more h k q = e ∙ rw (drop-cons s i 0 h, drop-cons t i 0 k, add-one, eq-eqb _ _ q)

  pub same_stop : i < length s → i < length t → (get_or s i 0 ≡ get_or t i 0 → ⊥) → false ≡ same s t
  same_stop h k n = sym (e ∙ rw (drop-cons s i 0 h, drop-cons t i 0 k, ne_eqb _ _ n))

  pub same_end : length s ≤ i → length t ≤ i → true ≡ same s t
  same_end h k = sym (e ∙ rw (drop_of_length-le s h, drop_of_length-le t k))
