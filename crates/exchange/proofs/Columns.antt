-- Captures side by side in arrays, filled one place after the other. Assumes nothing.
use mathlib.Core.Path.{◌≡◌, refl, sym, ap}
use mathlib.Core.List.{List, [], ◌∷◌, map}
use Prim.Native.Nat.{ℕ, zero, suc, ◌≤◌, ◌<◌}
use native.Mathlib.Omega.{arith}
use lib.ListN.{length, take, drop, set}
use Rattle.exchange.specs.Exchange.{Capture}
use Rattle.exchange.specs.Listed.{column}

nil_cons : {X : Type 0} {c : Capture} {cs : List Capture} → [] ≡ c ∷ cs → X
nil_cons e = absurd (let z : ◌≡◌ {A = ℕ} 0 1 = cc in omega arith)

-- ---- the captures listed, and those to come
pub one_on : (cs : List Capture) (n : ℕ) (c : Capture) (r : List Capture) → drop n cs ≡ c ∷ r → drop (suc n) cs ≡ r
one_on [] zero c r e = nil_cons e
one_on [] (suc n) c r e = nil_cons e
one_on (x ∷ cs) zero c r e = cc
one_on (x ∷ cs) (suc n) c r e = one_on cs n c r e

pub one_more : (cs : List Capture) (n : ℕ) (c : Capture) (r : List Capture) → drop n cs ≡ c ∷ r → suc n ≤ length cs
one_more [] zero c r e = nil_cons e
one_more [] (suc n) c r e = nil_cons e
one_more (x ∷ cs) zero c r e = omega arith
one_more (x ∷ cs) (suc n) c r e = omega (arith, one_more cs n c r e)

pub all_taken : (cs : List Capture) (n : ℕ) → drop n cs ≡ [] → take n cs ≡ cs
all_taken [] zero e = refl
all_taken [] (suc n) e = refl
all_taken (x ∷ cs) zero e = nil_cons (sym e)
all_taken (x ∷ cs) (suc n) e = ap (λ (l : List Capture). x ∷ l) (all_taken cs n e)

pub all_counted_holds : (cs : List Capture) (n : ℕ) → n ≤ length cs → drop n cs ≡ [] → n ≡ length cs
all_counted_holds [] n h e = omega arith
all_counted_holds (x ∷ cs) zero h e = nil_cons (sym e)
all_counted_holds (x ∷ cs) (suc n) h e = ap suc (all_counted_holds cs n (omega arith) e)

-- ---- a column of them
abbrev pub zeros : ℕ → List ℕ
zeros zero = []
zeros (suc n) = 0 ∷ zeros n

module _ (f : Capture → ℕ) where
  pub column_length : (m : ℕ) (cs : List Capture) → length (column m f cs) ≡ m
  unfolding column
  column_length zero cs = refl
  column_length (suc m) [] = ap suc (column_length m [])
  column_length (suc m) (c ∷ cs) = ap suc (column_length m cs)

  pub column_step : (m n : ℕ) (cs : List Capture) (c : Capture) (r : List Capture) → n < m → drop n cs ≡ c ∷ r
      → set (column m f (take n cs)) n (f c) ≡ column m f (take (suc n) cs)
  unfolding column
  column_step zero n cs c r h e = absurd (omega arith)
  column_step (suc m) zero [] c r h e = nil_cons e
  column_step (suc m) (suc n) [] c r h e = nil_cons e
  column_step (suc m) zero (x ∷ cs) c r h e = let z : c ≡ x = cc in ap (λ (y : Capture). f y ∷ column m f []) z
  column_step (suc m) (suc n) (x ∷ cs) c r h e = ap (λ (l : List ℕ). f x ∷ l) (column_step m n cs c r (omega arith) e)

  -- the first of 32
  pub column_first : (c : Capture) → f c ∷ zeros 31 ≡ column 32 f (c ∷ [])
  unfolding column
  column_first c = refl

  pub column_taken : (m : ℕ) (cs : List Capture) → length cs ≤ m → take (length cs) (column m f cs) ≡ map f cs
  unfolding column
  column_taken m [] h = refl
  column_taken zero (c ∷ cs) h = absurd (omega arith)
  column_taken (suc m) (c ∷ cs) h = ap (λ (l : List ℕ). f c ∷ l) (column_taken m cs (omega arith))
