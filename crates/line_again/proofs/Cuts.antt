-- A text with a byte in it that none before it is, and one without such a byte: what stands before it and after it. Assumes nothing.
use mathlib.Core.Path.{◌≡◌, refl, ap, ◌∙◌}
use mathlib.Core.Bool.{Bool, true, false, or-true}
use mathlib.Core.List.{List, [], ◌∷◌, ◌++◌}
use Prim.Native.Nat.{ℕ}
use native.Mathlib.Omega.{arith}
use lib.Dec.{T, eqb}
use borrow.Author.Tests.{eq-eqb, ne_eqb}
use Rattle.laws.proofs.Truth.{T_true, and_l, and_r}
use Rattle.text_in.specs.Text.{every, holds, before, after}

module _ (test : ℕ → Bool) (mark : ℕ) (no : test mark ≡ false) where
  other : (b : ℕ) → T (test b) → eqb b mark ≡ false
  other b t = ne_eqb b mark (λ e. let x = T_true (test b) t in let y = ap test e ∙ no in let z : ◌≡◌ {A = ℕ} 0 1 = cc in omega arith)

  pub before_mark : (s t : List ℕ) → T (every test s) → before mark (s ++ (mark ∷ t)) ≡ s
  unfolding every before
  before_mark [] t m = rw (eq-eqb mark mark refl)
  before_mark (b ∷ s) t m =
      rw (other b (and_l (test b) (every test s) m)) (ap (λ (l : List ℕ). b ∷ l) (before_mark s t (and_r (test b) (every test s) m)))

  pub after_mark : (s t : List ℕ) → T (every test s) → after mark (s ++ (mark ∷ t)) ≡ t
  unfolding every after
  after_mark [] t m = rw (eq-eqb mark mark refl)
  after_mark (b ∷ s) t m = rw (other b (and_l (test b) (every test s) m)) (after_mark s t (and_r (test b) (every test s) m))

  pub before_none : (s : List ℕ) → T (every test s) → before mark s ≡ s
  unfolding every before
  before_none [] m = refl
  before_none (b ∷ s) m =
      rw (other b (and_l (test b) (every test s) m)) (ap (λ (l : List ℕ). b ∷ l) (before_none s (and_r (test b) (every test s) m)))

  pub after_none : (s : List ℕ) → T (every test s) → after mark s ≡ []
  unfolding every after
  after_none [] m = refl
  after_none (b ∷ s) m = rw (other b (and_l (test b) (every test s) m)) (after_none s (and_r (test b) (every test s) m))

-- a mark that stands in a text is found
pub holds_mark : (mark : ℕ) (s t : List ℕ) → holds mark (s ++ (mark ∷ t)) ≡ true
unfolding holds
holds_mark mark [] t = rw (eq-eqb mark mark refl)
holds_mark mark (b ∷ s) t = rw (holds_mark mark s t) (or-true (eqb b mark))
