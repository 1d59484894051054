-- A test that every number of a list passes: of two lists joined, of a run of one number, at an index. Assumes nothing.
use mathlib.Core.Path.{◌≡◌, refl, sym, ap, ◌∙◌}
use mathlib.Core.Bool.{Bool, ◌&&◌, and_assoc}
use mathlib.Core.List.{List, [], ◌∷◌, ◌++◌}
use Prim.Native.Nat.{ℕ, zero, suc}
use lib.Dec.{T}
use lib.ListN.{get_or, replicate}
use Rattle.laws.proofs.Truth.{and_l, and_r, and_i, true_T, T_true}
use Rattle.text_in.specs.Text.{every}

module _ (test : ℕ → Bool) where
  pub every_join : (s t : List ℕ) → every test (s ++ t) ≡ (every test s && every test t)
  unfolding every
  every_join [] t = refl
  every_join (b ∷ s) t = ap (λ (x : Bool). test b && x) (every_join s t) ∙ sym (and_assoc (test b) (every test s) (every test t))

  pub every_both : (s t : List ℕ) → T (every test s) → T (every test t) → T (every test (s ++ t))
  every_both s t p q = true_T (every_join s t ∙ T_true (every test s && every test t) (and_i (every test s) (every test t) p q))

  pub every_run : (n x : ℕ) → T (test x) → T (every test (replicate n x))
  unfolding every
  every_run zero x p = tt
  every_run (suc n) x p = and_i (test x) (every test (replicate n x)) p (every_run n x p)

  -- past the end stands 0
  pub every_at : T (test 0) → (s : List ℕ) → T (every test s) → (k : ℕ) → T (test (get_or s k 0))
  unfolding every
  every_at z [] t k = z
  every_at z (b ∷ s) t zero = and_l (test b) (every test s) t
  every_at z (b ∷ s) t (suc k) = every_at z s (and_r (test b) (every test s) t) k
