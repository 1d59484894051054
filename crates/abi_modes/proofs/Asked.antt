-- What a call knows after a mode was named, and how it passes a refusal on. Assumes nothing.
use mathlib.Core.Path.{◌≡◌, sym, ap, ◌∙◌}
use mathlib.Core.Bool.{Bool, true, false, cond}
use Prim.Native.Nat.{ℕ}
use lib.Dec.{eqb}
use borrow.Author.Tests.{eq-eqb, ne_eqb}
use Rattle.refusal.specs.Answer.{Answer, given, refusal_of, answered}
use Rattle.refusal.specs.declared.Refusal.{Refusal}
use Rattle.refusal.specs.declared.Refusal.TheVariants as R
use Rattle.refusal.proofs.Answers.{given_not}
use Rattle.exchange_start.specs.declared.Mode.{Mode}
use Rattle.exchange_start.specs.declared.Mode.TheVariants.{First, Second}
use Rattle.abi_modes.specs.Modes.{in_mode, NamesMode}
use Rattle.std.specs.Prelude.{Result, Ok, Err}

-- ---- the numbers
pub is_first : (n : ℕ) → n ≡ 0 → given First ≡ in_mode n given
is_first n e = rw (eq-eqb n 0 e)

pub is_second : (n : ℕ) → (n ≡ 0 → ⊥) → n ≡ 1 → given Second ≡ in_mode n given
is_second n z e = rw (ne_eqb n 0 z, eq-eqb n 1 e)

pub no_mode : (n : ℕ) → (n ≡ 0 → ⊥) → (n ≡ 1 → ⊥) → refusal_of R.Shape ≡ in_mode n given
no_mode n z o = rw (ne_eqb n 0 z, ne_eqb n 1 o)

-- ---- after a call of `mode_of`
module _ {A : Type 0} (n : ℕ) (r : Result Mode Refusal) (promise : NamesMode n r) (rest : Mode → Answer A) where
  same_mode : {x y : Mode} → given x ≡ given y → x ≡ y
  same_mode e = cc

  -- the answer in the mode that was named
  pub in_mode_holds : (mode : Mode) → r ≡ Ok mode → rest mode ≡ in_mode n rest
  in_mode_holds mode e = go (eqb n 0) (eqb n 1) (sym (ap answered e) ∙ promise)
    where
      go : (z o : Bool) → given mode ≡ cond z (given First) (cond o (given Second) (refusal_of R.Shape))
          → rest mode ≡ cond z (rest First) (cond o (rest Second) (refusal_of R.Shape))
      go true o q = ap rest (same_mode q)
      go false true q = ap rest (same_mode q)
      go false false q = given_not q

  -- or SHAPE
  pub not_named : (q : Refusal) → r ≡ Err q → refusal_of q ≡ in_mode n rest
  not_named q e = go (eqb n 0) (eqb n 1) (sym (ap answered e) ∙ promise)
    where
      go : (z o : Bool) → refusal_of q ≡ cond z (given First) (cond o (given Second) (refusal_of R.Shape))
          → refusal_of q ≡ cond z (rest First) (cond o (rest Second) (refusal_of R.Shape))
      go true o p = given_not (sym p)
      go false true p = given_not (sym p)
      go false false p = cc
