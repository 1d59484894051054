-- With 01's step tables lent, what a piece attacks is document 01's. Assumes nothing.
use mathlib.Core.Path.{◌≡◌, refl, ap, ap₂, ◌∙◌}
use mathlib.Core.Bool.{Bool, true, false, cond}
use Prim.Native.Nat.{ℕ}
use lib.Dec.{eqb}
use Rattle.attack_steps.specs.Steps.{step_tables, step_in, steps_of, reached, pawn_steps, white_pawn_steps, black_pawn_steps}
use Rattle.attack_steps.proofs.Tables.{step_is}
use Rattle.attack.specs.Attacks.{attacks_by, attacks}
use Rattle.attack.specs.PrivateLent.{pawn_row, attacks_with}

pub pawn_steps_holds : (colour : ℕ) → steps_of (pawn_row colour) ≡ pawn_steps colour
pawn_steps_holds colour = go (eqb colour 0)
  where
    go : (b : Bool) → steps_of (cond b 0 1) ≡ cond b white_pawn_steps black_pawn_steps
    go true = refl
    go false = refl

pawn_is : (colour s : ℕ) → step_in step_tables (pawn_row colour) s ≡ reached (pawn_steps colour) s
pawn_is colour s = step_is (pawn_row colour) s ∙ ap (λ ds. reached ds s) (pawn_steps_holds colour)

pub lent_attacks : (kind colour s occ : ℕ) → attacks_with step_tables kind colour s occ ≡ attacks kind colour s occ
unfolding attacks_with attacks
lent_attacks kind colour s occ =
    ap (λ (x : ℕ). attacks_by x (step_in step_tables 2 s) (step_in step_tables 3 s) kind s occ) (pawn_is colour s)
    ∙ ap₂ (λ (x y : ℕ). attacks_by (reached (pawn_steps colour) s) x y kind s occ) (step_is 2 s) (step_is 3 s)
