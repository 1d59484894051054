-- Of two inputs of which the first ends with a line: their lines, rows and counts. Assumes nothing.
use mathlib.Core.Path.{◌≡◌, ap}
use mathlib.Core.Bool.{Bool, true, false, cond, false≢true}
use mathlib.Core.List.{List, [], ◌∷◌, ◌++◌}
use Prim.Native.Nat.{ℕ, ◌+◌}
use native.Mathlib.Omega.{arith}
use lib.Dec.{eqb}
use Rattle.line_profile.specs.declared.Profile.TheVariants as P
use Rattle.line_cut.specs.Lines.{lf, without_cr, lines_from}
use Rattle.ledger_whole.specs.Ledger.{refused_in}
use Rattle.ledger_whole.specs.Whole.{ends_in_lf}

-- the lines of both are the lines of one and then of the other
pub lines_both : (l a b : List ℕ) → ends_in_lf a ≡ true → lines_from l (a ++ b) ≡ lines_from l a ++ lines_from [] b
unfolding lines_from ends_in_lf
lines_both l [] b e = absurd (false≢true e)
lines_both l (x ∷ []) b e = rw e
lines_both l (x ∷ (y ∷ s)) b e = go (eqb x lf) (lines_both [] (y ∷ s) b e) (lines_both (l ++ (x ∷ [])) (y ∷ s) b e)
  where
    go : (t : Bool) → lines_from [] ((y ∷ s) ++ b) ≡ lines_from [] (y ∷ s) ++ lines_from [] b
        → lines_from (l ++ (x ∷ [])) ((y ∷ s) ++ b) ≡ lines_from (l ++ (x ∷ [])) (y ∷ s) ++ lines_from [] b
        → cond t (without_cr l ∷ lines_from [] ((y ∷ s) ++ b)) (lines_from (l ++ (x ∷ [])) ((y ∷ s) ++ b))
        ≡ cond t (without_cr l ∷ lines_from [] (y ∷ s)) (lines_from (l ++ (x ∷ [])) (y ∷ s)) ++ lines_from [] b
    go true p q = ap (λ (x : List (List ℕ)). without_cr l ∷ x) p
    go false p q = q

pub refused_both : (ls ms : List (List ℕ)) → refused_in P.Any (ls ++ ms) ≡ refused_in P.Any ls + refused_in P.Any ms
unfolding refused_in
refused_both [] ms = omega arith
refused_both (l ∷ ls) ms = let e = refused_both ls ms in omega arith
