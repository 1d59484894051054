-- `text_out::below_zero` meets its contract: the digits stand after a minus sign. Assumes nothing.
use mathlib.Core.Path.{◌∙◌, ap, subst}
use mathlib.Core.List.{List, ◌∷◌}
use Prim.Native.Nat.{ℕ, ◌+◌}
use native.Mathlib.Omega.{arith}
use Rattle.text_out.specs.Text.{Puts}
use Rattle.text_out.proofs.Spelled.{decimal_is, fewest_20}
use Rattle.text_out.proofs.below_zero.Goals as goal

pub returns : goal.returns
returns c =
    let p = c.put in
    let k = c.copy-e in
    let d = c.decimal-k in
    let a = c.args in
    subst (λ (t : List ℕ). Puts a.out.now p.new.out a.at t p.result)
    (k.ensures.front
    ∙ ap (λ (l : List ℕ). 45 ∷ l) (d.ensures.digits ∙ decimal_is 20 d.result (a.n + 1) d.ensures.len
    (fewest_20 (a.n + 1) d.result (omega arith) d.ensures.len)))
    p.ensures
