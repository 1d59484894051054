-- `text_out::decimal` meets its contract: what `io::decimal` spells is the number. Assumes nothing.
use mathlib.Core.Path.{◌∙◌, subst}
use mathlib.Core.List.{List}
use Prim.Native.Nat.{ℕ}
use native.Mathlib.Omega.{arith}
use Rattle.text_out.specs.Text.{Puts}
use Rattle.text_out.proofs.Spelled.{decimal_is, fewest_20}
use Rattle.text_out.proofs.decimal.Goals as goal

pub returns : goal.returns
returns c =
    let d = c.decimal-k in
    let a = c.args in
    let p = c.put in
    subst (λ (t : List ℕ). Puts a.out.now p.new.out a.at t p.result)
    (d.ensures.digits ∙ decimal_is 20 d.result a.n d.ensures.len (fewest_20 a.n d.result (omega arith) d.ensures.len))
    p.ensures
