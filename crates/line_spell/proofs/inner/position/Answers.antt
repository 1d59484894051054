-- `line_spell::inner::position` meets its contract. Assumes nothing.
use mathlib.Core.Path.{subst}
use mathlib.Core.List.{List}
use Prim.Native.Nat.{ℕ}
use Rattle.text_out.specs.Text.{Puts}
use Rattle.line_text.proofs.Lengths.{position_length}
use Rattle.line_spell.proofs.Joined.{made_text}
use Rattle.line_spell.proofs.inner.position.Goals as goal

pub returns : goal.returns
returns c =
    let a = c.args in
    let p = c.put in
    subst (λ (t : List ℕ). Puts a.out.now p.new.out a.at t p.result)
    (made_text c.position-end.ensures (position_length a.board.now a.state)) p.ensures
