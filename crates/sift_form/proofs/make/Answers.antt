-- `sift_form::make` meets its contract: each arm has its form's promise. Assumes nothing.
use mathlib.Core.Path.{sym, subst}
use mathlib.Core.List.{List}
use Prim.Native.Nat.{ℕ}
use Rattle.text_out.specs.Text.{Puts}
use Rattle.store_record.specs.Record.{record_of}
use Rattle.sift_form.specs.Promises.{MakesForm}
use Rattle.sift_form.specs.declared.Form.{Form}
use Rattle.sift_form.proofs.make.Goals as goal

-- a record holds the side alone of the state
pub returns-in-Record : goal.returns-in-Record
unfolding record_of
returns-in-Record c =
    let a = c.args in
    let p = c.put-in-Record in
    subst (λ (form : Form). MakesForm form a.bitboards.now a.board.now a.state a.half a.out.now p.new.out a.at p.result)
    (sym c.in-Record.is)
    (subst (λ (text : List ℕ). Puts a.out.now p.new.out a.at text p.result) c.pack-record.ensures p.ensures)
