-- `attack_steps::inner::reached` meets its contract. Assumes nothing.
use mathlib.Core.Path.{sym}
use native.Mathlib.Omega.{arith}
use Rattle.attack_steps.specs.Steps.{steps_of}
use Rattle.attack_steps.proofs.Tables.{reached_off}
use Rattle.attack_steps.proofs.Shifts.{white_pawn, black_pawn, knight, king, no_row}
use Rattle.attack_steps.proofs.inner.reached.Goals as goal

pub returns-then-square-gt-LAST : goal.returns-then-square-gt-LAST
returns-then-square-gt-LAST c = let a = c.args in sym (reached_off (steps_of a.row) a.square (omega arith))

pub returns-in-0 : goal.returns-in-0
returns-in-0 c = let a = c.args in white_pawn a.row a.square (omega arith) c.in-0.is

pub returns-in-1 : goal.returns-in-1
returns-in-1 c = let a = c.args in black_pawn a.row a.square (omega arith) c.in-1.is

pub returns-in-2 : goal.returns-in-2
returns-in-2 c = let a = c.args in knight a.row a.square (omega arith) c.in-2.is

pub returns-in-3 : goal.returns-in-3
returns-in-3 c = let a = c.args in king a.row a.square (omega arith) c.in-3.is

pub returns-in_default : goal.returns-in_default
returns-in_default c = let a = c.args in no_row a.row a.square (omega arith)
