-- `position_consistent::file_codes` meets its contract. Assumes nothing.
use mathlib.Core.Path.{refl}
use Rattle.position_consistent.specs.PrivateTested.{file_codes}
use Rattle.position_consistent.proofs.file_codes.Goals as goal

pub returns : goal.returns
unfolding file_codes
returns c = refl
