-- `fit_root::guess` is safe: no number that it makes of bits is a NaN. Assumes nothing.
use Rattle.std.proofs.Common.{arith}
use Rattle.laws.proofs.Nans.{is_no_nan}
use Rattle.fit_root.proofs.Rounded.{no_nan}
use Rattle.fit_root.proofs.guess.Goals as goal

pub float_from_bits-f : goal.float_from_bits-f
float_from_bits-f c = no_nan _ (omega arith)

pub float_from_bits-a : goal.float_from_bits-a
float_from_bits-a c = no_nan _ (omega arith)

pub float_to_bits-root : goal.float_to_bits-root
float_to_bits-root c = is_no_nan _ c.if-root.false
