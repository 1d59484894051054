-- `replay_fits::lists::of_bits` is safe: bits up to the infinity's are no NaN's. Assumes nothing.
use Rattle.std.proofs.Common.{arith}
use Rattle.laws.proofs.Nans.{no_nan_bits}
use Rattle.replay_fits.proofs.lists.of_bits.Goals as goal

pub float_from_bits-result : goal.float_from_bits-result
float_from_bits-result c = no_nan_bits _ (omega (arith, c.if-bits-gt9218868437227405312.false))
