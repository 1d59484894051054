-- `replay_fits::lists::bits` is safe: what does not differ from itself is no NaN. Assumes nothing.
use Rattle.laws.proofs.Nans.{is_no_nan}
use Rattle.replay_fits.proofs.lists.bits.Goals as goal

pub float_to_bits-result : goal.float_to_bits-result
float_to_bits-result c = is_no_nan _ c.if-x.false
