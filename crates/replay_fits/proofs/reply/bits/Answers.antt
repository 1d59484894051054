-- `replay_fits::reply::bits` is safe: what does not differ from itself is no NaN. Assumes nothing.
use Rattle.laws.proofs.Nans.{is_no_nan}
use Rattle.replay_fits.proofs.reply.bits.Goals as goal

pub float_to_bits-x : goal.float_to_bits-x
float_to_bits-x g c = is_no_nan _ c.if-x.false
