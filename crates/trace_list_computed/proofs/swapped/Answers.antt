-- `trace_list_computed::swapped` meets its contract. Assumes nothing.
use Prim.Native.Nat.{◌*◌, ◌/◌, ◌%◌, ◌^◌}
use native.Mathlib.Nat.{mod-lt, lt_of_le_of_lt}
use lib.Bits.{bit_and, bit_or, and_le_r, or_lt}
use lib.Pow.{pow_pos}
use Rattle.bits.specs.Bitboard.{has}
use Rattle.bits.proofs.Those.{is_those}
use Rattle.attack_rays.specs.PrivateMirror.{partner}
use Rattle.attack_rays.proofs.Pairs.{changed_at}
use Rattle.trace_list_computed.proofs.swapped.Goals as goal

pub returns : goal.returns
returns c =
    let a = c.args in
    is_those (bit_or (bit_and (a.x / 2 ^ a.n) a.m) (bit_and a.x a.m * 2 ^ a.n % 2 ^ 64)) (λ k. has a.x (partner a.n a.m k))
    (or_lt 64 (bit_and (a.x / 2 ^ a.n) a.m) (bit_and a.x a.m * 2 ^ a.n % 2 ^ 64)
    (lt_of_le_of_lt (and_le_r (a.x / 2 ^ a.n) a.m) c.ranges.m.fits) (mod-lt (bit_and a.x a.m * 2 ^ a.n) (pow_pos 64)))
    (λ k h. changed_at a.x a.n a.m k c.requires.1 h)
