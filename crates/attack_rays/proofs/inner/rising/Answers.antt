-- `attack_rays::inner::rising` meets its contract. Assumes nothing.
use Rattle.std.proofs.Common.{ℕ, ◌^◌, ◌<◌, Bool, ◌&&◌, ap, ◌∙◌, arith}
use lib.Bits.{bit_and, bit_xor, and_lt}
use Rattle.bits.specs.Bitboard.{has, board}
use Rattle.bits.proofs.Digits.{has_and}
use Rattle.bits.proofs.Lists.{has_board, board_lt}
use Rattle.attack_rays.specs.PrivateMirror.{ahead}
use Rattle.attack_rays.proofs.Line.{sees}
use Rattle.attack_rays.proofs.Turn.{ahead_rises, ray_ahead}
use Rattle.attack_rays.proofs.inner.rising.Goals as goal

pub returns : goal.returns
returns c =
    let a = c.args in
    let pre = c.requires in
    let e = c.way-way.ensures in
    let w = c.wrapping_sub_u64-less.result in
    let hw : w < 2 ^ 64 = omega arith in
    let l = ahead a.direction a.square in
    let o : ℕ = bit_and a.occupied (board l) in
    ap (λ (x : ℕ). bit_and (bit_xor (bit_and a.occupied x) w) x) e
    ∙ sees a.occupied a.square l pre.1 (ahead_rises a.direction a.square pre.0 pre.1) o
    (and_lt 64 a.occupied (board l) c.ranges.occupied.fits (board_lt l))
    (λ j k h. has_and a.occupied (board l) j ∙ ap (λ (t : Bool). has a.occupied j && t) (has_board l j h)) w hw
    (c.wrapping_sub_u64-less.ensures.value ∙ ap (bit_and a.occupied) e)
    ∙ ray_ahead a.direction a.square a.occupied
