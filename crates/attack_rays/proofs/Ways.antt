-- The four rising ways as shifts, with what goes round an edge masked off: one test over the squares for each. Assumes nothing.
use Rattle.std.proofs.Common.{◌≡◌, ℕ, ◌-◌, ◌*◌, ◌/◌, ◌%◌, ◌^◌, ◌<◌, ◌≤◌, T, eqb, leb, sym, ap, ◌∙◌, mod-lt, arith, eqb→eq, leb→le}
use lib.Bits.{bit_and}
use Rattle.laws.specs.Tests.{all_below}
use Rattle.laws.proofs.Tests.{all_at}
use Rattle.bits.specs.Bitboard.{board}
use Rattle.attack_rays.specs.PrivateMirror.{ahead}

abbrev raised : ℕ → ℕ → ℕ
raised b n = b * 2 ^ n % 2 ^ 64

abbrev northward : ℕ → ℕ
northward s = raised 0x0101010101010100 s

abbrev eastward : ℕ → ℕ
eastward s = bit_and (raised 0xfe s) (raised 0xff (s / 8 * 8))

abbrev north_westward : ℕ → ℕ
north_westward s = bit_and (raised 0x0002040810204080 s) (raised 0x0101010101010101 (s % 8) - 0x0101010101010101)

abbrev north_eastward : ℕ → ℕ
north_eastward s = bit_and (raised 0x8040201008040200 s) (raised (0x8080808080808080 - raised 0x0101010101010101 (s % 8)) 1)

-- a file's squares stand on no lower file than the first, and no higher than the last
pub from_first : (s : ℕ) → 0x0101010101010101 ≤ raised 0x0101010101010101 (s % 8)
unfolding all_below
from_first s =
    leb→le 0x0101010101010101 (raised 0x0101010101010101 (s % 8))
    (all_at 8 (λ f. leb 0x0101010101010101 (raised 0x0101010101010101 f)) tt (s % 8) (mod-lt s (omega arith)))

pub to_last : (s : ℕ) → raised 0x0101010101010101 (s % 8) ≤ 0x8080808080808080
unfolding all_below
to_last s =
    leb→le (raised 0x0101010101010101 (s % 8)) 0x8080808080808080
    (all_at 8 (λ f. leb (raised 0x0101010101010101 f) 0x8080808080808080) tt (s % 8) (mod-lt s (omega arith)))

-- ---- each is its direction's
module _ (d s : ℕ) (h : s < 64) where
  of_way : (f : ℕ → ℕ) (k : ℕ) → d ≡ k → T (all_below 64 (λ t. eqb (f t) (board (ahead k t)))) → f s ≡ board (ahead d s)
  of_way f k e t =
      eqb→eq (f s) (board (ahead k s)) (all_at 64 (λ t. eqb (f t) (board (ahead k t))) t s h) ∙ sym (ap (λ (x : ℕ). board (ahead x s)) e)

  pub north : d ≡ 0 → northward s ≡ board (ahead d s)
  unfolding all_below ahead board
  north e = of_way northward 0 e tt

  pub east : d ≡ 1 → eastward s ≡ board (ahead d s)
  unfolding all_below ahead board
  east e = of_way eastward 1 e tt

  pub north_west_holds : d ≡ 2 → north_westward s ≡ board (ahead d s)
  unfolding all_below ahead board
  north_west_holds e = of_way north_westward 2 e tt

  pub north_east_holds : d ≡ 3 → north_eastward s ≡ board (ahead d s)
  unfolding all_below ahead board
  north_east_holds e = of_way north_eastward 3 e tt
