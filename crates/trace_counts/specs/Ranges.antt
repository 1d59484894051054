-- TRACE, by document 01: "a count or piece count outside 0..64, mobility outside 0..1728, a pair flag or square entry not 0 or 1,
-- side not ±1". Definitions only.
use Rattle.std.specs.Prelude.{Bool, ◌&&◌, List, eqb, ℤ, pos, nat_abs, get_or, length}
use Rattle.std.specs.Int.Signed.{le_z}
use Rattle.laws.specs.Tests.{all_below}
use Rattle.trace_counts.specs.declared.Trace.{Trace}

-- a number from 0 to the most
abbrev pub within : ℤ → ℤ → Bool
within most z = le_z (pos 0) z && le_z z most

abbrev pub all_within : ℤ → List ℤ → Bool
all_within most zs = all_below (length zs) (λ k. within most (get_or zs k (pos 0)))

-- "side +1 for White to move, −1 for Black"
abbrev pub is_side : ℤ → Bool
is_side z = eqb (nat_abs z) 1

-- "a count .. outside 0..64"
abbrev pub counts_within : Trace → Bool
counts_within t =
    all_within (pos 64) t.pawns && all_within (pos 64) t.knights && all_within (pos 64) t.bishops
    && all_within (pos 64) t.rooks && all_within (pos 64) t.queens

-- all that a trace has beside its entries; of mobility all twelve numbers, pawn's and king's too
abbrev pub in_ranges : Trace → Bool
in_ranges t =
    counts_within t && all_within (pos 1) t.bishop_pair && all_within (pos 1728) t.mobility && is_side t.side
    && within (pos 64) t.piece_count

-- a square entry is 0 or 1
abbrev pub are_entries : List ℤ → Bool
are_entries entries = all_within (pos 1) entries
