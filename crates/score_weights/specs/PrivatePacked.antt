-- Both phases' weights of a white piece in one number, and what a sum of such numbers says of each phase. Definitions only.
use Rattle.std.specs.Prelude.{cond, ◌&&◌, ℕ, ◌+◌, ◌*◌, ◌/◌, ◌%◌, ltb, ℤ, pos, nat_abs, ◌+ℤ◌, ◌-ℤ◌}
use Rattle.chess.specs.Codes.{white_of}
use Rattle.score_pst.specs.Pst.{pst_of}

-- a weight lifted by 128: no weight is farther than 117 from zero
abbrev pub lifted : ℤ → ℕ
lifted z = nat_abs (z +ℤ pos 128)

-- three fields in one number: 20 binary digits, 20 more, and what is above them
abbrev pub fields : ℕ → ℕ → ℕ → ℕ
fields low high count = low + 1048576 * (high + 1048576 * count)

-- the opening's weight, the ending's, and the piece counted; past the six kinds and the 64 squares stands 0
unfoldable pub packed_at : ℕ → ℕ → ℕ
unfolding pst_of
packed_at kind s = cond (ltb kind 6 && ltb s 64) (fields (lifted (pst_of (white_of kind) s 0)) (lifted (pst_of (white_of kind) s 1)) 1) 0

-- of such numbers added: a field less 128 for each piece
abbrev pub opening_in : ℕ → ℤ
opening_in sum = pos (sum % 1048576) -ℤ pos (128 * (sum / 1048576 / 1048576))

abbrev pub ending_in : ℕ → ℤ
ending_in sum = pos (sum / 1048576 % 1048576) -ℤ pos (128 * (sum / 1048576 / 1048576))
