-- The bytes of one sample of a fit: what a position's list has and the half points, 300 bytes as a C struct on a little-endian machine has
-- them. Definitions only.
use Rattle.std.specs.Prelude.{List, [], ◌∷◌, ◌++◌, ℕ, ◌-◌, ◌/◌, ◌%◌, ◌^◌, ℤ, pos, negsuc}
use Rattle.refusal.specs.Answer.{Answer, given, refused}
use Rattle.position.specs.declared.State.{State}
use Rattle.score_material.specs.Pieces.{pieces}
use Rattle.trace_counts.specs.declared.Trace.{Trace}
use Rattle.trace.specs.Trace.{trace_of, entries_of}
use Rattle.trace_list.specs.Form.{ones_in, list_bytes}
use Rattle.trace_list_computed.specs.Promises.{list_traced_of}
use Rattle.abi_records.specs.Records.{counts_of_rule}

-- the 32 bits of a signed number, in two's complement
abbrev pub twos_complement : ℤ → ℕ
twos_complement (pos n) = n
twos_complement (negsuc n) = 2 ^ 32 - 1 - n

-- little-endian: the lowest byte first
abbrev pub lowest_first : ℕ → List ℕ
lowest_first b = b % 256 ∷ b / 256 % 256 ∷ b / 65536 % 256 ∷ b / 16777216 % 256 ∷ []

-- number after number, four bytes each
unfoldable pub words_of : List ℤ → List ℕ
words_of [] = []
words_of (z ∷ zs) = lowest_first (twos_complement z) ++ words_of zs

-- `int32_t counts[12]; int32_t mobility[12]; int32_t sign; int32_t piece_count;`
unfoldable pub number_bytes : Trace → List ℕ
unfolding words_of
number_bytes t = words_of (counts_of_rule t) ++ (words_of t.mobility ++ words_of (t.side ∷ t.piece_count ∷ []))

-- `uint8_t used; uint8_t half_points; uint8_t list[192]; uint8_t zero[2];`
abbrev pub entry_bytes : ℕ → ℕ → List ℕ → List ℕ
entry_bytes used half list = (used ∷ half ∷ []) ++ (list ++ (0 ∷ 0 ∷ []))

-- the sample of what `compute_list` answers: nothing where it refuses
abbrev pub sample_by : Answer Trace → ℕ → ℕ → List ℕ → List ℕ
sample_by (given t) used half list = number_bytes t ++ entry_bytes used half list
sample_by (refused n beside) used half list = []

-- THE SAMPLE of a position and half points
unfoldable pub sample_of : List ℕ → List ℕ → State → ℕ → List ℕ
unfolding number_bytes trace_of entries_of ones_in list_bytes pieces
sample_of bbs board state half = sample_by (list_traced_of bbs board state) (pieces bbs) half (list_bytes (ones_in (entries_of bbs)))
