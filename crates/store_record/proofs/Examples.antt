-- Worked examples of records, by computation. Assumes nothing.
use mathlib.Core.Path.{◌≡◌, refl}
use mathlib.Core.List.{List, [], ◌∷◌, ◌++◌}
use Prim.Native.Nat.{ℕ}
use lib.ListN.{replicate}
use Rattle.laws.specs.Tests.{all_below}
use Rattle.laws.specs.Tables.{tabulate}
use Rattle.refusal.specs.Answer.{Answer, given, refused}
use Rattle.bits.specs.Bitboard.{first_from}
use Rattle.position_odds.specs.Named.{lowest_wrong}
use Rattle.position.specs.Checked.{of_side}
use Rattle.line_parse.specs.Line.{Line}
use Rattle.store_record.specs.Record.{record_of, board_in, record_says, piece_says, stored_says}

-- a white pawn on a1 and a black queen on b1, Black to move, drawn
abbrev drawn : Line
drawn = record { state = of_side 1; half = 1; board = 2 ∷ 13 ∷ replicate 62 0 }

abbrev pub drawn_bytes : List ℕ
drawn_bytes = 0xd2 ∷ (replicate 31 0 ++ (1 ∷ 1 ∷ []))

packed : record_of drawn ≡ drawn_bytes
unfolding record_of tabulate
packed = refl

-- it is read; code 15 on b1 and 1 on c1: the lowest is named, before a bad side; 14 is no code; a bad side before a bad result, a bad result, a short piece
says : List ℕ → Answer Line
unfolding piece_says record_says board_in tabulate all_below lowest_wrong first_from
says = piece_says

pieces :
    says drawn_bytes ∷ says (0xf0 ∷ 0x01 ∷ (replicate 30 0 ++ (9 ∷ 9 ∷ []))) ∷ says (replicate 31 0 ++ (0xe0 ∷ 0 ∷ 0 ∷ []))
    ∷ says (replicate 32 0 ++ (2 ∷ 3 ∷ []))
    ∷ says (replicate 33 0 ++ (3 ∷ [])) ∷ says (replicate 33 0) ∷ []
    ≡ given drawn ∷ refused 19 (1 ∷ []) ∷ refused 19 (63 ∷ []) ∷ refused 12 [] ∷ refused 13 [] ∷ refused 18 [] ∷ []
unfolding says
pieces = refl

-- a run that is no multiple of 34; a record that it lacks, and one so far on that 34 times its number is 34 again in 64 bits
run : ℕ → List ℕ → Answer Line
unfolding stored_says piece_says record_says board_in tabulate all_below lowest_wrong first_from
run number bytes = stored_says bytes number

runs : run 0 (replicate 35 0) ∷ run 1 (replicate 34 0) ∷ run 0x8000000000000001 (drawn_bytes ++ drawn_bytes) ∷ run 1 (replicate 34 0 ++ drawn_bytes) ∷ []
    ≡ refused 18 [] ∷ refused 32 [] ∷ refused 32 [] ∷ given drawn ∷ []
unfolding run
runs = refl
