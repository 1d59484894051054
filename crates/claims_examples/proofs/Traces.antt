-- Worked examples of the definitions, by computation. Assumes nothing.
use mathlib.Core.Path.{◌≡◌, refl}
use mathlib.Core.List.{List, [], ◌∷◌}
use Prim.Native.Nat.{ℕ}
use lib.IntN.{pos, negsuc}
use Rattle.trace.specs.Trace.{trace_of, entry_at}
use Rattle.trace_shipped.specs.Weights.{square_weight}
use Rattle.trace_exact.specs.Exact.{shipped_whole, exact_by}
use Rattle.claims_examples.specs.Written.{boards_of}

-- r3k3/ppq5/2n2b2/4b3/8/2N1B3/PPP1B3/R3K2Q: 17 pieces
abbrev crowd : List ℕ
crowd =
    0x141791 ∷ 0x1107241000000000 ∷ 0x700 ∷ 0x3000000000000 ∷ 0x40000 ∷ 0x40000000000 ∷ 0x10 ∷ 0x1000000000000000 ∷ 0x101000 ∷ 0x201000000000 ∷ 1
    ∷ 0x100000000000000 ∷ 0x80 ∷ 0x4000000000000 ∷ []

-- its counts, pairs and mobility; Black to move
crowd_trace : trace_of crowd 1 ≡ record {
  pawns = pos 3 ∷ pos 2 ∷ [];
  knights = pos 1 ∷ pos 1 ∷ [];
  bishops = pos 2 ∷ pos 2 ∷ [];
  rooks = pos 1 ∷ pos 1 ∷ [];
  queens = pos 1 ∷ pos 1 ∷ [];
  bishop_pair = pos 1 ∷ pos 1 ∷ [];
  mobility = pos 5 ∷ pos 3 ∷ pos 8 ∷ pos 8 ∷ pos 20 ∷ pos 15 ∷ pos 5 ∷ pos 5 ∷ pos 15 ∷ pos 14 ∷ pos 5 ∷ pos 5 ∷ [];
  side = negsuc 0;
  piece_count = pos 17;
}
unfolding trace_of
crowd_trace = refl

-- 30 times the weighted counts and the like: 2808
crowd_exact : exact_by shipped_whole (trace_of crowd 1) (λ i. pos (entry_at crowd i)) ≡ pos 2808
unfolding exact_by trace_of entry_at square_weight
crowd_exact = refl

-- kings e1, e8 and the pawn e2, White to move: entries of the pawn at 24, of the kings at 648 and 649
abbrev pub pawn_up : List ℕ
pawn_up = 0x1010 ∷ 0x1000000000000000 ∷ 0x1000 ∷ 0 ∷ 0 ∷ 0 ∷ 0x10 ∷ 0x1000000000000000 ∷ 0 ∷ 0 ∷ 0 ∷ 0 ∷ 0 ∷ 0 ∷ []

pawn_entries : entry_at pawn_up 24 ∷ entry_at pawn_up 648 ∷ entry_at pawn_up 649 ∷ entry_at pawn_up 25 ∷ entry_at pawn_up 104 ∷ entry_at pawn_up 761 ∷ [] ≡ 1 ∷ 1
    ∷ 1 ∷ 0 ∷ 0 ∷ 0 ∷ []
unfolding entry_at
pawn_entries = refl

pawn_exact : exact_by shipped_whole (trace_of pawn_up 0) (λ i. pos (entry_at pawn_up i)) ≡ pos 3517
unfolding exact_by trace_of entry_at square_weight
pawn_exact = refl

-- "Counting the king's 10000 in the trace": kings e1, d3 against e8, White to move. Kings have square weights and nothing more
abbrev kings : List ℕ
kings = 0x80010 ∷ 0x1000000000000000 ∷ 0 ∷ 0 ∷ 0 ∷ 0 ∷ 0x80010 ∷ 0x1000000000000000 ∷ 0 ∷ 0 ∷ 0 ∷ 0 ∷ 0 ∷ 0 ∷ []

kings_exact : exact_by shipped_whole (trace_of kings 0) (λ i. pos (entry_at kings i)) ≡ pos 1030
unfolding exact_by trace_of entry_at square_weight
kings_exact = refl

-- ---- the boards are those of the positions that they are called
as_written : boards_of "r3k3/ppq5/2n2b2/4b3/8/2N1B3/PPP1B3/R3K2Q"
    ∷ boards_of "4k3/8/8/8/8/8/4P3/4K3"
    ∷ boards_of "4k3/8/8/8/8/3K4/8/4K3" ∷ []
    ≡ crowd ∷ pawn_up ∷ kings ∷ []
unfolding boards_of
as_written = refl
