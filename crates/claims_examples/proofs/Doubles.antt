-- Worked examples of the definitions, by computation. Assumes nothing.
use mathlib.Core.Path.{◌≡◌, refl}
use mathlib.Core.Bool.{Bool, true, false, not, ◌&&◌, ◌||◌}
use mathlib.Core.List.{List, [], ◌∷◌}
use Prim.Native.Nat.{ℕ, suc, ◌+◌}
use lib.Dec.{eqb}
use lib.IntN.{ℤ, pos, negsuc}
use lib.ListN.{get_or, set}
use lib.Ieee.{Float, nan, binary64, add, sub, mul, div, of_int, of_bits}
use Rattle.laws.specs.Tables.{tabulate}
use Rattle.laws.specs.Tests.{all_below}
use Rattle.refusal.specs.Answer.{Answer, given, refused}
use Rattle.trace_counts.specs.Ranges.{in_ranges, are_entries}
use Rattle.doubles.specs.Doubles.{d0, d2, d10, d32, dbl}
use Rattle.trace_named.specs.Named.{named}
use Rattle.trace_double.specs.Double.{double}
use Rattle.trace_double.specs.Promises.{double_of}
use Rattle.trace_counts.specs.declared.Weights.{Weights}
use Rattle.trace_counts.specs.declared.Trace.{Trace}

-- ---- the literals are the numbers that they are called
literals : d0 ∷ d2 ∷ d10 ∷ d32 ∷ [] ≡ dbl (pos 0) ∷ dbl (pos 2) ∷ dbl (pos 10) ∷ dbl (pos 32) ∷ []
unfolding of_int of_bits
literals = refl

-- ---- a trace's 26 numbers and the eleven weights, in their order
abbrev two : List ℤ → ℕ → List ℤ
two ns i = get_or ns i (pos 0) ∷ get_or ns (i + 1) (pos 0) ∷ []

abbrev trace_of : List ℤ → Trace
trace_of ns = record {
  pawns = two ns 0;
  knights = two ns 2;
  bishops = two ns 4;
  rooks = two ns 6;
  queens = two ns 8;
  bishop_pair = two ns 10;
  mobility = tabulate 12 (λ k. get_or ns (12 + k) (pos 0));
  side = get_or ns 24 (pos 0);
  piece_count = get_or ns 25 (pos 0);
}

abbrev weights_of : List Float → Weights
weights_of ws = record {
  pawn = get_or ws 0 d0;
  knight = get_or ws 1 d0;
  bishop = get_or ws 2 d0;
  rook = get_or ws 3 d0;
  queen = get_or ws 4 d0;
  bishop_pair = get_or ws 5 d0;
  knight_mobility = get_or ws 6 d0;
  bishop_mobility = get_or ws 7 d0;
  rook_mobility = get_or ws 8 d0;
  queen_mobility = get_or ws 9 d0;
  tempo = get_or ws 10 d0;
}

-- nothing stands, and White is to move
empty : List ℤ
unfolding tabulate
empty = set (tabulate 26 (λ k. pos 0)) 24 (pos 1)

no_entries : List ℤ
unfolding tabulate
no_entries = tabulate 768 (λ k. pos 0)

no_weights : List Float
unfolding tabulate
no_weights = tabulate 11 (λ k. d0)

no_squares : List Float
unfolding tabulate
no_squares = tabulate 768 (λ k. d0)

-- ---- TRACE
-- the most that each of the 26 numbers may be
mosts : List ℕ
mosts =
    64 ∷ 64 ∷ 64 ∷ 64 ∷ 64 ∷ 64 ∷ 64 ∷ 64 ∷ 64 ∷ 64 ∷ 1 ∷ 1
    ∷ 1728 ∷ 1728 ∷ 1728 ∷ 1728 ∷ 1728 ∷ 1728 ∷ 1728 ∷ 1728 ∷ 1728 ∷ 1728 ∷ 1728 ∷ 1728 ∷ 1 ∷ 64 ∷ []

-- the empty trace with its number i made another
changed : ℕ → ℤ → Bool
unfolding empty tabulate all_below
changed i z = in_ranges (trace_of (set empty i z))

-- the most is taken, one more is not; 0 is taken and −1 is not, save that a side may be −1 and not 0
ranges : all_below 26 (λ i. changed i (pos (get_or mosts i 0)) && not (changed i (pos (suc (get_or mosts i 0))))) ≡ true
unfolding all_below changed mosts
ranges = refl

from_zero : all_below 26 (λ i. eqb i 24 || (changed i (pos 0) && not (changed i (negsuc 0)))) ≡ true
unfolding all_below changed
from_zero = refl

sides : changed 24 (negsuc 0) ∷ changed 24 (pos 0) ∷ changed 24 (negsuc 1) ∷ [] ≡ true ∷ false ∷ false ∷ []
unfolding changed
sides = refl

-- entries of 0 and 1, of 2, and of −1
entries_taken : are_entries (pos 0 ∷ pos 1 ∷ []) ∷ are_entries (pos 1 ∷ pos 2 ∷ []) ∷ are_entries (negsuc 0 ∷ pos 1 ∷ []) ∷ [] ≡ true ∷ false ∷ false ∷ []
unfolding all_below
entries_taken = refl

-- ---- the double
-- "worked in the source's order": a pawn more at 4 and a square each of the knights' at 1 give 4 + 0.1 − 0.1, one unit below 4
in_order : named (trace_of (set (set (set empty 0 (pos 1)) 14 (pos 1)) 15 (pos 1))) (weights_of (set (set no_weights 0 (dbl (pos 4))) 6 (dbl (pos 1))))
    ≡ of_bits binary64 0x400f_ffff_ffff_ffff
unfolding empty no_weights tabulate add sub mul div of_int of_bits
in_order = refl

nothing : double_of (trace_of empty) no_entries (weights_of no_weights) no_squares ≡ given d0
unfolding empty no_entries no_weights no_squares all_below double of_bits of_int add sub mul div
nothing = refl

-- kings on e1 and e8 and a pawn, White's on e2 with White to move, or Black's on e7 with Black to move
white : Trace
unfolding empty tabulate
white = trace_of (set (set empty 0 (pos 1)) 25 (pos 3))

black : Trace
unfolding empty tabulate
black = trace_of (set (set (set empty 1 (pos 1)) 24 (negsuc 0)) 25 (pos 3))

entries_with : ℕ → List ℤ
unfolding no_entries
entries_with pawn = set (set (set no_entries pawn (pos 1)) 648 (pos 1)) 649 (pos 1)

-- a pawn is 100, the tempo 11, and a pawn on e2 10 in the opening and 40 in the ending; the kings' weights are alike
weights : Weights
unfolding no_weights
weights = weights_of (set (set no_weights 0 (dbl (pos 100))) 10 (dbl (pos 11)))

squares : List Float
unfolding no_squares
squares = set (set (set no_squares 12 (dbl (pos 10))) 76 (dbl (pos 40))) 21 nan

-- 100 + 11 + (10·(2 − 3) + 40·(3 − 32)) / (2 − 32), the same with every sign turned, and a pawn on f3, where the weight is a NaN: that of
-- a square where nobody stands is not looked at
pawns : List (Answer Float)
unfolding white black entries_with weights squares all_below double of_bits of_int add sub mul div
pawns =
    double_of white (entries_with 24) weights squares ∷ double_of black (entries_with 25) weights squares ∷ double_of white (entries_with 42) weights squares ∷ []

pawns_are : pawns ≡ given (dbl (pos 150)) ∷ given (dbl (negsuc 149)) ∷ given nan ∷ []
unfolding pawns
pawns_are = refl

-- ---- "Trace double: 1, 7": a trace of no side with 767 entries, or 769 weights, and with 768 of each
refusals : List (Answer Float)
unfolding empty no_entries weights no_squares tabulate all_below double
refusals =
    double_of (trace_of (set empty 24 (pos 0))) (tabulate 767 (λ k. pos 0)) weights no_squares
    ∷ double_of (trace_of (set empty 24 (pos 0))) no_entries weights (d0 ∷ no_squares)
    ∷ double_of (trace_of (set empty 24 (pos 0))) no_entries weights no_squares ∷ double_of (trace_of empty) (set no_entries 0 (pos 2)) weights no_squares ∷ []

refusals_are : refusals ≡ refused 1 [] ∷ refused 1 [] ∷ refused 7 [] ∷ refused 7 [] ∷ []
unfolding refusals
refusals_are = refl
