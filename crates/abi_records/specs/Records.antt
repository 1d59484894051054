-- The records of counts and of named weights as their numbers in the order of the fields, and back. Definitions only.
use Rattle.std.specs.Prelude.{List, [], ◌∷◌, ℕ, ◌+◌, ℤ, pos, Float, get_or}
use Rattle.std.specs.Float.{nan}
use Rattle.trace_counts.specs.declared.Trace.{Trace}
use Rattle.trace_counts.specs.declared.Weights.{Weights}

abbrev pub number_at : List ℤ → ℕ → ℤ
number_at l i = get_or l i (pos 0)

-- a trace's ten counts and two pair flags, White's and then Black's of each
abbrev pub counts_of_rule : Trace → List ℤ
counts_of_rule t =
    number_at t.pawns 0 ∷ number_at t.pawns 1 ∷
    number_at t.knights 0 ∷ number_at t.knights 1 ∷
    number_at t.bishops 0 ∷ number_at t.bishops 1 ∷
    number_at t.rooks 0 ∷ number_at t.rooks 1 ∷
    number_at t.queens 0 ∷ number_at t.queens 1 ∷
    number_at t.bishop_pair 0 ∷ number_at t.bishop_pair 1 ∷ []

-- White's number at a place, and Black's after it
abbrev pub pair_of : List ℤ → ℕ → List ℤ
pair_of counts i = number_at counts i ∷ number_at counts (i + 1) ∷ []

abbrev pub trace_of_numbers : List ℤ → List ℤ → ℤ → ℤ → Trace
trace_of_numbers counts mobility sign pieces = record {
  pawns = pair_of counts 0;
  knights = pair_of counts 2;
  bishops = pair_of counts 4;
  rooks = pair_of counts 6;
  queens = pair_of counts 8;
  bishop_pair = pair_of counts 10;
  mobility = mobility;
  side = sign;
  piece_count = pieces;
}

-- "eleven named weights as doubles in one record"
abbrev pub named_of : Weights → List Float
named_of w =
    w.pawn ∷
    w.knight ∷
    w.bishop ∷
    w.rook ∷
    w.queen ∷
    w.bishop_pair ∷
    w.knight_mobility ∷
    w.bishop_mobility ∷
    w.rook_mobility ∷
    w.queen_mobility ∷
    w.tempo ∷ []

abbrev pub weights_of : List Float → Weights
weights_of l = record {
  pawn = get_or l 0 nan;
  knight = get_or l 1 nan;
  bishop = get_or l 2 nan;
  rook = get_or l 3 nan;
  queen = get_or l 4 nan;
  bishop_pair = get_or l 5 nan;
  knight_mobility = get_or l 6 nan;
  bishop_mobility = get_or l 7 nan;
  rook_mobility = get_or l 8 nan;
  queen_mobility = get_or l 9 nan;
  tempo = get_or l 10 nan;
}
