-- The exact sum in thirtieths, White's side, as document 01 says it ("The trace"): of a trace, its entries and weights that are whole
-- numbers. Definitions only.
use Rattle.std.specs.Prelude.{List, [], ◌∷◌, ℕ, ℤ, pos, ◌+ℤ◌, ◌-ℤ◌, ◌*ℤ◌, get_or}
use Rattle.laws.specs.Sums.{sum_z}
use Rattle.places.specs.Places.{entry_place, weight_place}
use Rattle.chess.specs.Values.{value_of}
use Rattle.chess.specs.Named.{white, black}
use Rattle.score_taper.specs.Parts.{tempo_value}
use Rattle.score_material.specs.Material.{pair_value}
use Rattle.score_tally.specs.Mobility.{factor_of}
use Rattle.trace_named.specs.Named.{attacked_in}
use Rattle.trace_counts.specs.declared.Trace.{Trace}
use Rattle.trace_shipped.specs.Weights.{square_weight}

-- by kind what a count and an attacked square weigh, and by place what an entry weighs
pub record WholeWeights : Type 0 where
  pub value : ℕ → ℤ
  pub pair : ℤ
  pub mobility : ℕ → ℤ
  pub tempo : ℤ
  pub square : ℕ → ℤ

-- the shipped ones
abbrev pub shipped_whole : WholeWeights
shipped_whole = record {
  value = λ kind. pos (value_of kind);
  pair = pos pair_value;
  mobility = λ kind. pos (factor_of kind);
  tempo = pos tempo_value;
  square = square_weight;
}

-- White's number less Black's
abbrev pub difference : List ℤ → ℤ
difference l = get_or l white (pos 0) -ℤ get_or l black (pos 0)

-- a trace's counts of pawn, knight, bishop, rook, queen
abbrev pub kind_counts : Trace → ℕ → List ℤ
kind_counts t kind = get_or (t.pawns ∷ t.knights ∷ t.bishops ∷ t.rooks ∷ t.queens ∷ []) kind []

-- "opening·(x−2) + ending·(32−x)", of the entry of a kind, a square and a colour
abbrev pub term : WholeWeights → (ℕ → ℤ) → ℤ → ℕ → ℕ → ℕ → ℤ
term w entries x kind square colour =
    entries (entry_place kind square colour)
    *ℤ (w.square (weight_place kind 0 square) *ℤ (x -ℤ pos 2) +ℤ w.square (weight_place kind 1 square) *ℤ (pos 32 -ℤ x))

-- "over all square entries, plus for White and minus for Black"
unfoldable pub square_sum : WholeWeights → (ℕ → ℤ) → ℤ → ℤ
unfolding sum_z
square_sum w entries x = sum_z 6 (λ kind. sum_z 64 (λ square. term w entries x kind square white -ℤ term w entries x kind square black))

-- "30 times (weighted count differences + pair difference·33 + 11·side) + 3 times weighted mobility difference + over all square entries .."
unfoldable pub exact_by : WholeWeights → Trace → (ℕ → ℤ) → ℤ
unfolding sum_z square_sum
exact_by w t entries =
    (sum_z 5 (λ kind. difference (kind_counts t kind) *ℤ w.value kind) +ℤ difference t.bishop_pair *ℤ w.pair +ℤ t.side *ℤ w.tempo) *ℤ pos 30
    +ℤ sum_z 6 (λ kind. (attacked_in t kind white -ℤ attacked_in t kind black) *ℤ w.mobility kind) *ℤ pos 3
    +ℤ square_sum w entries t.piece_count

-- the entries as they are lent
unfoldable pub exact_sum : WholeWeights → Trace → List ℤ → ℤ
unfolding exact_by
exact_sum w t entries = exact_by w t (λ i. get_or entries i (pos 0))
