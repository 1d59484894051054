-- Where a trace has its entries, and the fit its weights (document 01, "The trace"). Definitions only.
use Rattle.std.specs.Prelude.{◌≡◌, cond, List, ℕ, ◌+◌, ◌*◌, ◌/◌, ◌%◌, ltb}
use Rattle.laws.specs.Tables.{tabulate}
use Rattle.chess.specs.Codes.{colour_of, Same}
use Rattle.chess.specs.declared.color.Color.{Color}
use Rattle.chess.specs.declared.kind.Kind.{Kind}
use Rattle.places.specs.declared.phase.Phase.{Phase}
use Rattle.chess.specs.declared.square.Square.{Square}
use Rattle.places.specs.declared.entry.Entry.{Entry}
use Rattle.places.specs.declared.weight.Weight.{Weight}
use Rattle.places.specs.declared.weight.SquareWeight.{SquareWeight}

-- "A trace entry is at 128·kind + 2·square + colour"
abbrev pub entry_place : ℕ → ℕ → ℕ → ℕ
entry_place kind square colour = 128 * kind + 2 * square + colour

-- what the entry at k is of
abbrev pub kind_at : ℕ → ℕ
kind_at k = k / 128

abbrev pub square_at : ℕ → ℕ
square_at k = k % 128 / 2

abbrev pub colour_at : ℕ → ℕ
colour_at = colour_of

-- "a square weight at 128·kind + 64·phase + square"
abbrev pub weight_place : ℕ → ℕ → ℕ → ℕ
weight_place kind phase square = 128 * kind + 64 * phase + square

abbrev pub EntryPlace : ℕ → ℕ → ℕ → ℕ → Type 0
EntryPlace kind square colour r = r ≡ entry_place kind square colour

abbrev pub WeightPlace : ℕ → ℕ → ℕ → ℕ → Type 0
WeightPlace kind phase square r = r ≡ weight_place kind phase square

abbrev pub EntryOf : Kind → Square → Color → Entry → Type 0
EntryOf k s c r = r.0 ≡ entry_place k.0 s.0 c.0

abbrev pub EntryIndex : Entry → ℕ → Type 0
EntryIndex e r = Same e.0 r

abbrev pub SquareWeightOf : Kind → Phase → Square → SquareWeight → Type 0
SquareWeightOf k p s r = r.0 ≡ weight_place k.0 p.0 s.0

abbrev pub SquareWeightIndex : SquareWeight → ℕ → Type 0
SquareWeightIndex w r = Same w.0 r

-- "a constant of the kind it belongs to": the eleven weights that have a name, entry k is place k
abbrev pub AllNamed : List Weight → Type 0
AllNamed r = r ≡ tabulate 11 (λ k. record { 0 = k })

-- the square weights come after the eleven that are named; a place past 767, which none has, counts as the first
abbrev pub WeightOf : SquareWeight → Weight → Type 0
WeightOf w r = r.0 ≡ 11 + cond (ltb w.0 768) w.0 0

abbrev pub WeightIndex : Weight → ℕ → Type 0
WeightIndex x r = Same x.0 r
