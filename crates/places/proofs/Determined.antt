-- Each public function is determined by its promise: two results that it allows are equal. Assumes nothing.
use mathlib.Core.Path.{◌≡◌, refl, ap}
use mathlib.Core.List.{List}
use Prim.Native.Nat.{ℕ}
use Rattle.chess.specs.declared.color.Color.{Color}
use Rattle.chess.specs.declared.kind.Kind.{Kind}
use Rattle.chess.specs.declared.square.Square.{Square}
use Rattle.refusal.proofs.Paper.{one, answered_by_one}
use Rattle.places.specs.Phases.{AllPhases, NewPhase, PhaseIndex}
use Rattle.places.specs.Places.{AllNamed, EntryPlace, WeightPlace, EntryOf, EntryIndex, SquareWeightOf, SquareWeightIndex, WeightOf, WeightIndex}
use Rattle.places.specs.declared.phase.Phase.{Phase}
use Rattle.places.specs.declared.entry.Entry.{Entry}
use Rattle.places.specs.declared.weight.SquareWeight.{SquareWeight}
use Rattle.places.specs.declared.weight.Weight.{Weight}
use Rattle.std.specs.Prelude.{Result}
use Rattle.refusal.specs.declared.Refusal.{Refusal}

-- ---- the lists of the named constants
pub phase_all : (r s : List Phase) → AllPhases r → AllPhases s → r ≡ s
phase_all r s p q = one p q

pub weight_all_named : (r s : List Weight) → AllNamed r → AllNamed s → r ≡ s
weight_all_named r s p q = one p q

-- ---- what holds one number is told by it
abbrev phase : ℕ → Phase
phase n = record { 0 = n }

abbrev entry : ℕ → Entry
entry n = record { 0 = n }

abbrev square_weight_holds : ℕ → SquareWeight
square_weight_holds n = record { 0 = n }

abbrev weight : ℕ → Weight
weight n = record { 0 = n }

-- ---- the constructor
pub phase_new : (n : ℕ) (r s : Result Phase Refusal) → NewPhase n r → NewPhase n s → r ≡ s
phase_new n r s p q = answered_by_one (λ x. x.0) phase (λ x. refl) p q

-- ---- what a value holds
pub phase_index : (x : Phase) (r s : ℕ) → PhaseIndex x r → PhaseIndex x s → r ≡ s
phase_index x r s = one

pub entry_index : (x : Entry) (r s : ℕ) → EntryIndex x r → EntryIndex x s → r ≡ s
entry_index x r s = one

pub square_weight_index : (x : SquareWeight) (r s : ℕ) → SquareWeightIndex x r → SquareWeightIndex x s → r ≡ s
square_weight_index x r s = one

pub weight_index : (x : Weight) (r s : ℕ) → WeightIndex x r → WeightIndex x s → r ≡ s
weight_index x r s = one

-- ---- values made of others
pub entry_of : (k : Kind) (x : Square) (c : Color) (r s : Entry) → EntryOf k x c r → EntryOf k x c s → r ≡ s
entry_of k x c r s p q = ap entry (one p q)

pub square_weight_of : (k : Kind) (f : Phase) (x : Square) (r s : SquareWeight) → SquareWeightOf k f x r → SquareWeightOf k f x s → r ≡ s
square_weight_of k f x r s p q = ap square_weight_holds (one p q)

pub weight_of_holds : (w : SquareWeight) (r s : Weight) → WeightOf w r → WeightOf w s → r ≡ s
weight_of_holds w r s p q = ap weight (one p q)

-- ---- plain numbers
pub inner_entry_place : (kind square colour r s : ℕ) → EntryPlace kind square colour r → EntryPlace kind square colour s → r ≡ s
inner_entry_place kind square colour r s = one

pub inner_weight_place : (kind phase square r s : ℕ) → WeightPlace kind phase square r → WeightPlace kind phase square s → r ≡ s
inner_weight_place kind phase square r s = one
