-- What each function promises, for all inputs. Definitions only.
use Rattle.std.specs.Prelude.{◌≡◌, List, Float, ℤ}
use Rattle.trace_counts.specs.declared.Trace.{Trace}
use Rattle.trace_counts.specs.declared.Weights.{Weights}
use Rattle.abi_records.specs.Records.{counts_of_rule, trace_of_numbers, named_of, weights_of}

abbrev pub GivesCounts : Trace → List ℤ → Type 0
GivesCounts t r = r ≡ counts_of_rule t

abbrev pub GivesTrace : List ℤ → List ℤ → ℤ → ℤ → Trace → Type 0
GivesTrace counts mobility sign pieces r = r ≡ trace_of_numbers counts mobility sign pieces

abbrev pub GivesNamed : Weights → List Float → Type 0
GivesNamed w r = r ≡ named_of w

abbrev pub GivesWeights : List Float → Weights → Type 0
GivesWeights named r = r ≡ weights_of named
