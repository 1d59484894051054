-- Each public function is determined by its promise: two results that it allows are equal. Assumes nothing.
use mathlib.Core.Path.{◌≡◌}
use mathlib.Core.List.{List}
use lib.Ieee.{Float}
use lib.IntN.{ℤ}
use Rattle.refusal.proofs.Paper.{one}
use Rattle.trace_counts.specs.declared.Trace.{Trace}
use Rattle.trace_counts.specs.declared.Weights.{Weights}
use Rattle.abi_records.specs.Promises.{GivesCounts, GivesTrace, GivesNamed, GivesWeights}

pub counts_of : (t : Trace) (r s : List ℤ) → GivesCounts t r → GivesCounts t s → r ≡ s
counts_of t r s p q = one p q

pub trace_of_holds : (counts mobility : List ℤ) (sign pieces : ℤ) (r s : Trace) → GivesTrace counts mobility sign pieces r
    → GivesTrace counts mobility sign pieces s → r ≡ s
trace_of_holds counts mobility sign pieces r s p q = one p q

pub named_of_holds : (w : Weights) (r s : List Float) → GivesNamed w r → GivesNamed w s → r ≡ s
named_of_holds w r s p q = one p q

pub weights_of_holds : (named : List Float) (r s : Weights) → GivesWeights named r → GivesWeights named s → r ≡ s
weights_of_holds named r s p q = one p q
