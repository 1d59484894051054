-- `fit_coefficient::coefficient` meets its contract. Assumes nothing.
use Rattle.std.proofs.Common.{ap₂}
use lib.Ieee.{Float}
use Rattle.doubles.specs.Doubles.{◌⊗◌, ◌⊘◌}
use Rattle.fit_coefficient.specs.Coefficient.{error_of, slope_of, coefficient_of}
use Rattle.fit_coefficient.proofs.Scores.{minus_two}
use Rattle.fit_coefficient.proofs.coefficient.Goals as goal

pub returns : goal.returns
unfolding coefficient_of
returns c =
    let a = c.args in
    ap₂ (λ (two lines : Float). two ⊗ error_of a.s a.half ⊗ slope_of a.s a.k ⊘ lines) minus_two c.nearest_u64_to_f64.ensures
