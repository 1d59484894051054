-- What the function promises, for all inputs. Definitions only.
use Rattle.std.specs.Prelude.{List, ℕ, Option}
use Rattle.position.specs.declared.State.{State}
use Rattle.text_out.specs.Text.{Puts}
use Rattle.fit_sample.specs.Sample.{sample_of}

abbrev pub PutsSample : List ℕ → List ℕ → State → ℕ → List ℕ → List ℕ → ℕ → Option ℕ → Type 0
PutsSample bbs board state half old new at r = Puts old new at (sample_of bbs board state half) r
