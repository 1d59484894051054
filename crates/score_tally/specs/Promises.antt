-- What the public function promises, for all inputs. Definitions only.
use Rattle.std.specs.Prelude.{◌≡◌, List, ℕ}
use Rattle.score_tally.specs.Sides.{sides_of}
use Rattle.score_tally.specs.declared.Sides.{Sides}

abbrev pub Tallies : List ℕ → Sides → Type 0
Tallies bitboards r = r ≡ sides_of bitboards
