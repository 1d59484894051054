-- What each public function promises, for all inputs. Definitions only.
use Rattle.std.specs.Prelude.{◌≡◌, Bool, List, ℕ}
use Rattle.trace_list.specs.Form.{is_list}

abbrev pub TestsList : ℕ → List ℕ → Bool → Type 0
TestsList used bytes r = r ≡ is_list used bytes
