-- What each function promises, for all inputs. Definitions only.
use Rattle.std.specs.Prelude.{◌≡◌, Bool, List, ℕ, Option}
use Rattle.position_further.specs.Rule.{at_home, just_passed, counters_fit}
use Rattle.position_further.specs.declared.Rights.{Rights}

abbrev pub AtHome : List ℕ → Rights → Bool → Type 0
AtHome board rights r = r ≡ at_home board rights

abbrev pub JustPassed : List ℕ → ℕ → Option ℕ → Bool → Type 0
JustPassed board side passant r = r ≡ just_passed board side passant

abbrev pub CountersFit : ℕ → ℕ → Bool → Type 0
CountersFit halfmoves moves r = r ≡ counters_fit halfmoves moves
