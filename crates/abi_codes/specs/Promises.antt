-- What each function promises, for all inputs. Definitions only.
use Rattle.std.specs.Prelude.{◌≡◌, Bool, ℕ}
use Rattle.refusal.specs.declared.Refusal.{Refusal}
use Rattle.abi_codes.specs.Codes.{refusal_code, flag_of}
use Rattle.abi_codes.specs.declared.Code.{Code}

abbrev pub GivesCode : Refusal → Code → Type 0
GivesCode refusal r = r ≡ refusal_code refusal

abbrev pub GivesFlag : Bool → ℕ → Type 0
GivesFlag holds r = r ≡ flag_of holds
