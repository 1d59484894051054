-- What the door promises, for all inputs: the number that comes back and everything lent afterwards. Definitions only.
use Rattle.std.specs.Prelude.{◌≡◌, cond, List, ℕ, eqb, Option, None, Some}
use Rattle.line_write.specs.Write.{wanted_text, write_of, buffer_after}
use Rattle.abi_codes.specs.Codes.{answer_number, lent_after, as_it_is}
use Rattle.abi_codes.specs.declared.Code.{Code}
use Rattle.abi_states.specs.States.{state_taken}
use Rattle.abi_states.specs.declared.State.{State as Stated}

-- "on request": 0 requests no result, any other number one
abbrev pub wanted_of : ℕ → ℕ → Option ℕ
wanted_of request half = cond (eqb request 0) None (Some half)

pub record WritesPosition (bitboards board : List ℕ) (state : Stated) (request half : ℕ) (out : List ℕ) (bytes : ℕ) (r : Code) (out' : List ℕ)
    (bytes' : ℕ) : Type 0 where
  pub code : r ≡ answer_number (write_of bitboards board (state_taken state) (wanted_of request half) out)
  pub buffer : out' ≡ buffer_after (write_of bitboards board (state_taken state) (wanted_of request half) out)
      (wanted_text board (state_taken state) (wanted_of request half)) out
  pub used : bytes' ≡ lent_after as_it_is bytes (write_of bitboards board (state_taken state) (wanted_of request half) out)
