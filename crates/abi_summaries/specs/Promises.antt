-- What each door promises, for all inputs: what its function says, as numbers that C lends. Definitions only.
use Rattle.std.specs.Prelude.{◌≡◌, List, ℕ}
use Rattle.store_summary.specs.Promises.{beside, add_of, replace_of, store_after}
use Rattle.abi_codes.specs.Codes.{answer_number}
use Rattle.abi_codes.specs.declared.Code.{Code}
use Rattle.abi_states.specs.States.{state_taken}
use Rattle.abi_states.specs.declared.State.{State as Stated}

pub record RecordAdded (bitboards board : List ℕ) (state : Stated) (half : ℕ) (run summary : List ℕ) (r : Code) (run' summary' : List ℕ) : Type 0 where
  pub code : r ≡ answer_number (add_of bitboards board (state_taken state) half (beside run summary))
  pub bytes : run' ≡ (store_after (add_of bitboards board (state_taken state) half (beside run summary)) (beside run summary)).run
  pub counts : summary' ≡ (store_after (add_of bitboards board (state_taken state) half (beside run summary)) (beside run summary)).summary

pub record RecordReplaced (bitboards board : List ℕ) (state : Stated) (half number : ℕ) (run summary : List ℕ) (r : Code)
    (run' summary' : List ℕ) : Type 0 where
  pub code : r ≡ answer_number (replace_of bitboards board (state_taken state) half number (beside run summary))
  pub bytes : run' ≡ (store_after (replace_of bitboards board (state_taken state) half number (beside run summary)) (beside run summary)).run
  pub counts : summary' ≡ (store_after (replace_of bitboards board (state_taken state) half number (beside run summary)) (beside run summary)).summary
