-- What each door of the ledger promises, for all inputs: the number that comes back and every lent number afterwards. Definitions only.
use Rattle.std.specs.Prelude.{◌≡◌, List, ℕ, length}
use Rattle.abi_codes.specs.declared.Code.{Code}
use Rattle.text_out.specs.Text.{written_of as bufferOf}
use Rattle.line_profile.specs.declared.Profile.TheVariants as P
use Rattle.ledger_feed.specs.Machine.{Machine}
use Rattle.ledger_feed.specs.declared.SoFar.{SoFar}
use Rattle.ledger_feed.specs.Promises as Rows
use Rattle.ledger_feed.specs.Promises.{feed_of, line_after, text_after}
use Rattle.ledger_finish.specs.Promises.{finish_of, last_text}
use Rattle.abi_ledgers.specs.Ledger as Ledger
use Rattle.abi_ledgers.specs.Ledger.{state_from, state_numbers}

-- ---- its state, for every door that is fed
abbrev pub ReadsState : List ℕ → SoFar → Type 0
ReadsState numbers r = r ≡ state_from numbers

abbrev pub GivesState : SoFar → List ℕ → Type 0
GivesState state r = r ≡ state_numbers state

-- ---- the ledger of every position that a line can say
pub record FeedsLedger (state line chunk out : List ℕ) (wrote : ℕ) (r : Code) (state' line' out' : List ℕ) (wrote' : ℕ) : Type 0 where
  pub code : r ≡ Ledger.came_number (feed_of P.Any (state_from state) line chunk out)
  pub lent : state' ≡ Ledger.lent_after_came (λ (m : Machine). state_numbers (Rows.state_of m)) state (feed_of P.Any (state_from state) line chunk out)
  pub kept : line' ≡ line_after (feed_of P.Any (state_from state) line chunk out) line
  pub rows : out' ≡ bufferOf out 0 (text_after (feed_of P.Any (state_from state) line chunk out))
  pub lent2 : wrote' ≡ Ledger.lent_after_came (λ (m : Machine). length m.text) wrote (feed_of P.Any (state_from state) line chunk out)

pub record FinishesLedger (state line out : List ℕ) (wrote : ℕ) (r : Code) (out' : List ℕ) (wrote' : ℕ) : Type 0 where
  pub code : r ≡ Ledger.came_number (finish_of P.Any (state_from state) line out)
  pub rows : out' ≡ bufferOf out 0 (last_text (finish_of P.Any (state_from state) line out))
  pub lent : wrote' ≡ Ledger.lent_after_came length wrote (finish_of P.Any (state_from state) line out)
