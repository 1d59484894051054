-- What the function promises, for all inputs. Definitions only.
use Rattle.std.specs.Prelude.{◌≡◌, Bool, cond, List, ℕ, ◌+◌, ◌^◌, ◌≤◌, ltb, length, Result}
use Rattle.refusal.specs.Answer.{refusal_of}
use Rattle.refusal.specs.declared.Refusal.TheVariants as R
use Rattle.text_out.specs.Text.{written_of, room_for}
use Rattle.ledger_feed.specs.Machine.{Kept, with_totals, row_more}
use Rattle.ledger_feed.specs.Promises.{Came, turned_by, many, full, came, came_as}
use Rattle.ledger_finish.specs.Promises.{unfinished, length_of, last_text, last_wrote}
use Rattle.store_rows.specs.Promises.{store_counts}
use Rattle.store_rows.specs.declared.StoreSoFar.{StoreSoFar}
use Rattle.ledger_feed.specs.declared.Unwritten.{Unwritten}

-- "a short last piece as a refused row, 18": it counts as a line and as refused
abbrev pub store_ended : StoreSoFar → Kept
store_ended state = cond (ltb 0 state.held) (row_more (store_counts state) (refusal_of R.Length)) (store_counts state)

unfoldable pub store_finished : StoreSoFar → List ℕ
store_finished state = with_totals (store_ended state)

-- one line more where some bytes were held
abbrev pub last_pieces : StoreSoFar → ℕ
last_pieces state = state.loaded + state.refused + unfinished state.held

-- SHAPE for a state that would hold a whole piece; then the counts, then room for what is written
abbrev pub fit_last : {A : Type 0} → Bool → Bool → Bool → A → Came A
fit_last short counted room a = cond short (cond counted (cond room (came a) full) many) (turned_by R.Shape)

abbrev pub store_finish_of : StoreSoFar → List ℕ → Came (List ℕ)
store_finish_of state out = fit_last (ltb state.held 34) (ltb (last_pieces state) (2 ^ 64)) (room_for out 0 (store_finished state)) (store_finished state)

pub record FinishesStore (state : StoreSoFar) (out : List ℕ) (r : Result ℕ Unwritten) (out' : List ℕ) : Type 0 where
  pub answer : came_as r ≡ length_of (store_finish_of state out)
  pub rows : out' ≡ written_of out 0 (last_text (store_finish_of state out))
  pub within : last_wrote (came_as r) ≤ length out
