-- What each function promises, for all inputs. Definitions only.
use Rattle.std.specs.Prelude.{◌≡◌, cond, List, [], ℕ, ◌+◌, ◌≤◌, ltb, length, Result}
use Rattle.text_out.specs.Text.{written_of, room_for}
use Rattle.line_profile.specs.declared.Profile.{Profile}
use Rattle.ledger_feed.specs.Machine.{at}
use Rattle.ledger_feed.specs.Promises.{Came, turned, many, full, came, fit, came_as}
use Rattle.ledger_feed.specs.declared.SoFar.{SoFar}
use Rattle.ledger_finish.specs.Last.{finished}
use Rattle.ledger_feed.specs.declared.Unwritten.{Unwritten}

-- one line more where some of it was held
abbrev pub unfinished : ℕ → ℕ
unfinished held = cond (ltb 0 held) 1 0

abbrev pub CountsUnfinished : ℕ → ℕ → Type 0
CountsUnfinished held r = r ≡ unfinished held

abbrev pub last_lines : SoFar → ℕ
last_lines state = state.loaded + state.refused + unfinished state.held

-- room for what is written
abbrev pub finish_of : Profile → SoFar → List ℕ → List ℕ → Came (List ℕ)
finish_of profile state line out =
    let text : List ℕ = finished profile (at state line []) in
    fit line (last_lines state) (room_for out 0 text) text

abbrev pub length_of : Came (List ℕ) → Came ℕ
length_of (came text) = came (length text)
length_of (turned n l) = turned n l
length_of many = many
length_of full = full

abbrev pub last_text : Came (List ℕ) → List ℕ
last_text (came text) = text
last_text (turned n l) = []
last_text many = []
last_text full = []

abbrev pub last_wrote : Came ℕ → ℕ
last_wrote (came n) = n
last_wrote (turned n l) = 0
last_wrote many = 0
last_wrote full = 0

pub record Finishes (profile : Profile) (state : SoFar) (line out : List ℕ) (r : Result ℕ Unwritten) (out' : List ℕ) : Type 0 where
  pub answer : came_as r ≡ length_of (finish_of profile state line out)
  pub rows : out' ≡ written_of out 0 (last_text (finish_of profile state line out))
  pub within : last_wrote (came_as r) ≤ length out
