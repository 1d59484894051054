-- The claim of W-212 about the exchange: "no position of the profile is refused as CROWD". Definitions only.
use Rattle.std.specs.Prelude.{◌≡◌, List, ℕ}
use Rattle.refusal.specs.Answer.{Answer, given, refusal_of}
use Rattle.refusal.specs.declared.Refusal.TheVariants as R
use Rattle.position.specs.declared.State.{State}
use Rattle.position_profile.specs.RealPlay.{FromRealPlay}
use Rattle.exchange_start.specs.declared.Mode.{Mode}
use Rattle.exchange.specs.Answers.{see_of}
use Rattle.line_parse.specs.Line.{Line}
use Rattle.line_profile.specs.Under.{line_under}
use Rattle.line_profile.specs.declared.Profile.TheVariants as P
use Rattle.position_boards.specs.Boards.{bitboards_of}

-- an answer that is not CROWD, with or without a value beside the number
abbrev pub NotCrowd : {A : Type 0} → Answer A → Type 0
NotCrowd a = a ≡ refusal_of R.Crowd → ⊥

-- whatever capture is asked of it, in either mode and by whatever order of the kinds
abbrev pub NeverCrowd : Type 0
NeverCrowd = (mode : Mode) (kinds bbs bytes : List ℕ) (state : State) (from to : ℕ) → FromRealPlay bbs state
    → NotCrowd (see_of mode kinds bbs bytes state from to)

-- the same of the position of a line that passes
abbrev pub LineNeverCrowd : Type 0
LineNeverCrowd = (line : List ℕ) (l : Line) → line_under P.RealPlay line ≡ given l
    → (mode : Mode) (kinds : List ℕ) (from to : ℕ) → NotCrowd (see_of mode kinds (bitboards_of l.board) l.board l.state from to)
