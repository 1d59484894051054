-- The totals of a whole collection, by the ledger's lines (document 02, W-210), and calls of `feed` and `end`. Definitions only.
use Rattle.std.specs.Prelude.{◌≡◌, false, ◌&&◌, List, [], ◌∷◌, ◌++◌, ℕ, ◌^◌, leb, ltb, length, Result, Ok, Err}
use Rattle.refusal.specs.Answer.{Answer, given, refused, or_refuse, answered}
use Rattle.refusal.specs.declared.Refusal.TheVariants as R
use Rattle.position_boards.specs.Boards.{bitboards_of}
use Rattle.line_parse.specs.Line.{Line, line_of}
use Rattle.line_cut.specs.Lines.{lines_of}
use Rattle.score.specs.Score.{score_of}
use Rattle.score_errors.specs.Collection.{LoadedLine, fresh_of, scored_in, apart_in}
use Rattle.score_errors.specs.declared.Totals.{Totals}
use Rattle.line_profile.specs.declared.Profile.TheVariants as P
use Rattle.ledger_whole.specs.Ledger.{refused_in}
use Rattle.score_collection.specs.Promises.{nothing, Gathers, EndsCollection}
use Rattle.score_collection.specs.declared.Gathered.{Gathered}
use Rattle.refusal.specs.declared.Refusal.{Refusal}

-- what the loaded lines show: the side to move, the answer that their row in the ledger shows, the half points
abbrev pub shown_before : Answer Line → List LoadedLine → List LoadedLine
shown_before (given l) rest = record { side = l.state.side; answer = score_of (bitboards_of l.board) l.state; half = l.half } ∷ rest
shown_before (refused number beside) rest = rest

unfoldable pub shown_in : List (List ℕ) → List LoadedLine
shown_in [] = []
shown_in (l ∷ ls) = shown_before (line_of l) (shown_in ls)

-- THE TOTALS OF A COLLECTION: each worked out afresh from its lines, and how many lines were refused; "22 MANY at the 1,000,001st of either kind or
-- past 64 bits"
abbrev pub collection_totals : List (List ℕ) → Answer (Totals × ℕ)
collection_totals ls =
    or_refuse ((leb (scored_in (shown_in ls)) 1000000 && leb (apart_in (shown_in ls)) 1000000) && ltb (refused_in P.Any ls) (2 ^ 64)) R.Many
    (given (fresh_of (shown_in ls), refused_in P.Any ls))

abbrev pub collected_of : List ℕ → Answer (Totals × ℕ)
collected_of whole_input = collection_totals (lines_of whole_input)

-- ---- a call of `feed`: what it was lent, what it answered, and the line buffer afterwards
pub record PieceCall : Type 0 where
  pub chunk : List ℕ
  pub piece : Result Gathered Refusal
  pub line' : List ℕ

-- what a call hands on
abbrev pub handed_on : Result Gathered Refusal → Gathered → Gathered
handed_on (Ok gathered) before = gathered
handed_on (Err r) before = before

-- each call does what `feed` promises, from what the call before it gathered and left in the line buffer; then whatever is done last, with what was gathered
unfoldable pub PiecesThen : (Gathered → List ℕ → Type 0) → Gathered → List ℕ → List PieceCall → Type 0
PiecesThen last gathered line [] = last gathered line
PiecesThen last gathered line (c ∷ cs) = Gathers gathered line c.chunk c.piece c.line' × PiecesThen last (handed_on c.piece gathered) c.line' cs

-- and where that is `end`
abbrev pub PiecesMade : Gathered → List ℕ → List PieceCall → Result (Totals × ℕ) Refusal → Type 0
PiecesMade gathered line calls r = PiecesThen (λ (g : Gathered) (l : List ℕ). EndsCollection g l r) gathered line calls

-- the whole input, which the pieces are cut from
unfoldable pub whole_input : List PieceCall → List ℕ
whole_input [] = []
whole_input (c ∷ cs) = c.chunk ++ whole_input cs

-- before the first call
abbrev pub begun : Gathered
begun = record { begun = record { held = 0; cr = false }; sum = nothing }

-- for every way the input is cut, whatever the line buffer held, what comes back are the totals of the whole collection
pub record Collected (line : List ℕ) (calls : List PieceCall) (r : Result (Totals × ℕ) Refusal) : Type 0 where
  pub totals : length line ≡ 256 → PiecesMade begun line calls r → answered r ≡ collected_of (whole_input calls)
