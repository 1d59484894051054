-- What a line does to the sum, on each way of the code: too long, refused, loaded. Assumes nothing.
use mathlib.Core.Path.{◌≡◌, refl, sym, ap, ap₂, ◌∙◌}
use mathlib.Core.Bool.{Bool, true, false, not}
use mathlib.Core.List.{List}
use Prim.Native.Nat.{ℕ, ◌+◌, ◌^◌, ◌<◌}
use native.Mathlib.Omega.{arith}
use borrow.Author.Tests.{lt-ltb, le-ltb, eq-eqb, ne_eqb}
use lib.ListN.{length}
use Rattle.refusal.specs.Answer.{Answer, given, refused, or_refuse, refusal_of, answered}
use Rattle.refusal.specs.declared.Refusal.TheVariants as R
use Rattle.refusal.specs.declared.Refusal.{Refusal}
use Rattle.refusal.proofs.Answers.{given_not}
use Rattle.position_boards.specs.Boards.{bitboards_of}
use Rattle.position.specs.declared.State.{State}
use Rattle.line_ranks.specs.Promises.{empty_board}
use Rattle.line_parse.specs.Line.{Line}
use Rattle.line_parse.specs.Promises.{by_value}
use Rattle.line.specs.Promises.{bitboards_after}
use Rattle.line.specs.declared.inner.Loaded.{Loaded}
use Rattle.score.specs.Score.{Outcome, score_of}
use Rattle.line_held.specs.Held.{said_of, ReadsHeld}
use Rattle.score_expected.specs.Expected.{table}
use Rattle.score_errors.specs.Errors.{added_with}
use Rattle.score_errors.specs.declared.Totals.{Totals}
use Rattle.score_collection.specs.Gather.{refused_more, noted, line_by}
use Rattle.line_cut.specs.Cut.{CutSoFar, run_by, end_by}
use Rattle.line_cut.specs.Promises.{opened}
use Rattle.score_collection.specs.Promises.{close_with, close_more, gathered_of, gathered_in, gather_of, line_kept, Gathers, outcome_of, end_of, EndsCollection}
use Rattle.score_collection.specs.declared.Gathered.{Gathered}
use Rattle.score_collection.specs.declared.Sum.{Sum}
use Rattle.std.specs.Prelude.{Ok, Err}

-- ---- a refused line
pub none_left : (sum : Sum) → sum.refused ≡ 18446744073709551615 → record { totals = sum.totals; refused = sum.refused; full = true } ≡ refused_more sum
none_left sum e = simp (le-ltb (sum.refused + 1) (2 ^ 64) (omega arith))

pub one_refused : (sum : Sum) → sum.refused + 1 < 2 ^ 64 → record { totals = sum.totals; refused = sum.refused + 1; full = sum.full } ≡ refused_more sum
one_refused sum h = simp (lt-ltb (sum.refused + 1) (2 ^ 64) h)

-- ---- a line in the buffer
module _ (t : List ℕ) (sum : Sum) (line : List ℕ) (size : ℕ) (read : Loaded) (reads : ReadsHeld line size read) where
  pub line_refused : (q : Refusal) → read.answer ≡ Err q → refused_more sum ≡ line_by t sum (said_of line size)
  line_refused q told = go (said_of line size) (sym (ap answered told) ∙ reads.answer)
    where
      go : (a : Answer Line) → refusal_of q ≡ by_value a → refused_more sum ≡ line_by t sum a
      go (given l) e = given_not (sym e)
      go (refused n v) e = refl

  pub line_loaded : (state : State) (half : ℕ) → read.answer ≡ Ok (state, half) → (a : Answer Outcome) → a ≡ score_of read.bitboards state
      → noted sum (added_with t sum.totals state.side a half) ≡ line_by t sum (said_of line size)
  line_loaded state half told a s = go (said_of line size) (sym (ap answered told) ∙ reads.answer) reads.boards
    where
      go : (b : Answer Line) → given (state, half) ≡ by_value b → read.bitboards ≡ bitboards_after b (bitboards_of empty_board)
          → noted sum (added_with t sum.totals state.side a half) ≡ line_by t sum b
      go (refused n v) e f = given_not e
      go (given l) e f =
          let both : ◌≡◌ {A = State × ℕ} (state, half) (l.state, l.half) = cc in
          let e : state ≡ l.state = ap (λ (x : State × ℕ). x.0) both in
          let d : state.side ≡ l.state.side = ap (λ (x : State). x.side) e in
          let k : half ≡ l.half = ap (λ (x : State × ℕ). x.1) both in
          let g : a ≡ score_of (bitboards_of l.board) l.state = s ∙ ap₂ score_of f e in
          ap₂ (λ (x : ℕ) (y : Answer Outcome). noted sum (added_with t sum.totals x y half)) d g
          ∙ ap (λ (h : ℕ). noted sum (added_with t sum.totals l.state.side (score_of (bitboards_of l.board) l.state) h)) k

-- ---- where the table that is lent is 02's, the line does what 02 says
pub told_close : (t : List ℕ) → t ≡ table → (sum : Sum) (line : List ℕ) (size : ℕ) → close_with t sum line size ≡ close_more sum line size
told_close t e sum line size = ap (λ (x : List ℕ). close_with x sum line size) e

-- ---- the end
pub comes_many : (sum : Sum) → sum.full ≡ true → refusal_of R.Many ≡ outcome_of sum
comes_many sum e = sym (ap (λ (t : Bool). or_refuse (not t) R.Many (given (sum.totals, sum.refused))) e)

pub comes_sum : (sum : Sum) → sum.full ≡ false → given (sum.totals, sum.refused) ≡ outcome_of sum
comes_sum sum e = sym (ap (λ (t : Bool). or_refuse (not t) R.Many (given (sum.totals, sum.refused))) e)

-- ---- the doors: SHAPE, and then the machine
module _ (gathered : Gathered) (line chunk : List ℕ) where
  pub feed_shape : (length line ≡ 256 → ⊥) → Gathers gathered line chunk (Err R.Shape) line
  feed_shape n =
      let e : gather_of gathered line chunk ≡ refusal_of R.Shape = ap (λ (t : Bool). or_refuse t R.Shape
      (given (run_by close_more (opened gathered.begun line) gathered.sum chunk))) (ne_eqb (length line) 256 n) in
      record { answer = sym (ap gathered_in e); kept = sym (ap (λ (a : Answer (CutSoFar Sum)). line_kept a line) e) }

  pub feed_lines : length line ≡ 256 → (r : Gathered) (line' : List ℕ) → r ≡ gathered_of (run_by close_more (opened gathered.begun line) gathered.sum chunk)
      → line' ≡ (run_by close_more (opened gathered.begun line) gathered.sum chunk).left.line → Gathers gathered line chunk (Ok r) line'
  feed_lines h r line' p q =
      let m : CutSoFar Sum = run_by close_more (opened gathered.begun line) gathered.sum chunk in
      let e : gather_of gathered line chunk ≡ given m = ap (λ (t : Bool). or_refuse t R.Shape (given m)) (eq-eqb (length line) 256 h) in
      record { answer = ap given p ∙ sym (ap gathered_in e); kept = q ∙ sym (ap (λ (a : Answer (CutSoFar Sum)). line_kept a line) e) }

  pub end_shape : (length line ≡ 256 → ⊥) → EndsCollection gathered line (Err R.Shape)
  end_shape n = sym (ap (λ (t : Bool). or_refuse t R.Shape (outcome_of (end_by close_more
      (record { left = opened gathered.begun line; kept = gathered.sum })))) (ne_eqb (length line) 256 n))

  pub end_sum : length line ≡ 256 → (a : Answer (Totals × ℕ)) → a ≡ outcome_of
      (end_by close_more (record { left = opened gathered.begun line; kept = gathered.sum })) → a ≡ end_of gathered line
  end_sum h a p = p ∙ sym (ap (λ (t : Bool). or_refuse t R.Shape (outcome_of
      (end_by close_more (record { left = opened gathered.begun line; kept = gathered.sum })))) (eq-eqb (length line) 256 h))
