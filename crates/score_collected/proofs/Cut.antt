-- THE TOTALS OF A COLLECTION, however it is cut. Assumes nothing.
use mathlib.Core.Path.{◌≡◌, sym, ap, subst, ◌∙◌}
use mathlib.Core.Bool.{Bool}
use mathlib.Core.List.{List, [], ◌∷◌}
use Prim.Native.Nat.{ℕ}
use lib.ListN.{length}
use borrow.Author.Tests.{eq-eqb}
use Rattle.refusal.specs.Answer.{Answer, given, or_refuse, answered}
use Rattle.refusal.specs.declared.Refusal.TheVariants as R
use Rattle.refusal.proofs.Answers.{given_not}
use Rattle.line_cut.specs.Lines.{lines_of}
use Rattle.line_cut.specs.Cut.{CutSoFar, run_by, end_by}
use Rattle.line_cut.specs.Promises.{opened}
use Rattle.line_cut.proofs.Machine.{run_append, run_size}
use Rattle.line_cut.proofs.Folded.{folded}
use Rattle.line_held.proofs.Said.{follows}
use Rattle.line_parse.specs.Line.{line_of}
use Rattle.score_collection.specs.Gather.{line_more}
use Rattle.score_collection.specs.Promises.{close_more, nothing, gathered_of, gathered_in, gather_of, line_kept, Gathers, outcome_of, end_of, EndsCollection}
use Rattle.score_collection.specs.declared.Sum.{Sum}
use Rattle.score_collection.specs.declared.Gathered.{Gathered}
use Rattle.score_collected.specs.Collected.{collected_of, PieceCall, handed_on, PiecesThen, whole_input, begun, Collected}
use Rattle.score_collected.proofs.Totals.{all_lines}
use Rattle.std.specs.Prelude.{Result, Ok, Err}
use Rattle.refusal.specs.declared.Refusal.{Refusal}
use Rattle.score_errors.specs.declared.Totals.{Totals}

-- ---- a call with a buffer of 256 bytes
lines_of_holds : (p : Result Gathered Refusal) (g : Gathered) → answered p ≡ given g → p ≡ Ok g
lines_of_holds (Ok x) g e = ap Ok (cc)
lines_of_holds (Err q) g e = given_not (sym e)

record Goes (m : CutSoFar Sum) (p : Result Gathered Refusal) (line' : List ℕ) : Type 0 where
  piece : p ≡ Ok (gathered_of m)
  kept : line' ≡ m.left.line

goes : (g : Gathered) (line chunk : List ℕ) (p : Result Gathered Refusal) (line' : List ℕ) → length line ≡ 256 → Gathers g line chunk p line'
    → Goes (run_by close_more (opened g.begun line) g.sum chunk) p line'
goes g line chunk p line' size f =
    let m : CutSoFar Sum = run_by close_more (opened g.begun line) g.sum chunk in
    let e : gather_of g line chunk ≡ given m = ap (λ (t : Bool). or_refuse t R.Shape (given m)) (eq-eqb (length line) 256 size) in
    record {
      piece = lines_of_holds p (gathered_of m) (f.answer ∙ ap gathered_in e);
      kept = f.kept ∙ ap (λ (a : Answer (CutSoFar Sum)). line_kept a line) e;
    }

ends : (g : Gathered) (line : List ℕ) → length line ≡ 256 → end_of g line ≡ outcome_of (end_by close_more (record { left = opened g.begun line; kept = g.sum }))
ends g line size =
    ap (λ (t : Bool). or_refuse t R.Shape (outcome_of (end_by close_more (record { left = opened g.begun line; kept = g.sum }))))
    (eq-eqb (length line) 256 size)

-- ---- one call after another: whatever is done last finds what the machine leaves of the whole input
pub come : (last : Gathered → List ℕ → Type 0) (g : Gathered) (line : List ℕ) (calls : List PieceCall) → length line ≡ 256 → PiecesThen last g line calls
    → last (gathered_of (run_by close_more (opened g.begun line) g.sum (whole_input calls)))
    (run_by close_more (opened g.begun line) g.sum (whole_input calls)).left.line
unfolding run_by PiecesThen whole_input
come last g line [] size made = made
come last g line (c ∷ cs) size made =
    let m : CutSoFar Sum = run_by close_more (opened g.begun line) g.sum c.chunk in
    let k = goes g line c.chunk c.piece c.line' size made.0 in
    let rest : PiecesThen last (gathered_of m) m.left.line cs =
    subst (λ (l : List ℕ). PiecesThen last (gathered_of m) l cs) k.kept
    (subst (λ (p : Result Gathered Refusal). PiecesThen last (handed_on p g) c.line' cs) k.piece made.1) in
    subst (λ (x : CutSoFar Sum). last (gathered_of x) x.left.line) (sym (run_append close_more (opened g.begun line) g.sum c.chunk (whole_input cs)))
    (come last (gathered_of m) m.left.line cs (run_size close_more (opened g.begun line) g.sum c.chunk ∙ size) rest)

-- what the machine leaves of a whole input, and what `end` makes of it
abbrev pub left_of : List ℕ → List ℕ → CutSoFar Sum
left_of line input = run_by close_more (opened begun.begun line) nothing input

pub end_left : (line input : List ℕ) → length line ≡ 256 → end_of (gathered_of (left_of line input)) (left_of line input).left.line ≡ collected_of input
end_left line input size =
    ends (gathered_of (left_of line input)) (left_of line input).left.line (run_size close_more (opened begun.begun line) nothing input ∙ size)
    ∙ ap outcome_of (folded close_more (λ (s : Sum) (l : List ℕ). line_more s (line_of l)) (follows line_more) line nothing input size)
    ∙ all_lines (lines_of input)

-- the claim, for every line buffer and all calls
pub collected : (line : List ℕ) (calls : List PieceCall) (r : Result (Totals × ℕ) Refusal) → Collected line calls r
collected line calls r = record {
  totals = λ size made.
      come (λ (g : Gathered) (l : List ℕ). EndsCollection g l r) begun line calls size made ∙ end_left line (whole_input calls) size;
}
