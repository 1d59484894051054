-- The machine over a whole input writes the rows of its questions, and counts them: the tool is one consumer of lines (line_cut/proofs/Folded).
-- Assumes nothing.
use mathlib.Core.Path.{◌≡◌, refl, sym, ap, ◌∙◌}
use mathlib.Core.Bool.{Bool, true, false, cond, not}
use mathlib.Core.List.{List, [], ◌∷◌, ◌++◌, append_assoc}
use Prim.Native.Nat.{ℕ, suc, ◌+◌}
use native.Mathlib.Nat.{add-zero, zero-add}
use native.Mathlib.Omega.{arith}
use lib.Dec.{ltb}
use lib.ListN.{length, take}
use borrow.Author.Tests.{ltb-true, ltb-false}
use Rattle.refusal.specs.Answer.{Answer, refusal_of}
use Rattle.refusal.specs.declared.Refusal.TheVariants as R
use Rattle.line_parse.specs.Line.{Line}
use Rattle.exchange_start.specs.declared.Mode.{Mode}
use Rattle.exchange.specs.Exchange.{Capture}
use Rattle.ledger_row.specs.Row.{is_loaded}
use Rattle.line_cut.specs.Lines.{lines_of, fold_lines}
use Rattle.line_cut.specs.Cut.{CutSoFar, run_by, end_by}
use Rattle.line_cut.specs.Promises.{fresh_line}
use Rattle.line_cut.proofs.Views.{Holds}
use Rattle.line_cut.proofs.Folded.{Follows, folded}
use Rattle.line_held.proofs.Said.{long_line}
use Rattle.ledger_feed.specs.Machine.{Kept, no_rows, at, machine_of, tally}
use Rattle.ledger_feed.proofs.Counted.{tally_both, loaded_more, refused_more_holds}
use Rattle.ledger_whole.specs.Calls.{fresh}
use Rattle.ledger_whole.proofs.Machines.{lines_in, all_counted}
use Rattle.captures_question.specs.Question.{move_field, order_field, nth_square, kinds_in, answer_to, question_of}
use Rattle.captures_row.specs.Rows.{counts_row}
use Rattle.captures_close.specs.Answered.{answer_rows, held_answer}
use Rattle.captures_feed.specs.Machine.{told_more, close_told, run_told, last_told, finished_told}
use Rattle.captures_whole.specs.Questions.{answers_from, told_in, untold_in, answers_of}

-- ---- where a buffer and a number of bytes tell a question, they get its answer: LONG comes first
held_holds : (mode : Mode) (line : List ℕ) (size : ℕ) (l : List ℕ) → Holds line size l → held_answer mode line size ≡ question_of mode l
held_holds mode line size l h =
    ap (λ (n : ℕ). cond (ltb n size) (refusal_of R.Long) (question_of mode (take size line))) h.whole ∙ go (ltb 256 size) refl
  where
    asked : Answer Line → Answer (List Capture)
    asked = answer_to mode (kinds_in (order_field l)) (nth_square (move_field l) 0) (nth_square (move_field l) 2)

    go : (u : Bool) → ltb 256 size ≡ u → cond u (refusal_of R.Long) (question_of mode (take size line)) ≡ question_of mode l
    go true q = ap asked (long_line l (h.long (ltb-true 256 size q)))
    go false q = ap (question_of mode) (h.front (ltb-false 256 size q))

-- the rows and the totals that lines make, after so many loaded and refused
abbrev rest : Mode → List ℕ → ℕ → ℕ → List (List ℕ) → List ℕ
rest mode text loaded refused ls =
    text ++ (answers_from mode (loaded + refused + 1) ls ++ counts_row (loaded + refused + length ls) (loaded + told_in mode ls) (refused + untold_in mode ls))

-- a question more, of which the answer is known
rest_cons : (mode : Mode) (text : List ℕ) (loaded refused : ℕ) (a : Answer (List Capture)) (l : List ℕ) (ls : List (List ℕ)) → a ≡ question_of mode l
    → rest mode (text ++ answer_rows (loaded + refused + 1) a) (tally loaded (is_loaded a)) (tally refused (not (is_loaded a))) ls
    ≡ rest mode text loaded refused (l ∷ ls)
unfolding answers_from told_in untold_in
rest_cons mode text loaded refused a l ls e =
    let t : Bool = is_loaded (question_of mode l) in
    let both : tally loaded t + tally refused (not t) ≡ loaded + refused + 1 = tally_both t loaded refused in
    let many : loaded + refused + 1 + length ls ≡ loaded + refused + suc (length ls) = omega arith in
    let row : List ℕ = answer_rows (loaded + refused + 1) (question_of mode l) in
    let rows : List ℕ = answers_from mode (loaded + refused + 1 + 1) ls in
    let last : List ℕ = counts_row (loaded + refused + suc (length ls)) (loaded + (cond t 1 0 + told_in mode ls)) (refused + (cond t 0 1 + untold_in mode ls)) in
    rw (e, both, many, loaded_more t loaded (told_in mode ls), refused_more_holds t refused (untold_in mode ls))
    (append_assoc text row (rows ++ last) ∙ ap (λ (x : List ℕ). text ++ x) (sym (append_assoc row rows last)))

rest_nil : (mode : Mode) (text : List ℕ) (loaded refused : ℕ) → text ++ counts_row (loaded + refused) loaded refused ≡ rest mode text loaded refused []
unfolding answers_from told_in untold_in
rest_nil mode text loaded refused = rw (add-zero (loaded + refused), add-zero loaded, add-zero refused)

-- ---- what a question does to what is kept, by the question itself
abbrev row_line : Mode → Kept → List ℕ → Kept
row_line mode r l = told_more r (question_of mode l)

follows_told : (mode : Mode) → Follows (close_told mode) (row_line mode)
follows_told mode s line size l h = ap (told_more s) (held_holds mode line size l h)

fold_rest : (mode : Mode) (r : Kept) (ls : List (List ℕ)) → last_told (fold_lines (row_line mode) r ls) ≡ rest mode r.text r.loaded r.refused ls
unfolding fold_lines
fold_rest mode r [] = rest_nil mode r.text r.loaded r.refused
fold_rest mode r (l ∷ ls) = fold_rest mode (row_line mode r l) ls ∙ rest_cons mode r.text r.loaded r.refused (question_of mode l) l ls refl

-- THE MACHINE: from nothing, whatever the buffer held
pub machine_answers : (mode : Mode) (line s : List ℕ) → length line ≡ 256 → finished_told mode (run_told mode (at fresh line []) s) ≡ answers_of mode s
unfolding answers_of
machine_answers mode line s h =
    ap last_told (folded (close_told mode) (row_line mode) (follows_told mode) line no_rows s h) ∙ fold_rest mode no_rows (lines_of s)
    ∙ rw (zero-add (length (lines_of s)), zero-add (told_in mode (lines_of s)), zero-add (untold_in mode (lines_of s)))

lines_end : (mode : Mode) (r : CutSoFar Kept) → lines_in (machine_of r) ≡ all_counted (end_by (close_told mode) r)
lines_end mode r = go (ltb 0 r.left.held)
  where
    a : Answer (List Capture)
    a = held_answer mode r.left.line r.left.held

    go : (t : Bool) → r.kept.loaded + r.kept.refused + cond t 1 0 ≡ all_counted (cond t (told_more r.kept a) r.kept)
    go true = sym (tally_both (is_loaded a) r.kept.loaded r.kept.refused)
    go false = add-zero (r.kept.loaded + r.kept.refused)

fold_count : (mode : Mode) (r : Kept) (ls : List (List ℕ)) → all_counted (fold_lines (row_line mode) r ls) ≡ all_counted r + length ls
unfolding fold_lines
fold_count mode r [] = sym (add-zero (all_counted r))
fold_count mode r (l ∷ ls) =
    fold_count mode (row_line mode r l) ls ∙ (let both = tally_both (is_loaded (question_of mode l)) r.loaded r.refused in omega arith)

pub machine_lines : (mode : Mode) (line s : List ℕ) → length line ≡ 256 → lines_in (run_told mode (at fresh line []) s) ≡ length (lines_of s)
machine_lines mode line s h =
    lines_end mode (run_by (close_told mode) (fresh_line line) no_rows s)
    ∙ ap all_counted (folded (close_told mode) (row_line mode) (follows_told mode) line no_rows s h) ∙ fold_count mode no_rows (lines_of s)
    ∙ zero-add (length (lines_of s))
