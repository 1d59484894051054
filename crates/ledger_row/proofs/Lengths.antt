-- No row of a line is longer than 32 bytes: 20 digits, ` refused `, two digits and LF. Assumes nothing.
use mathlib.Core.Path.{◌≡◌, refl, sym}
use mathlib.Core.Bool.{Bool, true, false}
use mathlib.Core.List.{List, ◌++◌}
use Prim.Native.Nat.{ℕ, suc, ◌≤◌, ◌<◌}
use native.Mathlib.Omega.{arith}
use lib.IntN.{ℤ, pos, negsuc}
use lib.ListN.{length, length-append}
use borrow.Author.Tests.{ltb-true}
use Rattle.refusal.specs.Answer.{Answer, given, refused, or_refuse}
use Rattle.refusal.specs.Refusals.{number_of}
use Rattle.refusal.specs.declared.Refusal.{Refusal}
use Rattle.refusal.proofs.Paper.{number_small}
use Rattle.position_boards.specs.Boards.{bitboards_of}
use Rattle.text_in.specs.Text.{text}
use Rattle.line_parse.specs.Line.{Line, line_of}
use Rattle.line_parse.proofs.Given.{given_spells}
use Rattle.line.proofs.Field.{refused_by}
use Rattle.score_taper.specs.Parts.{in16}
use Rattle.score_verdict.specs.Verdict.{lost, won, drawn, none}
use Rattle.score.specs.Score.{Outcome, verdict, score, score_of}
use Rattle.text_out.specs.Text.{decimal_of, signed_of}
use Rattle.text_out.proofs.Spelled.{length_below}
use Rattle.ledger_row.specs.Row.{spaced, shown_of, row_of, loaded_row, refused_row}
use Rattle.ledger_row.proofs.Fits.{length_spaced}
use Rattle.ledger_row.proofs.Rows.{score_short}

length_short : (z : ℤ) → in16 z ≡ true → length (signed_of z) ≤ 6
length_short (pos n) e = let h = ltb-true n 32768 e in omega (arith, length_below 20 4 n (omega arith))
length_short (negsuc n) e = let h = ltb-true n 32768 e in omega (arith, length_below 20 4 (suc n) (omega arith))

shown_6 : (a : Answer Outcome) → ((z : ℤ) → given (score z) ≡ a → in16 z ≡ true) → length (shown_of a) ≤ 6
shown_6 (given (verdict lost)) h = omega arith
shown_6 (given (verdict won)) h = omega arith
shown_6 (given (verdict drawn)) h = omega arith
shown_6 (given (verdict none)) h = omega arith
shown_6 (given (score z)) h = length_short z (h z refl)
shown_6 (refused n v) h = omega arith

-- ---- a refusal has two digits at most
pub test_small : {A : Type 0} (holds : Bool) (r : Refusal) (n : ℕ) (v : List ℕ) (rest : Answer A) → (refused n v ≡ rest → n < 100)
    → refused n v ≡ or_refuse holds r rest → n < 100
test_small true r n v rest k e = k e
test_small false r n v rest k e = let q : n ≡ number_of r = cc in omega (arith, number_small r)

-- ---- the rows
pub refused_32 : (number n : ℕ) → n < 100 → length (refused_row number n) ≤ 32
unfolding refused_row
refused_32 number n h =
    let a = length-append (spaced number) (text "refused " ++ (decimal_of n ++ text "\n")) in
    let b = length-append (decimal_of n) (text "\n") in
    omega (arith, length_spaced number, length_below 20 1 n (omega arith))

loaded_32 : (number half : ℕ) (a : Answer Outcome) → half < 10 → length (shown_of a) ≤ 6 → length (loaded_row number half a) ≤ 32
unfolding loaded_row
loaded_32 number half a h k =
    let p = length-append (spaced number) (spaced half ++ (shown_of a ++ text "\n")) in
    let q = length-append (spaced half) (shown_of a ++ text "\n") in
    let r = length-append (shown_of a) (text "\n") in
    let s = length-append (decimal_of half) (text " ") in
    omega (arith, length_spaced number, length_below 20 0 half (omega arith))

-- by whatever a reader said, where its refusals have two digits and its half points one
pub answer_32 : (number : ℕ) (a : Answer Line) → ((n : ℕ) (v : List ℕ) → refused n v ≡ a → n < 100) → ((l : Line) → given l ≡ a → l.half < 10)
    → length (row_of number a) ≤ 32
unfolding score_of
answer_32 number (refused n v) few half = refused_32 number n (few n v refl)
answer_32 number (given l) few half =
    loaded_32 number l.half (score_of (bitboards_of l.board) l.state) (half l refl)
    (shown_6 (score_of (bitboards_of l.board) l.state) (score_short (bitboards_of l.board) l.state))

pub row_32 : (number : ℕ) (line : List ℕ) → length (row_of number (line_of line)) ≤ 32
row_32 number line = answer_32 number (line_of line) (λ n v e. let h = refused_by line n v (sym e) in omega (arith, h.2))
    (λ l e. let half = (given_spells line l (sym e)).half in omega arith)
