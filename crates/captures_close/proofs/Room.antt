-- The rows of a question that ended take 2,048 bytes at most: 32 captures, and the stopping point. Assumes nothing.
use mathlib.Core.Path.{◌≡◌, refl, sym, subst, ◌∙◌}
use mathlib.Core.Bool.{Bool, true, false, cond}
use mathlib.Core.List.{List, [], ◌∷◌}
use Prim.Native.Nat.{ℕ, ◌*◌, ◌≤◌}
use native.Mathlib.Omega.{arith}
use lib.Dec.{ltb}
use lib.ListN.{length, take, length-append}
use Rattle.refusal.specs.Answer.{Answer, given, refused, refusal_of}
use Rattle.refusal.specs.declared.Refusal.TheVariants as R
use Rattle.refusal.proofs.Answers.{given_not, same_given}
use Rattle.position_boards.specs.Boards.{bitboards_of}
use Rattle.position.specs.declared.State.{State}
use Rattle.line_parse.specs.Line.{Line, line_of}
use Rattle.exchange_start.specs.declared.Mode.{Mode}
use Rattle.exchange_start.proofs.Begun.{answered_knows, all_answered, a_side, from_on}
use Rattle.exchange_value.specs.Settled.{settled}
use Rattle.exchange.specs.Exchange.{Capture, values_taken, captures_of}
use Rattle.exchange.proofs.Settling.{at_most_32}
use Rattle.exchange.proofs.Room.{all_listed}
use Rattle.exchange_told.specs.Told.{told_of, the_stop}
use Rattle.exchange_told.proofs.Behind.{told_is}
use Rattle.ledger_row.proofs.Fits.{fits_refused}
use Rattle.captures_question.specs.Question.{move_field, order_field, nth_square, kinds_in, answer_to, question_of}
use Rattle.captures_row.specs.Rows.{capture_row, stop_row}
use Rattle.captures_row.proofs.Fits.{fits_capture, fits_stop}
use Rattle.captures_close.specs.Answered.{capture_rows, answer_rows, held_answer}

-- ---- an exchange that is told has 32 captures at most
few_given : (mode : Mode) (kinds bbs bytes : List ℕ) (state : State) (from to : ℕ) (cs : List Capture)
    → given cs ≡ told_of mode kinds bbs bytes state from to → length cs ≤ 32
few_given mode kinds bbs bytes state from to cs e =
    let all : List Capture = captures_of mode kinds bbs bytes state from to in
    let q = e ∙ told_is mode kinds bbs bytes state from to in
    let b = answered_knows mode kinds bbs bytes state from to all cs q in
    let same : cs ≡ all = same_given (q ∙ sym (all_answered mode kinds bbs bytes state from to all b)) in
    subst (λ (l : List Capture). length l ≤ 32) (all_listed mode kinds bbs bytes state from to (from_on b) (a_side b) b.may b.few ∙ sym same)
    (at_most_32 mode kinds bbs bytes state from to)

few_held : (mode : Mode) (line : List ℕ) (size : ℕ) (cs : List Capture) → given cs ≡ held_answer mode line size → length cs ≤ 32
few_held mode line size cs = go (ltb (length line) size)
  where
    q : List ℕ
    q = take size line

    said : (a : Answer Line) → given cs ≡ answer_to mode (kinds_in (order_field q)) (nth_square (move_field q) 0) (nth_square (move_field q) 2) a → length cs ≤ 32
    said (refused n v) e = given_not e
    said (given l) e = few_given mode (kinds_in (order_field q)) (bitboards_of l.board) l.board l.state (nth_square (move_field q) 0)
        (nth_square (move_field q) 2) cs e

    go : (t : Bool) → given cs ≡ cond t (refusal_of R.Long) (question_of mode q) → length cs ≤ 32
    go true e = given_not e
    go false e = said (line_of q) e

-- ---- and so many rows
length_captures : (number : ℕ) (cs : List Capture) → length (capture_rows number cs) ≤ 52 * length cs
unfolding capture_rows
length_captures number [] = omega arith
length_captures number (c ∷ cs) =
    omega (
      arith,
      length-append (capture_row number c.from c.kind c.taken) (capture_rows number cs),
      length_captures number cs,
      fits_capture number c.from c.kind c.taken,
    )

rows_room : (number : ℕ) (a : Answer (List Capture)) → ((cs : List Capture) → given cs ≡ a → length cs ≤ 32) → length (answer_rows number a) ≤ 2048
rows_room number (refused n v) few = omega (arith, fits_refused number n)
rows_room number (given cs) few =
    let worth = settled (values_taken cs) in
    omega (
      arith,
      length-append (capture_rows number cs) (stop_row number (the_stop cs) worth),
      length_captures number cs,
      few cs refl,
      fits_stop number (the_stop cs) worth,
    )

pub held_2048 : (mode : Mode) (number : ℕ) (line : List ℕ) (size : ℕ) → length (answer_rows number (held_answer mode line size)) ≤ 2048
held_2048 mode number line size = rows_room number (held_answer mode line size) (few_held mode line size)
