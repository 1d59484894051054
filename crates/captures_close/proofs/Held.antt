-- What the door tells is what the question asks: LONG, the line's refusals, those of the exchange, or its captures. Assumes nothing.
use mathlib.Core.Path.{◌≡◌, refl, sym, ap, ap₂, subst, ◌∙◌}
use mathlib.Core.Bool.{Bool, true, false, cond}
use mathlib.Core.List.{List, [], ◌++◌}
use Prim.Native.Nat.{ℕ, ◌≤◌}
use native.Mathlib.Omega.{arith}
use lib.Dec.{ltb}
use lib.ListN.{length, take}
use borrow.Author.Tests.{ltb-false}
use Rattle.refusal.specs.Answer.{Answer, given, refused, refusal_of, answered}
use Rattle.refusal.specs.Refusals.{number_of, beside_of}
use Rattle.refusal.specs.declared.Refusal.{Refusal}
use Rattle.refusal.specs.declared.Refusal.TheVariants as R
use Rattle.refusal.proofs.Answers.{given_not}
use Rattle.position_boards.specs.Boards.{bitboards_of}
use Rattle.position.specs.declared.State.{State}
use Rattle.line_ranks.specs.Promises.{empty_board}
use Rattle.line_parse.specs.Line.{Line, line_of}
use Rattle.line_parse.specs.Promises.{by_value, board_after}
use Rattle.line.specs.Promises.{bitboards_after}
use Rattle.line.specs.declared.inner.Loaded.{Loaded}
use Rattle.line_held.specs.Held.{said_of, ReadsHeld}
use Rattle.text_out.specs.Text.{Puts}
use Rattle.exchange_start.specs.declared.Mode.{Mode}
use Rattle.exchange_start.proofs.Begun.{knows, tells, passes_on, a_side, from_on}
use Rattle.exchange_value.specs.Settled.{settled}
use Rattle.exchange.specs.Exchange.{Capture, captures_of}
use Rattle.exchange.specs.Listed.{column}
use Rattle.exchange.specs.Promises.{HoldsCaptures}
use Rattle.exchange.specs.declared.inner.Listed.{Listed}
use Rattle.exchange.proofs.Columns.{column_length, column_taken}
use Rattle.exchange.proofs.Settling.{at_most_32}
use Rattle.exchange.proofs.Room.{all_listed}
use Rattle.exchange_told.specs.Told.{told_of, the_captures, the_stop}
use Rattle.exchange_told.specs.Promises.{Captures}
use Rattle.exchange_told.specs.declared.Told.{Told}
use Rattle.exchange_told.proofs.Behind.{told_is}
use Rattle.ledger_row.specs.Row.{refused_row, is_loaded}
use Rattle.ledger_row.specs.Promises.{PutsRow}
use Rattle.ledger_row.specs.declared.Row.{Row}
use Rattle.captures_question.specs.Question.{move_field, order_field, nth_square, kinds_in, answer_to, question_of}
use Rattle.captures_question.specs.Promises.{Asks}
use Rattle.captures_question.specs.declared.inner.Asked.{Asked}
use Rattle.captures_row.specs.Rows.{stop_row}
use Rattle.captures_close.specs.Answered.{told_rows, answer_rows, held_answer, AnswersHeld}
use Rattle.captures_close.specs.PrivateColumns.{rows_up_to, listed_rows, checked_rows, Filled}
use Rattle.captures_close.proofs.Columns.{rows_of_all_holds}
use Rattle.std.specs.Prelude.{Result, Ok, Err, Option}

-- ---- what was put
pub put_fit : (old new : List ℕ) (at number : ℕ) (checked : Result Unit Refusal) (l : Listed) (stop : Option ℕ) (p : Option ℕ) → checked ≡ Ok tt
    → Puts old new at (listed_rows number l stop) p
    → PutsRow old new at (answered checked) (checked_rows number checked l stop) (record { placed = p; loaded = true })
put_fit old new at number checked l stop p e h =
    subst (λ (x : Result Unit Refusal). PutsRow old new at (answered x) (checked_rows number x l stop) (record { placed = p; loaded = true })) (sym e)
    (record { puts = h; loaded = refl })

pub put_refused : (old new : List ℕ) (at number : ℕ) (checked : Result Unit Refusal) (l : Listed) (stop : Option ℕ) (p : Option ℕ) (q : Refusal) → checked ≡ Err q
    → Puts old new at (refused_row number (number_of q)) p
    → PutsRow old new at (answered checked) (checked_rows number checked l stop) (record { placed = p; loaded = false })
put_refused old new at number checked l stop p q e h =
    subst (λ (x : Result Unit Refusal). PutsRow old new at (answered x) (checked_rows number x l stop) (record { placed = p; loaded = false })) (sym e)
    (record { puts = h; loaded = refl })

-- ---- what the door tells
module _ (mode : Mode) (kinds bbs bytes : List ℕ) (state : State) (from to : ℕ) (r : Told) (promise : Captures mode kinds bbs bytes state from to r) where
  cs : List Capture
  cs = captures_of mode kinds bbs bytes state from to

  a : Answer (List Capture)
  a = told_of mode kinds bbs bytes state from to

  goes_through : r.checked ≡ Ok tt → a ≡ given cs
  unfolding cs a
  goes_through e = told_is mode kinds bbs bytes state from to ∙ sym (tells mode kinds bbs bytes state from to r.checked promise.0 cs e)

  turned_away : (q : Refusal) → r.checked ≡ Err q → a ≡ refusal_of q
  unfolding cs a
  turned_away q e = told_is mode kinds bbs bytes state from to ∙ sym (passes_on mode kinds bbs bytes state from to r.checked promise.0 cs q e)

  short : r.checked ≡ Ok tt → length cs ≤ 32
  unfolding cs
  short e =
      let b = knows mode kinds bbs bytes state from to r.checked promise.0 e in
      subst (λ (l : List Capture). length l ≤ 32) (all_listed mode kinds bbs bytes state from to (from_on b) (a_side b) b.may b.few)
      (at_most_32 mode kinds bbs bytes state from to)

  holds : (l : List Capture) → the_captures a ≡ l → HoldsCaptures l r.listed
  unfolding a
  holds l e = subst (λ (x : List Capture). HoldsCaptures x r.listed) e promise.1

  pub filled : Filled r.listed
  filled = go r.checked refl
    where
      of : (l : List Capture) → length l ≤ 32 → HoldsCaptures l r.listed → Filled r.listed
      of l n h = record {
        most = omega (arith, h.0);
        froms = rw h.1 (omega (arith, h.0, column_length (λ c. c.from) 32 l));
        kinds = rw h.2 (omega (arith, h.0, column_length (λ c. c.kind) 32 l));
        values = rw h.3 (omega (arith, h.0, column_length (λ c. c.taken) 32 l));
      }

      go : (x : Result Unit Refusal) → r.checked ≡ x → Filled r.listed
      go (Ok tt) e = of cs (short e) (holds cs (ap the_captures (goes_through e)))
      go (Err q) e = of [] (omega arith) (holds [] (ap the_captures (turned_away q e)))

  rows_fit : r.checked ≡ Ok tt → (number : ℕ) → listed_rows number r.listed r.stop ≡ told_rows number cs
  unfolding a
  rows_fit e number =
      let t = ap the_captures (goes_through e) in
      let h = holds cs t in
      let few = short e in
      ap₂ ◌++◌
      (ap (λ (n : ℕ). rows_up_to n number r.listed.from r.listed.kind r.listed.taken) h.0
      ∙ ap₂ (λ (f k : List ℕ). rows_up_to (length cs) number f k r.listed.taken) h.1 h.2
      ∙ ap (rows_up_to (length cs) number (column 32 (λ c. c.from) cs) (column 32 (λ c. c.kind) cs)) h.3 ∙ rows_of_all_holds 32 number cs few)
      (ap₂ (stop_row number) (promise.2 ∙ ap the_stop t)
      (ap settled (ap₂ (λ (n : ℕ) (l : List ℕ). take n l) h.0 h.3 ∙ column_taken (λ c. c.taken) 32 cs few)))

  pub rows_told : (number : ℕ) → checked_rows number r.checked r.listed r.stop ≡ answer_rows number (told_of mode kinds bbs bytes state from to)
  unfolding a
  rows_told number = go r.checked refl
    where
      go : (x : Result Unit Refusal) → r.checked ≡ x → checked_rows number x r.listed r.stop ≡ answer_rows number a
      go (Ok tt) e = rows_fit e number ∙ sym (ap (answer_rows number) (goes_through e))
      go (Err q) e = sym (ap (answer_rows number) (turned_away q e))

  pub is_told : is_loaded (answered r.checked) ≡ is_loaded (told_of mode kinds bbs bytes state from to)
  unfolding a
  is_told = go r.checked refl
    where
      go : (x : Result Unit Refusal) → r.checked ≡ x → is_loaded (answered x) ≡ is_loaded a
      go (Ok tt) e = sym (ap is_loaded (goes_through e))
      go (Err q) e = sym (ap is_loaded (turned_away q e))

-- ---- what was read of the line
abbrev asked : Mode → List ℕ → Answer Line → Answer (List Capture)
asked mode q said = answer_to mode (kinds_in (order_field q)) (nth_square (move_field q) 0) (nth_square (move_field q) 2) said

asked_held : (mode : Mode) (line : List ℕ) (size : ℕ) → asked mode (take size line) (said_of line size) ≡ held_answer mode line size
asked_held mode line size = go (ltb (length line) size)
  where
    go : (t : Bool) → asked mode (take size line) (cond t (refusal_of R.Long) (line_of (take size line)))
        ≡ cond t (refusal_of R.Long) (question_of mode (take size line))
    go true = refl
    go false = refl

module _ (mode : Mode) (line : List ℕ) (size : ℕ) (read : Loaded) (reads : ReadsHeld line size read) where
  abbrev Row-of : List ℕ → List ℕ → ℕ → ℕ → Answer (List Capture) → Row → Type 0
  Row-of old new at number said r = PutsRow old new at said (answer_rows number said) r

  pub line_refused : (q : Refusal) → read.answer ≡ Err q → (old new : List ℕ) (at number : ℕ) (p : Option ℕ)
      → Puts old new at (refused_row number (number_of q)) p → AnswersHeld mode old new at number line size (record { placed = p; loaded = false })
  line_refused q told old new at number p h =
      subst (λ (x : Answer (List Capture)). Row-of old new at number x (record { placed = p; loaded = false }))
      (go (said_of line size) (sym (ap answered told) ∙ reads.answer) ∙ asked_held mode line size)
      (record { puts = h; loaded = refl })
    where
      go : (s : Answer Line) → refusal_of q ≡ by_value s → refusal_of q ≡ asked mode (take size line) s
      go (given l) e = given_not (sym e)
      go (refused n v) e =
          let a : number_of q ≡ n = cc in
          let b : beside_of q ≡ v = cc in
          ap₂ (λ (m : ℕ) (l : List ℕ). refused m l) a b

  -- the line is held whole
  pub line_held : (state : State) (half : ℕ) → read.answer ≡ Ok (state, half) → size ≤ length line
  line_held state half told = go (ltb (length line) size) refl (sym (ap answered told) ∙ reads.answer)
    where
      go : (t : Bool) → ltb (length line) size ≡ t → given (state, half) ≡ by_value (cond t (refusal_of R.Long) (line_of (take size line))) → size ≤ length line
      go true e f = given_not f
      go false e f = ltb-false (length line) size e

  pub line_asked : (state : State) (half : ℕ) → read.answer ≡ Ok (state, half) → (question : Asked) → Asks (take size line) question
      → told_of mode question.order read.bitboards read.board state question.from question.to ≡ held_answer mode line size
  line_asked state half told question asks = go (said_of line size) (sym (ap answered told) ∙ reads.answer) reads.boards reads.bytes
      ∙ asked_held mode line size
    where
      go : (s : Answer Line) → given (state, half) ≡ by_value s → read.bitboards ≡ bitboards_after s (bitboards_of empty_board)
          → read.board ≡ board_after s empty_board
          → told_of mode question.order read.bitboards read.board state question.from question.to ≡ asked mode (take size line) s
      go (refused n v) e f g = given_not e
      go (given l) e f g =
          let both : ◌≡◌ {A = State × ℕ} (state, half) (l.state, l.half) = cc in
          let s : state ≡ l.state = ap (λ (x : State × ℕ). x.0) both in
          let k = asks.kinds in
          let x = asks.start in
          let y = asks.target in
          ap₂ (λ (bbs bytes : List ℕ). told_of mode question.order bbs bytes state question.from question.to) f g
          ∙ ap₂ (λ (o : List ℕ) (t : State). told_of mode o (bitboards_of l.board) l.board t question.from question.to) k s
          ∙ ap₂ (told_of mode (kinds_in (order_field (take size line))) (bitboards_of l.board) l.board l.state) x y

  pub line_told : (state : State) (half : ℕ) → read.answer ≡ Ok (state, half) → (question : Asked) → Asks (take size line) question → (r : Told)
      → Captures mode question.order read.bitboards read.board state question.from question.to r
      → (old new : List ℕ) (at number : ℕ) (row : Row)
      → PutsRow old new at (answered r.checked) (checked_rows number r.checked r.listed r.stop) row
      → AnswersHeld mode old new at number line size row
  line_told state half told question asks r promise old new at number row h =
      let e = line_asked state half told question asks in
      record {
        puts =
            subst (λ (t : List ℕ). Puts old new at t row.placed)
            (rows_told mode question.order read.bitboards read.board state question.from question.to r promise number
            ∙ ap (answer_rows number) e) h.puts;
        loaded = h.loaded ∙ is_told mode question.order read.bitboards read.board state question.from question.to r promise ∙ ap is_loaded e;
      }
