-- What was read of a line decides which of the two buffers it goes to. Assumes nothing.
use mathlib.Core.Path.{◌≡◌, refl, sym, ap, subst, ◌∙◌}
use mathlib.Core.Bool.{cond}
use mathlib.Core.List.{List}
use Prim.Native.Nat.{ℕ, ◌≤◌}
use native.Mathlib.Omega.{arith}
use lib.ListN.{length}
use Rattle.refusal.specs.Answer.{Answer, given, refused, answered}
use Rattle.refusal.specs.Refusals.{number_of, beside_of}
use Rattle.refusal.specs.declared.Refusal.{Refusal}
use Rattle.refusal.proofs.Answers.{given_not}
use Rattle.position_boards.specs.Boards.{bitboards_of}
use Rattle.position.specs.declared.State.{State}
use Rattle.text_out.specs.Text.{Adds}
use Rattle.text_out.proofs.Added.{adds_or}
use Rattle.line_ranks.specs.Promises.{empty_board}
use Rattle.line_parse.specs.Line.{Line}
use Rattle.line_parse.specs.Promises.{by_value, board_after}
use Rattle.line.specs.Promises.{bitboards_after, Reads}
use Rattle.line.specs.declared.inner.Loaded.{Loaded}
use Rattle.ledger_row.specs.Row.{refused_row, row_of, is_loaded}
use Rattle.ledger_row.specs.Promises.{PutsRefused}
use Rattle.text_out.proofs.Added.{adds_none}
use Rattle.sift_form.specs.Forms.{room_of, made_from, made_of}
use Rattle.sift_form.specs.Promises.{MakesForm}
use Rattle.sift_form.specs.declared.Form.{Form}
use Rattle.sift_form.proofs.Rooms.{room_most}
use Rattle.sift_close.specs.Ended.{made_by_rule, refused_row_of, ClosesSaid, is_read, made_read, row_read_rule, TellsRead}
use Rattle.sift_close.specs.declared.Closed.{Closed}
use Rattle.std.specs.Prelude.{Result, Ok, Err, Option}
use Rattle.std.specs.Option.{unwrap_or}

-- ---- what a line says, by what was read of it
said_refused : (a : Answer Line) (n : ℕ) (v : List ℕ) → refused n v ≡ by_value a → a ≡ refused n v
said_refused (given l) n v e = given_not (sym e)
said_refused (refused k u) n v e = let p : n ≡ k = cc in let q : v ≡ u = cc in λ i. refused (sym p i) (sym q i)

said_given : (a : Answer Line) (state : State) (half : ℕ) (board : List ℕ) → given (state, half) ≡ by_value a → board ≡ board_after a empty_board
    → a ≡ given (record { state = state; half = half; board = board })
said_given (given l) state half board e f =
    let p : ◌≡◌ {A = State × ℕ} (state, half) (l.state, l.half) = cc in sym (λ i. given (record { state = (p i).0; half = (p i).1; board = f i }))
said_given (refused n v) state half board e f = given_not e

-- ---- what was read goes to one of the two buffers
module _ (form : Form) (read : Loaded) (number : ℕ) (made : List ℕ) (at : ℕ) (rows : List ℕ) (from : ℕ) where
  pub tell_refused : (q : Refusal) → read.answer ≡ Err q → (rows' : List ℕ) (p : Option ℕ) → PutsRefused rows rows' from number q p → (end : ℕ)
      → end ≡ unwrap_or p from
      → TellsRead form read number made at rows from (record { loaded = 0; refused = 1; made = at; rows = end }) made rows'
  tell_refused q told rows' p puts end after = record {
    loaded = sym (ap (λ (x : Result (State × ℕ) Refusal). cond (is_read x) 1 0) told);
    refused = sym (ap (λ (x : Result (State × ℕ) Refusal). cond (is_read x) 0 1) told);
    making = subst (λ (x : Result (State × ℕ) Refusal). Adds made at (made_read form read.bitboards read.board x) made at) (sym told) (adds_none made at);
    rowing = subst (λ (x : Result (State × ℕ) Refusal). Adds rows from (row_read_rule number x) rows' end) (sym told)
        (adds_or rows from (refused_row number (number_of q)) rows' p end puts after);
  }

  pub tell_loaded : (state : State) (half : ℕ) → read.answer ≡ Ok (state, half) → (made' : List ℕ) (p : Option ℕ)
      → MakesForm form read.bitboards read.board state half made made' at p → (end : ℕ) → end ≡ unwrap_or p at
      → TellsRead form read number made at rows from (record { loaded = 1; refused = 0; made = end; rows = from }) made' rows
  tell_loaded state half told made' p puts end after = record {
    loaded = sym (ap (λ (x : Result (State × ℕ) Refusal). cond (is_read x) 1 0) told);
    refused = sym (ap (λ (x : Result (State × ℕ) Refusal). cond (is_read x) 0 1) told);
    making = subst (λ (x : Result (State × ℕ) Refusal). Adds made at (made_read form read.bitboards read.board x) made' end) (sym told)
        (adds_or made at (made_from form read.bitboards read.board state half) made' p end puts after);
    rowing = subst (λ (x : Result (State × ℕ) Refusal). Adds rows from (row_read_rule number x) rows from) (sym told) (adds_none rows from);
  }

  -- and what was read is what was said
  pub told_said : (said : Answer Line) → Reads said (bitboards_of empty_board) empty_board read.answer read.bitboards read.board
      → (r : Closed) (made' rows' : List ℕ) → TellsRead form read number made at rows from r made' rows'
      → ClosesSaid form said number made at rows from r made' rows'
  told_said said h r made' rows' t = go read.answer refl
    where
      go : (x : Result (State × ℕ) Refusal) → read.answer ≡ x → ClosesSaid form said number made at rows from r made' rows'
      go (Err q) e =
          let s : said ≡ refused (number_of q) (beside_of q) = said_refused said (number_of q) (beside_of q) (ap answered (sym e) ∙ h.answer) in
          record {
            loaded = t.loaded ∙ ap (λ (x : Result (State × ℕ) Refusal). cond (is_read x) 1 0) e ∙ sym (ap (λ (a : Answer Line). cond (is_loaded a) 1 0) s);
            refused = t.refused ∙ ap (λ (x : Result (State × ℕ) Refusal). cond (is_read x) 0 1) e ∙ sym (ap (λ (a : Answer Line). cond (is_loaded a) 0 1) s);
            making = subst (λ (a : Answer Line). Adds made at (made_by_rule (made_of form) a) made' r.made) (sym s)
                (subst (λ (x : Result (State × ℕ) Refusal). Adds made at (made_read form read.bitboards read.board x) made' r.made) e t.making);
            rowing = subst (λ (a : Answer Line). Adds rows from (refused_row_of number a) rows' r.rows) (sym s)
                (subst (λ (x : Result (State × ℕ) Refusal). Adds rows from (row_read_rule number x) rows' r.rows) e t.rowing);
          }
      go (Ok (state, half)) e =
          let l : Line = record { state = state; half = half; board = read.board } in
          let s : said ≡ given l = said_given said state half read.board (ap answered (sym e) ∙ h.answer) h.bytes in
          let b : read.bitboards ≡ bitboards_of read.board = h.boards ∙ ap (λ (a : Answer Line). bitboards_after a (bitboards_of empty_board)) s in
          record {
            loaded = t.loaded ∙ ap (λ (x : Result (State × ℕ) Refusal). cond (is_read x) 1 0) e ∙ sym (ap (λ (a : Answer Line). cond (is_loaded a) 1 0) s);
            refused = t.refused ∙ ap (λ (x : Result (State × ℕ) Refusal). cond (is_read x) 0 1) e ∙ sym (ap (λ (a : Answer Line). cond (is_loaded a) 0 1) s);
            making = subst (λ (a : Answer Line). Adds made at (made_by_rule (made_of form) a) made' r.made) (sym s)
                (subst (λ (x : List ℕ). Adds made at (made_from form x read.board state half) made' r.made) b
                (subst (λ (x : Result (State × ℕ) Refusal). Adds made at (made_read form read.bitboards read.board x) made' r.made) e t.making));
            rowing = subst (λ (a : Answer Line). Adds rows from (refused_row_of number a) rows' r.rows) (sym s)
                (subst (λ (x : Result (State × ℕ) Refusal). Adds rows from (row_read_rule number x) rows' r.rows) e t.rowing);
          }

-- ---- how long they are
pub made_most : (form : Form) (a : Answer Line) → length (made_by_rule (made_of form) a) ≤ room_of form
made_most form (given l) = room_most form (bitboards_of l.board) l.board l.state l.half
made_most form (refused n v) = omega arith

pub row_most : (number : ℕ) (a : Answer Line) → length (row_of number a) ≤ 32 → length (refused_row_of number a) ≤ 32
row_most number (given l) h = omega arith
row_most number (refused n v) h = h
