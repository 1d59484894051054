-- Each way through a line gives what its definition says: "First in order wins." Assumes nothing.
use mathlib.Core.Path.{◌≡◌, sym, ap, ap₂, subst, ◌∙◌}
use mathlib.Core.Bool.{true, false}
use mathlib.Core.List.{List}
use Prim.Native.Nat.{ℕ, ◌≤◌, ◌<◌}
use native.Mathlib.Omega.{arith}
use lib.Dec.{ltb}
use lib.ListN.{length}
use borrow.Author.Tests.{lt-leb, le-leb, lt-ltb, le-ltb}
use Rattle.refusal.specs.Answer.{Answer, given, refusal_of, answered}
use Rattle.refusal.specs.declared.Refusal.{Refusal}
use Rattle.refusal.specs.declared.Refusal.TheVariants as R
use Rattle.position.specs.declared.State.{State}
use Rattle.text_in.specs.Text.{space, semicolon, is_text, is_space, every, holds, before, after, without, place_in}
use Rattle.text_in.proofs.Parts.{before_le, holds_is}
use Rattle.line_ranks.specs.Ranks.{are_eight_ranks, board_of}
use Rattle.line_ranks.specs.Promises.{empty_board}
use Rattle.line_tail.specs.Tail.{or_tail, tail_state, tail_of}
use Rattle.line_tail.specs.Promises.{ReadsTail}
use Rattle.line_tail.proofs.Tails.{spaces_too, tail_sound, tail_through, tail_refused}
use Rattle.line_parse.specs.Line.{Line, sides, results, ranks_of, side_word, position_field, result_field, with_result, fields_say, line_of}
use Rattle.line_parse.specs.Promises.{Says, Turned, by_value, board_after}
use Rattle.line_parse.specs.declared.Parsed.{Parsed}
use Rattle.std.specs.Prelude.{Result, Ok, Err}

abbrev parsed : State → ℕ → List ℕ → Parsed
parsed state half board = record { answer = Ok (state, half); board = board }

-- ---- RESULT
module _ (board result : List ℕ) (state : State) (half : ℕ) (q : half ≡ place_in results result) where
  pub bad_result : (r : Parsed) → Turned R.Result r → 3 ≤ half → Says (with_result board result state) r
  bad_result r h k =
      let u : ltb (place_in results result) 3 ≡ false = le-ltb (place_in results result) 3 (omega arith) in
      record { answer = ap answered h.answer ∙ rw u; board = h.board ∙ rw u }

  pub good : half < 3 → Says (with_result board result state) (parsed state half board)
  good k =
      let u : ltb (place_in results result) 3 ≡ true = lt-ltb (place_in results result) 3 (omega arith) in
      record { answer = rw (u, q); board = rw u }

-- ---- PLACE, SIDE, and what the rest of the field says
module _ (field result : List ℕ) where
  pub bad_place : (r : Parsed) → Turned R.Place r → are_eight_ranks (ranks_of field) ≡ false → Says (fields_say field result) r
  unfolding fields_say
  bad_place r h p = record { answer = ap answered h.answer ∙ rw p; board = h.board ∙ rw p }

  module _ (p : are_eight_ranks (ranks_of field) ≡ true) (side : ℕ) (e : side ≡ place_in sides (side_word field)) where
    pub bad_side : (r : Parsed) → Turned R.Side r → 2 ≤ side → Says (fields_say field result) r
    unfolding fields_say
    bad_side r h l =
        let s : ltb (place_in sides (side_word field)) 2 ≡ false = le-ltb (place_in sides (side_word field)) 2 (omega arith) in
        record { answer = ap answered h.answer ∙ rw (p, s); board = h.board ∙ rw (p, s) }

    module _ (l : side < 2) (board : List ℕ) (b : board ≡ board_of (ranks_of field)) (rest : List ℕ)
        (o : without is_space rest ≡ without is_space (after space field))
        (told : Result State Refusal) (t : ReadsTail board side rest told) where
      abbrev found : Answer Line
      found = with_result board result (tail_state side (after space field))

      all : or_tail board side (after space field) found ≡ fields_say field result
      unfolding fields_say
      all =
          let s : ltb (place_in sides (side_word field)) 2 ≡ true = lt-ltb (place_in sides (side_word field)) 2 (omega arith) in
          ap₂ (λ (x : List ℕ) (k : ℕ). or_tail x k (after space field) (with_result x result (tail_state k (after space field)))) b e ∙ rw (p, s)

      went : answered told ≡ tail_of board side (after space field)
      went = t ∙ spaces_too board side rest (after space field) o

      pub bad_rest : (q : Refusal) → told ≡ Err q → (r : Parsed) → Turned q r → Says (fields_say field result) r
      bad_rest q is r h =
          let f : refusal_of q ≡ fields_say field result = tail_refused board side (after space field) q (ap answered (sym is) ∙ went) found ∙ all in
          record { answer = ap answered h.answer ∙ ap by_value f; board = h.board ∙ ap (λ (a : Answer Line). board_after a empty_board) f }

      pub good_rest : (state : State) → told ≡ Ok state → (r : Parsed) → Says (with_result board result state) r → Says (fields_say field result) r
      good_rest state is r h =
          let g = tail_through board side (after space field) (given (tail_state side (after space field))) state (sym went ∙ ap answered is) in
          let same : tail_state side (after space field) ≡ state = cc g.1 in
          let f : with_result board result state ≡ fields_say field result =
          ap (with_result board result) (sym same) ∙ tail_sound board side (after space field) found g.0 ∙ all in
          subst (λ (a : Answer Line). Says a r) f h

-- ---- LONG, BYTE, FIELD
module _ (line : List ℕ) where
  pub too_long : (r : Parsed) → Turned R.Long r → 256 < length line → Says (line_of line) r
  unfolding line_of
  too_long r h l = let t = lt-leb (length line) 256 l in record { answer = ap answered h.answer ∙ rw t; board = h.board ∙ rw t }

  module _ (l : length line ≤ 256) where
    pub bad_byte : (r : Parsed) → Turned R.Byte r → every is_text line ≡ false → Says (line_of line) r
    unfolding line_of
    bad_byte r h e = let t = le-leb (length line) 256 l in record { answer = ap answered h.answer ∙ rw (t, e); board = h.board ∙ rw (t, e) }

    module _ (e : every is_text line ≡ true) (end : ℕ) (q : end ≡ length (before semicolon line)) where
      pub no_field : (r : Parsed) → Turned R.Field r → end ≡ length line → Says (line_of line) r
      unfolding line_of
      no_field r h n =
          let t = le-leb (length line) 256 l in
          let s : holds semicolon line ≡ false = holds_is semicolon line ∙ le-ltb (length (before semicolon line)) (length line) (omega arith) in
          record { answer = ap answered h.answer ∙ rw (t, e, s); board = h.board ∙ rw (t, e, s) }

      pub two_fields : (r : Parsed) → (end ≡ length line → ⊥) → Says (fields_say (position_field line) (result_field line)) r → Says (line_of line) r
      unfolding line_of
      two_fields r n h =
          let t = le-leb (length line) 256 l in
          let s : holds semicolon line ≡ true = holds_is semicolon line
          ∙ lt-ltb (length (before semicolon line)) (length line) (omega (arith, before_le semicolon line)) in
          rw (t, e, s) h
