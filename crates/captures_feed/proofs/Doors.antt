-- What `feed` and `finish` answer, test by test. Assumes nothing.
use mathlib.Core.Path.{◌≡◌, refl, sym, ap, subst, ◌∙◌}
use mathlib.Core.Bool.{Bool, true, false}
use mathlib.Core.List.{List, []}
use Prim.Native.Nat.{ℕ, ◌+◌, ◌*◌, ◌/◌, ◌^◌, ◌≤◌, ◌<◌}
use native.Mathlib.Nat.{zero-add}
use native.Mathlib.Omega.{arith}
use lib.Dec.{leb, ltb}
use lib.ListN.{length}
use borrow.Author.Tests.{le-leb, lt-leb, ltb-true, leb-true}
use Rattle.refusal.specs.declared.Refusal.TheVariants as R
use Rattle.text_out.specs.Text.{Puts, place, written_of, room_for}
use Rattle.line_cut.specs.Lines.{ends}
use Rattle.exchange_start.specs.declared.Mode.{Mode}
use Rattle.ledger_feed.specs.Machine.{Machine, at}
use Rattle.ledger_feed.specs.Promises.{Came, turned_by, many, full, came, came_by_value, line_after, text_after, wrote, came_as}
use Rattle.ledger_feed.specs.declared.SoFar.{SoFar}
use Rattle.ledger_feed.proofs.Doors.{written_nothing, fit_shape, fit_many, fit_full, fit_came}
use Rattle.ledger_finish.specs.Promises.{last_lines, length_of, last_text, last_wrote}
use Rattle.ledger_finish.proofs.Doors.{placed_at, placed_full, unwritten}
use Rattle.captures_feed.specs.Machine.{run_told, finished_told}
use Rattle.captures_feed.specs.Promises.{tell_of, TellsQuestions, last_of, TellsLast, ReadyChunk, TakesChunk}
use Rattle.std.specs.Prelude.{Option, None, Some, Result, Ok, Err}
use Rattle.ledger_feed.specs.declared.Unwritten.TheVariants as U
use Rattle.ledger_feed.specs.declared.Unwritten.{Unwritten}

-- ---- feed
module _ (mode : Mode) (state : SoFar) (line chunk out : List ℕ) where
  lines : ℕ
  lines = state.loaded + state.refused + ends chunk

  room : Bool
  room = leb (2048 * ends chunk) (length out)

  m : Machine
  m = run_told mode (at state line []) chunk

  -- an answer of its own, with nothing changed
  unchanged : (r : Result (SoFar × ℕ) Unwritten) (a : Came Machine) → tell_of mode state line chunk out ≡ a → came_as r ≡ came_by_value a → line_after a line ≡ line → text_after a ≡ []
      → wrote (came_as r) ≡ 0
      → TellsQuestions mode state line chunk out r line out
  unchanged r a e f k t z = record {
    answer = f ∙ sym (ap came_by_value e);
    kept = sym (ap (λ (b : Came Machine). line_after b line) e ∙ k);
    rows = written_nothing out ∙ sym (ap (λ (b : Came Machine). written_of out 0 (text_after b)) e ∙ ap (written_of out 0) t);
    within = omega arith;
  }

  pub feed_shape : (length line ≡ 256 → ⊥) → TellsQuestions mode state line chunk out (Err (U.Refused R.Shape)) line out
  unfolding lines room m
  feed_shape n = unchanged (Err (U.Refused R.Shape)) (turned_by R.Shape) (fit_shape line lines room m n) refl refl refl refl

  module _ (size : length line ≡ 256) where
    pub feed_many : ltb (state.loaded + state.refused + ends chunk) (2 ^ 64) ≡ false → TellsQuestions mode state line chunk out (Err U.Many) line out
    unfolding lines room m
    feed_many n = unchanged (Err U.Many) many (fit_many line lines room m size n) refl refl refl refl

    module _ (counts : ltb (state.loaded + state.refused + ends chunk) (2 ^ 64) ≡ true) where
      pub feed_full : length out / 2048 < ends chunk → TellsQuestions mode state line chunk out (Err U.Full) line out
      unfolding lines room m
      feed_full n = unchanged (Err U.Full) full (fit_full line lines room m size counts (lt-leb (2048 * ends chunk) (length out) (omega arith))) refl refl refl refl

      pub feed_ready : ends chunk ≤ length out / 2048 → ReadyChunk state line chunk out
      feed_ready h = record { size = size; counts = ltb-true (state.loaded + state.refused + ends chunk) (2 ^ 64) counts; room = omega arith }

      pub feed_rows : ends chunk ≤ length out / 2048 → (r : Result (SoFar × ℕ) Unwritten) (line' out' : List ℕ) → TakesChunk mode state line chunk out r line' out'
          → TellsQuestions mode state line chunk out r line' out'
      unfolding lines room m
      feed_rows h r line' out' t =
          let e : tell_of mode state line chunk out ≡ came m = fit_came line lines room m size counts (le-leb (2048 * ends chunk) (length out) (omega arith)) in
          record {
            answer = ap came_as t.answer ∙ sym (ap came_by_value e);
            kept = t.kept ∙ sym (ap (λ (a : Came Machine). line_after a line) e);
            rows = t.rows ∙ sym (ap (λ (a : Came Machine). written_of out 0 (text_after a)) e);
            within = subst (λ (q : Result (SoFar × ℕ) Unwritten). wrote (came_as q) ≤ length out) (sym t.answer) t.within;
          }

-- ---- finish
module _ (mode : Mode) (state : SoFar) (line out : List ℕ) where
  text : List ℕ
  text = finished_told mode (at state line [])

  silent : (r : Result ℕ Unwritten) (a : Came (List ℕ)) → last_of mode state line out ≡ a → came_as r ≡ length_of a → last_text a ≡ [] → last_wrote (came_as r) ≡ 0
      → (out' : List ℕ) → out' ≡ out → TellsLast mode state line out r out'
  silent r a e f t z out' o = record {
    answer = f ∙ sym (ap length_of e);
    rows = o ∙ written_nothing out ∙ sym (ap (λ (b : Came (List ℕ)). written_of out 0 (last_text b)) e ∙ ap (written_of out 0) t);
    within = omega arith;
  }

  pub finish_shape : (length line ≡ 256 → ⊥) → TellsLast mode state line out (Err (U.Refused R.Shape)) out
  unfolding text
  finish_shape n = silent (Err (U.Refused R.Shape)) (turned_by R.Shape) (fit_shape line (last_lines state) (room_for out 0 text) text n) refl refl refl out refl

  module _ (size : length line ≡ 256) where
    pub finish_many : ltb (last_lines state) (2 ^ 64) ≡ false → TellsLast mode state line out (Err U.Many) out
    unfolding text
    finish_many n = silent (Err U.Many) many (fit_many line (last_lines state) (room_for out 0 text) text size n) refl refl refl out refl

    module _ (counts : ltb (last_lines state) (2 ^ 64) ≡ true) (made : List ℕ) (is : made ≡ finished_told mode (at state line [])) (out' : List ℕ)
        (p : Option ℕ) (put : Puts out out' 0 made p) where
      puts : Puts out out' 0 (finished_told mode (at state line [])) p
      puts = subst (λ (t : List ℕ). Puts out out' 0 t p) is put

      pub finish_full : p ≡ None → TellsLast mode state line out (Err U.Full) out'
      unfolding text
      finish_full told =
          let none = placed_full out 0 text (sym (ap place told) ∙ puts.0) in
          silent (Err U.Full) full (fit_full line (last_lines state) (room_for out 0 text) text size counts none) refl refl refl out'
          (puts.1 ∙ unwritten out 0 text none)

      pub finish_rows : (n : ℕ) → p ≡ Some n → TellsLast mode state line out (Ok n) out'
      unfolding text
      finish_rows n told =
          let one = placed_at out 0 text n (sym (ap place told) ∙ puts.0) in
          let e : last_of mode state line out ≡ came text = fit_came line (last_lines state) (room_for out 0 text) text size counts one.0 in
          record {
            answer = ap came (one.1 ∙ zero-add (length text)) ∙ sym (ap length_of e);
            rows = puts.1 ∙ sym (ap (λ (a : Came (List ℕ)). written_of out 0 (last_text a)) e);
            within = fits n one.1 (leb-true (0 + length text) (length out) one.0);
          }
        where
          fits : (n : ℕ) → n ≡ 0 + length text → 0 + length text ≤ length out → n ≤ length out
          fits n a b = omega arith
