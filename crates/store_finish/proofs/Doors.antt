-- What `finish` answers, test by test, and what the last rows are. Assumes nothing.
use mathlib.Core.Path.{◌≡◌, refl, sym, ap, ap₂, subst, ◌∙◌}
use mathlib.Core.Bool.{Bool, true, false, cond}
use mathlib.Core.List.{List, [], ◌++◌}
use Prim.Native.Nat.{ℕ, ◌+◌, ◌^◌, ◌≤◌, ◌<◌}
use native.Mathlib.Nat.{zero-add}
use native.Mathlib.Omega.{arith}
use lib.Dec.{ltb}
use lib.ListN.{length, length-append}
use borrow.Author.Tests.{lt-ltb, le-ltb, leb-true}
use Rattle.refusal.specs.Answer.{refusal_of}
use Rattle.refusal.specs.declared.Refusal.TheVariants as R
use Rattle.text_out.specs.Text.{Puts, Adds, place, written_of, room_for}
use Rattle.text_out.proofs.Added.{adds_then}
use Rattle.ledger_row.specs.Row.{refused_row}
use Rattle.ledger_row.proofs.Lengths.{refused_32}
use Rattle.ledger_totals.specs.Totals.{last_row}
use Rattle.ledger_totals.proofs.Fits.{fits_last}
use Rattle.ledger_feed.specs.Machine.{Kept, with_totals, row_more}
use Rattle.ledger_feed.specs.Promises.{Came, turned_by, many, full, came, came_as}
use Rattle.ledger_feed.proofs.Doors.{written_nothing}
use Rattle.ledger_finish.specs.Promises.{length_of, last_text, last_wrote}
use Rattle.ledger_finish.proofs.Doors.{placed_at, placed_full, unwritten}
use Rattle.store_rows.specs.Promises.{store_counts}
use Rattle.store_rows.specs.declared.StoreSoFar.{StoreSoFar}
use Rattle.store_finish.specs.Promises.{store_finished, last_pieces, fit_last, store_finish_of, FinishesStore}
use Rattle.std.specs.Prelude.{Option, None, Some, Result, Ok, Err}
use Rattle.ledger_feed.specs.declared.Unwritten.TheVariants as U
use Rattle.ledger_feed.specs.declared.Unwritten.{Unwritten}

-- ---- the last rows
module _ (state : StoreSoFar) where
  abbrev lines : ℕ
  lines = state.loaded + state.refused + 1

  pub finished_none : state.held ≡ 0 → last_row (state.loaded + state.refused) state.loaded state.refused ≡ store_finished state
  unfolding store_finished
  finished_none e = rw (le-ltb 0 state.held (omega arith))

  finished_some : (state.held ≡ 0 → ⊥) → refused_row lines 18 ++ last_row lines state.loaded (state.refused + 1) ≡ store_finished state
  unfolding store_finished
  finished_some n =
      let m : state.loaded + (state.refused + 1) ≡ lines = omega arith in
      let t : ltb 0 state.held ≡ true = lt-ltb 0 state.held (omega arith) in
      sym
      (ap (λ (b : Bool). with_totals (cond b (row_more (store_counts state) (refusal_of R.Length)) (store_counts state))) t
      ∙ ap (λ (k : ℕ). refused_row lines 18 ++ last_row k state.loaded (state.refused + 1)) m)

  pub finished_adds : (state.held ≡ 0 → ⊥) → (x y z : List ℕ) (b c : ℕ) → 116 ≤ length x → Adds x 0 (refused_row lines 18) y b
      → Adds y b (last_row lines state.loaded (state.refused + 1)) z c → Adds x 0 (store_finished state) z c
  finished_adds some x y z b c h first second =
      subst (λ (u : List ℕ). Adds x 0 u z c) (finished_some some)
      (adds_then first second (omega (arith, refused_32 lines 18 (let q : 18 < 100 = omega arith in q), fits_last lines state.loaded (state.refused + 1))))

  pub one_unfinished : (state.held ≡ 0 → ⊥) → last_pieces state ≡ lines
  one_unfinished some = rw (lt-ltb 0 state.held (omega arith))

  pub finished_116 : 0 + length (store_finished state) ≤ 116
  unfolding store_finished
  finished_116 = go (ltb 0 state.held)
    where
      go : (t : Bool) → 0 + length (with_totals (cond t (row_more (store_counts state) (refusal_of R.Length)) (store_counts state))) ≤ 116
      go true =
          let m : Kept = row_more (store_counts state) (refusal_of R.Length) in
          omega (
            arith,
            length-append (refused_row lines 18) (last_row (m.loaded + m.refused) m.loaded m.refused),
            refused_32 lines 18 (let q : 18 < 100 = omega arith in q),
            fits_last (m.loaded + m.refused) m.loaded m.refused,
          )
      go false = omega (arith, fits_last (state.loaded + state.refused) state.loaded state.refused)

-- ---- finish
module _ (state : StoreSoFar) (out : List ℕ) where
  last : List ℕ
  last = store_finished state

  pub by_tests : (s t u : Bool) → ltb state.held 34 ≡ s → ltb (last_pieces state) (2 ^ 64) ≡ t → room_for out 0 (store_finished state) ≡ u
      → store_finish_of state out ≡ fit_last s t u (store_finished state)
  by_tests s t u p q r = ap₂ (λ (x y : Bool). fit_last x y (room_for out 0 (store_finished state)) (store_finished state)) p q
      ∙ ap (λ (z : Bool). fit_last s t z (store_finished state)) r

  silent : (r : Result ℕ Unwritten) (a : Came (List ℕ)) → store_finish_of state out ≡ a → came_as r ≡ length_of a → last_text a ≡ [] → last_wrote (came_as r) ≡ 0
      → (out' : List ℕ) → out' ≡ out → FinishesStore state out r out'
  silent r a e f t z out' o = record {
    answer = f ∙ sym (ap length_of e);
    rows = o ∙ written_nothing out ∙ sym (ap (λ (b : Came (List ℕ)). written_of out 0 (last_text b)) e ∙ ap (written_of out 0) t);
    within = omega arith;
  }

  pub finish_shape : 34 ≤ state.held → FinishesStore state out (Err (U.Refused R.Shape)) out
  finish_shape n = silent (Err (U.Refused R.Shape)) (turned_by R.Shape) (by_tests false _ _ (le-ltb state.held 34 n) refl refl) refl refl refl out refl

  module _ (short : state.held < 34) where
    pub finish_many : ltb (last_pieces state) (2 ^ 64) ≡ false → FinishesStore state out (Err U.Many) out
    finish_many n = silent (Err U.Many) many (by_tests true false _ (lt-ltb state.held 34 short) n refl) refl refl refl out refl

    module _ (counts : ltb (last_pieces state) (2 ^ 64) ≡ true) (text : List ℕ) (is : text ≡ store_finished state) (out' : List ℕ) (p : Option ℕ)
        (put : Puts out out' 0 text p) where
      puts : Puts out out' 0 (store_finished state) p
      puts = subst (λ (t : List ℕ). Puts out out' 0 t p) is put

      pub finish_full : p ≡ None → FinishesStore state out (Err U.Full) out'
      unfolding last
      finish_full told =
          let none = placed_full out 0 last (sym (ap place told) ∙ puts.0) in
          silent (Err U.Full) full (by_tests true true false (lt-ltb state.held 34 short) counts none) refl refl refl out' (puts.1 ∙ unwritten out 0 last none)

      pub finish_rows : (n : ℕ) → p ≡ Some n → FinishesStore state out (Ok n) out'
      unfolding last
      finish_rows n told =
          let one = placed_at out 0 last n (sym (ap place told) ∙ puts.0) in
          let e : store_finish_of state out ≡ came last = by_tests true true true (lt-ltb state.held 34 short) counts one.0 in
          record {
            answer = ap came (one.1 ∙ zero-add (length last)) ∙ sym (ap length_of e);
            rows = puts.1 ∙ sym (ap (λ (a : Came (List ℕ)). written_of out 0 (last_text a)) e);
            within = fits n one.1 (leb-true (0 + length last) (length out) one.0);
          }
        where
          fits : (n : ℕ) → n ≡ 0 + length last → 0 + length last ≤ length out → n ≤ length out
          fits n a b = omega arith
