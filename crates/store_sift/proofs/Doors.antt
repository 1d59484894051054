-- What `feed` answers, test by test. Assumes nothing.
use mathlib.Core.Path.{◌≡◌, refl, sym, ap, ap₂, subst, ◌∙◌}
use mathlib.Core.Bool.{Bool, true, false, ◌&&◌}
use mathlib.Core.List.{List, []}
use Prim.Native.Nat.{ℕ, ◌+◌, ◌*◌, ◌/◌, ◌^◌, ◌≤◌, ◌<◌}
use native.Mathlib.Omega.{arith}
use lib.Dec.{leb, ltb}
use lib.ListN.{length}
use borrow.Author.Tests.{le-leb, lt-leb, ltb-true}
use Rattle.refusal.specs.declared.Refusal.TheVariants as R
use Rattle.text_out.specs.Text.{written_of}
use Rattle.ledger_feed.specs.Promises.{Came, turned_by, many, full, came, came_as}
use Rattle.ledger_feed.proofs.Doors.{written_nothing}
use Rattle.store_cut.specs.Cut.{PiecesSoFar}
use Rattle.store_rows.specs.Promises.{ends_store}
use Rattle.store_rows.specs.declared.StoreSoFar.{StoreSoFar}
use Rattle.store_rows.proofs.Doors.{fit_shape, fit_held, fit_many, fit_full, fit_came}
use Rattle.sift_form.specs.Forms.{room_of, made_of}
use Rattle.sift_form.specs.declared.Form.{Form}
use Rattle.sift_form.proofs.Rooms.{room_some}
use Rattle.sift_feed.specs.Sifting.{Sifting}
use Rattle.sift_feed.proofs.Doors.{room_lacks, room_holds, and_false}
use Rattle.store_sift.specs.Promises.{sift_store, store_sift_room, store_sift_of, store_sifted_by_value, piece_sifted, sifting_out}
use Rattle.store_sift.specs.Promises.{store_sifted_bytes, SiftsStore, ReadyToSiftStore, TakesSiftedStore}
use Rattle.std.specs.Prelude.{Result, Err}
use Rattle.ledger_feed.specs.declared.Unwritten.TheVariants as U
use Rattle.ledger_feed.specs.declared.Unwritten.{Unwritten}

row_lacks : (n k : ℕ) → n / 32 < k → n < 32 * k
row_lacks n k h = omega arith

row_holds : (n k : ℕ) → k ≤ n / 32 → 32 * k ≤ n
row_holds n k h = omega arith

module _ (state : StoreSoFar) (form : Form) (piece chunk made rows : List ℕ) where
  abbrev counted : ℕ
  counted = state.loaded + state.refused + ends_store state chunk

  abbrev room : Bool
  room = store_sift_room form state chunk made rows

  abbrev run : PiecesSoFar Sifting
  run = sift_store (made_of form) state piece chunk

  abbrev nothing : Sifting
  nothing = record { loaded = 0; refused = 0; made = []; rows = [] }

  -- an answer of its own, with nothing changed
  unchanged : (r : Result (StoreSoFar × ℕ × ℕ) Unwritten) (a : Came (PiecesSoFar Sifting)) → store_sift_of state form piece chunk made rows ≡ a
      → came_as r ≡ store_sifted_by_value a → piece_sifted a piece ≡ piece
      → sifting_out a ≡ nothing → store_sifted_bytes (came_as r) ≡ (0, 0) → SiftsStore state form piece chunk made rows r piece made rows
  unchanged r a e f k t z = record {
    answer = f ∙ sym (ap store_sifted_by_value e);
    kept = sym (ap (λ (b : Came (PiecesSoFar Sifting)). piece_sifted b piece) e ∙ k);
    making = written_nothing made ∙ sym (ap (λ (b : Came (PiecesSoFar Sifting)). written_of made 0 (sifting_out b).made) e
        ∙ ap (λ (x : Sifting). written_of made 0 x.made) t);
    rowing = written_nothing rows ∙ sym (ap (λ (b : Came (PiecesSoFar Sifting)). written_of rows 0 (sifting_out b).rows) e
        ∙ ap (λ (x : Sifting). written_of rows 0 x.rows) t);
    made_within = subst (λ (x : ℕ × ℕ). x.0 ≤ length made) (sym z) (omega arith);
    rows_within = subst (λ (x : ℕ × ℕ). x.1 ≤ length rows) (sym z) (omega arith);
  }

  pub feed_shape : (length piece ≡ 34 → ⊥) → SiftsStore state form piece chunk made rows (Err (U.Refused R.Shape)) piece made rows
  feed_shape n = unchanged (Err (U.Refused R.Shape)) (turned_by R.Shape) (fit_shape piece state.held counted room run n) refl refl refl refl

  pub feed_held : 34 ≤ state.held → SiftsStore state form piece chunk made rows (Err (U.Refused R.Shape)) piece made rows
  feed_held n = unchanged (Err (U.Refused R.Shape)) (turned_by R.Shape) (fit_held piece state.held counted room run n) refl refl refl refl

  module _ (size : length piece ≡ 34) (short : state.held < 34) where
    pub feed_many : ltb (state.loaded + state.refused + ends_store state chunk) (2 ^ 64) ≡ false
        → SiftsStore state form piece chunk made rows (Err U.Many) piece made rows
    feed_many n = unchanged (Err U.Many) many (fit_many piece state.held counted room run size short n) refl refl refl refl

    module _ (counts : ltb (state.loaded + state.refused + ends_store state chunk) (2 ^ 64) ≡ true) where
      too_full : room ≡ false → SiftsStore state form piece chunk made rows (Err U.Full) piece made rows
      too_full e = unchanged (Err U.Full) full (fit_full piece state.held counted room run size short counts e) refl refl refl refl

      pub feed_full : length made / room_of form < ends_store state chunk → SiftsStore state form piece chunk made rows (Err U.Full) piece made rows
      feed_full h =
          too_full
          (ap (λ (t : Bool). t && leb (32 * ends_store state chunk) (length rows))
          (lt-leb (room_of form * ends_store state chunk) (length made) (room_lacks (room_of form) (length made) (ends_store state chunk) (room_some form) h)))

      pub feed_rows_full : length rows / 32 < ends_store state chunk → SiftsStore state form piece chunk made rows (Err U.Full) piece made rows
      feed_rows_full h =
          too_full
          (and_false (leb (room_of form * ends_store state chunk) (length made)) (leb (32 * ends_store state chunk) (length rows))
          (lt-leb (32 * ends_store state chunk) (length rows) (row_lacks (length rows) (ends_store state chunk) h)))

      module _ (wide : ends_store state chunk ≤ length made / room_of form) (long : ends_store state chunk ≤ length rows / 32) where
        enough : room_of form * ends_store state chunk ≤ length made
        enough = room_holds (room_of form) (length made) (ends_store state chunk) (room_some form) wide

        lines : 32 * ends_store state chunk ≤ length rows
        lines = row_holds (length rows) (ends_store state chunk) long

        pub feed_ready : ReadyToSiftStore state form piece chunk made rows
        feed_ready =
            record {
              size = size;
              short = short;
              counts = ltb-true (state.loaded + state.refused + ends_store state chunk) (2 ^ 64) counts;
              making =
                  enough;
              rowing = lines;
            }

        pub feed_records : (r : Result (StoreSoFar × ℕ × ℕ) Unwritten) (piece' made' rows' : List ℕ) → TakesSiftedStore state form piece chunk made rows r piece' made' rows'
            → SiftsStore state form piece chunk made rows r piece' made' rows'
        feed_records r piece' made' rows' t =
            let e : store_sift_of state form piece chunk made rows ≡ came run =
            fit_came piece state.held counted room run size short counts
            (ap₂ ◌&&◌ (le-leb (room_of form * ends_store state chunk) (length made) enough) (le-leb (32 * ends_store state chunk) (length rows) lines)) in
            record {
              answer = ap came_as t.answer ∙ sym (ap store_sifted_by_value e);
              kept = t.kept ∙ sym (ap (λ (a : Came (PiecesSoFar Sifting)). piece_sifted a piece) e);
              making = t.making ∙ sym (ap (λ (a : Came (PiecesSoFar Sifting)). written_of made 0 (sifting_out a).made) e);
              rowing = t.rowing ∙ sym (ap (λ (a : Came (PiecesSoFar Sifting)). written_of rows 0 (sifting_out a).rows) e);
              made_within = subst (λ (q : Result (StoreSoFar × ℕ × ℕ) Unwritten). (store_sifted_bytes (came_as q)).0 ≤ length made) (sym t.answer) t.made_within;
              rows_within = subst (λ (q : Result (StoreSoFar × ℕ × ℕ) Unwritten). (store_sifted_bytes (came_as q)).1 ≤ length rows) (sym t.answer) t.rows_within;
            }
