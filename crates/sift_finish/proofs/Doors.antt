-- What `finish` answers, test by test. Assumes nothing.
use mathlib.Core.Path.{◌≡◌, refl, sym, ap, ap₂, subst, ◌∙◌}
use mathlib.Core.Bool.{Bool, ◌&&◌, false, true}
use mathlib.Core.List.{List, []}
use Prim.Native.Nat.{ℕ, ◌*◌, ◌/◌, ◌^◌, ◌≤◌, ◌<◌}
use native.Mathlib.Nat.{zero-add}
use native.Mathlib.Omega.{arith}
use lib.Dec.{leb, ltb}
use lib.ListN.{length}
use borrow.Author.Tests.{le-leb, lt-leb, ltb-true}
use Rattle.refusal.specs.declared.Refusal.TheVariants as R
use Rattle.text_out.specs.Text.{written_of}
use Rattle.text_out.proofs.Added.{adds_to}
use Rattle.ledger_feed.specs.Promises.{Came, turned_by, many, full, came, came_as}
use Rattle.ledger_feed.specs.declared.SoFar.{SoFar}
use Rattle.ledger_feed.proofs.Doors.{written_nothing, fit_shape, fit_many, fit_full, fit_came}
use Rattle.ledger_finish.specs.Promises.{unfinished, last_lines}
use Rattle.sift_form.specs.Forms.{room_of, made_of}
use Rattle.sift_form.specs.declared.Form.{Form}
use Rattle.sift_form.proofs.Rooms.{room_some}
use Rattle.sift_feed.specs.Sifting.{Sifting}
use Rattle.sift_feed.proofs.Doors.{room_lacks, room_holds, and_false}
use Rattle.sift_finish.specs.Last.{sift_end, all_rows, last_room, sifted_last, last_lengths, last_made, last_rows, last_bytes}
use Rattle.sift_finish.specs.Last.{FinishesSifted, ReadyToEnd, EndsSifted}
use Rattle.sift_finish.proofs.Ends.{end_made, end_rows}
use Rattle.std.specs.Prelude.{Result, Ok, Err}
use Rattle.ledger_feed.specs.declared.Unwritten.TheVariants as U
use Rattle.ledger_feed.specs.declared.Unwritten.{Unwritten}

module _ (state : SoFar) (form : Form) (line made rows : List ℕ) where
  abbrev room : Bool
  room = last_room state form made rows

  abbrev end : Sifting
  end = sift_end (made_of form) state line

  -- an answer of its own, with nothing changed
  unchanged : (r : Result (ℕ × ℕ) Unwritten) (a : Came Sifting) → sifted_last state form line made rows ≡ a → came_as r ≡ last_lengths a → last_made a ≡ []
      → last_rows a ≡ [] → last_bytes (came_as r) ≡ (0, 0)
      → FinishesSifted state form line made rows r made rows
  unchanged r a e f m t z = record {
    answer = f ∙ sym (ap last_lengths e);
    making = written_nothing made ∙ sym (ap (λ (b : Came Sifting). written_of made 0 (last_made b)) e ∙ ap (written_of made 0) m);
    rowing = written_nothing rows ∙ sym (ap (λ (b : Came Sifting). written_of rows 0 (last_rows b)) e ∙ ap (written_of rows 0) t);
    made_within = subst (λ (x : ℕ × ℕ). x.0 ≤ length made) (sym z) (omega arith);
    rows_within = subst (λ (x : ℕ × ℕ). x.1 ≤ length rows) (sym z) (omega arith);
  }

  pub finish_shape : (length line ≡ 256 → ⊥) → FinishesSifted state form line made rows (Err (U.Refused R.Shape)) made rows
  finish_shape n = unchanged (Err (U.Refused R.Shape)) (turned_by R.Shape) (fit_shape line (last_lines state) room end n) refl refl refl refl

  module _ (size : length line ≡ 256) where
    pub finish_many : ltb (last_lines state) (2 ^ 64) ≡ false → FinishesSifted state form line made rows (Err U.Many) made rows
    finish_many n = unchanged (Err U.Many) many (fit_many line (last_lines state) room end size n) refl refl refl refl

    module _ (counts : ltb (last_lines state) (2 ^ 64) ≡ true) where
      too_full : room ≡ false → FinishesSifted state form line made rows (Err U.Full) made rows
      too_full e = unchanged (Err U.Full) full (fit_full line (last_lines state) room end size counts e) refl refl refl refl

      pub finish_full : length made / room_of form < unfinished state.held → FinishesSifted state form line made rows (Err U.Full) made rows
      finish_full h =
          too_full (ap (λ (t : Bool). t && leb 116 (length rows)) (lt-leb (room_of form * unfinished state.held) (length made)
          (room_lacks (room_of form) (length made) (unfinished state.held) (room_some form) h)))

      pub finish_rows_full : length rows < 116 → FinishesSifted state form line made rows (Err U.Full) made rows
      finish_rows_full h = too_full (and_false (leb (room_of form * unfinished state.held) (length made)) (leb 116 (length rows))
          (lt-leb 116 (length rows) h))

      module _ (wide : unfinished state.held ≤ length made / room_of form) (long : 116 ≤ length rows) where
        enough : room_of form * unfinished state.held ≤ length made
        enough = room_holds (room_of form) (length made) (unfinished state.held) (room_some form) wide

        pub finish_ready : ReadyToEnd state form made rows
        finish_ready = record { counts = ltb-true (last_lines state) (2 ^ 64) counts; making = enough; rowing = long }

        pub finish_rows : (r : Result (ℕ × ℕ) Unwritten) (made' rows' : List ℕ) → EndsSifted state form line made rows r made' rows'
            → FinishesSifted state form line made rows r made' rows'
        finish_rows r made' rows' t =
            let e : sifted_last state form line made rows ≡ came end =
            fit_came line (last_lines state) room end size counts
            (ap₂ ◌&&◌ (le-leb (room_of form * unfinished state.held) (length made) enough) (le-leb 116 (length rows) long)) in
            let m : length end.made ≤ length made = most (length end.made) (room_of form * unfinished state.held) (length made)
            (end_made form state line) enough in
            let q : length (all_rows end) ≤ length rows = most (length (all_rows end)) 116 (length rows) (end_rows form state line) long in
            let a : t.w ≡ length end.made = adds_to t.written.making
            (subst (λ (n : ℕ). n ≤ length made) (sym (zero-add (length end.made))) m) ∙ zero-add (length end.made) in
            let b : t.v ≡ length (all_rows end) = adds_to t.written.rowing
            (subst (λ (n : ℕ). n ≤ length rows) (sym (zero-add (length (all_rows end)))) q) ∙ zero-add (length (all_rows end)) in
            let is : r ≡ Ok (length end.made, length (all_rows end)) = t.is ∙ ap₂ (λ x y. Ok (x, y)) a b in
            record {
              answer = ap came_as is ∙ sym (ap last_lengths e);
              making = t.written.making.buffer ∙ sym (ap (λ (x : Came Sifting). written_of made 0 (last_made x)) e);
              rowing = t.written.rowing.buffer ∙ sym (ap (λ (x : Came Sifting). written_of rows 0 (last_rows x)) e);
              made_within = subst (λ (x : Result (ℕ × ℕ) Unwritten). (last_bytes (came_as x)).0 ≤ length made) (sym is) m;
              rows_within = subst (λ (x : Result (ℕ × ℕ) Unwritten). (last_bytes (came_as x)).1 ≤ length rows) (sym is) q;
            }
          where
            most : (x y z : ℕ) → x ≤ y → y ≤ z → x ≤ z
            most x y z f g = omega arith
