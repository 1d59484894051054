-- What `feed` answers, test by test. Assumes nothing.
use mathlib.Core.Path.{◌≡◌, refl, sym, ap, ap₂, subst, ◌∙◌}
use mathlib.Core.Bool.{Bool, true, false, ◌&&◌}
use mathlib.Core.List.{List, []}
use Prim.Native.Nat.{ℕ, ◌+◌, ◌*◌, ◌/◌, ◌^◌, ◌≤◌, ◌<◌}
use native.Mathlib.Nat.{mul_comm, div-lt_iff_lt-mul}
use native.Mathlib.Omega.{arith}
use lib.Dec.{leb, ltb}
use lib.ListN.{length}
use borrow.Author.Tests.{le-leb, lt-leb, leb-true, leb-false, ltb-true}
use Rattle.refusal.specs.declared.Refusal.TheVariants as R
use Rattle.text_out.specs.Text.{written_of}
use Rattle.line_cut.specs.Lines.{ends}
use Rattle.line_cut.specs.Cut.{CutSoFar}
use Rattle.ledger_feed.specs.Promises.{Came, turned_by, many, full, came, came_as}
use Rattle.ledger_feed.specs.declared.SoFar.{SoFar}
use Rattle.ledger_feed.proofs.Doors.{written_nothing, fit_shape, fit_many, fit_full, fit_came}
use Rattle.sift_form.specs.Forms.{room_of, made_of}
use Rattle.sift_form.specs.declared.Form.{Form}
use Rattle.sift_form.proofs.Rooms.{room_some}
use Rattle.sift_feed.specs.Sifting.{Sifting, sift_run}
use Rattle.sift_feed.specs.Promises.{sift_room, sift_of, sifted_by_value, line_sifted, sifting_in, sifted_bytes, Sifts, ReadyToSift, TakesSifted}
use Rattle.std.specs.Prelude.{Result, Err}
use Rattle.ledger_feed.specs.declared.Unwritten.TheVariants as U
use Rattle.ledger_feed.specs.declared.Unwritten.{Unwritten}

-- ---- room, as the code asks for it: how often a size goes into a length
pub room_lacks : (size n k : ℕ) → 0 < size → n / size < k → n < size * k
room_lacks size n k pos h = subst (λ (m : ℕ). n < m) (mul_comm k size) ((div-lt_iff_lt-mul pos).0 h)

pub room_holds : (size n k : ℕ) → 0 < size → k ≤ n / size → size * k ≤ n
room_holds size n k pos h = go (leb (size * k) n) refl
  where
    go : (t : Bool) → leb (size * k) n ≡ t → size * k ≤ n
    go true e = leb-true (size * k) n e
    go false e = absurd (not (n / size) k h ((div-lt_iff_lt-mul pos).1 (subst (λ (m : ℕ). n < m) (mul_comm size k) (leb-false (size * k) n e))))
      where
        not : (a b : ℕ) → b ≤ a → a < b → ⊥
        not a b p q = omega arith

pub and_false : (a b : Bool) → b ≡ false → (a && b) ≡ false
and_false true b e = e
and_false false b e = refl

-- ---- feed
module _ (state : SoFar) (form : Form) (line chunk made rows : List ℕ) where
  abbrev lines : ℕ
  lines = state.loaded + state.refused + ends chunk

  abbrev room : Bool
  room = sift_room form chunk made rows

  abbrev run : CutSoFar Sifting
  run = sift_run (made_of form) state line chunk

  abbrev nothing : Sifting
  nothing = record { loaded = 0; refused = 0; made = []; rows = [] }

  -- an answer of its own, with nothing changed
  unchanged : (r : Result (SoFar × ℕ × ℕ) Unwritten) (a : Came (CutSoFar Sifting)) → sift_of state form line chunk made rows ≡ a → came_as r ≡ sifted_by_value a
      → line_sifted a line ≡ line → sifting_in a ≡ nothing
      → sifted_bytes (came_as r) ≡ (0, 0) → Sifts state form line chunk made rows r line made rows
  unchanged r a e f k t z = record {
    answer = f ∙ sym (ap sifted_by_value e);
    kept = sym (ap (λ (b : Came (CutSoFar Sifting)). line_sifted b line) e ∙ k);
    making = written_nothing made ∙ sym (ap (λ (b : Came (CutSoFar Sifting)). written_of made 0 (sifting_in b).made) e
        ∙ ap (λ (x : Sifting). written_of made 0 x.made) t);
    rowing = written_nothing rows ∙ sym (ap (λ (b : Came (CutSoFar Sifting)). written_of rows 0 (sifting_in b).rows) e
        ∙ ap (λ (x : Sifting). written_of rows 0 x.rows) t);
    made_within = subst (λ (x : ℕ × ℕ). x.0 ≤ length made) (sym z) (omega arith);
    rows_within = subst (λ (x : ℕ × ℕ). x.1 ≤ length rows) (sym z) (omega arith);
  }

  pub feed_shape : (length line ≡ 256 → ⊥) → Sifts state form line chunk made rows (Err (U.Refused R.Shape)) line made rows
  feed_shape n = unchanged (Err (U.Refused R.Shape)) (turned_by R.Shape) (fit_shape line lines room run n) refl refl refl refl

  module _ (size : length line ≡ 256) where
    pub feed_many : ltb (state.loaded + state.refused + ends chunk) (2 ^ 64) ≡ false → Sifts state form line chunk made rows (Err U.Many) line made rows
    feed_many n = unchanged (Err U.Many) many (fit_many line lines room run size n) refl refl refl refl

    module _ (counts : ltb (state.loaded + state.refused + ends chunk) (2 ^ 64) ≡ true) where
      too_full : room ≡ false → Sifts state form line chunk made rows (Err U.Full) line made rows
      too_full e = unchanged (Err U.Full) full (fit_full line lines room run size counts e) refl refl refl refl

      pub feed_full : length made / room_of form < ends chunk → Sifts state form line chunk made rows (Err U.Full) line made rows
      feed_full h =
          too_full (ap (λ (t : Bool). t && leb (32 * ends chunk) (length rows))
          (lt-leb (room_of form * ends chunk) (length made) (room_lacks (room_of form) (length made) (ends chunk) (room_some form) h)))

      pub feed_rows_full : length rows / 32 < ends chunk → Sifts state form line chunk made rows (Err U.Full) line made rows
      feed_rows_full h =
          too_full (and_false (leb (room_of form * ends chunk) (length made)) (leb (32 * ends chunk) (length rows))
          (lt-leb (32 * ends chunk) (length rows) (omega arith)))

      module _ (wide : ends chunk ≤ length made / room_of form) (long : ends chunk ≤ length rows / 32) where
        enough : room_of form * ends chunk ≤ length made
        enough = room_holds (room_of form) (length made) (ends chunk) (room_some form) wide

        pub feed_ready : ReadyToSift state form line chunk made rows
        feed_ready = record {
          size = size;
          counts = ltb-true (state.loaded + state.refused + ends chunk) (2 ^ 64) counts;
          making = enough;
          rowing =
              omega arith;
        }

        pub feed_lines : (r : Result (SoFar × ℕ × ℕ) Unwritten) (line' made' rows' : List ℕ) → TakesSifted state form line chunk made rows r line' made' rows'
            → Sifts state form line chunk made rows r line' made' rows'
        feed_lines r line' made' rows' t =
            let e : sift_of state form line chunk made rows ≡ came run =
            fit_came line lines room run size counts
            (ap₂ ◌&&◌ (le-leb (room_of form * ends chunk) (length made) enough) (le-leb (32 * ends chunk) (length rows) (omega arith))) in
            record {
              answer = ap came_as t.answer ∙ sym (ap sifted_by_value e);
              kept = t.kept ∙ sym (ap (λ (a : Came (CutSoFar Sifting)). line_sifted a line) e);
              making = t.making ∙ sym (ap (λ (a : Came (CutSoFar Sifting)). written_of made 0 (sifting_in a).made) e);
              rowing = t.rowing ∙ sym (ap (λ (a : Came (CutSoFar Sifting)). written_of rows 0 (sifting_in a).rows) e);
              made_within = subst (λ (q : Result (SoFar × ℕ × ℕ) Unwritten). (sifted_bytes (came_as q)).0 ≤ length made) (sym t.answer) t.made_within;
              rows_within = subst (λ (q : Result (SoFar × ℕ × ℕ) Unwritten). (sifted_bytes (came_as q)).1 ≤ length rows) (sym t.answer) t.rows_within;
            }
