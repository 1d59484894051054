-- What `feed`, `next_part` and `finish` answer, test by test. Assumes nothing.
use mathlib.Core.Path.{◌≡◌, refl, sym, ap, subst, ◌∙◌}
use mathlib.Core.Bool.{Bool, true, false, cond, not, ◌&&◌}
use mathlib.Core.List.{List, []}
use Prim.Native.Nat.{ℕ, ◌+◌, ◌*◌, ◌/◌, ◌^◌, ◌≤◌, ◌<◌}
use native.Mathlib.Omega.{arith}
use lib.Dec.{leb, ltb}
use lib.ListN.{length}
use borrow.Author.Tests.{eq-eqb, ne_eqb, le-leb, lt-leb, leb-true, leb-false, lt-ltb, le-ltb, ltb-true}
use Rattle.refusal.specs.declared.Refusal.TheVariants as R
use Rattle.text_out.specs.Text.{written_of, Adds}
use Rattle.text_out.proofs.Added.{adds_to}
use Rattle.line_cut.specs.Lines.{ends}
use Rattle.line_cut.proofs.Counted.{ends_le}
use Rattle.ledger_totals.proofs.Fits.{fits_last}
use Rattle.ledger_feed.specs.Promises.{Came, turned_by, many, full, came, came_as}
use Rattle.ledger_feed.proofs.Doors.{written_nothing}
use Rattle.ledger_joined_row.proofs.Laws.{and_left, and_right}
use Rattle.ledger_join.specs.Machine.{Joint, joint, own_number, bytes_on}
use Rattle.ledger_join.specs.Promises.{counts_fit, is_ample, fit_of, feed_part, joint_by_value, row_after, joint_text, wrote_of, FeedsPart, RowReady}
use Rattle.ledger_join.specs.Promises.{TakesBytes}
use Rattle.ledger_join.specs.Promises.{PartEnd, onward, no_ledger_at, tooMany, noRoom, next_part, next_part_of, is_between, totals_of_all, end_join_of}
use Rattle.ledger_join.specs.Promises.{part_said, end_by_value, end_text, end_wrote, EndsJoin}
use Rattle.ledger_join.specs.declared.Joining.{Joining}
use Rattle.ledger_join.specs.declared.Fit.TheVariants as I
use Rattle.ledger_join.specs.declared.Unjoined.{Unjoined}
use Rattle.ledger_join.specs.declared.Unjoined.TheVariants as J
use Rattle.std.specs.Prelude.{Result, Err, Ok}
use Rattle.ledger_feed.specs.declared.Unwritten.TheVariants as U
use Rattle.ledger_feed.specs.declared.Unwritten.{Unwritten}

-- ---- the counts
module _ (s : Joining) (more : ℕ) (e : counts_fit s more ≡ true) where
  pub all_fit : s.loads + s.refusals + more < 2 ^ 64
  all_fit = ltb-true (s.loads + s.refusals + more) (2 ^ 64) (and_left (ltb (s.loads + s.refusals + more) (2 ^ 64))
      (ltb (s.loaded + s.refused + more) (2 ^ 64)) e)

  pub own_fit : s.loaded + s.refused + more < 2 ^ 64
  own_fit = ltb-true (s.loaded + s.refused + more) (2 ^ 64) (and_right (ltb (s.loads + s.refusals + more) (2 ^ 64))
      (ltb (s.loaded + s.refused + more) (2 ^ 64)) e)

pub ample_less : (s : Joining) (bytes room : ℕ) → room / 64 < bytes → false ≡ is_ample s bytes room
ample_less s bytes room h = rw (lt-leb bytes (room / 64) h)

pub ample_counts : (s : Joining) (bytes room : ℕ) → bytes ≤ room / 64 → counts_fit s bytes ≡ is_ample s bytes room
ample_counts s bytes room h = rw (le-leb bytes (room / 64) h)

-- then there is enough for the rows that end
module _ (s : Joining) (chunk : List ℕ) (room : ℕ) (e : is_ample s (length chunk) room ≡ true) where
  all_counts : counts_fit s (length chunk) ≡ true
  all_counts = and_right (leb (length chunk) (room / 64)) (counts_fit s (length chunk)) e

  ample_fit : counts_fit s (ends chunk) ≡ true
  ample_fit =
      let a = all_fit s (length chunk) all_counts in
      let b = own_fit s (length chunk) all_counts in
      rw (
        lt-ltb (s.loads + s.refusals + ends chunk) (2 ^ 64) (omega (arith, ends_le chunk)),
        lt-ltb (s.loaded + s.refused + ends chunk) (2 ^ 64) (omega (arith, ends_le chunk)),
      )

  pub ample_room : ends chunk ≤ room / 64
  ample_room = let h = leb-true (length chunk) (room / 64) (and_left (leb (length chunk) (room / 64)) (counts_fit s (length chunk)) e) in
      omega (arith, ends_le chunk)

  pub ample_takes : I.Takes ≡ fit_of s chunk room
  ample_takes = rw (ample_fit, le-leb (ends chunk) (room / 64) ample_room)

module _ (s : Joining) (chunk : List ℕ) (room : ℕ) where
  pub fit_many : counts_fit s (ends chunk) ≡ false → I.Many ≡ fit_of s chunk room
  fit_many e = rw e

  pub fit_full : counts_fit s (ends chunk) ≡ true → room / 64 < ends chunk → I.Full ≡ fit_of s chunk room
  fit_full e h = rw (e, lt-leb (ends chunk) (room / 64) h)

  pub fit_takes : counts_fit s (ends chunk) ≡ true → ends chunk ≤ room / 64 → I.Takes ≡ fit_of s chunk room
  fit_takes e h = rw (e, le-leb (ends chunk) (room / 64) h)

-- what an answer says
takes_both : (a b : Bool) → cond a (cond b I.Takes I.Full) I.Many ≡ I.Takes → (a ≡ true) × (b ≡ true)
takes_both true true e = (refl, refl)
takes_both true false e = absurd (let z : ◌≡◌ {A = ℕ} 0 1 = cc in omega arith)
takes_both false b e = absurd (let z : ◌≡◌ {A = ℕ} 0 1 = cc in omega arith)

full_both : (a b : Bool) → cond a (cond b I.Takes I.Full) I.Many ≡ I.Full → (a ≡ true) × (b ≡ false)
full_both true false e = (refl, refl)
full_both true true e = absurd (let z : ◌≡◌ {A = ℕ} 0 1 = cc in omega arith)
full_both false b e = absurd (let z : ◌≡◌ {A = ℕ} 0 1 = cc in omega arith)

many_counts : (a b : Bool) → cond a (cond b I.Takes I.Full) I.Many ≡ I.Many → a ≡ false
many_counts false b e = refl
many_counts true true e = absurd (let z : ◌≡◌ {A = ℕ} 0 1 = cc in omega arith)
many_counts true false e = absurd (let z : ◌≡◌ {A = ℕ} 0 1 = cc in omega arith)

-- ---- feed
module _ (s : Joining) (row chunk out : List ℕ) where
  -- an answer of its own, with nothing changed
  unchanged : (r : Result (Joining × ℕ) Unwritten) (a : Came Joint) → feed_part s row chunk out ≡ a → came_as r ≡ joint_by_value a → row_after a row ≡ row → joint_text a ≡ []
      → wrote_of (came_as r) ≡ 0
      → FeedsPart s row chunk out r row out
  unchanged r a e f k t z = record {
    answer = f ∙ sym (ap joint_by_value e);
    kept = sym (ap (λ (b : Came Joint). row_after b row) e ∙ k);
    rows = written_nothing out ∙ sym (ap (λ (b : Came Joint). written_of out 0 (joint_text b)) e ∙ ap (written_of out 0) t);
    within = omega arith;
  }

  pub feed_shape : (length row ≡ 84 → ⊥) → FeedsPart s row chunk out (Err (U.Refused R.Shape)) row out
  feed_shape n = unchanged (Err (U.Refused R.Shape)) (turned_by R.Shape) (rw (ne_eqb (length row) 84 n)) refl refl refl refl

  module _ (size : length row ≡ 84) where
    pub feed_many : fit_of s chunk (length out) ≡ I.Many → FeedsPart s row chunk out (Err U.Many) row out
    feed_many e =
        let n = many_counts (counts_fit s (ends chunk)) (leb (ends chunk) (length out / 64)) e in
        unchanged (Err U.Many) many (rw (eq-eqb (length row) 84 size, n)) refl refl refl refl

    pub feed_full : fit_of s chunk (length out) ≡ I.Full → FeedsPart s row chunk out (Err U.Full) row out
    feed_full e =
        let p = full_both (counts_fit s (ends chunk)) (leb (ends chunk) (length out / 64)) e in
        let n = leb-false (ends chunk) (length out / 64) p.1 in
        unchanged (Err U.Full) full (rw (eq-eqb (length row) 84 size, p.0, lt-leb (64 * ends chunk) (length out) (omega arith))) refl refl refl refl

    module _ (e : fit_of s chunk (length out) ≡ I.Takes) where
      counts : counts_fit s (ends chunk) ≡ true
      counts = (takes_both (counts_fit s (ends chunk)) (leb (ends chunk) (length out / 64)) e).0

      room : ends chunk ≤ length out / 64
      room = leb-true (ends chunk) (length out / 64) (takes_both (counts_fit s (ends chunk)) (leb (ends chunk) (length out / 64)) e).1

      pub feed_ready : RowReady s out 0 (ends chunk)
      feed_ready = record { all = all_fit s (ends chunk) counts; own = own_fit s (ends chunk) counts; room = omega (arith, room) }

      pub feed_rows : (r : Result (Joining × ℕ) Unwritten) (row' out' : List ℕ) → TakesBytes s row chunk out r row' out' → FeedsPart s row chunk out r row' out'
      feed_rows r row' out' t =
          let e : feed_part s row chunk out ≡ came (bytes_on (joint row s []) chunk) =
          rw (eq-eqb (length row) 84 size, counts, le-leb (64 * ends chunk) (length out) (omega (arith, room))) in
          record {
            answer = ap came_as t.answer ∙ sym (ap joint_by_value e);
            kept = t.kept ∙ sym (ap (λ (a : Came Joint). row_after a row) e);
            rows = t.rows ∙ sym (ap (λ (a : Came Joint). written_of out 0 (joint_text a)) e);
            within = subst (λ (q : Result (Joining × ℕ) Unwritten). wrote_of (came_as q) ≤ length out) (sym t.answer) t.within;
          }

-- ---- next_part
module _ (s : Joining) where
  pub next_last : 2 ^ 64 ≤ s.part + 1 → tooMany ≡ next_part_of s
  next_last h = rw (le-ltb (s.part + 1) (2 ^ 64) h)

  module _ (few : s.part + 1 < 2 ^ 64) where
    pub next_many : ltb (s.loaded + s.refused + 1) (2 ^ 64) ≡ false → tooMany ≡ next_part_of s
    next_many e = rw (lt-ltb (s.part + 1) (2 ^ 64) few, e)

    pub next_is : ltb (s.loaded + s.refused + 1) (2 ^ 64) ≡ true → (t : Bool) → (s.ended && not s.stopped) ≡ t
        → cond t (onward (next_part s)) (no_ledger_at s.part (own_number s)) ≡ next_part_of s
    next_is e t q = rw (lt-ltb (s.part + 1) (2 ^ 64) few, e, q)

-- ---- finish
module _ (s : Joining) (out : List ℕ) where
  none_put : (r : Result ℕ Unjoined) (a : PartEnd (List ℕ)) → end_join_of s out ≡ a → part_said r ≡ end_by_value a → end_text a ≡ [] → end_wrote (part_said r) ≡ 0
      → EndsJoin s out r out
  none_put r a e f t z = record {
    answer = f ∙ sym (ap end_by_value e);
    row = written_nothing out ∙ sym (ap (λ (b : PartEnd (List ℕ)). written_of out 0 (end_text b)) e ∙ ap (written_of out 0) t);
    within = omega arith;
  }

  pub end_many : counts_fit s 1 ≡ false → EndsJoin s out (Err J.Many) out
  end_many e = none_put (Err J.Many) tooMany (rw e) refl refl refl

  module _ (counts : counts_fit s 1 ≡ true) where
    pub end_open : is_between s ≡ false → (number : ℕ) → number ≡ own_number s → EndsJoin s out (Err (J.NoLedger s.part number)) out
    end_open e number q = none_put (Err (J.NoLedger s.part number)) (no_ledger_at s.part (own_number s)) (rw (counts, e)) (ap (no_ledger_at s.part) q) refl refl

    module _ (between : is_between s ≡ true) where
      pub end_full : length out < 84 → EndsJoin s out (Err J.Full) out
      end_full h = none_put (Err J.Full) noRoom (rw (counts, between, lt-leb 84 (length out) h)) refl refl refl

      pub end_row : 84 ≤ length out → (r : ℕ) (out' : List ℕ) → Adds out 0 (totals_of_all s) out' r → EndsJoin s out (Ok r) out'
      end_row h r out' a =
          let e : end_join_of s out ≡ onward (totals_of_all s) = rw (counts, between, le-leb 84 (length out) h) in
          let f = fits_last (s.loads + s.refusals) s.loads s.refusals in
          let to : r ≡ 0 + length (totals_of_all s) = adds_to a (omega arith) in
          record {
            answer = ap onward (let z : r ≡ length (totals_of_all s) = omega arith in z) ∙ sym (ap end_by_value e);
            row = a.buffer ∙ sym (ap (λ (b : PartEnd (List ℕ)). written_of out 0 (end_text b)) e);
            within = omega arith;
          }
