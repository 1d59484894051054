-- What `feed` answers, test by test. Assumes nothing.
use mathlib.Core.Path.{◌≡◌, refl, sym, ap, ap₂, subst, ◌∙◌}
use mathlib.Core.Bool.{Bool, true, false, cond, ◌&&◌, and-false}
use mathlib.Core.List.{List, []}
use Prim.Native.Nat.{ℕ, ◌+◌, ◌*◌, ◌/◌, ◌^◌, ◌≤◌, ◌<◌}
use native.Mathlib.Omega.{arith}
use lib.Dec.{eqb, leb, ltb}
use lib.ListN.{length}
use borrow.Author.Tests.{eq-eqb, ne_eqb, le-leb, lt-leb, lt-ltb, le-ltb, ltb-true}
use Rattle.refusal.specs.declared.Refusal.TheVariants as R
use Rattle.text_out.specs.Text.{written_of}
use Rattle.ledger_feed.specs.Machine.{Kept}
use Rattle.ledger_feed.specs.Promises.{Came, turned_by, many, full, came, came_as}
use Rattle.ledger_feed.proofs.Doors.{written_nothing}
use Rattle.store_cut.specs.Cut.{PiecesSoFar}
use Rattle.store_rows.specs.Promises.{run_store, fit_store, ends_store, store_feed_of, store_by_value, piece_after, store_text}
use Rattle.store_rows.specs.Promises.{store_wrote, FeedsStore, ReadyStore, TakesStore}
use Rattle.store_rows.specs.declared.StoreSoFar.{StoreSoFar}
use Rattle.std.specs.Prelude.{Result, Err}
use Rattle.ledger_feed.specs.declared.Unwritten.TheVariants as U
use Rattle.ledger_feed.specs.declared.Unwritten.{Unwritten}

-- ---- the tests, in order
module _ {A : Type 0} (piece : List ℕ) (held pieces : ℕ) (room : Bool) (a : A) where
  -- whatever they come to
  fit_by : (s t u : Bool) → eqb (length piece) 34 && ltb held 34 ≡ s → ltb pieces (2 ^ 64) ≡ t → room ≡ u
      → fit_store piece held pieces room a ≡ cond s (cond t (cond u (came a) full) many) (turned_by R.Shape)
  fit_by s t u p q r = ap₂ (λ (x y : Bool). cond x (cond y (cond room (came a) full) many) (turned_by R.Shape)) p q
      ∙ ap (λ (z : Bool). cond s (cond t (cond z (came a) full) many) (turned_by R.Shape)) r

  pub fit_shape : (length piece ≡ 34 → ⊥) → fit_store piece held pieces room a ≡ turned_by R.Shape
  fit_shape n = fit_by false _ _ (ap (λ (t : Bool). t && ltb held 34) (ne_eqb (length piece) 34 n)) refl refl

  pub fit_held : 34 ≤ held → fit_store piece held pieces room a ≡ turned_by R.Shape
  fit_held n = fit_by false _ _ (ap (λ (t : Bool). eqb (length piece) 34 && t) (le-ltb held 34 n) ∙ and-false (eqb (length piece) 34)) refl refl

  module _ (size : length piece ≡ 34) (short : held < 34) where
    shape : eqb (length piece) 34 && ltb held 34 ≡ true
    shape = ap₂ ◌&&◌ (eq-eqb (length piece) 34 size) (lt-ltb held 34 short)

    pub fit_many : ltb pieces (2 ^ 64) ≡ false → fit_store piece held pieces room a ≡ many
    fit_many n = fit_by true false _ shape n refl

    pub fit_full : ltb pieces (2 ^ 64) ≡ true → room ≡ false → fit_store piece held pieces room a ≡ full
    fit_full n r = fit_by true true false shape n r

    pub fit_came : ltb pieces (2 ^ 64) ≡ true → room ≡ true → fit_store piece held pieces room a ≡ came a
    fit_came n r = fit_by true true true shape n r

-- ---- feed
module _ (state : StoreSoFar) (piece chunk out : List ℕ) where
  abbrev counted : ℕ
  counted = state.loaded + state.refused + ends_store state chunk

  room : Bool
  room = leb (32 * ends_store state chunk) (length out)

  ran : PiecesSoFar Kept
  ran = run_store state piece chunk

  -- an answer of its own, with nothing changed
  unchanged : (r : Result (StoreSoFar × ℕ) Unwritten) (a : Came (PiecesSoFar Kept)) → store_feed_of state piece chunk out ≡ a → came_as r ≡ store_by_value a
      → piece_after a piece ≡ piece → store_text a ≡ []
      → store_wrote (came_as r) ≡ 0 → FeedsStore state piece chunk out r piece out
  unchanged r a e f k t z = record {
    answer = f ∙ sym (ap store_by_value e);
    kept = sym (ap (λ (b : Came (PiecesSoFar Kept)). piece_after b piece) e ∙ k);
    rows = written_nothing out ∙ sym (ap (λ (b : Came (PiecesSoFar Kept)). written_of out 0 (store_text b)) e ∙ ap (written_of out 0) t);
    within = omega arith;
  }

  pub feed_shape : (length piece ≡ 34 → ⊥) → FeedsStore state piece chunk out (Err (U.Refused R.Shape)) piece out
  unfolding room ran
  feed_shape n = unchanged (Err (U.Refused R.Shape)) (turned_by R.Shape) (fit_shape piece state.held counted room ran n) refl refl refl refl

  pub feed_held : 34 ≤ state.held → FeedsStore state piece chunk out (Err (U.Refused R.Shape)) piece out
  unfolding room ran
  feed_held n = unchanged (Err (U.Refused R.Shape)) (turned_by R.Shape) (fit_held piece state.held counted room ran n) refl refl refl refl

  module _ (size : length piece ≡ 34) (short : state.held < 34) where
    pub feed_many : ltb (state.loaded + state.refused + ends_store state chunk) (2 ^ 64) ≡ false → FeedsStore state piece chunk out (Err U.Many) piece out
    unfolding room ran
    feed_many n = unchanged (Err U.Many) many (fit_many piece state.held counted room ran size short n) refl refl refl refl

    module _ (counts : ltb (state.loaded + state.refused + ends_store state chunk) (2 ^ 64) ≡ true) where
      pub feed_full : length out / 32 < ends_store state chunk → FeedsStore state piece chunk out (Err U.Full) piece out
      unfolding room ran
      feed_full n =
          unchanged (Err U.Full) full (fit_full piece state.held counted room ran size short counts
          (lt-leb (32 * ends_store state chunk) (length out) (fits (ends_store state chunk) n))) refl refl refl refl
        where
          fits : (e : ℕ) → length out / 32 < e → length out < 32 * e
          fits e h = omega arith

      pub feed_ready : ends_store state chunk ≤ length out / 32 → ReadyStore state piece chunk out
      feed_ready h =
          record {
            size = size;
            short = short;
            counts = ltb-true (state.loaded + state.refused + ends_store state chunk) (2 ^ 64) counts;
            room =
                fits (ends_store state chunk) h;
          }
        where
          fits : (e : ℕ) → e ≤ length out / 32 → 32 * e ≤ length out
          fits e h = omega arith

      pub feed_rows : ends_store state chunk ≤ length out / 32 → (r : Result (StoreSoFar × ℕ) Unwritten) (piece' out' : List ℕ) → TakesStore state piece chunk out r piece' out'
          → FeedsStore state piece chunk out r piece' out'
      unfolding room ran
      feed_rows h r piece' out' t =
          let e : store_feed_of state piece chunk out ≡ came ran =
          fit_came piece state.held counted room ran size short counts (le-leb (32 * ends_store state chunk) (length out) (feed_ready h).room) in
          record {
            answer = ap came_as t.answer ∙ sym (ap store_by_value e);
            kept = t.kept ∙ sym (ap (λ (a : Came (PiecesSoFar Kept)). piece_after a piece) e);
            rows = t.rows ∙ sym (ap (λ (a : Came (PiecesSoFar Kept)). written_of out 0 (store_text a)) e);
            within = subst (λ (q : Result (StoreSoFar × ℕ) Unwritten). store_wrote (came_as q) ≤ length out) (sym t.answer) t.within;
          }
