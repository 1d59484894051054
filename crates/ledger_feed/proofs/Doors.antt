-- What `feed` answers, test by test. Assumes nothing.
use mathlib.Core.Path.{◌≡◌, refl, sym, ap, subst, ◌∙◌}
use mathlib.Core.Bool.{Bool, true, false}
use mathlib.Core.List.{List, []}
use Prim.Native.Nat.{ℕ, ◌+◌, ◌*◌, ◌/◌, ◌^◌, ◌≤◌, ◌<◌}
use native.Mathlib.Omega.{arith}
use lib.Dec.{leb, ltb}
use lib.ListN.{length}
use borrow.Author.Tests.{eq-eqb, ne_eqb, le-leb, lt-leb, ltb-true}
use Rattle.refusal.specs.declared.Refusal.TheVariants as R
use Rattle.text_out.specs.Text.{written_of}
use Rattle.line_cut.specs.Lines.{ends}
use Rattle.line_profile.specs.declared.Profile.{Profile}
use Rattle.ledger_feed.specs.Machine.{Machine, at, run}
use Rattle.ledger_feed.specs.Promises.{Came, turned_by, many, full, came, fit, feed_of, came_by_value, line_after, text_after, wrote, Feeds, Ready, Takes, came_as}
use Rattle.ledger_feed.specs.declared.SoFar.{SoFar}
use Rattle.std.specs.Prelude.{Result, Err}
use Rattle.ledger_feed.specs.declared.Unwritten.TheVariants as U
use Rattle.ledger_feed.specs.declared.Unwritten.{Unwritten}

-- ---- nothing written is nothing changed
pub written_nothing : (out : List ℕ) → out ≡ written_of out 0 []
written_nothing out = rw (le-leb 0 (length out) (omega arith))

-- ---- the tests, in order
module _ {A : Type 0} (line : List ℕ) (lines : ℕ) (room : Bool) (a : A) where
  pub fit_shape : (length line ≡ 256 → ⊥) → fit line lines room a ≡ turned_by R.Shape
  fit_shape n = rw (ne_eqb (length line) 256 n)

  pub fit_many : length line ≡ 256 → ltb lines (2 ^ 64) ≡ false → fit line lines room a ≡ many
  fit_many e n = rw (eq-eqb (length line) 256 e, n)

  pub fit_full : length line ≡ 256 → ltb lines (2 ^ 64) ≡ true → room ≡ false → fit line lines room a ≡ full
  fit_full e n r = rw (eq-eqb (length line) 256 e, n, r)

  pub fit_came : length line ≡ 256 → ltb lines (2 ^ 64) ≡ true → room ≡ true → fit line lines room a ≡ came a
  fit_came e n r = rw (eq-eqb (length line) 256 e, n, r)

-- ---- feed
module _ (profile : Profile) (state : SoFar) (line chunk out : List ℕ) where
  lines : ℕ
  lines = state.loaded + state.refused + ends chunk

  room : Bool
  room = leb (32 * ends chunk) (length out)

  m : Machine
  m = run profile (at state line []) chunk

  -- an answer of its own, with nothing changed
  unchanged : (r : Result (SoFar × ℕ) Unwritten) (a : Came Machine) → feed_of profile state line chunk out ≡ a → came_as r ≡ came_by_value a → line_after a line ≡ line
      → text_after a ≡ [] → wrote (came_as r) ≡ 0
      → Feeds profile state line chunk out r line out
  unchanged r a e f k t z = record {
    answer = f ∙ sym (ap came_by_value e);
    kept = sym (ap (λ (b : Came Machine). line_after b line) e ∙ k);
    rows = written_nothing out ∙ sym (ap (λ (b : Came Machine). written_of out 0 (text_after b)) e ∙ ap (written_of out 0) t);
    within = omega arith;
  }

  pub feed_shape : (length line ≡ 256 → ⊥) → Feeds profile state line chunk out (Err (U.Refused R.Shape)) line out
  unfolding lines room m
  feed_shape n = unchanged (Err (U.Refused R.Shape)) (turned_by R.Shape) (fit_shape line lines room m n) refl refl refl refl

  module _ (size : length line ≡ 256) where
    pub feed_many : ltb (state.loaded + state.refused + ends chunk) (2 ^ 64) ≡ false → Feeds profile state line chunk out (Err U.Many) line out
    unfolding lines room m
    feed_many n = unchanged (Err U.Many) many (fit_many line lines room m size n) refl refl refl refl

    module _ (counts : ltb (state.loaded + state.refused + ends chunk) (2 ^ 64) ≡ true) where
      pub feed_full : length out / 32 < ends chunk → Feeds profile state line chunk out (Err U.Full) line out
      unfolding lines room m
      feed_full n = unchanged (Err U.Full) full (fit_full line lines room m size counts (lt-leb (32 * ends chunk) (length out) (omega arith))) refl refl refl refl

      pub feed_ready : ends chunk ≤ length out / 32 → Ready state line chunk out
      feed_ready h = record { size = size; counts = ltb-true (state.loaded + state.refused + ends chunk) (2 ^ 64) counts; room = omega arith }

      pub feed_rows : ends chunk ≤ length out / 32 → (r : Result (SoFar × ℕ) Unwritten) (line' out' : List ℕ) → Takes profile state line chunk out r line' out'
          → Feeds profile state line chunk out r line' out'
      unfolding lines room m
      feed_rows h r line' out' t =
          let e : feed_of profile state line chunk out ≡ came m = fit_came line lines room m size counts (le-leb (32 * ends chunk) (length out) (omega arith)) in
          record {
            answer = ap came_as t.answer ∙ sym (ap came_by_value e);
            kept = t.kept ∙ sym (ap (λ (a : Came Machine). line_after a line) e);
            rows = t.rows ∙ sym (ap (λ (a : Came Machine). written_of out 0 (text_after a)) e);
            within = subst (λ (q : Result (SoFar × ℕ) Unwritten). wrote (came_as q) ≤ length out) (sym t.answer) t.within;
          }
