-- What the test before an exchange returns once the position has passed its own: one law for each return; and what a call knows after it, or passes
-- on. Assumes nothing.
use mathlib.Core.Path.{◌≡◌, refl, sym, ap, ◌∙◌}
use mathlib.Core.Bool.{Bool, true, false, and-false}
use mathlib.Core.List.{List}
use Prim.Native.Nat.{ℕ, ◌≤◌, ◌<◌}
use lib.Dec.{ltb, ltb→lt}
use borrow.Author.Tests.{lt-ltb, le-ltb}
use Rattle.laws.proofs.Truth.{true_T, and_l}
use Rattle.refusal.specs.Answer.{Answer, given, or_refuse, refusal_of, answered}
use Rattle.refusal.specs.declared.Refusal.{Refusal}
use Rattle.refusal.specs.declared.Refusal.TheVariants as R
use Rattle.refusal.proofs.Answers.{given_not, passed}
use Rattle.position.specs.Checked.{Fitting}
use Rattle.position.specs.declared.State.{State}
use Rattle.position.proofs.Doors.{side_below_2, sound, through, refused_too}
use Rattle.exchange_order.specs.Orders.{each_once}
use Rattle.exchange_start.specs.Capture.{may_capture, uncrowded}
use Rattle.exchange_start.specs.Answers.{both_on_board, behind}
use Rattle.exchange_start.specs.Promises.{BeginsExchange}
use Rattle.exchange_start.specs.declared.Mode.{Mode}
use Rattle.std.specs.Prelude.{Result, Ok, Err}

abbrev done : Answer (Unit {0})
done = given tt

-- ---- the tests after the position's own
abbrev tests : {A : Type 0} → Bool → Bool → Bool → Bool → Answer A → Answer A
tests on_board once may few rest = or_refuse on_board R.Square (or_refuse once R.Order (or_refuse may R.Move (or_refuse few R.Crowd rest)))

module _ (mode : Mode) (kinds bbs bytes : List ℕ) (state : State) (from to : ℕ) where
  abbrev pub rest : {A : Type 0} → A → Answer A
  rest asked = tests (both_on_board from to) (each_once kinds) (may_capture mode bbs bytes state from to) (uncrowded bbs) (given asked)

  abbrev pub begun_or : Answer (Unit {0})
  begun_or = rest tt

  pub from_off : 64 ≤ from → refusal_of R.Square ≡ begun_or
  from_off h = rw (le-ltb from 64 h) refl

  pub to_off : 64 ≤ to → refusal_of R.Square ≡ begun_or
  to_off h = rw (le-ltb to 64 h, and-false (ltb from 64)) refl

  module _ (hf : from < 64) (ht : to < 64) where
    pub no_order : each_once kinds ≡ false → refusal_of R.Order ≡ begun_or
    no_order o = rw (lt-ltb from 64 hf, lt-ltb to 64 ht, o) refl

    pub no_move : each_once kinds ≡ true → may_capture mode bbs bytes state from to ≡ false → refusal_of R.Move ≡ begun_or
    no_move o m = rw (lt-ltb from 64 hf, lt-ltb to 64 ht, o, m) refl

    pub crowd : each_once kinds ≡ true → may_capture mode bbs bytes state from to ≡ true → uncrowded bbs ≡ false → refusal_of R.Crowd ≡ begun_or
    crowd o m u = rw (lt-ltb from 64 hf, lt-ltb to 64 ht, o, m, u) refl

    pub begun : each_once kinds ≡ true → may_capture mode bbs bytes state from to ≡ true → uncrowded bbs ≡ true → given tt ≡ begun_or
    begun o m u = rw (lt-ltb from 64 hf, lt-ltb to 64 ht, o, m, u) refl

-- ---- what a call knows where nothing was refused
pub record Begun (mode : Mode) (kinds bbs bytes : List ℕ) (state : State) (from to : ℕ) : Type 0 where
  pub fits : Fitting bbs bytes state
  pub on_board_holds : both_on_board from to ≡ true
  pub an_order : each_once kinds ≡ true
  pub may : may_capture mode bbs bytes state from to ≡ true
  pub few : uncrowded bbs ≡ true

module _ {mode : Mode} {kinds bbs bytes : List ℕ} {state : State} {from to : ℕ} (b : Begun mode kinds bbs bytes state from to) where
  pub a_side : state.side < 2
  a_side = side_below_2 bbs bytes state b.fits.shape

  pub from_on : from < 64
  from_on = ltb→lt from 64 (and_l (ltb from 64) (ltb to 64) (true_T b.on_board_holds))

module _ (mode : Mode) (kinds bbs bytes : List ℕ) (state : State) (from to : ℕ) where
  -- one question answered: no test refused it
  pub answered_knows : {A : Type 0} (x z : A) → given z ≡ behind mode kinds bbs bytes state from to x → Begun mode kinds bbs bytes state from to
  answered_knows x z e =
      let p = through bbs bytes state (rest mode kinds bbs bytes state from to x) z (sym e) in
      let q = passed (both_on_board from to) R.Square z (or_refuse (each_once kinds) R.Order
      (or_refuse (may_capture mode bbs bytes state from to) R.Move (or_refuse (uncrowded bbs) R.Crowd (given x)))) p.1 in
      let o = passed (each_once kinds) R.Order z (or_refuse (may_capture mode bbs bytes state from to) R.Move
      (or_refuse (uncrowded bbs) R.Crowd (given x))) q.1 in
      let m = passed (may_capture mode bbs bytes state from to) R.Move z (or_refuse (uncrowded bbs) R.Crowd (given x)) o.1 in
      let u = passed (uncrowded bbs) R.Crowd z (given x) m.1 in
      record { fits = p.0; on_board_holds = q.0; an_order = o.0; may = m.0; few = u.0 }

  -- and so every other is answered
  pub all_answered : {A : Type 0} (x : A) → Begun mode kinds bbs bytes state from to → given x ≡ behind mode kinds bbs bytes state from to x
  all_answered x b =
      sym (rw (b.on_board_holds, b.an_order, b.may, b.few) refl)
      ∙ sound bbs bytes state (rest mode kinds bbs bytes state from to x) b.fits

  -- ---- after a call of `begins`
  module _ (r : Result Unit Refusal) (promise : BeginsExchange mode kinds bbs bytes state from to r) where
    pub knows : r ≡ Ok tt → Begun mode kinds bbs bytes state from to
    knows e = answered_knows tt tt (sym (ap answered e) ∙ promise)

    pub tells : {A : Type 0} (x : A) → r ≡ Ok tt → given x ≡ behind mode kinds bbs bytes state from to x
    tells x e = all_answered x (knows e)

    pub passes_on : {A : Type 0} (x : A) (q : Refusal) → r ≡ Err q → refusal_of q ≡ behind mode kinds bbs bytes state from to x
    passes_on x q e =
        refused_too bbs bytes state (rest mode kinds bbs bytes state from to tt) q (rest mode kinds bbs bytes state from to x) (sym (ap answered e) ∙ promise)
        (go (both_on_board from to) (each_once kinds) (may_capture mode bbs bytes state from to) (uncrowded bbs))
      where
        go : (b o m u : Bool) → refusal_of q ≡ tests b o m u done → refusal_of q ≡ tests b o m u (given x)
        go true true true true p = given_not (sym p)
        go true true true false p = cc
        go true true false u p = cc
        go true false m u p = cc
        go false o m u p = cc
