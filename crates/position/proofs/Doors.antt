-- What a call knows after `check`, and how it passes a refusal on: a door's return is one of these lines. Assumes nothing.
use mathlib.Core.Path.{◌≡◌, refl, sym, ap, ap₂, ◌∙◌}
use mathlib.Core.Bool.{Bool, true, false, ◌&&◌, and-false}
use mathlib.Core.List.{List}
use Prim.Native.Nat.{ℕ, ◌≤◌, ◌<◌}
use lib.Dec.{eqb, ltb, eqb→eq, ltb→lt}
use lib.ListN.{length}
use borrow.Author.Tests.{eq-eqb, ne_eqb, lt-ltb, le-ltb}
use Rattle.laws.proofs.Truth.{true_T, and_l, and_r}
use Rattle.refusal.specs.Answer.{Answer, given, or_refuse, refusal_of, answered}
use Rattle.refusal.specs.declared.Refusal.{Refusal}
use Rattle.refusal.specs.declared.Refusal.TheVariants as R
use Rattle.refusal.proofs.Answers.{given_not}
use Rattle.position_consistent.specs.Consistent.{consistent}
use Rattle.position_odds.specs.Odds.{or_odds}
use Rattle.position_odds.specs.Promises.{sized, refused_as, Tells}
use Rattle.position_odds.specs.Exactly.{AtOdds}
use Rattle.position_odds.proofs.Exactly.{goes_on, at_odds}
use Rattle.position_odds.proofs.Determined.{refused_one}
use Rattle.position_further.specs.Rule.{home, at_home, just_passed, counters_fit}
use Rattle.position.specs.Checked.{of_side, shaped, or_further, checked, Fitting}
use Rattle.position.specs.Promises.{Checks}
use Rattle.position.specs.declared.State.{State}
use Rattle.std.specs.Prelude.{Result, Ok, Err}

-- ---- the shape
pub in_shape : (bbs bytes : List ℕ) (state : State) → length bbs ≡ 14 → length bytes ≡ 64 → state.side < 2 → shaped bbs bytes state ≡ true
in_shape bbs bytes state b y s =
    ap₂ ◌&&◌ (ap₂ ◌&&◌ (eq-eqb (length bbs) 14 b) (eq-eqb (length bytes) 64 y)) (lt-ltb state.side 2 s)

pub no_boards : (bbs bytes : List ℕ) (state : State) → (length bbs ≡ 14 → ⊥) → shaped bbs bytes state ≡ false
no_boards bbs bytes state n = ap (λ (t : Bool). (t && eqb (length bytes) 64) && ltb state.side 2) (ne_eqb (length bbs) 14 n)

pub no_bytes : (bbs bytes : List ℕ) (state : State) → (length bytes ≡ 64 → ⊥) → shaped bbs bytes state ≡ false
no_bytes bbs bytes state n =
    ap (λ (t : Bool). (eqb (length bbs) 14 && t) && ltb state.side 2) (ne_eqb (length bytes) 64 n)
    ∙ ap (λ (t : Bool). t && ltb state.side 2) (and-false (eqb (length bbs) 14))

pub no_side : (bbs bytes : List ℕ) (state : State) → 2 ≤ state.side → shaped bbs bytes state ≡ false
no_side bbs bytes state n =
    ap (λ (t : Bool). (eqb (length bbs) 14 && eqb (length bytes) 64) && t) (le-ltb state.side 2 n)
    ∙ and-false (eqb (length bbs) 14 && eqb (length bytes) 64)

-- what a position of the right shape has
pub boards_14 : (bbs bytes : List ℕ) (state : State) → shaped bbs bytes state ≡ true → length bbs ≡ 14
boards_14 bbs bytes state e =
    eqb→eq (length bbs) 14 (and_l (eqb (length bbs) 14) (eqb (length bytes) 64)
    (and_l (eqb (length bbs) 14 && eqb (length bytes) 64) (ltb state.side 2) (true_T e)))

pub bytes_64 : (bbs bytes : List ℕ) (state : State) → shaped bbs bytes state ≡ true → length bytes ≡ 64
bytes_64 bbs bytes state e =
    eqb→eq (length bytes) 64 (and_r (eqb (length bbs) 14) (eqb (length bytes) 64)
    (and_l (eqb (length bbs) 14 && eqb (length bytes) 64) (ltb state.side 2) (true_T e)))

pub side_below_2 : (bbs bytes : List ℕ) (state : State) → shaped bbs bytes state ≡ true → state.side < 2
side_below_2 bbs bytes state e = ltb→lt state.side 2 (and_r (eqb (length bbs) 14 && eqb (length bytes) 64) (ltb state.side 2) (true_T e))

-- ---- the answers
module _ {A : Type 0} (bbs bytes : List ℕ) (state : State) (rest : Answer A) where
  pub misshapen : shaped bbs bytes state ≡ false → refusal_of R.Shape ≡ checked bbs bytes state rest
  unfolding checked
  misshapen e = sym (ap (λ (t : Bool). or_refuse t R.Shape (or_odds bbs bytes (or_further bytes state rest))) e)

  module _ (s : shaped bbs bytes state ≡ true) where
    in_order : (x : Answer A) → or_odds bbs bytes (or_further bytes state rest) ≡ x → x ≡ checked bbs bytes state rest
    unfolding checked
    in_order x e = sym e ∙ sym (ap (λ (t : Bool). or_refuse t R.Shape (or_odds bbs bytes (or_further bytes state rest))) s)

    -- what is at odds, refused by one refusal, is every call's refusal
    pub inconsistent : consistent bbs bytes ≡ false → (q : Refusal) → Tells bbs bytes q → refusal_of q ≡ checked bbs bytes state rest
    inconsistent e q p =
        let o = at_odds bbs bytes e in
        in_order (refusal_of q) (o.refuses (or_further bytes state rest) ∙ ap (λ (r : Refusal). refusal_of r) (the_one o))
      where
        sized_too : sized bbs bytes ≡ true
        sized_too = ap₂ ◌&&◌ (eq-eqb (length bbs) 14 (boards_14 bbs bytes state s)) (eq-eqb (length bytes) 64 (bytes_64 bbs bytes state s))

        the_one : (o : AtOdds bbs bytes) → o.refusal ≡ q
        the_one o =
            refused_one o.refusal q
            (sym (o.refuses (refused_as (R.Byteboard 64))) ∙ sym (ap (λ (t : Bool). or_refuse t R.Shape (or_odds bbs bytes (refused_as (R.Byteboard 64))))
            sized_too) ∙ sym p)

    -- the pieces are consistent: what the rule asks beyond them
    module _ (e : consistent bbs bytes ≡ true) where
      beyond : (x : Answer A) → x ≡ or_further bytes state rest → x ≡ checked bbs bytes state rest
      beyond x h = h ∙ in_order (or_further bytes state rest) (goes_on bbs bytes (or_further bytes state rest) e)

      pub no_right : at_home bytes state.rights ≡ false → refusal_of R.Rights ≡ checked bbs bytes state rest
      no_right h = beyond (refusal_of R.Rights) (rw h)

      module _ (h : at_home bytes state.rights ≡ true) where
        pub no_passant : just_passed bytes state.side state.passant ≡ false → refusal_of R.Passant ≡ checked bbs bytes state rest
        no_passant p = beyond (refusal_of R.Passant) (rw (h, p))

        module _ (p : just_passed bytes state.side state.passant ≡ true) where
          pub uncounted : counters_fit state.halfmoves state.moves ≡ false → refusal_of R.Counter ≡ checked bbs bytes state rest
          uncounted n = beyond (refusal_of R.Counter) (rw (h, p, n))

          pub in_count : counters_fit state.halfmoves state.moves ≡ true → rest ≡ checked bbs bytes state rest
          in_count n = beyond rest (rw (h, p, n))

  pub sound : Fitting bbs bytes state → rest ≡ checked bbs bytes state rest
  sound f = in_count f.shape f.pieces f.rights f.passant f.counters

-- three tests one after the other, with something after them
abbrev tested : {A : Type 0} → Bool → Bool → Bool → Answer A → Answer A
tested u v w rest = or_refuse u R.Rights (or_refuse v R.Passant (or_refuse w R.Counter rest))

module _ {A : Type 0} (bbs bytes : List ℕ) (state : State) (rest : Answer A) where
  -- an answer was given: no test refused it, and the answer is the rest's
  pub through : (a : A) → checked bbs bytes state rest ≡ given a → Fitting bbs bytes state × (rest ≡ given a)
  unfolding checked
  through a e = go (shaped bbs bytes state) (consistent bbs bytes) refl refl e
    where
      further : shaped bbs bytes state ≡ true → consistent bbs bytes ≡ true → (u v w : Bool) → at_home bytes state.rights ≡ u
          → just_passed bytes state.side state.passant ≡ v → counters_fit state.halfmoves state.moves ≡ w → tested u v w rest ≡ given a
          → Fitting bbs bytes state × (rest ≡ given a)
      further s c true true true h p n e = (record { shape = s; pieces = c; rights = h; passant = p; counters = n }, e)
      further s c true true false h p n e = given_not (sym e)
      further s c true false w h p n e = given_not (sym e)
      further s c false v w h p n e = given_not (sym e)

      go : (s t : Bool) → shaped bbs bytes state ≡ s → consistent bbs bytes ≡ t → or_refuse s R.Shape (or_odds bbs bytes (or_further bytes state rest)) ≡ given a
          → Fitting bbs bytes state × (rest ≡ given a)
      go true true s c p =
          further s c (at_home bytes state.rights) (just_passed bytes state.side state.passant) (counters_fit state.halfmoves state.moves)
          refl refl refl
          (sym (goes_on bbs bytes (or_further bytes state rest) c) ∙ p)
      go true false s c p = given_not (sym p ∙ (at_odds bbs bytes c).refuses (or_further bytes state rest))
      go false t s c p = given_not (sym p)

  -- what refuses one question refuses every other whose rest it would refuse
  pub refused_too : {B : Type 0} (q : Refusal) (other : Answer B) → refusal_of q ≡ checked bbs bytes state rest → (refusal_of q ≡ rest → refusal_of q ≡ other)
      → refusal_of q ≡ checked bbs bytes state other
  unfolding checked
  refused_too {B} q other e f = go (shaped bbs bytes state) (consistent bbs bytes) refl e
    where
      further : (u v w : Bool) → refusal_of q ≡ tested u v w rest → refusal_of q ≡ tested u v w other
      further true true true p = f p
      further true true false p = cc
      further true false w p = cc
      further false v w p = cc

      go : (s t : Bool) → consistent bbs bytes ≡ t → refusal_of q ≡ or_refuse s R.Shape (or_odds bbs bytes (or_further bytes state rest))
          → refusal_of q ≡ or_refuse s R.Shape (or_odds bbs bytes (or_further bytes state other))
      go true true c p =
          further (at_home bytes state.rights) (just_passed bytes state.side state.passant) (counters_fit state.halfmoves state.moves)
          (p ∙ goes_on bbs bytes (or_further bytes state rest) c)
          ∙ sym (goes_on bbs bytes (or_further bytes state other) c)
      go true false c p =
          let o = at_odds bbs bytes c in
          let both : refusal_of {A = A} q ≡ refusal_of o.refusal = p ∙ o.refuses (or_further bytes state rest) in
          let same : refusal_of {A = B} q ≡ refusal_of o.refusal = cc in
          same ∙ sym (o.refuses (or_further bytes state other))
      go false t c p = cc

-- ---- after a call of `check`
abbrev done : Answer (Unit {0})
done = given tt

module _ (bbs bytes : List ℕ) (state : State) (r : Result Unit Refusal) (promise : Checks bbs bytes state r) where
  -- it fits: every test held, and the rest of the definition is the answer
  pub fit_all : r ≡ Ok tt → Fitting bbs bytes state
  fit_all e = (through bbs bytes state done tt (sym (sym (ap answered e) ∙ promise))).0

  pub fit_rest : {A : Type 0} (rest : Answer A) → r ≡ Ok tt → rest ≡ checked bbs bytes state rest
  fit_rest rest e = sound bbs bytes state rest (fit_all e)

  -- it is refused: so is every call on the position
  pub pass_on : {A : Type 0} (rest : Answer A) (q : Refusal) → r ≡ Err q → refusal_of q ≡ checked bbs bytes state rest
  pass_on rest q e = refused_too bbs bytes state done q rest (sym (ap answered e) ∙ promise) (λ p. given_not (sym p))

-- ---- a state of which only the side is given
pub of_side_fits : (bbs bytes : List ℕ) (side : ℕ) → shaped bbs bytes (of_side side) ≡ true → consistent bbs bytes ≡ true → Fitting bbs bytes (of_side side)
unfolding at_home home just_passed
of_side_fits bbs bytes side s c = record { shape = s; pieces = c; rights = refl; passant = refl; counters = refl }
