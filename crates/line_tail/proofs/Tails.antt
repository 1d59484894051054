-- Each return of the tests of the words after the side, and what was read was tested. Assumes nothing.
use mathlib.Core.Path.{◌≡◌, refl, sym, ap, ap₂, ◌∙◌}
use mathlib.Core.Bool.{Bool, true, false, true≢false, ◌&&◌}
use mathlib.Core.List.{List}
use Prim.Native.Nat.{ℕ}
use lib.ListN.{length}
use borrow.Author.Tests.{eq-eqb, ne_eqb}
use Rattle.refusal.specs.Answer.{Answer, given, or_refuse, refusal_of}
use Rattle.refusal.specs.declared.Refusal.{Refusal}
use Rattle.refusal.specs.declared.Refusal.TheVariants as R
use Rattle.refusal.proofs.Answers.{passed, given_not}
use Rattle.position_further.specs.Rule.{at_home, just_passed, counters_fit}
use Rattle.position_further.specs.declared.Rights.{Rights}
use Rattle.position.specs.declared.State.{State}
use Rattle.text_in.specs.Text.{space, is_space, after, without}
use Rattle.line_tail.specs.Words.{word_of, after_word, nth_word, missing, rights_of, are_rights, passant_of, counter_or}
use Rattle.line_tail.specs.Tail.{both_given, rights_fit, passant_fits, counters_fit_fields, state_said, or_words, or_tail, tail_state, tail_of}
use Rattle.std.specs.Prelude.{Option}

-- ---- RIGHTS
module _ (bytes w : List ℕ) (t : Bool) (p : t ≡ are_rights w) where
  pub no_letters : t ≡ false → false ≡ rights_fit bytes w
  unfolding rights_fit
  no_letters f = rw (← p, f)

  pub with_letters : t ≡ true → (rights : Rights) → rights ≡ rights_of w → (r : Bool) → r ≡ at_home bytes rights → r ≡ rights_fit bytes w
  unfolding rights_fit
  with_letters h rights q r o = o ∙ ap (at_home bytes) q ∙ sym (ap (λ (x : Bool). x && at_home bytes (rights_of w)) (sym p ∙ h))

-- ---- PASSANT
module _ (bytes : List ℕ) (side : ℕ) (v w : List ℕ) (t : Bool) (p : t ≡ both_given v w) where
  pub three_fields : t ≡ false → false ≡ passant_fits bytes side v w
  unfolding passant_fits
  three_fields f = sym (ap (λ (x : Bool). x && just_passed bytes side (passant_of w)) (sym p ∙ f))

  pub four_fields : t ≡ true → (passant : Option ℕ) → passant ≡ passant_of w → (r : Bool) → r ≡ just_passed bytes side passant → r ≡ passant_fits bytes side v w
  unfolding passant_fits
  four_fields h passant q r o = o ∙ ap (just_passed bytes side) q ∙ sym (ap (λ (x : Bool). x && just_passed bytes side (passant_of w)) (sym p ∙ h))

-- ---- COUNTER
module _ (h m more : List ℕ) (t : Bool) (p : t ≡ both_given h m) where
  abbrev shown : Bool
  shown = counters_fit (counter_or 0 h) (counter_or 1 m)

  pub five_fields : t ≡ false → false ≡ counters_fit_fields h m more
  unfolding counters_fit_fields
  five_fields f = sym (ap (λ (x : Bool). x && missing more && shown) (sym p ∙ f))

  module _ (u : t ≡ true) where
    pub seven_fields : (length more ≡ 0 → ⊥) → false ≡ counters_fit_fields h m more
    unfolding counters_fit_fields
    seven_fields n = sym (ap₂ (λ (y z : Bool). y && z && shown) (sym p ∙ u) (ne_eqb (length more) 0 n))

    pub six_fields : length more ≡ 0 → (halfmoves moves : ℕ) → halfmoves ≡ counter_or 0 h → moves ≡ counter_or 1 m → (r : Bool) → r ≡ counters_fit halfmoves moves
        → r ≡ counters_fit_fields h m more
    unfolding counters_fit_fields
    six_fields z halfmoves moves qh qm r o =
        o ∙ ap₂ counters_fit qh qm ∙ sym (ap₂ (λ (x y : Bool). x && y && shown) (sym p ∙ u) (eq-eqb (length more) 0 z))

-- ---- the state
pub state_is : (side : ℕ) (r p h m : List ℕ) (rights : Rights) (passant : Option ℕ) (halfmoves moves : ℕ) → rights ≡ rights_of r → passant ≡ passant_of p
    → halfmoves ≡ counter_or 0 h → moves ≡ counter_or 1 m
    → record { side = side; rights = rights; passant = passant; halfmoves = halfmoves; moves = moves } ≡ state_said side r p h m
unfolding state_said
state_is side r p h m rights passant halfmoves moves x y z w = λ i. record { side = side; rights = x i; passant = y i; halfmoves = z i; moves = w i }

-- ---- the three refusals, and the answer
module _ (bytes : List ℕ) (side : ℕ) (rights passant halfmoves moves more : List ℕ) where
  abbrev says : Answer State
  says = or_words bytes side rights passant halfmoves moves more (given (state_said side rights passant halfmoves moves))

  pub bad_rights : rights_fit bytes rights ≡ false → refusal_of R.Rights ≡ says
  bad_rights f = rw f

  module _ (a : rights_fit bytes rights ≡ true) where
    pub bad_passant : passant_fits bytes side rights passant ≡ false → refusal_of R.Passant ≡ says
    bad_passant f = rw (a, f)

    module _ (b : passant_fits bytes side rights passant ≡ true) where
      pub bad_counter : counters_fit_fields halfmoves moves more ≡ false → refusal_of R.Counter ≡ says
      bad_counter f = rw (a, b, f)

      pub all_fit : counters_fit_fields halfmoves moves more ≡ true → (state : State) → state ≡ state_said side rights passant halfmoves moves → given state ≡ says
      all_fit c state e = ap given e ∙ rw (a, b, c)

-- ---- the words, cut out one after the other
pub cut_so : (bytes : List ℕ) (side : ℕ) (s a b c d e rights passant halfmoves moves more : List ℕ) → a ≡ after_word s → b ≡ after_word a → c ≡ after_word b
    → d ≡ after_word c → e ≡ after_word d → rights ≡ word_of a → passant ≡ word_of b → halfmoves ≡ word_of c → moves ≡ word_of d → more ≡ word_of e
    → says bytes side rights passant halfmoves moves more ≡ tail_of bytes side s
unfolding nth_word
cut_so bytes side s a b c d e rights passant halfmoves moves more pa pb pc pd pe r p h m o = rw (r, p, h, m, o, pe, pd, pc, pb, pa)

-- spaces before the side are passed over
pub spaces_too : (bytes : List ℕ) (side : ℕ) (s t : List ℕ) → without is_space s ≡ without is_space t → tail_of bytes side s ≡ tail_of bytes side t
unfolding nth_word
spaces_too bytes side s t e = ap (λ (w : List ℕ). says bytes side (word_of (after space w)) (nth_word 1 (after space w)) (nth_word 2 (after space w))
    (nth_word 3 (after space w)) (nth_word 4 (after space w))) e

-- ---- whatever comes after the three tests
pub record Fitted (bytes : List ℕ) (side : ℕ) (s : List ℕ) : Type 0 where
  pub rights : rights_fit bytes (nth_word 1 s) ≡ true
  pub passant : passant_fits bytes side (nth_word 1 s) (nth_word 2 s) ≡ true
  pub counters : counters_fit_fields (nth_word 3 s) (nth_word 4 s) (nth_word 5 s) ≡ true

module _ {A : Type 0} (bytes : List ℕ) (side : ℕ) (s : List ℕ) (rest : Answer A) where
  -- they hold: it goes on
  pub tail_sound : Fitted bytes side s → rest ≡ or_tail bytes side s rest
  tail_sound f = rw (f.rights, f.passant, f.counters)

  -- something is given: they held, and it is the rest's
  pub tail_through : (a : A) → or_tail bytes side s rest ≡ given a → Fitted bytes side s × (rest ≡ given a)
  tail_through a e =
      let c : Answer A = or_refuse (counters_fit_fields (nth_word 3 s) (nth_word 4 s) (nth_word 5 s)) R.Counter rest in
      let b : Answer A = or_refuse (passant_fits bytes side (nth_word 1 s) (nth_word 2 s)) R.Passant c in
      let p = passed (rights_fit bytes (nth_word 1 s)) R.Rights a b e in
      let q = passed (passant_fits bytes side (nth_word 1 s) (nth_word 2 s)) R.Passant a c p.1 in
      let r = passed (counters_fit_fields (nth_word 3 s) (nth_word 4 s) (nth_word 5 s)) R.Counter a rest q.1 in
      (record { rights = p.0; passant = q.0; counters = r.0 }, r.1)

-- what refuses the state refuses whatever comes after the tests
pub tail_refused : {A : Type 0} (bytes : List ℕ) (side : ℕ) (s : List ℕ) (q : Refusal) → refusal_of q ≡ tail_of bytes side s → (rest : Answer A)
    → refusal_of q ≡ or_tail bytes side s rest
tail_refused {A} bytes side s q e rest =
    go (rights_fit bytes (nth_word 1 s)) (passant_fits bytes side (nth_word 1 s) (nth_word 2 s)) (counters_fit_fields (nth_word 3 s) (nth_word 4 s) (nth_word 5 s)) e
  where
    go : (t u v : Bool) → refusal_of q ≡ or_refuse t R.Rights (or_refuse u R.Passant (or_refuse v R.Counter (given (tail_state side s))))
        → refusal_of q ≡ or_refuse t R.Rights (or_refuse u R.Passant (or_refuse v R.Counter rest))
    go true true true p = given_not (sym p)
    go true true false p = cc
    go true false v p = cc
    go false u v p = cc

-- ---- the board bears the state out
module _ (bytes : List ℕ) (side : ℕ) (s : List ℕ) (f : Fitted bytes side s) where
  second : (t u : Bool) → (t && u) ≡ true → u ≡ true
  second true u e = e
  second false u e = absurd (true≢false (sym e))

  pub rights_borne : at_home bytes (tail_state side s).rights ≡ true
  unfolding state_said rights_fit
  rights_borne = second (are_rights (nth_word 1 s)) (at_home bytes (rights_of (nth_word 1 s))) f.rights

  pub passant_borne : just_passed bytes side (tail_state side s).passant ≡ true
  unfolding state_said passant_fits
  passant_borne = second (both_given (nth_word 1 s) (nth_word 2 s)) (just_passed bytes side (passant_of (nth_word 2 s))) f.passant

  pub counters_borne : counters_fit (tail_state side s).halfmoves (tail_state side s).moves ≡ true
  unfolding state_said counters_fit_fields
  counters_borne =
      second (both_given (nth_word 3 s) (nth_word 4 s) && missing (nth_word 5 s)) (counters_fit (counter_or 0 (nth_word 3 s)) (counter_or 1 (nth_word 4 s)))
      f.counters

pub state_side : (side : ℕ) (s : List ℕ) → (tail_state side s).side ≡ side
unfolding state_said
state_side side s = refl
