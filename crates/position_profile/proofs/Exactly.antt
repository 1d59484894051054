-- "A line passes exactly if all hold", and what holds of every answer after the profile. Assumes nothing.
use mathlib.Core.Path.{◌≡◌, refl, sym, ap, ap₂, ◌∙◌}
use mathlib.Core.Bool.{Bool, true, false, not}
use mathlib.Core.List.{List}
use Prim.Native.Nat.{ℕ}
use Rattle.laws.specs.Tests.{all_below}
use Rattle.laws.proofs.Tests.{all_at, all_of}
use Rattle.laws.proofs.Truth.{true_T, T_true}
use Rattle.refusal.specs.Answer.{Answer, given, refusal_of, or_refuse}
use Rattle.refusal.specs.declared.Refusal.{Refusal}
use Rattle.refusal.specs.declared.Refusal.TheVariants as R
use Rattle.refusal.proofs.Answers.{given_not}
use Rattle.bits.specs.Bitboard.{lowest_of}
use Rattle.position_odds.specs.Named.{lowest_wrong}
use Rattle.position.specs.declared.State.{State}
use Rattle.attack.specs.Attacks.{standing}
use Rattle.attack_to.specs.Attackers.{is_check}
use Rattle.position_profile.specs.Profile.{one_king, few_pawns, few_pieces, of_both, off_ends, just_moved, or_profile}
use Rattle.position_profile.specs.RealPlay.{FromRealPlay, PassesExactly}

module _ (bbs : List ℕ) (state : State) where
  -- the order with the outcomes of the five tests put in
  abbrev by : {A : Type 0} → Answer A → Bool → Bool → Bool → Bool → Bool → Answer A
  by rest k p m r t =
      or_refuse k R.Kings
      (or_refuse p R.Pawns
      (or_refuse m R.Pieces
      (or_refuse r (R.Rank (lowest_wrong (off_ends bbs))) (or_refuse (not t) (R.Check (lowest_of (standing bbs 5 (just_moved state)))) rest))))

  -- an answer after the profile is a refusal, or what comes next
  pub either : {A : Type 0} (rest : Answer A) (P : Answer A → Type 0) → ((r : Refusal) → P (refusal_of r)) → P rest → P (or_profile bbs state rest)
  unfolding or_profile
  either {A} rest P out on = go (of_both (one_king bbs)) (of_both (few_pawns bbs)) (of_both (few_pieces bbs)) (all_below 64 (off_ends bbs))
      (is_check bbs (just_moved state))
    where
      go : (k p m r t : Bool) → P (by rest k p m r t)
      go true true true true false = on
      go true true true true true = out (R.Check (lowest_of (standing bbs 5 (just_moved state))))
      go true true true false t = out (R.Rank (lowest_wrong (off_ends bbs)))
      go true true false r t = out R.Pieces
      go true false m r t = out R.Pawns
      go false p m r t = out R.Kings

  -- what is made of the answer may be made of what comes next
  pub carried : {A B : Type 0} (f : Answer A → Answer B) → ((r : Refusal) → f (refusal_of r) ≡ refusal_of r) → (rest : Answer A)
      → f (or_profile bbs state rest) ≡ or_profile bbs state (f rest)
  unfolding or_profile
  carried {A} {B} f same rest = go (of_both (one_king bbs)) (of_both (few_pawns bbs)) (of_both (few_pieces bbs)) (all_below 64 (off_ends bbs))
      (is_check bbs (just_moved state))
    where
      go : (k p m r t : Bool) → f (by rest k p m r t) ≡ by (f rest) k p m r t
      go true true true true false = refl
      go true true true true true = same (R.Check (lowest_of (standing bbs 5 (just_moved state))))
      go true true true false t = same (R.Rank (lowest_wrong (off_ends bbs)))
      go true true false r t = same R.Pieces
      go true false m r t = same R.Pawns
      go false p m r t = same R.Kings

  gone : {A : Type 0} (a b : A) (k : Bool) → of_both (one_king bbs) ≡ k → (p : Bool) → of_both (few_pawns bbs) ≡ p → (m : Bool) → of_both (few_pieces bbs) ≡ m
      → (r : Bool) → all_below 64 (off_ends bbs) ≡ r → (t : Bool) → is_check bbs (just_moved state) ≡ t → by (given a) k p m r t ≡ given b → FromRealPlay bbs state
  gone a b true ek true ep true em true er false et g = record {
    kings = ek;
    pawns = ep;
    pieces = em;
    ranks = record { holds = λ k h. T_true (off_ends bbs k) (all_at 64 (off_ends bbs) (true_T er) k h) };
    quiet = et;
  }
  gone a b true ek true ep true em true er true et g = given_not (sym g)
  gone a b true ek true ep true em false er t et g = given_not (sym g)
  gone a b true ek true ep false em r er t et g = given_not (sym g)
  gone a b true ek false ep m em r er t et g = given_not (sym g)
  gone a b false ek p ep m em r er t et g = given_not (sym g)

  pub exactly : PassesExactly bbs state
  unfolding or_profile
  exactly = record {
    passes = λ a b e. gone a b (of_both (one_king bbs)) refl (of_both (few_pawns bbs)) refl (of_both (few_pieces bbs)) refl (all_below 64 (off_ends bbs)) refl
        (is_check bbs (just_moved state)) refl e;
    all_hold = λ rest f.
        ap₂ (λ (k p : Bool). by rest k p (of_both (few_pieces bbs)) (all_below 64 (off_ends bbs)) (is_check bbs (just_moved state))) f.kings f.pawns
        ∙ ap₂ (λ (m r : Bool). by rest true true m r (is_check bbs (just_moved state))) f.pieces
        (T_true (all_below 64 (off_ends bbs)) (all_of 64 (off_ends bbs) (λ k h. true_T (f.ranks.holds k h))))
        ∙ ap (by rest true true true true) f.quiet;
  }
