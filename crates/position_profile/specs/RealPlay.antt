-- The claim that a position passes "exactly if all hold". Definitions only.
use Rattle.std.specs.Prelude.{◌≡◌, true, false, List, ℕ}
use Rattle.refusal.specs.Answer.{Answer, given}
use Rattle.position_odds.specs.Exactly.{Everywhere}
use Rattle.position.specs.declared.State.{State}
use Rattle.attack_to.specs.Attackers.{is_check}
use Rattle.position_profile.specs.Profile.{one_king, few_pawns, few_pieces, of_both, off_ends, just_moved, or_profile}

-- all of the profile's rules
pub record FromRealPlay (bbs : List ℕ) (state : State) : Type 0 where
  pub kings : of_both (one_king bbs) ≡ true
  pub pawns : of_both (few_pawns bbs) ≡ true
  pub pieces : of_both (few_pieces bbs) ≡ true
  pub ranks : Everywhere (off_ends bbs)
  pub quiet : is_check bbs (just_moved state) ≡ false

-- "A line passes exactly if all hold": whatever would come next
pub record PassesExactly (bbs : List ℕ) (state : State) : Type 1 where
  pub passes : {A : Type 0} (a b : A) → or_profile bbs state (given a) ≡ given b → FromRealPlay bbs state
  pub all_hold : {A : Type 0} (rest : Answer A) → FromRealPlay bbs state → or_profile bbs state rest ≡ rest
