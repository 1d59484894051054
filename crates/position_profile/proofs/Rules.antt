-- The rules as the code tests them, and what each return of `judge` gives. Assumes nothing.
use mathlib.Core.Path.{◌≡◌, sym, ap, ap₂, ◌∙◌}
use mathlib.Core.Bool.{Bool, true, false, not, ◌&&◌, ◌||◌, beq, not-not}
use mathlib.Core.List.{List}
use Prim.Native.Nat.{ℕ, ◌^◌, ◌<◌}
use native.Mathlib.Omega.{arith}
use lib.Bits.{bit_and, bit_or, and_lt, or_lt}
use lib.Dec.{eqb, leb}
use lib.ListN.{get_or}
use Rattle.laws.specs.Tests.{all_below}
use Rattle.laws.proofs.Tests.{all_at}
use Rattle.laws.proofs.Truth.{is_beq}
use Rattle.refusal.specs.Answer.{Answer, refusal_of, or_refuse}
use Rattle.refusal.specs.declared.Refusal.TheVariants as R
use Rattle.bits.specs.Bitboard.{has, how_many, lowest_of}
use Rattle.bits.proofs.Digits.{has_or, has_and}
use Rattle.bits.proofs.Those.{is_those}
use Rattle.position_boards.specs.Wrong.{wrong_of}
use Rattle.position_odds.specs.Named.{or_named}
use Rattle.position_odds.proofs.Named.{named, passed}
use Rattle.position.specs.declared.State.{State}
use Rattle.attack.specs.Attacks.{standing}
use Rattle.attack_to.specs.Attackers.{is_check}
use Rattle.score_material.specs.Pieces.{count}
use Rattle.position_profile.specs.Profile.{one_king, few_pawns, few_pieces, of_both, at_ends, off_ends, just_moved, or_profile}

-- ---- a rule asked of White, then of Black
module _ (rule : ℕ → Bool) where
  pub not_white : rule 0 ≡ false → false ≡ of_both rule
  not_white e = sym (ap (λ (t : Bool). t && rule 1) e)

  pub then_black : rule 0 ≡ true → (b : Bool) → b ≡ rule 1 → b ≡ of_both rule
  then_black e b q = q ∙ sym (ap (λ (t : Bool). t && rule 1) e)

module _ (bbs : List ℕ) (colour n : ℕ) where
  pub one_king_holds : n ≡ count bbs 5 colour → eqb n 1 ≡ one_king bbs colour
  unfolding one_king
  one_king_holds e = ap (λ (x : ℕ). eqb x 1) e

  pub few_pawns_holds : n ≡ count bbs 0 colour → leb n 8 ≡ few_pawns bbs colour
  unfolding few_pawns
  few_pawns_holds e = ap (λ (x : ℕ). leb x 8) e

  pub few_pieces_holds : (b : ℕ) → n ≡ how_many 64 (has b) → b ≡ get_or bbs colour 0 → leb n 16 ≡ few_pieces bbs colour
  unfolding few_pieces
  few_pieces_holds b e q = ap (λ (x : ℕ). leb x 16) (e ∙ ap (λ (x : ℕ). how_many 64 (has x)) q)

-- ---- the end ranks
ends_at : (k : ℕ) → k < 64 → has 0xFF000000000000FF k ≡ at_ends k
unfolding has all_below
ends_at k h = is_beq (has 0xFF000000000000FF k) (at_ends k) (all_at 64 (λ j. beq (has 0xFF000000000000FF j) (at_ends j)) tt k h)

pub strays : (bbs : List ℕ) (w b : ℕ) → w < 2 ^ 64 → b < 2 ^ 64 → w ≡ standing bbs 0 0 → b ≡ standing bbs 0 1
    → bit_and (bit_or w b) 0xFF000000000000FF ≡ wrong_of (off_ends bbs)
strays bbs w b lw lb ew eb =
    is_those (bit_and (bit_or w b) 0xFF000000000000FF) (λ k. not (off_ends bbs k))
    (and_lt 64 (bit_or w b) 0xFF000000000000FF (or_lt 64 w b lw lb) (omega arith))
    (λ k h.
    has_and (bit_or w b) 0xFF000000000000FF k
    ∙ ap₂ ◌&&◌ (has_or w b k ∙ ap₂ ◌||◌ (ap (λ (x : ℕ). has x k) ew) (ap (λ (x : ℕ). has x k) eb)) (ends_at k h)
    ∙ sym (not-not ((has (standing bbs 0 0) k || has (standing bbs 0 1) k) && at_ends k)))

-- ---- what a test said
pub holds : (r t : Bool) → r ≡ t → not r ≡ false → t ≡ true
holds true t e q = sym e
holds false t e q = sym e ∙ sym q

pub fails : (r t : Bool) → r ≡ t → not r ≡ true → t ≡ false
fails true t e q = sym e ∙ sym q
fails false t e q = sym e

-- ---- the rules in their order
module _ {A : Type 0} (bbs : List ℕ) (state : State) (rest : Answer A) where
  abbrev last : Bool → Answer A
  last t = or_refuse (not t) (R.Check (lowest_of (standing bbs 5 (just_moved state)))) rest

  abbrev fourth : Answer A
  fourth = or_named (off_ends bbs) (λ s. R.Rank s) (last (is_check bbs (just_moved state)))

  abbrev by : Bool → Bool → Bool → Answer A
  by a b c = or_refuse a R.Kings (or_refuse b R.Pawns (or_refuse c R.Pieces fourth))

  pub broken_kings : of_both (one_king bbs) ≡ false → refusal_of R.Kings ≡ or_profile bbs state rest
  unfolding or_profile
  broken_kings e = sym (ap (λ (t : Bool). by t (of_both (few_pawns bbs)) (of_both (few_pieces bbs))) e)

  module _ (k : of_both (one_king bbs) ≡ true) where
    pub broken_pawns : of_both (few_pawns bbs) ≡ false → refusal_of R.Pawns ≡ or_profile bbs state rest
    unfolding or_profile
    broken_pawns e = sym (ap₂ (λ (t u : Bool). by t u (of_both (few_pieces bbs))) k e)

    module _ (p : of_both (few_pawns bbs) ≡ true) where
      pub broken_pieces : of_both (few_pieces bbs) ≡ false → refusal_of R.Pieces ≡ or_profile bbs state rest
      unfolding or_profile
      broken_pieces e = sym (ap₂ (λ (t u : Bool). by t u (of_both (few_pieces bbs))) k p ∙ ap (by true true) e)

      module _ (m : of_both (few_pieces bbs) ≡ true) where
        counts_right : fourth ≡ or_profile bbs state rest
        unfolding or_profile
        counts_right = sym (ap₂ (λ (t u : Bool). by t u (of_both (few_pieces bbs))) k p ∙ ap (by true true) m)

        pub broken_rank : (b s : ℕ) → b ≡ wrong_of (off_ends bbs) → (b ≡ 0 → ⊥) → s ≡ lowest_of b → refusal_of (R.Rank s) ≡ or_profile bbs state rest
        broken_rank b s e n q = named (off_ends bbs) (λ x. R.Rank x) (last (is_check bbs (just_moved state))) b s e n q ∙ counts_right

        module _ (b : ℕ) (e : b ≡ wrong_of (off_ends bbs)) (z : b ≡ 0) (moved : ℕ) (o : moved ≡ just_moved state) (t : Bool) (i : t ≡ is_check bbs moved) where
          ranks_right : last t ≡ or_profile bbs state rest
          ranks_right =
              ap last (i ∙ ap (is_check bbs) o) ∙ passed (off_ends bbs) (λ x. R.Rank x) (last (is_check bbs (just_moved state))) b e z ∙ counts_right

          pub broken_check : t ≡ true → (king s : ℕ) → king ≡ standing bbs 5 moved → s ≡ lowest_of king → refusal_of (R.Check s) ≡ or_profile bbs state rest
          broken_check q king s f g =
              ap (λ (x : ℕ). refusal_of (R.Check x)) (g ∙ ap lowest_of (f ∙ ap (standing bbs 5) o)) ∙ sym (ap last q) ∙ ranks_right

          pub none_broken : t ≡ false → rest ≡ or_profile bbs state rest
          none_broken q = sym (ap last q) ∙ ranks_right
