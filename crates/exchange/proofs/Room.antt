-- Where nothing is refused there are at most 32 pieces, one of them on the start, so that the code's room is enough: all the captures are listed.
-- Assumes nothing.
use mathlib.Core.Path.{◌≡◌, refl, sym, ap, ◌∙◌}
use mathlib.Core.Bool.{Bool, true, false, cond, ◌||◌, or-true}
use mathlib.Core.List.{List}
use Prim.Native.Nat.{ℕ, zero, suc, ◌≤◌, ◌<◌}
use native.Mathlib.Omega.{arith}
use Rattle.chess.specs.Values.{value_of}
use Rattle.bits.specs.Bitboard.{has}
use Rattle.bits.proofs.Those.{has_those}
use Rattle.position_boards.specs.Sound.{on}
use Rattle.position.specs.declared.State.{State}
use Rattle.attack.specs.Attacks.{occupied}
use Rattle.attack_to.specs.Attackers.{attackers}
use Rattle.exchange_start.specs.Capture.{kind_on, takes_passing, passed_pawn, may_capture, uncrowded}
use Rattle.exchange_start.specs.declared.Mode.{Mode}
use Rattle.exchange_start.proofs.Tested.{own_there, few_pieces_holds}
use Rattle.exchange_value.specs.Settled.{settled}
use Rattle.exchange.specs.Exchange.{Capture, values_taken, emptied, promotes, captures, first_taken, first_there, captures_of, exchange_of}
use Rattle.exchange.specs.Listed.{captures_with, exchange_with}
use Rattle.exchange.proofs.Ending.{pieces, one_less, fewer_of_both, never_out}

-- ---- a colour's piece is one of the pieces
pub stands_there : (bbs : List ℕ) (colour k : ℕ) → k < 64 → colour < 2 → on bbs colour k ≡ true → has (occupied bbs) k ≡ true
unfolding occupied
stands_there bbs zero k h l e = has_those 64 (λ j. on bbs 0 j || on bbs 1 j) k h ∙ ap (λ (t : Bool). t || on bbs 1 k) e
stands_there bbs (suc zero) k h l e = has_those 64 (λ j. on bbs 0 j || on bbs 1 j) k h ∙ ap (λ (t : Bool). on bbs 0 k || t) e ∙ or-true (on bbs 0 k)
stands_there bbs (suc (suc colour)) k h l e = absurd (omega arith)

-- ---- the code's room is enough
-- under CROWD, once the first capturer has left its square, and the passed pawn with it, at most 31 pieces are there
pub thirty_one : (mode : Mode) (bbs bytes : List ℕ) (state : State) (from to : ℕ) → pieces (occupied bbs) ≤ 32 → from < 64 → has (occupied bbs) from ≡ true
    → pieces (emptied (first_there mode bbs bytes state from to) from) ≤ 31
unfolding first_there
thirty_one mode bbs bytes state from to few h there = go (takes_passing mode bytes state from to)
  where
    go : (t : Bool) → pieces (emptied (cond t (emptied (occupied bbs) (passed_pawn state.side to)) (occupied bbs)) from) ≤ 31
    go true = omega (arith, few, fewer_of_both (occupied bbs) (passed_pawn state.side to) from, one_less (occupied bbs) from h there)
    go false = omega (arith, few, one_less (occupied bbs) from h there)

module _ (mode : Mode) (kinds bbs bytes : List ℕ) (state : State) (from to : ℕ) where
  abbrev first : ℕ
  first = kind_on bytes from

  abbrev target : ℕ
  target = value_of (first_taken mode bytes state from to)

  abbrev there : ℕ
  there = first_there mode bbs bytes state from to

  abbrev all : List Capture
  all = captures kinds bbs (attackers bbs to) (promotes mode to) 64 there state.side from first target

  pub exchange_is : exchange_of mode kinds bbs bytes state from to ≡ settled (values_taken all)
  unfolding exchange_of
  exchange_is = refl

  pub captures_are : captures_of mode kinds bbs bytes state from to ≡ all
  unfolding captures_of
  captures_are = refl

  -- all the captures are listed
  pub all_listed : from < 64 → state.side < 2 → may_capture mode bbs bytes state from to ≡ true → uncrowded bbs ≡ true
      → captures_with mode kinds bbs bytes state from to ≡ captures_of mode kinds bbs bytes state from to
  all_listed h l m u =
      let few = thirty_one mode bbs bytes state from to (few_pieces_holds bbs u) h
      (stands_there bbs state.side from h l (own_there mode bbs bytes state from to m)) in
      never_out kinds bbs (attackers bbs to) (promotes mode to) 31 64 there state.side from first target few (omega (arith, few))
      ∙ sym captures_are

  pub room : from < 64 → state.side < 2 → may_capture mode bbs bytes state from to ≡ true → uncrowded bbs ≡ true
      → exchange_with mode kinds bbs bytes state from to ≡ exchange_of mode kinds bbs bytes state from to
  room h l m u = ap (λ (cs : List Capture). settled (values_taken cs)) (all_listed h l m u ∙ captures_are) ∙ sym exchange_is
