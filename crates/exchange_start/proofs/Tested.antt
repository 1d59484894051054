-- MOVE and CROWD as the code tests them, one test after the other. Assumes nothing.
use mathlib.Core.Path.{◌≡◌, refl, sym, ap, ap₂, ◌∙◌}
use mathlib.Core.Bool.{Bool, true, false, ◌||◌, ◌&&◌, or-false}
use mathlib.Core.List.{List}
use Prim.Native.Nat.{ℕ, ◌<◌, ◌≤◌}
use native.Mathlib.Omega.{arith}
use lib.Dec.{eqb, leb}
use borrow.Author.Tests.{eq-eqb, ne_eqb, le-leb, lt-leb, leb-true}
use Rattle.laws.proofs.Truth.{true_T, T_true, and_l, and_r}
use Rattle.bits.specs.Bitboard.{has, how_many}
use Rattle.position_boards.specs.Sound.{on}
use Rattle.position.specs.declared.State.{State}
use Rattle.attack.specs.Attacks.{standing, occupied, other, attacks}
use Rattle.exchange_start.specs.Capture.{kind_on, takes_passing, may_take, may_capture, uncrowded}
use Rattle.exchange_start.specs.declared.Mode.{Mode}

-- ---- three tests in a row
module _ (a b c : Bool) where
  first_fails : a ≡ false → false ≡ (a && b && c)
  first_fails e = sym (ap (λ (t : Bool). t && b && c) e)

  second_fails : a ≡ true → b ≡ false → false ≡ (a && b && c)
  second_fails e f = sym (ap₂ (λ (t u : Bool). t && u && c) e f)

  third_decides : a ≡ true → b ≡ true → c ≡ (a && b && c)
  third_decides e f = sym (ap₂ (λ (t u : Bool). t && u && c) e f)

-- ---- en passant
-- no pawn on the start
pub other_kind : (kind found : ℕ) (passant : Bool) → found ≡ kind → (found ≡ 0 → ⊥) → false ≡ (eqb kind 0 && passant)
other_kind kind found passant e ne = sym (ap (λ (t : Bool). t && passant) (ne_eqb kind 0 (λ z. ne (e ∙ z))))

-- a pawn there: the square decides
pub pawn_there : (kind found : ℕ) (passant r : Bool) → found ≡ kind → found ≡ 0 → r ≡ passant → r ≡ (eqb kind 0 && passant)
pawn_there kind found passant r e z p = p ∙ sym (ap (λ (t : Bool). t && passant) (eq-eqb kind 0 (sym e ∙ z)))

-- ---- MOVE
module _ (mode : Mode) (bbs bytes : List ℕ) (state : State) (from to : ℕ) where
  abbrev side : ℕ
  side = state.side

  abbrev attacked : Bool
  attacked = has (attacks (kind_on bytes from) side from (occupied bbs)) to

  pub no_own : on bbs side from ≡ false → false ≡ may_capture mode bbs bytes state from to
  unfolding may_capture
  no_own = first_fails (on bbs side from) (may_take mode bbs bytes state from to) attacked

  pub none_to_take : on bbs side from ≡ true → may_take mode bbs bytes state from to ≡ false → false ≡ may_capture mode bbs bytes state from to
  unfolding may_capture
  none_to_take = second_fails (on bbs side from) (may_take mode bbs bytes state from to) attacked

  pub attack_only : (kind o b : ℕ) (r : Bool) → r ≡ has b to → b ≡ attacks kind side from o → kind ≡ kind_on bytes from → o ≡ occupied bbs
      → on bbs side from ≡ true → may_take mode bbs bytes state from to ≡ true → r ≡ may_capture mode bbs bytes state from to
  unfolding may_capture
  attack_only kind o b r er eb ek eo e f =
      er ∙ ap (λ (x : ℕ). has x to) (eb ∙ ap₂ (λ (x y : ℕ). attacks x side from y) ek eo)
      ∙ third_decides (on bbs side from) (may_take mode bbs bytes state from to) attacked e f

-- ---- CROWD
module _ (bbs : List ℕ) where
  abbrev pieces : ℕ
  pieces = how_many 64 (has (occupied bbs))

  abbrev kings : ℕ → ℕ
  kings colour = how_many 64 (has (standing bbs 5 colour))

  crowd_is : uncrowded bbs ≡ (leb pieces 32 && leb (kings 0) 1 && leb (kings 1) 1)
  unfolding uncrowded
  crowd_is = refl

  pub many : (n : ℕ) → n ≡ pieces → 32 < n → false ≡ uncrowded bbs
  many n e h = first_fails (leb pieces 32) (leb (kings 0) 1) (leb (kings 1) 1) (lt-leb pieces 32 (omega arith)) ∙ sym crowd_is

  pub many_kings : (n k : ℕ) → n ≡ pieces → k ≡ kings 0 → n ≤ 32 → 1 < k → false ≡ uncrowded bbs
  many_kings n k e f h l =
      second_fails (leb pieces 32) (leb (kings 0) 1) (leb (kings 1) 1) (le-leb pieces 32 (omega arith)) (lt-leb (kings 0) 1 (omega arith)) ∙ sym crowd_is

  pub last_kings : (n k m : ℕ) → n ≡ pieces → k ≡ kings 0 → m ≡ kings 1 → n ≤ 32 → k ≤ 1 → leb m 1 ≡ uncrowded bbs
  last_kings n k m e f g h l =
      ap (λ (x : ℕ). leb x 1) g
      ∙ third_decides (leb pieces 32) (leb (kings 0) 1) (leb (kings 1) 1) (le-leb pieces 32 (omega arith)) (le-leb (kings 0) 1 (omega arith)) ∙ sym crowd_is

-- ---- what the two leave
module _ (a b c : Bool) (e : (a && b && c) ≡ true) where
  first : a ≡ true
  first = T_true a (and_l a b (and_l (a && b) c (true_T e)))

  second : b ≡ true
  second = T_true b (and_r a b (and_l (a && b) c (true_T e)))

  third : c ≡ true
  third = T_true c (and_r (a && b) c (true_T e))

module _ (mode : Mode) (bbs bytes : List ℕ) (state : State) (from to : ℕ) (e : may_capture mode bbs bytes state from to ≡ true) where
  move_is : (on bbs state.side from && may_take mode bbs bytes state from to && attacked mode bbs bytes state from to) ≡ true
  unfolding may_capture
  move_is = e

  pub own_there : on bbs state.side from ≡ true
  own_there = first (on bbs state.side from) (may_take mode bbs bytes state from to) (attacked mode bbs bytes state from to) move_is

  pub one_to_take : may_take mode bbs bytes state from to ≡ true
  one_to_take = second (on bbs state.side from) (may_take mode bbs bytes state from to) (attacked mode bbs bytes state from to) move_is

  -- where it is not en passant, a piece of the other side is on the target
  pub other_there : takes_passing mode bytes state from to ≡ false → on bbs (other state.side) to ≡ true
  other_there p = sym (or-false (on bbs (other state.side) to)) ∙ sym (ap (λ (t : Bool). on bbs (other state.side) to || t) p) ∙ one_to_take

module _ (bbs : List ℕ) (e : uncrowded bbs ≡ true) where
  pub few_pieces_holds : how_many 64 (has (occupied bbs)) ≤ 32
  few_pieces_holds = leb-true (pieces bbs) 32 (first (leb (pieces bbs) 32) (leb (kings bbs 0) 1) (leb (kings bbs 1) 1) (sym (crowd_is bbs) ∙ e))

  pub one_white_king : how_many 64 (has (standing bbs 5 0)) ≤ 1
  one_white_king = leb-true (kings bbs 0) 1 (second (leb (pieces bbs) 32) (leb (kings bbs 0) 1) (leb (kings bbs 1) 1) (sym (crowd_is bbs) ∙ e))

  pub one_black_king : how_many 64 (has (standing bbs 5 1)) ≤ 1
  one_black_king = leb-true (kings bbs 1) 1 (third (leb (pieces bbs) 32) (leb (kings bbs 0) 1) (leb (kings bbs 1) 1) (sym (crowd_is bbs) ∙ e))
