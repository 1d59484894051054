-- The passed pawn is there, and a piece of the other side; so in either mode there are at most 31 captures. Assumes nothing.
use mathlib.Core.Path.{◌≡◌, refl, sym, ap, ◌∙◌}
use mathlib.Core.Bool.{Bool, true, false, true≢false, ◌&&◌}
use mathlib.Core.List.{List}
use Prim.Native.Nat.{ℕ, zero, suc, ◌+◌, ◌-◌, ◌/◌, ◌≤◌, ◌<◌}
use native.Mathlib.Omega.{arith}
use lib.Dec.{eqb}
use lib.ListN.{length, get_or}
use borrow.Author.Tests.{eqb-true}
use Rattle.laws.proofs.Truth.{true_T, T_true, and_l, and_r}
use Rattle.chess.specs.Values.{value_of}
use Rattle.bits.specs.Bitboard.{has}
use Rattle.position_boards.specs.Sound.{on}
use Rattle.position_boards.specs.Boards.{stands_on}
use Rattle.position_consistent.specs.Consistent.{consistent}
use Rattle.position_consistent.proofs.Only.{every_board}
use Rattle.position_further.specs.Rule.{stands, on_rank, just_passed}
use Rattle.position.specs.declared.State.{State}
use Rattle.attack.specs.Attacks.{occupied, other}
use Rattle.attack.proofs.Other.{other_lt}
use Rattle.attack_to.specs.Attackers.{attackers}
use Rattle.attack_mutual.proofs.Self.{not_self}
use Rattle.exchange_start.specs.Capture.{kind_on, is_passant, takes_passing, passed_pawn, may_capture, uncrowded}
use Rattle.exchange_start.specs.declared.Mode.{Mode}
use Rattle.exchange_start.specs.declared.Mode.TheVariants.{First, Second}
use Rattle.exchange_start.proofs.Tested.{own_there, other_there, few_pieces_holds}
use Rattle.exchange.specs.Exchange.{emptied, promotes, first_taken, captures_of}
use Rattle.exchange.proofs.Forward.{stays, forced}
use Rattle.exchange.proofs.Ending.{one_less, kept, at_most_pieces, fewer_captures}
use Rattle.exchange.proofs.First.{passing_there, all_there}
use Rattle.exchange.proofs.Room.{stands_there, captures_are}
use Rattle.exchange.proofs.Kings.{not_both}
use Rattle.std.specs.Prelude.{Option, None, Some}

-- ---- by the rule, a pawn of the other side stands beyond the en passant square
module _ (bbs bytes : List ℕ) (e : consistent bbs bytes ≡ true) where
  of_byte : (k code colour : ℕ) → k < 64 → colour < 14 → stands_on code colour ≡ true → stands bytes k code ≡ true → on bbs colour k ≡ true
  of_byte k code colour h l t s = every_board bbs bytes e k colour h l ∙ ap (λ (b : ℕ). stands_on b colour) (eqb-true (get_or bytes k 0) code s) ∙ t

  pub pawn_passed : (side : ℕ) (p : Option ℕ) (to : ℕ) → side < 2 → just_passed bytes side p ≡ true → is_passant p to ≡ true
      → (passed_pawn side to < 64) × (on bbs (other side) (passed_pawn side to) ≡ true)
  unfolding just_passed
  pawn_passed side None to h j i = absurd (true≢false (sym i))
  pawn_passed zero (Some s) to h j i =
      let there : s ≡ to = eqb-true s to i in
      let q = and_r (stands bytes s 0) (on_rank 6 s && stands bytes (s - 8) 3) (true_T j) in
      let r : s / 8 + 1 ≡ 6 = eqb-true (s / 8 + 1) 6 (T_true (on_rank 6 s) (and_l (on_rank 6 s) (stands bytes (s - 8) 3) q)) in
      let small : to - 8 < 64 = omega arith in (
        small,
        of_byte (to - 8) 3 1 small (omega arith) refl (ap (λ (k : ℕ). stands bytes (k - 8) 3) (sym there)
            ∙ T_true (stands bytes (s - 8) 3) (and_r (on_rank 6 s) (stands bytes (s - 8) 3) q)),
      )
  pawn_passed (suc zero) (Some s) to h j i =
      let there : s ≡ to = eqb-true s to i in
      let q = and_r (stands bytes s 0) (on_rank 3 s && stands bytes (s + 8) 2) (true_T j) in
      let r : s / 8 + 1 ≡ 3 = eqb-true (s / 8 + 1) 3 (T_true (on_rank 3 s) (and_l (on_rank 3 s) (stands bytes (s + 8) 2) q)) in
      let small : to + 8 < 64 = omega arith in (
        small,
        of_byte (to + 8) 2 0 small (omega arith) refl (ap (λ (k : ℕ). stands bytes (k + 8) 2) (sym there)
            ∙ T_true (stands bytes (s + 8) 2) (and_r (on_rank 3 s) (stands bytes (s + 8) 2) q)),
      )
  pawn_passed (suc (suc side)) (Some s) to h j i = absurd (omega arith)

-- the target of a capture en passant is the position's square
pub at_passant : (mode : Mode) (bytes : List ℕ) (state : State) (from to : ℕ) → takes_passing mode bytes state from to ≡ true
    → is_passant state.passant to ≡ true
at_passant First bytes state from to e = absurd (true≢false (sym e))
at_passant Second bytes state from to e = T_true (is_passant state.passant to) (and_r (eqb (kind_on bytes from) 0) (is_passant state.passant to) (true_T e))

-- ---- at most 31 captures
module _ (mode : Mode) (kinds bbs bytes : List ℕ) (state : State) (from to : ℕ) (hs : state.side < 2) (hf : from < 64) (ht : to < 64)
    (sound : consistent bbs bytes ≡ true) (may : may_capture mode bbs bytes state from to ≡ true) (few : uncrowded bbs ≡ true) where
  abbrev side : ℕ
  side = state.side

  abbrev queening : ℕ → ℕ → Bool
  queening = promotes mode to

  abbrev value : ℕ
  value = value_of (first_taken mode bytes state from to)

  own : on bbs side from ≡ true
  own = own_there mode bbs bytes state from to may

  there : has (occupied bbs) from ≡ true
  there = stands_there bbs side from hf hs own

  -- a piece on the target, which never captures
  pub not_passing_31 : takes_passing mode bytes state from to ≡ false → length (captures_of mode kinds bbs bytes state from to) ≤ 31
  not_passing_31 e =
      let their = other_there mode bbs bytes state from to may e in
      rw (captures_are mode kinds bbs bytes state from to, ← all_there mode bbs bytes state from to e)
      (omega (
        arith,
        few_pieces_holds bbs few,
        fewer_captures kinds bbs (attackers bbs to) queening to ht (λ occ. not_self bbs to occ ht) 64 (occupied bbs) side from (kind_on bytes from) value hf
            (not_both bbs bytes sound side from to hs hf ht own their) there (stands_there bbs (other side) to ht (other_lt side) their),
      ))

  -- the passed pawn, which has left
  passing_31 : just_passed bytes side state.passant ≡ true → takes_passing mode bytes state from to ≡ true
      → length (captures_of mode kinds bbs bytes state from to) ≤ 31
  passing_31 rule e =
      let s : ℕ = passed_pawn side to in
      let w = pawn_passed bbs bytes sound side state.passant to hs rule (at_passant mode bytes state from to e) in
      let apart : from ≡ s → ⊥ = λ z. not_both bbs bytes sound side from s hs hf w.0 own w.1 (sym z) in
      rw (
        captures_are mode kinds bbs bytes state from to,
        ← passing_there mode bbs bytes state from to e,
        forced kinds bbs (attackers bbs to) queening 64 (emptied (occupied bbs) s) side from (kind_on bytes from) value,
      )
      (omega (
        arith,
        few_pieces_holds bbs few,
        one_less (occupied bbs) s w.0 (stands_there bbs (other side) s w.0 (other_lt side) w.1),
        one_less (emptied (occupied bbs) s) from hf (kept (occupied bbs) s from hf there apart),
        at_most_pieces kinds bbs (attackers bbs to) queening 64 (emptied (emptied (occupied bbs) s) from) (other side)
            (stays kinds bbs (attackers bbs to) queening side (kind_on bytes from)),
      ))

  pub at_most_31 : just_passed bytes side state.passant ≡ true → length (captures_of mode kinds bbs bytes state from to) ≤ 31
  at_most_31 rule = go (takes_passing mode bytes state from to) refl
    where
      go : (t : Bool) → takes_passing mode bytes state from to ≡ t → length (captures_of mode kinds bbs bytes state from to) ≤ 31
      go true e = passing_31 rule e
      go false e = not_passing_31 e
