-- A step leads back: t is reached from s exactly where s is reached from t, by a white pawn's steps there and a black pawn's back. One test over two
-- squares for each piece. Assumes nothing.
use mathlib.Core.Path.{◌≡◌, sym, ◌∙◌}
use mathlib.Core.Bool.{Bool, false, not, beq}
use mathlib.Core.List.{List}
use Prim.Native.Nat.{ℕ, ◌<◌}
use lib.Dec.{T}
use Rattle.laws.specs.Tests.{all_below, all_below2}
use Rattle.laws.proofs.Tests.{all_at, all2_at}
use Rattle.laws.proofs.Truth.{is_beq, not_e}
use Rattle.bits.specs.Bitboard.{has}
use Rattle.attack_steps.specs.Steps.{Step, one_leads, reached, knight_steps, king_steps, white_pawn_steps, black_pawn_steps}
use Rattle.attack_steps.proofs.Tables.{has_reached}

module _ (ds es : List Step) where
  abbrev turned : ℕ → ℕ → Bool
  turned s t = beq (one_leads ds s t) (one_leads es t s)

  by_steps : T (all_below2 64 64 turned) → (s t : ℕ) → s < 64 → t < 64 → has (reached ds s) t ≡ has (reached es t) s
  by_steps h s t hs ht =
      has_reached ds s t hs ht ∙ is_beq (one_leads ds s t) (one_leads es t s) (all2_at 64 64 turned h s t hs ht) ∙ sym (has_reached es t s ht hs)

pub pawn_back : (s t : ℕ) → s < 64 → t < 64 → has (reached white_pawn_steps s) t ≡ has (reached black_pawn_steps t) s
unfolding one_leads all_below2
pawn_back = by_steps white_pawn_steps black_pawn_steps tt

pub knight_back : (s t : ℕ) → s < 64 → t < 64 → has (reached knight_steps s) t ≡ has (reached knight_steps t) s
unfolding one_leads all_below2
knight_back = by_steps knight_steps knight_steps tt

pub king_back : (s t : ℕ) → s < 64 → t < 64 → has (reached king_steps s) t ≡ has (reached king_steps t) s
unfolding one_leads all_below2
king_back = by_steps king_steps king_steps tt

-- ---- and no step leads to where it began
module _ (ds : List Step) where
  abbrev leaves : ℕ → Bool
  leaves s = not (one_leads ds s s)

  no_stay : T (all_below 64 leaves) → (s : ℕ) → s < 64 → has (reached ds s) s ≡ false
  no_stay h s hs = has_reached ds s s hs hs ∙ not_e (one_leads ds s s) (all_at 64 leaves h s hs)

pub white_pawn_leaves : (s : ℕ) → s < 64 → has (reached white_pawn_steps s) s ≡ false
unfolding one_leads all_below
white_pawn_leaves = no_stay white_pawn_steps tt

pub black_pawn_leaves : (s : ℕ) → s < 64 → has (reached black_pawn_steps s) s ≡ false
unfolding one_leads all_below
black_pawn_leaves = no_stay black_pawn_steps tt

pub knight_leaves : (s : ℕ) → s < 64 → has (reached knight_steps s) s ≡ false
unfolding one_leads all_below
knight_leaves = no_stay knight_steps tt

pub king_leaves : (s : ℕ) → s < 64 → has (reached king_steps s) s ≡ false
unfolding one_leads all_below
king_leaves = no_stay king_steps tt
