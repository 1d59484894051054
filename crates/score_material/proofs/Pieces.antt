-- Pieces, material and the pair, as the definitions have them. Assumes nothing.
use mathlib.Core.Path.{◌≡◌, refl, sym, ap, ◌∙◌}
use mathlib.Core.Bool.{Bool, true, false, cond}
use mathlib.Core.List.{List}
use Prim.Native.Nat.{ℕ, ◌+◌, ◌*◌, ◌≤◌, ◌<◌}
use native.Mathlib.Omega.{arith}
use borrow.Author.Tests.{lt-leb, le-leb}
use lib.Dec.{leb}
use Rattle.laws.specs.Sums.{sum_n}
use Rattle.laws.proofs.Sums.{sum_le}
use Rattle.bits.specs.Bitboard.{has, how_many}
use Rattle.bits.proofs.Counts.{many_le}
use Rattle.attack.specs.Attacks.{standing, occupied}
use Rattle.score_material.specs.Pieces.{count, pieces}
use Rattle.chess.specs.Values.{value_of}
use Rattle.score_material.specs.Material.{worth, pair, pair_value, material}
use Rattle.score_material.proofs.Constants.{worth_le}

module _ (bbs : List ℕ) where
  pub count_of : (kind colour : ℕ) → how_many 64 (has (standing bbs kind colour)) ≡ count bbs kind colour
  unfolding count
  count_of kind colour = refl

  pub count_le : (kind colour : ℕ) → count bbs kind colour ≤ 64
  unfolding count
  count_le kind colour = many_le 64 (has (standing bbs kind colour))

  pub pieces_of : how_many 64 (has (occupied bbs)) ≡ pieces bbs
  unfolding pieces
  pieces_of = refl

  pub pieces_le : pieces bbs ≤ 64
  unfolding pieces
  pieces_le = many_le 64 (has (occupied bbs))

  pub worth_of_holds : (colour : ℕ) → sum_n 6 (λ kind. count bbs kind colour * value_of kind) ≡ worth bbs colour
  unfolding worth
  worth_of_holds colour = refl

  pub worth_small : (colour : ℕ) → worth bbs colour ≤ 3840000
  unfolding worth
  worth_small colour = sum_le 6 640000 (λ kind. count bbs kind colour * value_of kind) (λ kind h. worth_le (count bbs kind colour) kind (count_le kind colour))

  pub material_of_holds : (colour : ℕ) → worth bbs colour + pair bbs colour * pair_value ≡ material bbs colour
  unfolding material
  material_of_holds colour = refl

  -- the pair's bonus, as it is tested
  pub no_pair : (colour n : ℕ) → n ≡ count bbs 2 colour → n < 2 → 0 ≡ pair bbs colour * pair_value
  unfolding pair
  no_pair colour n e h = sym (ap (λ (t : Bool). cond t 1 0 * pair_value) (ap (leb 2) (sym e) ∙ lt-leb 2 n h))

  pub a_pair : (colour n : ℕ) → n ≡ count bbs 2 colour → 2 ≤ n → pair_value ≡ pair bbs colour * pair_value
  unfolding pair
  a_pair colour n e h = sym (ap (λ (t : Bool). cond t 1 0 * pair_value) (ap (leb 2) (sym e) ∙ le-leb 2 n h))

  pub pair_small : (colour : ℕ) → pair bbs colour * pair_value ≤ 33
  unfolding pair
  pair_small colour = go (leb 2 (count bbs 2 colour))
    where
      go : (t : Bool) → cond t 1 0 * pair_value ≤ 33
      go true = omega arith
      go false = omega arith
