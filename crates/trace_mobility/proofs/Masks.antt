-- Steps: how many squares a piece reaches is told by masks, so what all of them attack is counted mask by mask. Assumes nothing.
use mathlib.Core.Path.{◌≡◌, refl, sym, ap, ap₂, ◌∙◌}
use mathlib.Core.Bool.{Bool, true, false, cond, ◌&&◌}
use mathlib.Core.List.{List, [], ◌∷◌}
use Prim.Native.Nat.{ℕ, zero, suc, ◌+◌, ◌*◌, ◌<◌}
use native.Mathlib.Omega.{arith}
use borrow.Author.Tests.{lt-ltb}
use lib.Bits.{bit_and}
use lib.Dec.{eqb, eqb→eq}
use lib.ListN.{length}
use Rattle.laws.specs.Sums.{counted}
use Rattle.laws.specs.Tests.{all_below}
use Rattle.laws.proofs.Tests.{all_at}
use Rattle.laws.proofs.Truth.{true_T}
use Rattle.bits.specs.Bitboard.{has, digit, those, how_many, squares_from, squares}
use Rattle.bits.proofs.Digits.{has_and}
use Rattle.bits.proofs.Those.{has_those}
use Rattle.bits.proofs.Counts.{many_same}
use Rattle.bits.proofs.Squares.{squares_many}
use Rattle.bits.proofs.Sums.{counted_squares}
use Rattle.attack_steps.specs.Steps.{Step, one_leads, reached, white_pawn_steps, black_pawn_steps, knight_steps, king_steps}
use Rattle.attack.specs.Attacks.{attacks}
use Rattle.score_tally.specs.Mobility.{attacked_from}
use Rattle.trace_mobility.specs.PrivateMasks.{Mask, counts_for, masked, pawn_masks_of, pawn_masks, knight_masks, king_masks}

-- ---- a sum of weights is a sum of counts
one_mask : (w m b n k a : ℕ) → counted (λ s. w * digit (has m s)) a (squares_from n k b) ≡ a + w * length (squares_from n k (bit_and b m))
unfolding counted squares_from
one_mask w m b zero k a = omega arith
one_mask w m b (suc n) k a =
    pick (has b k) (has m k) refl (λ z. one_mask w m b n (suc k) z)
    ∙ ap (λ (t : Bool). a + w * length (cond t (k ∷ squares_from n (suc k) (bit_and b m)) (squares_from n (suc k) (bit_and b m)))) (sym (has_and b m k))
  where
    more : (x : ℕ) → a + w * 1 + w * x ≡ a + w * suc x
    more x = omega arith

    none : (x : ℕ) → a + w * 0 + x ≡ a + x
    none x = omega arith

    pick : (t u : Bool) → has m k ≡ u
        → ((z : ℕ) → counted (λ s. w * digit (has m s)) z (squares_from n (suc k) b) ≡ z + w * length (squares_from n (suc k) (bit_and b m)))
        → counted (λ s. w * digit (has m s)) a (cond t (k ∷ squares_from n (suc k) b) (squares_from n (suc k) b))
        ≡ a + w * length (cond (t && u) (k ∷ squares_from n (suc k) (bit_and b m)) (squares_from n (suc k) (bit_and b m)))
    pick true true e on =
        on (a + w * digit (has m k)) ∙ ap (λ (d : Bool). a + w * digit d + w * length (squares_from n (suc k) (bit_and b m))) e
        ∙ more (length (squares_from n (suc k) (bit_and b m)))
    pick true false e on =
        on (a + w * digit (has m k)) ∙ ap (λ (d : Bool). a + w * digit d + w * length (squares_from n (suc k) (bit_and b m))) e
        ∙ none (w * length (squares_from n (suc k) (bit_and b m)))
    pick false u e on = on a

counted_plus : (f g : ℕ → ℕ) (a c : ℕ) (l : List ℕ) → counted (λ s. f s + g s) (a + c) l ≡ counted f a l + counted g c l
unfolding counted
counted_plus f g a c [] = refl
counted_plus f g a c (s ∷ l) = ap (λ (x : ℕ). counted (λ s. f s + g s) x l) (cross (f s) (g s)) ∙ counted_plus f g (a + f s) (c + g s) l
  where
    cross : (x y : ℕ) → a + c + (x + y) ≡ a + x + (c + y)
    cross x y = omega arith

counted_nothing : (a : ℕ) (l : List ℕ) → counted (λ s. 0) a l ≡ a
unfolding counted
counted_nothing a [] = refl
counted_nothing a (s ∷ l) = counted_nothing (a + 0) l ∙ omega arith

all_squares : (w m b : ℕ) → counted (λ s. w * digit (has m s)) 0 (squares b) ≡ w * how_many 64 (has (bit_and b m))
unfolding squares
all_squares w m b = one_mask w m b 64 0 0 ∙ ap (λ (x : ℕ). 0 + w * x) (squares_many (bit_and b m)) ∙ plain (w * how_many 64 (has (bit_and b m)))
  where
    plain : (x : ℕ) → 0 + x ≡ x
    plain x = omega arith

by_masks : (ms : List Mask) (b : ℕ) → counted (counts_for ms) 0 (squares b) ≡ masked ms b
by_masks [] b = counted_nothing 0 (squares b)
by_masks (m ∷ ms) b =
    counted_plus (λ s. m.weight * digit (has m.mask s)) (counts_for ms) 0 0 (squares b)
    ∙ ap₂ (λ (x y : ℕ). x + y) (all_squares m.weight m.mask b) (by_masks ms b)

-- ---- as the code adds them
pub two : (a b x y : ℕ) → a ≡ x → b ≡ y → a + b ≡ 1 * x + (1 * y + 0)
two a b x y p q = omega arith

pub three : (a b c x y z : ℕ) → a ≡ x → b ≡ y → c ≡ z → 3 * a + 5 * b + 8 * c ≡ 3 * x + (5 * y + (8 * z + 0))
three a b c x y z p q r = omega arith

pub four : (a b c d w x y z : ℕ) → a ≡ w → b ≡ x → c ≡ y → d ≡ z → a + 2 * b + 4 * c + 8 * d ≡ 1 * w + (2 * x + (4 * y + (8 * z + 0)))
four a b c d w x y z p q r s = omega arith

-- ---- the masks tell how many squares the steps reach
abbrev tells : List Step → List Mask → ℕ → Bool
tells steps ms s = eqb (how_many 64 (one_leads steps s)) (counts_for ms s)

white_tells : all_below 64 (tells white_pawn_steps (pawn_masks_of true)) ≡ true
unfolding all_below how_many one_leads has
white_tells = refl

black_tells : all_below 64 (tells black_pawn_steps (pawn_masks_of false)) ≡ true
unfolding all_below how_many one_leads has
black_tells = refl

knight_tells : all_below 64 (tells knight_steps knight_masks) ≡ true
unfolding all_below how_many one_leads has
knight_tells = refl

king_tells : all_below 64 (tells king_steps king_masks) ≡ true
unfolding all_below how_many one_leads has
king_tells = refl

-- so what all pieces that take these steps attack is counted by them
reached_many : (steps : List Step) (s : ℕ) → s < 64 → how_many 64 (has (reached steps s)) ≡ how_many 64 (one_leads steps s)
unfolding reached
reached_many steps s h =
    ap (λ (t : Bool). how_many 64 (has (cond t (those 64 (λ t. one_leads steps s t)) 0))) (lt-ltb s 64 h)
    ∙ many_same 64 (has (those 64 (λ t. one_leads steps s t))) (one_leads steps s) (λ k l. has_those 64 (λ t. one_leads steps s t) k l)

by_steps : (steps : List Step) (ms : List Mask) → all_below 64 (tells steps ms) ≡ true → (b : ℕ)
    → masked ms b ≡ counted (λ s. how_many 64 (has (reached steps s))) 0 (squares b)
by_steps steps ms t b =
    sym
    (counted_squares (λ s. how_many 64 (has (reached steps s))) (counts_for ms) b 0
    (λ s h. reached_many steps s h ∙ eqb→eq _ _ (all_at 64 (tells steps ms) (true_T t) s h)) ∙ by_masks ms b)

-- a kind that steps, whoever stands where
module _ (r pieces kind colour occ : ℕ) where
  pub of_pawns : kind ≡ 0 → r ≡ masked (pawn_masks colour) pieces → r ≡ attacked_from (λ s. attacks kind colour s occ) pieces
  unfolding attacked_from attacks
  of_pawns e p = rw e (p ∙ go (eqb colour 0))
    where
      go : (t : Bool) → masked (pawn_masks_of t) pieces ≡ counted (λ s. how_many 64 (has (reached (cond t white_pawn_steps black_pawn_steps) s))) 0 (squares pieces)
      go true = by_steps white_pawn_steps (pawn_masks_of true) white_tells pieces
      go false = by_steps black_pawn_steps (pawn_masks_of false) black_tells pieces

  pub of_knights : kind ≡ 1 → r ≡ masked knight_masks pieces → r ≡ attacked_from (λ s. attacks kind colour s occ) pieces
  unfolding attacked_from attacks
  of_knights e p = rw e (p ∙ by_steps knight_steps knight_masks knight_tells pieces)

  pub of_kings : kind ≡ 5 → r ≡ masked king_masks pieces → r ≡ attacked_from (λ s. attacks kind colour s occ) pieces
  unfolding attacked_from attacks
  of_kings e p = rw e (p ∙ by_steps king_steps king_masks king_tells pieces)
