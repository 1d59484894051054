-- The entries that are 1 are as many as the piece count, in a consistent position: each entry is a piece of one kind and colour on one
-- square, no square has two, and a colour's board has just its pieces. Assumes nothing.
use mathlib.Core.Path.{◌≡◌, refl, sym, ap, ap₂, ◌∙◌}
use mathlib.Core.Bool.{Bool, true, false, ◌||◌, ◌&&◌}
use mathlib.Core.List.{List}
use Prim.Native.Nat.{ℕ, zero, suc, ◌+◌, ◌*◌, ◌/◌, ◌%◌, ◌<◌, ◌≤◌}
use native.Mathlib.Omega.{arith}
use borrow.Author.Tests.{eqb-true, eqb-false}
use lib.Bits.{bit_xor}
use lib.Dec.{T, eqb, leb→le}
use lib.IntN.{ℤ, pos, ◌+ℤ◌, +ℤ_idl}
use lib.ListN.{get_or}
use Rattle.laws.specs.Tests.{all_below}
use Rattle.laws.specs.Sums.{sum_z}
use Rattle.laws.proofs.Truth.{true_T, and_l, and_r}
use Rattle.laws.proofs.Tests.{all_at}
use Rattle.laws.proofs.Sums.{whole_same}
use Rattle.laws.proofs.Terms.{sum_plus, sum_blocks}
use Rattle.places.specs.Places.{entry_place}
use Rattle.chess.specs.Squares.{flip_of}
use Rattle.bits.specs.Bitboard.{has, digit, those, how_many}
use Rattle.bits.proofs.Those.{has_those}
use Rattle.bits.proofs.Counts.{many_same, many_none, many_at}
use Rattle.bits.proofs.Some.{some_none, some_where}
use Rattle.bits.proofs.Turned.{sum_turned}
use Rattle.position_boards.specs.Sound.{on, boards_with, apart, of_colour, united}
use Rattle.position_consistent.specs.Consistent.{agrees, consistent}
use Rattle.position_boards.proofs.United.{united_white, united_black}
use Rattle.attack.specs.Attacks.{standing, occupied}
use Rattle.score_material.specs.Pieces.{pieces}
use Rattle.trace.specs.Trace.{entry_at}
use Rattle.trace_exact.proofs.Entries.{entry_at_holds}

-- ---- sums of digits
pub many_sum : (n : ℕ) (f : ℕ → Bool) → sum_z n (λ k. pos (digit (f k))) ≡ pos (how_many n f)
unfolding sum_z how_many
many_sum zero f = refl
many_sum (suc n) f = ap (λ (z : ℤ). z +ℤ pos (digit (f n))) (many_sum n f) ∙ ap pos (native.Mathlib.Nat.add_comm (how_many n f) (digit (f n)))

sum_none : (n : ℕ) → sum_z n (λ k. pos 0) ≡ pos 0
unfolding sum_z
sum_none zero = refl
sum_none (suc n) = ap (λ (z : ℤ). z +ℤ pos 0) (sum_none n)

-- rows and columns
sum_swap : (m n : ℕ) (f : ℕ → ℕ → ℤ) → sum_z m (λ i. sum_z n (f i)) ≡ sum_z n (λ j. sum_z m (λ i. f i j))
unfolding sum_z
sum_swap zero n f = sym (sum_none n)
sum_swap (suc m) n f = ap (λ (z : ℤ). z +ℤ sum_z n (f m)) (sum_swap m n f) ∙ sym (sum_plus n (λ j. sum_z m (λ i. f i j)) (f m))

two_terms : (f : ℕ → ℤ) → sum_z 2 f ≡ f 0 +ℤ f 1
unfolding sum_z
two_terms f = ap (λ (z : ℤ). z +ℤ f 1) (+ℤ_idl (f 0))

-- ---- a square has as many pieces as boards of kinds and colours have it
at : List ℕ → ℕ → ℕ → ℕ → ℤ
at bbs kind colour s = pos (digit (has (standing bbs kind colour) s))

twelve : (a b c d e f g h i j k l : ℕ)
    → pos 0 +ℤ (pos a +ℤ pos b) +ℤ (pos c +ℤ pos d) +ℤ (pos g +ℤ pos h) +ℤ (pos i +ℤ pos j) +ℤ (pos k +ℤ pos l) +ℤ (pos e +ℤ pos f)
    ≡ pos (l + (k + (j + (i + (h + (g + (f + (e + (d + (c + (b + (a + 0))))))))))))
twelve a b c d e f g h i j k l = ap pos (omega arith)

boards_with_is : (bbs : List ℕ) (s : ℕ) → sum_z 6 (λ kind. at bbs kind 0 s +ℤ at bbs kind 1 s) ≡ pos (boards_with bbs s)
unfolding sum_z boards_with how_many at
boards_with_is bbs s =
    twelve (d 2) (d 3) (d 4) (d 5) (d 6) (d 7) (d 8) (d 9) (d 10) (d 11) (d 12) (d 13)
  where
    d : ℕ → ℕ
    d code = digit (on bbs code s)

-- ---- the entries' sum
module _ (bbs : List ℕ) where
  abbrev one : ℕ → ℤ
  one i = pos (entry_at bbs i)

  at_place : (kind s colour : ℕ) → s < 64 → colour < 2 → one (128 * kind + (2 * s + colour)) ≡ at bbs kind colour (flip_of s colour)
  unfolding at
  at_place kind s colour hs hc = ap one (let e : 128 * kind + (2 * s + colour) ≡ entry_place kind s colour = omega arith in e)
      ∙ ap pos (entry_at_holds bbs kind s colour hs hc)

  a_kind : (kind : ℕ) → sum_z 128 (λ j. one (128 * kind + j)) ≡ sum_z 64 (λ s. at bbs kind 0 s +ℤ at bbs kind 1 s)
  a_kind kind =
      sum_blocks 2 64 (λ j. one (128 * kind + j))
      ∙ whole_same 64 (λ s. sum_z 2 (λ c. one (128 * kind + (2 * s + c)))) (λ s. at bbs kind 0 s +ℤ at bbs kind 1 (bit_xor s 56))
      (λ s h. two_terms (λ c. one (128 * kind + (2 * s + c))) ∙ ap₂ ◌+ℤ◌ (at_place kind s 0 h (omega arith)) (at_place kind s 1 h (omega arith)))
      ∙ sum_plus 64 (at bbs kind 0) (λ s. at bbs kind 1 (bit_xor s 56))
      ∙ ap (λ (z : ℤ). sum_z 64 (at bbs kind 0) +ℤ z) (sum_turned (at bbs kind 1))
      ∙ sym (sum_plus 64 (at bbs kind 0) (at bbs kind 1))

  all_entries : sum_z 768 one ≡ sum_z 64 (λ s. pos (boards_with bbs s))
  all_entries =
      sum_blocks 128 6 one
      ∙ whole_same 6 (λ kind. sum_z 128 (λ j. one (128 * kind + j))) (λ kind. sum_z 64 (λ s. at bbs kind 0 s +ℤ at bbs kind 1 s)) (λ kind h. a_kind kind)
      ∙ sum_swap 6 64 (λ kind s. at bbs kind 0 s +ℤ at bbs kind 1 s)
      ∙ whole_same 64 (λ s. sum_z 6 (λ kind. at bbs kind 0 s +ℤ at bbs kind 1 s)) (λ s. pos (boards_with bbs s)) (λ s h. boards_with_is bbs s)

-- ---- in a consistent position a square has one piece or none
module _ (bbs : List ℕ) (s : ℕ) where
  abbrev code : ℕ → Bool
  code n = on bbs (2 + n) s

  no_one : of_colour bbs 0 s ≡ false → of_colour bbs 1 s ≡ false → (i : ℕ) → i < 12 → code i ≡ false
  unfolding of_colour
  no_one w b i h = go (eqb (i % 2) 0) refl
    where
      go : (t : Bool) → eqb (i % 2) 0 ≡ t → code i ≡ false
      go true e =
          let q : 2 + i ≡ 2 + 2 * (i / 2) + 0 = omega (arith, eqb-true (i % 2) 0 e) in
          ap (λ (c : ℕ). on bbs c s) q ∙ some_none 6 (λ n. on bbs (2 + 2 * n + 0) s) w (i / 2) (omega arith)
      go false e =
          let ne : i % 2 ≡ 0 → ⊥ = eqb-false (i % 2) 0 e in
          let q : 2 + i ≡ 2 + 2 * (i / 2) + 1 = omega arith in
          ap (λ (c : ℕ). on bbs c s) q ∙ some_none 6 (λ n. on bbs (2 + 2 * n + 1) s) b (i / 2) (omega arith)

  some_one : (colour : ℕ) → colour < 2 → of_colour bbs colour s ≡ true → 1 ≤ boards_with bbs s
  unfolding of_colour boards_with
  some_one colour hc e =
      let w = some_where 6 (λ n. on bbs (2 + 2 * n + colour) s) e in
      let q : 2 + (2 * w.at + colour) ≡ 2 + 2 * w.at + colour = omega arith in
      many_at 12 code (2 * w.at + colour) (omega (arith, w.below)) (ap (λ (c : ℕ). on bbs c s) q ∙ w.holds)

  none : of_colour bbs 0 s ≡ false → of_colour bbs 1 s ≡ false → boards_with bbs s ≡ 0
  unfolding boards_with
  none p q = many_none 12 code (no_one p q)

  alone : boards_with bbs s ≤ 1 → on bbs 0 s ≡ of_colour bbs 0 s → on bbs 1 s ≡ of_colour bbs 1 s → boards_with bbs s ≡ digit (on bbs 0 s || on bbs 1 s)
  alone h w b = go (of_colour bbs 0 s) refl (of_colour bbs 1 s) refl
    where
      told : (t u : Bool) → of_colour bbs 0 s ≡ t → of_colour bbs 1 s ≡ u → digit (t || u) ≡ digit (on bbs 0 s || on bbs 1 s)
      told t u p q = sym (ap₂ (λ (x y : Bool). digit (x || y)) (w ∙ p) (b ∙ q))

      full : 1 ≤ boards_with bbs s → boards_with bbs s ≡ 1
      full l = omega arith

      go : (t : Bool) → of_colour bbs 0 s ≡ t → (u : Bool) → of_colour bbs 1 s ≡ u → boards_with bbs s ≡ digit (on bbs 0 s || on bbs 1 s)
      go true p u q = full (some_one 0 (omega arith) p) ∙ told true u p q
      go false p true q = full (some_one 1 (omega arith) q) ∙ told false true p q
      go false p false q = none p q ∙ told false false p q

-- the piece count, over all squares
pieces_sum : (bbs : List ℕ) → sum_z 64 (λ s. pos (digit (on bbs 0 s || on bbs 1 s))) ≡ pos (pieces bbs)
unfolding pieces occupied
pieces_sum bbs =
    many_sum 64 (λ s. on bbs 0 s || on bbs 1 s)
    ∙ ap pos (many_same 64 (λ s. on bbs 0 s || on bbs 1 s) (has (those 64 (λ k. has (get_or bbs 0 0) k || has (get_or bbs 1 0) k)))
    (λ k h. sym (has_those 64 (λ k. has (get_or bbs 0 0) k || has (get_or bbs 1 0) k) k h)))

pub ones_pieces : (bbs bytes : List ℕ) → consistent bbs bytes ≡ true → sum_z 768 (λ i. pos (entry_at bbs i)) ≡ pos (pieces bbs)
unfolding consistent
ones_pieces bbs bytes e =
    all_entries bbs
    ∙ whole_same 64 (λ s. pos (boards_with bbs s)) (λ s. pos (digit (on bbs 0 s || on bbs 1 s)))
    (λ s h. ap pos (alone bbs s (leb→le (boards_with bbs s) 1 (all_at 64 (apart bbs) first s h))
    (united_white bbs s (all_at 64 (united bbs) second s h)) (united_black bbs s (all_at 64 (united bbs) second s h))))
    ∙ pieces_sum bbs
  where
    both : T (all_below 64 (apart bbs) && all_below 64 (united bbs))
    both = and_l (all_below 64 (apart bbs) && all_below 64 (united bbs)) (all_below 64 (agrees bbs bytes)) (true_T e)

    first : T (all_below 64 (apart bbs))
    first = and_l (all_below 64 (apart bbs)) (all_below 64 (united bbs)) both

    second : T (all_below 64 (united bbs))
    second = and_r (all_below 64 (apart bbs)) (all_below 64 (united bbs)) both
