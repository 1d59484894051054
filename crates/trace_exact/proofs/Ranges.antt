-- The trace of a position is never refused by TRACE: counts are of 64 squares, and no piece attacks more than 27, a queen's on an empty
-- board: 64 · 27 = 1728. Of consistency nothing is used. Assumes nothing.
use mathlib.Core.Path.{◌≡◌, refl, sym, ap, ap₂, ◌∙◌}
use mathlib.Core.Bool.{Bool, true, false, cond, ◌&&◌}
use mathlib.Core.List.{List, [], ◌∷◌, ◌++◌}
use Prim.Native.Nat.{ℕ, zero, suc, ◌+◌, ◌*◌, ◌<◌, ◌≤◌}
use native.Mathlib.Nat.{le_trans}
use native.Mathlib.Omega.{arith}
use borrow.Author.Tests.{eqb-true, le-leb}
use lib.Dec.{T, eqb, leb, ltb, leb→le, ltb→lt, leb-zero}
use lib.IntN.{pos}
use lib.ListN.{length, get_or, length-append}
use Rattle.laws.specs.Tests.{all_below}
use Rattle.laws.specs.Sums.{counted}
use Rattle.laws.proofs.Truth.{true_T, T_true, and_l, and_r}
use Rattle.laws.proofs.Tests.{all_at, all_of}
use Rattle.bits.specs.Bitboard.{has, digit, how_many, is_in, squares, board}
use Rattle.bits.proofs.Counts.{many_le, many_same, many_none, many_or, alone_one}
use Rattle.bits.proofs.Lists.{has_board}
use Rattle.bits.proofs.Members.{inside, inside_squares}
use Rattle.bits.proofs.Squares.{squares_le}
use Rattle.attack_steps.specs.Steps.{Step, reached, knight_steps, king_steps, white_pawn_steps, black_pawn_steps}
use Rattle.attack_rays.specs.Rays.{onward, path, through, seen, straight, slanted}
use Rattle.attack.specs.Attacks.{standing, occupied, attacks}
use Rattle.score_material.specs.Pieces.{count, pieces}
use Rattle.score_material.specs.Material.{pair}
use Rattle.score_tally.specs.Mobility.{attacked_from, attacked_by, attacked}
use Rattle.trace_counts.specs.Ranges.{within, all_within, is_side, in_ranges, are_entries}
use Rattle.trace.specs.Trace.{sign_of, trace_of, entry_at, entries_of}
use Rattle.trace.proofs.Planes.{entries_at, entries_length}

-- ---- a list has no more squares than it is long
many_is : (n q : ℕ) → how_many n (λ k. eqb k q) ≤ 1
many_is n q = alone_one n (λ k. eqb k q) (λ i j hi hj p r. eqb-true i q p ∙ sym (eqb-true j q r))

in_many : (qs : List ℕ) → how_many 64 (λ k. is_in k qs) ≤ length qs
unfolding is_in
in_many [] = omega (arith, many_none 64 (λ k. false) (λ i h. refl))
in_many (q ∷ qs) = omega (arith, many_or 64 (λ k. eqb k q) (λ k. is_in k qs), many_is 64 q, in_many qs)

-- ---- sliders: as many as the ways are long
unfoldable ways : List Step → ℕ → ℕ
unfolding path onward
ways [] s = 0
ways (d ∷ ds) s = length (path d (onward d s)) + ways ds s

through_le : (occ : ℕ) (l : List ℕ) → length (through occ l) ≤ length l
unfolding through
through_le occ [] = omega arith
through_le occ (q ∷ l) = go (has occ q) (through_le occ l)
  where
    go : (t : Bool) → length (through occ l) ≤ length l → suc (length (cond t [] (through occ l))) ≤ suc (length l)
    go true h = omega arith
    go false h = omega arith

seen_le : (ds : List Step) (s occ : ℕ) → length (seen ds s occ) ≤ ways ds s
unfolding seen ways
seen_le [] s occ = omega arith
seen_le (d ∷ ds) s occ =
    omega (arith, length-append (through occ (path d (onward d s))) (seen ds s occ), through_le occ (path d (onward d s)), seen_le ds s occ)

seen_many : (ds : List Step) (s occ : ℕ) → how_many 64 (has (board (seen ds s occ))) ≤ ways ds s
seen_many ds s occ =
    omega (
      arith,
      many_same 64 (has (board (seen ds s occ))) (λ k. is_in k (seen ds s occ)) (λ k h. has_board (seen ds s occ) k h),
      in_many (seen ds s occ),
      seen_le ds s occ,
    )

abbrev few : List Step → Bool
few ds = all_below 64 (λ s. leb (ways ds s) 27)

slides : (ds : List Step) → T (few ds) → (s occ : ℕ) → s < 64 → how_many 64 (has (board (seen ds s occ))) ≤ 27
slides ds t s occ h = le_trans (seen_many ds s occ) (leb→le (ways ds s) 27 (all_at 64 (λ s. leb (ways ds s) 27) t s h))

-- ---- steps: by computation
abbrev few_steps : List Step → Bool
few_steps ds = all_below 64 (λ s. leb (how_many 64 (has (reached ds s))) 27)

stepped : (ds : List Step) → T (few_steps ds) → (s : ℕ) → s < 64 → how_many 64 (has (reached ds s)) ≤ 27
stepped ds t s h = leb→le (how_many 64 (has (reached ds s))) 27 (all_at 64 (λ s. leb (how_many 64 (has (reached ds s))) 27) t s h)

bishop_few : T (few slanted)
unfolding all_below ways
bishop_few = tt

rook_few : T (few straight)
unfolding all_below ways
rook_few = tt

queen_few : T (few (straight ++ slanted))
unfolding all_below ways
queen_few = tt

knight_few : T (few_steps knight_steps)
unfolding all_below how_many has reached
knight_few = tt

king_few : T (few_steps king_steps)
unfolding all_below how_many has reached
king_few = tt

white_few : T (few_steps white_pawn_steps)
unfolding all_below how_many has reached
white_few = tt

black_few : T (few_steps black_pawn_steps)
unfolding all_below how_many has reached
black_few = tt

none_few : how_many 64 (has 0) ≤ 27
unfolding how_many has
none_few = omega arith

pub attacks_few : (kind colour s occ : ℕ) → s < 64 → how_many 64 (has (attacks kind colour s occ)) ≤ 27
unfolding attacks
attacks_few zero colour s occ h = go (eqb colour 0)
  where
    go : (t : Bool) → how_many 64 (has (reached (cond t white_pawn_steps black_pawn_steps) s)) ≤ 27
    go true = stepped white_pawn_steps white_few s h
    go false = stepped black_pawn_steps black_few s h
attacks_few (suc zero) colour s occ h = stepped knight_steps knight_few s h
attacks_few (suc (suc zero)) colour s occ h = slides slanted bishop_few s occ h
attacks_few (suc (suc (suc zero))) colour s occ h = slides straight rook_few s occ h
attacks_few (suc (suc (suc (suc zero)))) colour s occ h = slides (straight ++ slanted) queen_few s occ h
attacks_few (suc (suc (suc (suc (suc zero))))) colour s occ h = stepped king_steps king_few s h
attacks_few (suc (suc (suc (suc (suc (suc kind)))))) colour s occ h = none_few

-- ---- all pieces of a kind and a colour
counted_few : (f : ℕ → ℕ) → ((s : ℕ) → s < 64 → f s ≤ 27) → (a : ℕ) (l : List ℕ) → T (inside l) → counted f a l ≤ a + 27 * length l
unfolding counted
counted_few f h a [] i = omega arith
counted_few f h a (s ∷ l) i =
    omega (arith, counted_few f h (a + f s) l (and_r (ltb s 64) (inside l) i), h s (ltb→lt s 64 (and_l (ltb s 64) (inside l) i)))

bound : (n : ℕ) → n ≤ 64 → 0 + 27 * n ≤ 1728
bound n h = omega arith

pub attacked_few : (bbs : List ℕ) (kind colour : ℕ) → attacked bbs kind colour ≤ 1728
unfolding attacked attacked_by attacked_from
attacked_few bbs kind colour =
    le_trans
    (counted_few (λ s. how_many 64 (has (attacks kind colour s (occupied bbs)))) (λ s h. attacks_few kind colour s (occupied bbs) h) 0
    (squares (standing bbs kind colour)) (inside_squares (standing bbs kind colour)))
    (bound (length (squares (standing bbs kind colour))) (squares_le (standing bbs kind colour)))

pub count_few : (bbs : List ℕ) (kind colour : ℕ) → count bbs kind colour ≤ 64
unfolding count
count_few bbs kind colour = many_le 64 (has (standing bbs kind colour))

pub pieces_few : (bbs : List ℕ) → pieces bbs ≤ 64
unfolding pieces
pieces_few bbs = many_le 64 (has (occupied bbs))

pair_few : (bbs : List ℕ) (colour : ℕ) → pair bbs colour ≤ 1
unfolding pair
pair_few bbs colour = go (leb 2 (count bbs 2 colour))
  where
    go : (t : Bool) → cond t 1 0 ≤ 1
    go true = omega arith
    go false = omega arith

-- ---- TRACE's tests
in_range_holds : (most n : ℕ) → n ≤ most → within (pos most) (pos n) ≡ true
in_range_holds most n h = ap₂ ◌&&◌ (leb-zero n) (le-leb n most h)

two : (most a b : ℕ) → a ≤ most → b ≤ most → all_within (pos most) (pos a ∷ pos b ∷ []) ≡ true
unfolding all_below
two most a b ha hb = ap₂ (λ (x y : Bool). x && (y && true)) (in_range_holds most b hb) (in_range_holds most a ha)

twelve : (f : ℕ → ℕ → ℕ) → ((k c : ℕ) → f k c ≤ 1728)
    → all_within (pos 1728)
    (pos (f 0 0) ∷ pos (f 0 1) ∷ pos (f 1 0) ∷ pos (f 1 1) ∷ pos (f 2 0) ∷ pos (f 2 1) ∷ pos (f 3 0) ∷ pos (f 3 1) ∷ pos (f 4 0) ∷ pos (f 4 1)
    ∷ pos (f 5 0) ∷ pos (f 5 1) ∷ []) ≡ true
unfolding all_below
twelve f h =
    simp (
      in_range_holds 1728 (f 0 0) (h 0 0),
      in_range_holds 1728 (f 0 1) (h 0 1),
      in_range_holds 1728 (f 1 0) (h 1 0),
      in_range_holds 1728 (f 1 1) (h 1 1),
      in_range_holds 1728 (f 2 0) (h 2 0),
      in_range_holds 1728 (f 2 1) (h 2 1),
      in_range_holds 1728 (f 3 0) (h 3 0),
      in_range_holds 1728 (f 3 1) (h 3 1),
      in_range_holds 1728 (f 4 0) (h 4 0),
      in_range_holds 1728 (f 4 1) (h 4 1),
      in_range_holds 1728 (f 5 0) (h 5 0),
      in_range_holds 1728 (f 5 1) (h 5 1),
    )

sided : (side : ℕ) → is_side (sign_of side) ≡ true
sided side = go (eqb side 0)
  where
    go : (t : Bool) → is_side (cond t (pos 1) (lib.IntN.negsuc 0)) ≡ true
    go true = refl
    go false = refl

-- the double never refuses a trace that we made
pub in_ranges_holds : (bbs : List ℕ) (side : ℕ) → in_ranges (trace_of bbs side) ≡ true
unfolding trace_of
in_ranges_holds bbs side =
    ap₂ ◌&&◌
    (ap₂ ◌&&◌
    (ap₂ ◌&&◌
    (ap₂ ◌&&◌
    (ap₂ ◌&&◌ (ap₂ ◌&&◌ (ap₂ ◌&&◌ (ap₂ ◌&&◌ (counts 0) (counts 1)) (counts 2)) (counts 3)) (counts 4))
    (two 1 (pair bbs 0) (pair bbs 1) (pair_few bbs 0) (pair_few bbs 1)))
    (twelve (attacked bbs) (attacked_few bbs)))
    (sided side))
    (in_range_holds 64 (pieces bbs) (pieces_few bbs))
  where
    counts : (kind : ℕ) → all_within (pos 64) (pos (count bbs kind 0) ∷ pos (count bbs kind 1) ∷ []) ≡ true
    counts kind = two 64 (count bbs kind 0) (count bbs kind 1) (count_few bbs kind 0) (count_few bbs kind 1)

digit_few : (t : Bool) → digit t ≤ 1
digit_few true = omega arith
digit_few false = omega arith

entry_few : (bbs : List ℕ) (i : ℕ) → entry_at bbs i ≤ 1
unfolding entry_at
entry_few bbs i = digit_few (has (standing bbs (Rattle.places.specs.Places.kind_at i) (Rattle.places.specs.Places.colour_at i))
    (Rattle.chess.specs.Squares.flip_of (Rattle.places.specs.Places.square_at i) (Rattle.places.specs.Places.colour_at i)))

pub are_entries_holds : (bbs : List ℕ) → are_entries (entries_of bbs) ≡ true
are_entries_holds bbs =
    ap (λ (n : ℕ). all_below n (λ k. within (pos 1) (get_or (entries_of bbs) k (pos 0)))) (entries_length bbs)
    ∙ T_true (all_below 768 (λ k. within (pos 1) (get_or (entries_of bbs) k (pos 0))))
    (all_of 768 (λ k. within (pos 1) (get_or (entries_of bbs) k (pos 0)))
    (λ k h. true_T (ap (within (pos 1)) (entries_at bbs k h) ∙ in_range_holds 1 (entry_at bbs k) (entry_few bbs k))))
