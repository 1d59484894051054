-- The words of a colour's six boards, added, have its square weights of both phases. Assumes nothing.
use mathlib.Core.Path.{◌≡◌, refl, sym, ap, ◌∙◌, subst}
use mathlib.Core.List.{List, [], ◌∷◌}
use Prim.Native.Nat.{ℕ, zero, suc, ◌+◌, ◌*◌, ◌<◌, ◌≤◌}
use native.Mathlib.Nat.{add-zero, zero-add}
use native.Mathlib.Omega.{arith}
use lib.Dec.{T, ltb, ltb→lt}
use lib.IntN.{ℤ, pos, ◌+ℤ◌}
use lib.ListN.{length}
use mir.Facts.{to_z-of_z}
use mir.Syntax.{w32}
use mir.Val.{SFits}
use Rattle.laws.specs.Sums.{sum_n, sum_z, counted, added}
use Rattle.laws.proofs.Truth.{and_l, and_r}
use Rattle.laws.proofs.Sums.{sum_le}
use Rattle.laws.proofs.Diff.{above_zero_rule, below_zero, diff_of, diff_pos, diff_add, diff_eq}
use Rattle.laws.proofs.Words.{held}
use Rattle.chess.specs.Codes.{code_of}
use Rattle.chess.specs.Squares.{flip_of}
use Rattle.bits.specs.Bitboard.{squares}
use Rattle.bits.proofs.Members.{inside, inside_squares}
use Rattle.bits.proofs.Squares.{squares_le}
use Rattle.attack.specs.Attacks.{standing, occupied, attacks}
use Rattle.score_pst.specs.Pst.{pst_of}
use Rattle.score_weights.specs.PrivatePacked.{packed_at, opening_in, ending_in}
use Rattle.score_weights.proofs.Packed.{Unpacked, none_added, one_piece, more_pieces, opening_is, ending_is}
use Rattle.score_walks.specs.PrivateWalked.{packed_from, walked_of}
use Rattle.score_walks.specs.declared.Walked.{Walked}
use Rattle.score_walks.proofs.Rooms.{attacked_le, words_le}
use Rattle.score_tally.specs.Mobility.{factor_of, attacked_from, attacked_by, attacked, mobility_sum}
use Rattle.score_tally.specs.Weights.{weighed_from, weight_sum}
use Rattle.score_tally.specs.Sides.{sides_of}
use Rattle.score_tally.specs.PrivateWalked.{Small, together_of, sums_of, both_with}
use Rattle.score_tally.specs.declared.inner.ColorSums.{ColorSums}

-- what a piece of a kind and a colour on s weighs, and its word
abbrev weighs : ℕ → ℕ → ℕ → ℕ → ℤ
weighs kind colour phase s = pst_of (code_of kind colour) s phase

abbrev word_of : ℕ → ℕ → ℕ → ℕ
word_of kind colour s = packed_at kind (flip_of s colour)

-- ---- the squares of one board
module _ (kind colour : ℕ) (hk : kind < 6) (hc : colour < 2) where
  walked : (l : List ℕ) → T (inside l) → (a n : ℕ) (x y : ℤ) → Unpacked a n x y
      → Unpacked (counted (word_of kind colour) a l) (n + length l) (added (weighs kind colour 0) x l) (added (weighs kind colour 1) y l)
  unfolding counted added
  walked [] i a n x y u = subst (λ (m : ℕ). Unpacked a m x y) (sym (add-zero n)) u
  walked (s ∷ l) i a n x y u =
      let hs : s < 64 = ltb→lt s 64 (and_l (ltb s 64) (inside l) i) in
      let m : n + 1 + length l ≡ n + suc (length l) = omega arith in
      subst (λ (k : ℕ). Unpacked (counted (word_of kind colour) (a + word_of kind colour s) l) k
      (added (weighs kind colour 0) (x +ℤ weighs kind colour 0 s) l) (added (weighs kind colour 1) (y +ℤ weighs kind colour 1 s) l)) m
      (walked l (and_r (ltb s 64) (inside l) i) (a + word_of kind colour s) (n + 1) (x +ℤ weighs kind colour 0 s) (y +ℤ weighs kind colour 1 s)
      (more_pieces a n (word_of kind colour s) 1 x y (weighs kind colour 0 s) (weighs kind colour 1 s) u (one_piece kind colour s hk hc hs)))

  board : (b : ℕ) → Unpacked (packed_from kind colour b) (length (squares b)) (weighed_from (weighs kind colour 0) b) (weighed_from (weighs kind colour 1) b)
  unfolding packed_from weighed_from
  board b =
      subst (λ (n : ℕ). Unpacked (packed_from kind colour b) n (weighed_from (weighs kind colour 0) b) (weighed_from (weighs kind colour 1) b))
      (zero-add (length (squares b)))
      (walked (squares b) (inside_squares b) 0 0 (pos 0) (pos 0) none_added)

-- ---- the boards of a colour
module _ (bbs : List ℕ) (colour : ℕ) (hc : colour < 2) where
  abbrev words : ℕ → ℕ
  words kind = packed_from kind colour (standing bbs kind colour)

  abbrev many : ℕ → ℕ
  many kind = length (squares (standing bbs kind colour))

  abbrev weight : ℕ → ℕ → ℤ
  weight phase kind = weighed_from (weighs kind colour phase) (standing bbs kind colour)

  boards : (n : ℕ) → n ≤ 6 → Unpacked (sum_n n words) (sum_n n many) (sum_z n (weight 0)) (sum_z n (weight 1))
  unfolding sum_n sum_z
  boards zero h = none_added
  boards (suc n) h =
      more_pieces (sum_n n words) (sum_n n many) (words n) (many n) (sum_z n (weight 0)) (sum_z n (weight 1)) (weight 0 n) (weight 1 n)
      (boards n (omega arith)) (board n colour (omega arith) hc (standing bbs n colour))

  few : sum_n 6 many ≤ 4096
  few = let h = sum_le 6 64 many (λ kind l. squares_le (standing bbs kind colour)) in omega arith

  pub opening_sum : opening_in (sum_n 6 words) ≡ weight_sum bbs colour 0
  unfolding weight_sum
  opening_sum = opening_is (sum_n 6 words) (sum_n 6 many) (sum_z 6 (weight 0)) (sum_z 6 (weight 1)) (boards 6 (omega arith)) few

  pub ending_sum : ending_in (sum_n 6 words) ≡ weight_sum bbs colour 1
  unfolding weight_sum
  ending_sum = ending_is (sum_n 6 words) (sum_n 6 many) (sum_z 6 (weight 0)) (sum_z 6 (weight 1)) (boards 6 (omega arith)) few

-- ---- a board's pieces come to little
pub small : (pieces kind colour occ : ℕ) (w : Walked) → w ≡ walked_of pieces kind colour occ → Small w
small pieces kind colour occ w e = subst Small (sym e) (attacked_le (λ s. attacks kind colour s occ) pieces, words_le kind colour pieces)

pub little : (pieces kind colour n : ℕ) → n ≡ packed_from kind colour pieces → n ≤ 70385185865024
little pieces kind colour n e = subst (λ (x : ℕ). x ≤ 70385185865024) (sym e) (words_le kind colour pieces)

-- ---- the six boards, each walked by itself, are the sums over the kinds
words_are : (f : ℕ → ℕ) → f 0 + f 1 + f 2 + f 3 + f 4 + f 5 ≡ sum_n 6 f
unfolding sum_n
words_are f = omega arith

moves_are : (a : ℕ → ℕ) → a 1 * 24 + a 2 * 47 + a 3 * 39 + a 4 * 21 ≡ sum_n 6 (λ kind. a kind * factor_of kind)
unfolding sum_n
moves_are a = omega arith

same : (v w m n : ℕ) → v ≡ w → m ≡ n → ◌≡◌ {A = ColorSums} (record { words = v; mobility = m }) (record { words = w; mobility = n })
same v w m n e f = cc

module _ (bbs : List ℕ) (colour occ : ℕ) where
  abbrev packed : ℕ → ℕ
  packed kind = packed_from kind colour (standing bbs kind colour)

  abbrev walked_on : ℕ → Walked
  walked_on kind = walked_of (standing bbs kind colour) kind colour occ

  -- a knight attacks the same whatever is occupied
  pub knights_same : walked_of (standing bbs 1 colour) 1 colour 0 ≡ walked_on 1
  unfolding attacks
  knights_same = refl

  pub six : (pawns kings : ℕ) (knights bishops rooks queens : Walked) → pawns ≡ packed 0 → knights ≡ walked_on 1 → bishops ≡ walked_on 2
      → rooks ≡ walked_on 3 → queens ≡ walked_on 4
      → kings ≡ packed 5 → together_of pawns knights bishops rooks queens kings ≡ sums_of bbs colour occ
  six pawns kings knights bishops rooks queens p n b r q k =
      cc (p, n, b, r, q, k) ∙ same _ _ _ _ (words_are packed) (moves_are (λ kind. attacked_from (λ s. attacks kind colour s occ) (standing bbs kind colour)))

-- ---- both colours: a sum starts from 0 in 32 bits
zero_plus : (z : ℤ) → pos 0 +ℤ z ≡ z
zero_plus z =
    diff_eq (pos 0 +ℤ z) z (0 + above_zero_rule z) (0 + below_zero z) (above_zero_rule z) (below_zero z)
    (diff_add (pos 0) z 0 0 (above_zero_rule z) (below_zero z) (diff_pos 0) (diff_of z)) (diff_of z) (omega arith)

module _ (z : ℤ) (f : SFits w32 z) where
  raw : pos 0 +ℤ held w32 z ≡ z
  raw = zero_plus (held w32 z) ∙ to_z-of_z {w = w32} f

  pub first_fits : SFits w32 (pos 0 +ℤ held w32 z)
  first_fits = subst (SFits w32) (sym raw) f

  pub first_is : held w32 (pos 0 +ℤ held w32 z) ≡ z
  first_is = to_z-of_z {w = w32} first_fits ∙ raw

pub moved_sum : (bbs : List ℕ) (colour occ : ℕ) → occ ≡ occupied bbs → (sums_of bbs colour occ).mobility ≡ mobility_sum bbs colour
unfolding mobility_sum attacked attacked_by
moved_sum bbs colour occ e = ap (λ (o : ℕ). (sums_of bbs colour o).mobility) e

pub both_are : (bbs : List ℕ) (a b c d : ℤ) (m n : ℕ) → a ≡ weight_sum bbs 0 0 → b ≡ weight_sum bbs 0 1 → c ≡ weight_sum bbs 1 0 → d ≡ weight_sum bbs 1 1
    → m ≡ mobility_sum bbs 0 → n ≡ mobility_sum bbs 1 → both_with bbs ((a ∷ b ∷ []) ∷ (c ∷ d ∷ []) ∷ []) (m ∷ n ∷ []) ≡ sides_of bbs
both_are bbs a b c d m n ea eb ec ed em en = cc
