-- The binary digits of the codes: the four planes of a position whose boards don't overlap have, at each square, the digits of the code
-- there, and read file by file they say what each byte is to be. Assumes nothing.
use mathlib.Core.Path.{◌≡◌, refl, sym, ap, ap₂, ◌∙◌, subst}
use mathlib.Core.Logic.{⊎_elim}
use mathlib.Core.Bool.{Bool, true, false, cond, ◌||◌, ◌&&◌, beq, and-true, and-false}
use mathlib.Core.List.{List}
use Prim.Native.Nat.{ℕ, zero, suc, ◌+◌, ◌*◌, ◌-◌, ◌/◌, ◌%◌, ◌^◌, ◌<◌}
use native.Mathlib.Nat.{mod-lt, mod-eq_of_lt, mul-one, lt_of_le_of_lt}
use native.Mathlib.Omega.{arith}
use lib.Bits.{bit_or, bit_xor, and_le_l, and_le_r, or_add_and, xor_add_and, xor_self, or_zero_l}
use lib.Dec.{T, eqb, leb}
use lib.ListN.{get_or}
use borrow.Author.Tests.{eqb-true, eq-eqb, leb-true}
use Rattle.laws.specs.Tests.{all_below, all_below2}
use Rattle.laws.proofs.Tests.{all_at, all_of, all2_at}
use Rattle.laws.proofs.Truth.{true_T, T_true, T_false, and_l, and_r, and_i, iff, is_beq}
use Rattle.chess.specs.Codes.{is_piece}
use Rattle.bits.specs.Bitboard.{has, those, some}
use Rattle.bits.proofs.Counts.{one_alone}
use Rattle.bits.proofs.Digits.{has_or, has_and, has_shr, has_shl, has_mod, has_zero, ext}
use Rattle.bits.proofs.Some.{some_at, some_none, some_where, Somewhere}
use Rattle.bits.proofs.Those.{has_those, those_lt, those_of, those_or, is_those}
use Rattle.position_boards.specs.Sound.{on, boards_with, apart}
use Rattle.position_consistent.specs.Consistent.{agrees}
use Rattle.position_consistent.specs.PrivateTested.{chosen_by, digit_there, plane_of, first_file, file_codes, rank_right, files_right}
use Rattle.position_boards.proofs.Apart.{code_from, code_to, code_is, apart_one}
use Rattle.position_consistent.proofs.Bytes.{Empty, agrees_either, vacant_agrees, occupied_agrees}

-- ---- what a loop gathers: 0 as long as all were 0, and two bytes that are the same
or_none : (a b : ℕ) → eqb (bit_or a b) 0 ≡ (eqb a 0 && eqb b 0)
or_none a b =
    iff (eqb (bit_or a b) 0) (eqb a 0 && eqb b 0)
    (λ t.
    let z = eqb-true (bit_or a b) 0 (T_true (eqb (bit_or a b) 0) t) in
    and_i (eqb a 0) (eqb b 0) (true_T (eq-eqb a 0 (omega (arith, or_add_and a b, and_le_l a b, and_le_r a b))))
    (true_T (eq-eqb b 0 (omega (arith, or_add_and a b, and_le_l a b, and_le_r a b)))))
    (λ t.
    let za = eqb-true a 0 (T_true (eqb a 0) (and_l (eqb a 0) (eqb b 0) t)) in
    let zb = eqb-true b 0 (T_true (eqb b 0) (and_r (eqb a 0) (eqb b 0) t)) in
    true_T (eq-eqb (bit_or a b) 0 (omega (arith, or_add_and a b))))

xor_none : (a b : ℕ) → eqb (bit_xor a b) 0 ≡ eqb a b
xor_none a b =
    iff (eqb (bit_xor a b) 0) (eqb a b)
    (λ t.
    let z = eqb-true (bit_xor a b) 0 (T_true (eqb (bit_xor a b) 0) t) in
    true_T (eq-eqb a b (omega (arith, xor_add_and a b, and_le_l a b, and_le_r a b))))
    (λ t. true_T (eq-eqb (bit_xor a b) 0 (ap (bit_xor a) (sym (eqb-true a b (T_true (eqb a b) t))) ∙ xor_self a)))

-- one more looked at
pub more_amiss : (f : ℕ → Bool) (n amiss wrong : ℕ) → eqb amiss 0 ≡ all_below n f → eqb wrong 0 ≡ f n → eqb (bit_or wrong amiss) 0 ≡ all_below (suc n) f
unfolding all_below
more_amiss f n amiss wrong e w = or_none wrong amiss ∙ ap₂ ◌&&◌ w e

pub byte_amiss : (f : ℕ → Bool) (n amiss byte code : ℕ) → eqb amiss 0 ≡ all_below n f → eqb byte code ≡ f n
    → eqb (bit_or (bit_xor byte code) amiss) 0 ≡ all_below (suc n) f
byte_amiss f n amiss byte code e w = more_amiss f n amiss (bit_xor byte code) e (xor_none byte code ∙ w)

-- ---- a plane, one board after the other
abbrev pub among_digit : List ℕ → ℕ → ℕ → ℕ → Bool
among_digit bbs digit n k = some n (λ m. has (2 + m) digit && on bbs (2 + m) k)

pub no_digit : (bbs : List ℕ) (digit : ℕ) → 0 ≡ those 64 (among_digit bbs digit 0)
unfolding some
no_digit bbs digit = is_those 0 (λ k. false) (omega arith) (λ k h. has_zero k)

pub digit_more : (bbs : List ℕ) (digit n : ℕ) → get_or bbs (2 + n) 0 < 2 ^ 64
    → bit_or (chosen_by (get_or bbs (2 + n) 0) (2 + n) digit) (those 64 (among_digit bbs digit n)) ≡ those 64 (among_digit bbs digit (suc n))
unfolding some
digit_more bbs digit n fits = go (has (2 + n) digit)
  where
    go : (t : Bool) → bit_or (cond t (get_or bbs (2 + n) 0) 0) (those 64 (among_digit bbs digit n))
        ≡ those 64 (λ k. (t && on bbs (2 + n) k) || among_digit bbs digit n k)
    go true =
        ap (λ (b : ℕ). bit_or b (those 64 (among_digit bbs digit n))) (sym (those_of (get_or bbs (2 + n) 0) fits))
        ∙ those_or (on bbs (2 + n)) (among_digit bbs digit n)
    go false = or_zero_l (those 64 (among_digit bbs digit n))

pub digit_all : (bbs : List ℕ) (digit n : ℕ) → n ≡ 12 → those 64 (among_digit bbs digit n) ≡ plane_of bbs digit
unfolding digit_there
digit_all bbs digit n e = ap (λ (m : ℕ). those 64 (among_digit bbs digit m)) e

-- ---- at a square of boards that don't overlap, the digits are those of the one piece's code, or none
abbrev code_there : List ℕ → ℕ → ℕ
code_there bbs k = those 4 (λ j. digit_there bbs j k)

module _ (bbs bytes : List ℕ) (k : ℕ) (one : apart bbs k ≡ true) where
  abbrev stands : ℕ → Bool
  stands n = on bbs (2 + n) k

  alone_there : (m : ℕ) → m < 12 → stands m ≡ true → (j : ℕ) → digit_there bbs j k ≡ has (2 + m) j
  unfolding digit_there boards_with
  alone_there m h e j =
      iff (some 12 (λ n. has (2 + n) j && stands n)) (has (2 + m) j)
      (λ t.
      let s = some_where 12 (λ n. has (2 + n) j && stands n) (T_true (some 12 (λ n. has (2 + n) j && stands n)) t) in
      let both = true_T s.holds in
      let q : s.at ≡ m = one_alone 12 stands (leb-true (boards_with bbs k) 1 one) s.at m s.below h
      (T_true (stands s.at) (and_r (has (2 + s.at) j) (stands s.at) both)) e in
      subst (λ (n : ℕ). T (has (2 + n) j)) q (and_l (has (2 + s.at) j) (stands s.at) both))
      (λ t. some_at 12 (λ n. has (2 + n) j && stands n) m h (and_i (has (2 + m) j) (stands m) t (true_T e)))

  none_there : ((n : ℕ) → n < 12 → stands n ≡ false) → (j : ℕ) → digit_there bbs j k ≡ false
  unfolding digit_there
  none_there e j =
      T_false (some 12 (λ n. has (2 + n) j && stands n))
      (λ t.
      let s = some_where 12 (λ n. has (2 + n) j && stands n) (T_true (some 12 (λ n. has (2 + n) j && stands n)) t) in
      absurd (subst T (e s.at s.below) (and_r (has (2 + s.at) j) (stands s.at) (true_T s.holds))))

  -- the byte is right where it is the number of these digits
  code_agrees : eqb (get_or bytes k 0) (code_there bbs k) ≡ agrees bbs bytes k
  code_agrees = go (some 12 stands) refl
    where
      byte : ℕ
      byte = get_or bytes k 0

      piece_there : Somewhere 12 stands → eqb byte (code_there bbs k) ≡ agrees bbs bytes k
      piece_there s =
          let h = s.below in
          let p : T (is_piece (2 + s.at)) = code_is (2 + s.at) (omega arith) (omega arith) in
          ap (eqb byte)
          (ext 4 (code_there bbs k) (2 + s.at) (those_lt 4 (λ j. digit_there bbs j k)) (omega arith)
          (λ j l. has_those 4 (λ i. digit_there bbs i k) j l ∙ alone_there s.at h s.holds j))
          ∙ iff (eqb byte (2 + s.at)) (agrees bbs bytes k)
          (λ t.
          let q : byte ≡ 2 + s.at = eqb-true byte (2 + s.at) (T_true (eqb byte (2 + s.at)) t) in
          occupied_agrees bbs bytes k (record { piece = subst (λ (b : ℕ). T (is_piece b)) (sym q) p; there = ap (λ (b : ℕ). on bbs b k) q ∙ s.holds }))
          (λ t.
          ⊎_elim (λ v. absurd (subst T (v.empty.none (2 + s.at) p) (true_T s.holds)))
          (λ o. true_T (eq-eqb byte (2 + s.at) ((apart_one bbs k one).same byte (2 + s.at) o.piece p o.there s.holds)))
          (agrees_either bbs bytes k t))

      nothing_there : ((n : ℕ) → n < 12 → stands n ≡ false) → eqb byte (code_there bbs k) ≡ agrees bbs bytes k
      nothing_there e =
          ap (eqb byte)
          (ext 4 (code_there bbs k) 0 (those_lt 4 (λ j. digit_there bbs j k)) (omega arith)
          (λ j l. has_those 4 (λ i. digit_there bbs i k) j l ∙ none_there e j ∙ sym (has_zero j)))
          ∙ iff (eqb byte 0) (agrees bbs bytes k)
          (λ t. vacant_agrees bbs bytes k (record { zero = eqb-true byte 0 (T_true (eqb byte 0) t); empty = bare }))
          (λ t.
          ⊎_elim (λ v. true_T (eq-eqb byte 0 v.zero)) (λ o. absurd (subst T (bare.none byte o.piece) (true_T o.there))) (agrees_either bbs bytes k t))
        where
          bare : Empty bbs k
          bare = record {
            none = λ c p.
                let from = code_from c p in
                let to = code_to c p in
                let q : 2 + (c - 2) ≡ c = omega arith in
                ap (λ (b : ℕ). on bbs b k) (sym q) ∙ e (c - 2) (omega arith);
          }

      go : (t : Bool) → some 12 stands ≡ t → eqb byte (code_there bbs k) ≡ agrees bbs bytes k
      go true e = piece_there (some_where 12 stands e)
      go false e = nothing_there (some_none 12 stands e)

-- ---- the word of a file: each rank's four digits
or_none_r : (a : Bool) → (a || false) ≡ a
or_none_r true = refl
or_none_r false = refl

-- the first file, moved i squares up, has in its rank only the i-th square
first_file_at : (i j rank : ℕ) → i < 4 → j < 4 → rank < 8 → (leb i (8 * rank + j) && has 0x0101010101010101 (8 * rank + j - i)) ≡ eqb i j
unfolding has all_below all_below2
first_file_at i j rank hi hj hr =
    is_beq (leb i (8 * rank + j) && has 0x0101010101010101 (8 * rank + j - i)) (eqb i j)
    (all2_at 4 8 (λ y r. beq (leb i (8 * r + y) && has 0x0101010101010101 (8 * r + y - i)) (eqb i y))
    (all_at 4 (λ x. all_below2 4 8 (λ y r. beq (leb x (8 * r + y) && has 0x0101010101010101 (8 * r + y - x)) (eqb x y))) tt i hi) j rank hj hr)

module _ (p file rank : ℕ) (hf : file < 8) (hr : rank < 8) where
  digit_term : (i j : ℕ) → i < 4 → j < 4 → has (first_file p file * 2 ^ i % 2 ^ 64) (8 * rank + j) ≡ (eqb i j && has p (8 * rank + file))
  digit_term i j hi hj =
      has_shl (first_file p file) i (8 * rank + j) (omega arith)
      ∙ ap (λ (t : Bool). leb i (8 * rank + j) && t)
      (has_and (p / 2 ^ file) 0x0101010101010101 (8 * rank + j - i) ∙ ap (λ (t : Bool). t && has 0x0101010101010101 (8 * rank + j - i))
      (has_shr p file (8 * rank + j - i)))
      ∙ go (leb i (8 * rank + j)) (has 0x0101010101010101 (8 * rank + j - i)) (eqb i j) refl (first_file_at i j rank hi hj hr)
    where
      go : (l m t : Bool) → eqb i j ≡ t → (l && m) ≡ t → (l && (has p (file + (8 * rank + j - i)) && m)) ≡ (t && has p (8 * rank + file))
      go true true true q e = let same : file + (8 * rank + j - i) ≡ 8 * rank + file = omega (arith, eqb-true i j q) in
          and-true (has p (file + (8 * rank + j - i))) ∙ ap (has p) same
      go true true false q e = absurd (subst T e tt)
      go true false true q e = absurd (subst T (sym e) tt)
      go true false false q e = and-false (has p (file + (8 * rank + j - i)))
      go false m true q e = absurd (subst T (sym e) tt)
      go false m false q e = refl

  first_term : (j : ℕ) → j < 4 → has (first_file p file) (8 * rank + j) ≡ (eqb 0 j && has p (8 * rank + file))
  first_term j hj =
      ap (λ (x : ℕ). has x (8 * rank + j))
      (sym (ap (λ (x : ℕ). x % 2 ^ 64) (mul-one (first_file p file)) ∙ mod-eq_of_lt (lt_of_le_of_lt (and_le_r (p / 2 ^ file) 0x0101010101010101) (omega arith))))
      ∙ digit_term 0 j (omega arith) hj

module _ (plane : ℕ → ℕ) (file rank : ℕ) (hf : file < 8) (hr : rank < 8) where
  abbrev word : ℕ
  word = file_codes (plane 0) (plane 1) (plane 2) (plane 3) file

  abbrev there : ℕ → Bool
  there i = has (plane i) (8 * rank + file)

  all_terms : (j : ℕ) → j < 4 → has word (8 * rank + j) ≡ (((eqb 0 j && there 0) || (eqb 1 j && there 1)) || ((eqb 2 j && there 2) || (eqb 3 j && there 3)))
  unfolding file_codes
  all_terms j h =
      has_or (bit_or (first_file (plane 0) file) (first_file (plane 1) file * 2 ^ 1 % 2 ^ 64))
      (bit_or (first_file (plane 2) file * 2 ^ 2 % 2 ^ 64) (first_file (plane 3) file * 2 ^ 3 % 2 ^ 64)) (8 * rank + j)
      ∙ ap₂ ◌||◌
      (has_or (first_file (plane 0) file) (first_file (plane 1) file * 2 ^ 1 % 2 ^ 64) (8 * rank + j)
      ∙ ap₂ ◌||◌ (first_term (plane 0) file rank hf hr j h) (digit_term (plane 1) file rank hf hr 1 j (omega arith) h))
      (has_or (first_file (plane 2) file * 2 ^ 2 % 2 ^ 64) (first_file (plane 3) file * 2 ^ 3 % 2 ^ 64) (8 * rank + j)
      ∙ ap₂ ◌||◌ (digit_term (plane 2) file rank hf hr 2 j (omega arith) h) (digit_term (plane 3) file rank hf hr 3 j (omega arith) h))

  digit_at : (j : ℕ) → j < 4 → has word (8 * rank + j) ≡ there j
  digit_at zero h = all_terms 0 h ∙ or_none_r (there 0 || false) ∙ or_none_r (there 0)
  digit_at (suc zero) h = all_terms 1 h ∙ or_none_r (there 1)
  digit_at (suc (suc zero)) h = all_terms 2 h ∙ or_none_r (there 2)
  digit_at (suc (suc (suc zero))) h = all_terms 3 h
  digit_at (suc (suc (suc (suc j)))) h = absurd (omega arith)

  word_code : (f : ℕ → Bool) → ((j : ℕ) → j < 4 → there j ≡ f j) → word / 2 ^ (8 * rank) % 16 ≡ those 4 f
  word_code f e =
      ext 4 (word / 2 ^ (8 * rank) % 16) (those 4 f) (mod-lt (word / 2 ^ (8 * rank)) (omega arith)) (those_lt 4 f)
      (λ j l. has_mod 4 (word / 2 ^ (8 * rank)) j l ∙ has_shr word (8 * rank) j ∙ digit_at j l ∙ e j l ∙ sym (has_those 4 f j l))

-- ---- file by file is square by square
module _ (bbs bytes : List ℕ) (one : T (all_below 64 (apart bbs))) where
  abbrev codes_on : ℕ → ℕ
  codes_on file = file_codes (plane_of bbs 0) (plane_of bbs 1) (plane_of bbs 2) (plane_of bbs 3) file

  square_agrees : (file rank : ℕ) → file < 8 → rank < 8 → rank_right bytes (codes_on file) file rank ≡ agrees bbs bytes (8 * rank + file)
  square_agrees file rank hf hr =
      let h : 8 * rank + file < 64 = omega arith in
      ap (eqb (get_or bytes (8 * rank + file) 0))
      (word_code (plane_of bbs) file rank hf hr (λ j. digit_there bbs j (8 * rank + file)) (λ j l. has_those 64 (digit_there bbs j) (8 * rank + file) h))
      ∙ code_agrees bbs bytes (8 * rank + file) (T_true (apart bbs (8 * rank + file)) (all_at 64 (apart bbs) one (8 * rank + file) h))

  pub files_agree : files_right bytes (plane_of bbs 0) (plane_of bbs 1) (plane_of bbs 2) (plane_of bbs 3) ≡ all_below 64 (agrees bbs bytes)
  files_agree =
      iff (all_below 8 (λ file. all_below 8 (rank_right bytes (codes_on file) file))) (all_below 64 (agrees bbs bytes))
      (λ t. all_of 64 (agrees bbs bytes) (λ k h. by_file t k (k / 8) (k % 8) (omega arith) (omega arith) (omega arith)))
      (λ t. all_of 8 (λ file. all_below 8 (rank_right bytes (codes_on file) file))
      (λ file hf. all_of 8 (rank_right bytes (codes_on file) file)
      (λ rank hr. subst T (sym (square_agrees file rank hf hr)) (all_at 64 (agrees bbs bytes) t (8 * rank + file) (omega arith)))))
    where
      by_file : T (all_below 8 (λ file. all_below 8 (rank_right bytes (codes_on file) file))) → (k rank file : ℕ) → rank < 8 → file < 8
          → 8 * rank + file ≡ k → T (agrees bbs bytes k)
      by_file t k rank file hr hf q =
          subst (λ (n : ℕ). T (agrees bbs bytes n)) q
          (subst T (square_agrees file rank hf hr)
          (all_at 8 (rank_right bytes (codes_on file) file) (all_at 8 (λ f. all_below 8 (rank_right bytes (codes_on f) f)) t file hf) rank hr))
