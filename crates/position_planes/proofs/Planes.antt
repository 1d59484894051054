-- The planes: a digit of a byte stands on its square, in the plane of that digit. Assumes nothing.
use mathlib.Core.Path.{◌≡◌, refl, sym, ap, ap₂, subst, ◌∙◌}
use mathlib.Core.Bool.{Bool, true, false, not, ◌||◌, ◌&&◌, beq, or-false, and_comm, and-true}
use mathlib.Core.List.{List, [], ◌∷◌}
use Prim.Native.Nat.{ℕ, zero, suc, ◌+◌, ◌*◌, ◌-◌, ◌/◌, ◌%◌, ◌^◌, ◌≤◌, ◌<◌}
use native.Mathlib.Decide.{ℕ_discrete, dec_lt}
use native.Mathlib.Numerals.{add-one}
use native.Mathlib.Omega.{arith}
use lib.Bits.{bit_and, bit_or, or_lt, and_lt, and_le_r}
use lib.Dec.{T, eqb, ltb, eqb→eq, leb}
use lib.ListN.{get_or}
use borrow.Author.Tests.{le-leb, lt-leb, lt-ltb, le-ltb}
use Rattle.laws.specs.Tests.{all_below}
use Rattle.laws.specs.Tables.{tabulate}
use Rattle.laws.proofs.Tables.{tabulate_same}
use Rattle.laws.proofs.Tests.{all_at}
use Rattle.laws.proofs.Truth.{T_true, and_l, and_r, is_beq}
use Rattle.bits.specs.Bitboard.{has, those, digit}
use Rattle.bits.proofs.Digits.{has_or, has_and, has_not, has_shl, has_shr, has_zero, has_high, ext}
use Rattle.bits.proofs.Those.{those_lt, has_those, is_those, those_same}
use Rattle.position_planes.specs.Sorted.{table_place, sorted_by}
use Rattle.position_planes.specs.PrivatePlanes.{Row, Rows, Covers, Sliced, stack, rank_word, digits_of_rule, digit_plane, high_of, beyond_of, place_by, places_by}

-- ---- numbers of eight digits, one above the other
pub stack_none : (f : ℕ → ℕ) → 0 ≡ stack f 0
unfolding stack
stack_none f = refl

pub stack_next : (f : ℕ → ℕ) (n : ℕ) {a b : ℕ} → a ≡ stack f n → b ≡ f n → bit_or a (b * 2 ^ (8 * n) % 2 ^ 64) ≡ stack f (n + 1)
unfolding stack
stack_next f n e q = ap₂ (λ (x y : ℕ). bit_or x (y * 2 ^ (8 * n) % 2 ^ 64)) e q ∙ ap (stack f) (sym (add-one n))

has_stack : (f : ℕ → ℕ) (n : ℕ) → n ≤ 8 → ((j : ℕ) → j < n → f j < 2 ^ 8) → (k : ℕ) → k < 64 → has (stack f n) k ≡ (ltb k (8 * n) && has (f (k / 8)) (k % 8))
unfolding stack
has_stack f zero l small k h = has_zero k ∙ sym (ap (λ (t : Bool). t && has (f (k / 8)) (k % 8)) (le-ltb k 0 (omega arith)))
has_stack f (suc n) l small k h =
    has_or (stack f n) (f n * 2 ^ (8 * n) % 2 ^ 64) k
    ∙ ap₂ (λ (s t : Bool). s || t) (has_stack f n (omega arith) (λ j i. small j (omega arith)) k h) (has_shl (f n) (8 * n) k h)
    ∙ elim (dec_lt k (8 * n)) [
      | yes q ↦
          ap₂ (λ (s t : Bool). (s && has (f (k / 8)) (k % 8)) || (t && has (f n) (k - 8 * n))) (lt-ltb k (8 * n) q) (lt-leb (8 * n) k q)
          ∙ or-false (has (f (k / 8)) (k % 8))
          ∙ sym (ap (λ (t : Bool). t && has (f (k / 8)) (k % 8)) (lt-ltb k (8 * suc n) (omega arith)))
      | no q ↦
          ap₂ (λ (s t : Bool). (s && has (f (k / 8)) (k % 8)) || (t && has (f n) (k - 8 * n))) (le-ltb k (8 * n) (omega arith)) (le-leb (8 * n) k (omega arith))
          ∙ elim (dec_lt k (8 * suc n)) [
            | yes p ↦ inside (let e : n ≡ k / 8 = omega arith in e) (let e : k - 8 * n ≡ k % 8 = omega arith in e)
                ∙ sym (ap (λ (t : Bool). t && has (f (k / 8)) (k % 8)) (lt-ltb k (8 * suc n) p))
            | no p ↦
                has_high (f n) 8 (k - 8 * n) (small n (omega arith)) (omega arith)
                ∙ sym (ap (λ (t : Bool). t && has (f (k / 8)) (k % 8)) (le-ltb k (8 * suc n) (omega arith)))
          ]
    ]
  where
    inside : n ≡ k / 8 → k - 8 * n ≡ k % 8 → has (f n) (k - 8 * n) ≡ has (f (k / 8)) (k % 8)
    inside e q = ap₂ (λ (i j : ℕ). has (f i) j) e q

stack_lt : (f : ℕ → ℕ) (n : ℕ) → stack f n < 2 ^ 64
unfolding stack
stack_lt f zero = omega arith
stack_lt f (suc n) = or_lt 64 (stack f n) (f n * 2 ^ (8 * n) % 2 ^ 64) (stack_lt f n) (omega arith)

-- ---- bytes are bytes
pub row_none : (bytes : List ℕ) (rank : ℕ) → Row bytes rank 0
row_none bytes rank = record { each = λ j h. absurd (omega arith) }

pub row_next : (bytes : List ℕ) (rank n : ℕ) → Row bytes rank n → get_or bytes (8 * rank + n) 0 < 2 ^ 8 → Row bytes rank (n + 1)
row_next bytes rank n r h =
    record { each = λ j l. elim (ℕ_discrete j n) [ yes e ↦ subst (λ (i : ℕ). get_or bytes (8 * rank + i) 0 < 2 ^ 8) (sym e) h | no e ↦ r.each j (omega arith) ] }

rows_none : (bytes : List ℕ) → Rows bytes 0
rows_none bytes = record { rows = λ rank h. absurd (omega arith) }

rows_next : (bytes : List ℕ) (n : ℕ) → Rows bytes n → Row bytes n 8 → Rows bytes (n + 1)
rows_next bytes n r h =
    record { rows = λ rank l. elim (ℕ_discrete rank n) [ yes e ↦ subst (λ (i : ℕ). Row bytes i 8) (sym e) h | no e ↦ r.rows rank (omega arith) ] }

pub rows_8 : (bytes : List ℕ) → Row bytes 0 8 → Row bytes 1 8 → Row bytes 2 8 → Row bytes 3 8 → Row bytes 4 8 → Row bytes 5 8 → Row bytes 6 8
    → Row bytes 7 8 → Rows bytes 8
rows_8 bytes a b c d e f g h =
    rows_next bytes 7 (rows_next bytes 6 (rows_next bytes 5 (rows_next bytes 4
    (rows_next bytes 3 (rows_next bytes 2 (rows_next bytes 1 (rows_next bytes 0 (rows_none bytes) a) b) c) d) e) f) g) h

pub words_8 : (f : ℕ → ℕ) (a b c d e i j k : ℕ) → a ≡ f 0 → b ≡ f 1 → c ≡ f 2 → d ≡ f 3 → e ≡ f 4 → i ≡ f 5 → j ≡ f 6 → k ≡ f 7
    → a ∷ b ∷ c ∷ d ∷ e ∷ i ∷ j ∷ k ∷ [] ≡ tabulate 8 f
unfolding tabulate
words_8 f a b c d e i j k p q r s t u v w = rw (p, q, r, s, t, u, v, w)

-- ---- all words together
neither : (a b : Bool) → (a || b) ≡ false → (a ≡ false) × (b ≡ false)
neither true b e = absurd (mathlib.Core.Bool.false≢true (sym e))
neither false b e = (refl, e)

pub covers_none : (word : ℕ → ℕ) (all : ℕ) → Covers word 0 all
covers_none word all = record { none = λ rank k h e. absurd (omega arith) }

pub covers_next : (word : ℕ → ℕ) (n all : ℕ) → Covers word n all → Covers word (n + 1) (bit_or all (word n))
covers_next word n all c =
    record {
      none = λ rank k h e.
          let w = neither (has all k) (has (word n) k) (sym (has_or all (word n) k) ∙ e) in
          elim (ℕ_discrete rank n) [
            | yes p ↦ ap (λ (i : ℕ). has (word i) k) p ∙ w.1
            | no p ↦ c.none rank k (omega arith) w.0
          ];
    }

pub sliced_none : (word : ℕ → ℕ) → Sliced word 0 0 0 0 0 0
sliced_none word =
    record {
      first = stack_none (λ rank. digits_of_rule (word rank) 0);
      second = stack_none (λ rank. digits_of_rule (word rank) 1);
      third = stack_none (λ rank. digits_of_rule (word rank) 2);
      fourth = stack_none (λ rank. digits_of_rule (word rank) 3);
      covers = covers_none word 0;
    }

pub sliced_next : (word : ℕ → ℕ) (n a b c d all p q r s : ℕ) → Sliced word n a b c d all
    → p ≡ digits_of_rule (word n) 0 → q ≡ digits_of_rule (word n) 1 → r ≡ digits_of_rule (word n) 2 → s ≡ digits_of_rule (word n) 3
    → Sliced word (n + 1) (bit_or a (p * 2 ^ (8 * n) % 2 ^ 64)) (bit_or b (q * 2 ^ (8 * n) % 2 ^ 64)) (bit_or c (r * 2 ^ (8 * n) % 2 ^ 64))
    (bit_or d (s * 2 ^ (8 * n) % 2 ^ 64)) (bit_or all (word n))
sliced_next word n a b c d all p q r s t ep eq er es =
    record {
      first = stack_next (λ rank. digits_of_rule (word rank) 0) n t.first ep;
      second = stack_next (λ rank. digits_of_rule (word rank) 1) n t.second eq;
      third = stack_next (λ rank. digits_of_rule (word rank) 2) n t.third er;
      fourth = stack_next (λ rank. digits_of_rule (word rank) 3) n t.fourth es;
      covers = covers_next word n all t.covers;
    }

stack_same : (f g : ℕ → ℕ) (n : ℕ) → ((j : ℕ) → j < n → f j ≡ g j) → stack f n ≡ stack g n
unfolding stack
stack_same f g zero e = refl
stack_same f g (suc n) e = ap₂ (λ (x y : ℕ). bit_or x (y * 2 ^ (8 * n) % 2 ^ 64)) (stack_same f g n (λ j h. e j (omega arith))) (e n (omega arith))

-- words that are the same have the same planes
pub sliced_same : (v w : ℕ → ℕ) (a b c d all : ℕ) → ((j : ℕ) → j < 8 → v j ≡ w j) → Sliced v 8 a b c d all → Sliced w 8 a b c d all
sliced_same v w a b c d all e t =
    record {
      first = t.first ∙ same 0;
      second = t.second ∙ same 1;
      third = t.third ∙ same 2;
      fourth = t.fourth ∙ same 3;
      covers = record { none = λ rank k h z. ap (λ (x : ℕ). has x k) (sym (e rank h)) ∙ t.covers.none rank k h z };
    }
  where
    same : (i : ℕ) → stack (λ rank. digits_of_rule (v rank) i) 8 ≡ stack (λ rank. digits_of_rule (w rank) i) 8
    same i = stack_same (λ rank. digits_of_rule (v rank) i) (λ rank. digits_of_rule (w rank) i) 8 (λ j h. ap (λ (x : ℕ). digits_of_rule x i) (e j h))

-- ---- a digit of eight bytes gathered
abbrev mask : ℕ
mask = 72340172838076673

-- what comes to digit k, of digits that are eight apart, by three shifts
abbrev eight : (ℕ → Bool) → ℕ → Bool
eight x k =
    ((x k || x (7 + k)) || (x (14 + k) || x (7 + (14 + k))))
    || ((x (28 + k) || x (7 + (28 + k))) || (x (14 + (28 + k)) || x (7 + (14 + (28 + k)))))

-- one of the eight alone
alone_0 : (t : Bool) → (((t || false) || (false || false)) || ((false || false) || (false || false))) ≡ t
alone_0 true = refl
alone_0 false = refl

alone_1 : (t : Bool) → (((false || t) || (false || false)) || ((false || false) || (false || false))) ≡ t
alone_1 true = refl
alone_1 false = refl

alone_2 : (t : Bool) → (((false || false) || (t || false)) || ((false || false) || (false || false))) ≡ t
alone_2 true = refl
alone_2 false = refl

alone_3 : (t : Bool) → (((false || false) || (false || t)) || ((false || false) || (false || false))) ≡ t
alone_3 true = refl
alone_3 false = refl

alone_4 : (t : Bool) → (((false || false) || (false || false)) || ((t || false) || (false || false))) ≡ t
alone_4 true = refl
alone_4 false = refl

alone_5 : (t : Bool) → (((false || false) || (false || false)) || ((false || t) || (false || false))) ≡ t
alone_5 true = refl
alone_5 false = refl

alone_6 : (t : Bool) → (((false || false) || (false || false)) || ((false || false) || (t || false))) ≡ t
alone_6 true = refl
alone_6 false = refl

alone_7 : (t : Bool) → (((false || false) || (false || false)) || ((false || false) || (false || t))) ≡ t
alone_7 true = refl
alone_7 false = refl

pick : (k : ℕ) → k < 8 → (y : ℕ → Bool) → eight (λ m. has mask m && y m) k ≡ y (8 * k)
unfolding has
pick zero h y = alone_0 (y 0)
pick (suc zero) h y = alone_1 (y 8)
pick (suc (suc zero)) h y = alone_2 (y 16)
pick (suc (suc (suc zero))) h y = alone_3 (y 24)
pick (suc (suc (suc (suc zero)))) h y = alone_4 (y 32)
pick (suc (suc (suc (suc (suc zero))))) h y = alone_5 (y 40)
pick (suc (suc (suc (suc (suc (suc zero)))))) h y = alone_6 (y 48)
pick (suc (suc (suc (suc (suc (suc (suc zero))))))) h y = alone_7 (y 56)
pick (suc (suc (suc (suc (suc (suc (suc (suc k)))))))) h y = absurd (omega arith)

abbrev twice : ℕ → ℕ → ℕ
twice x s = bit_or x (x / 2 ^ s)

has_twice : (x s k : ℕ) → has (twice x s) k ≡ (has x k || has x (s + k))
has_twice x s k = has_or x (x / 2 ^ s) k ∙ ap (λ (t : Bool). has x k || t) (has_shr x s k)

low_eight : (k : ℕ) → k < 8 → has 255 k ≡ true
unfolding all_below has
low_eight k h = T_true (has 255 k) (all_at 8 (has 255) tt k h)

module _ (word d : ℕ) where
  abbrev apart : ℕ
  apart = bit_and (word / 2 ^ d) mask

  apart_at : (m : ℕ) → has apart m ≡ (has mask m && has word (d + m))
  apart_at m = has_and (word / 2 ^ d) mask m ∙ ap (λ (t : Bool). t && has mask m) (has_shr word d m) ∙ and_comm (has word (d + m)) (has mask m)

  all_eight : (k : ℕ) → has (twice (twice (twice apart 7) 14) 28) k ≡ eight (has apart) k
  all_eight k =
      has_twice (twice (twice apart 7) 14) 28 k
      ∙ ap₂ (λ (s t : Bool). s || t) (four k) (four (28 + k))
    where
      four : (m : ℕ) → has (twice (twice apart 7) 14) m ≡ ((has apart m || has apart (7 + m)) || (has apart (14 + m) || has apart (7 + (14 + m))))
      four m = has_twice (twice apart 7) 14 m ∙ ap₂ (λ (s t : Bool). s || t) (has_twice apart 7 m) (has_twice apart 7 (14 + m))

  eight_same : (f g : ℕ → Bool) → ((m : ℕ) → f m ≡ g m) → (k : ℕ) → eight f k ≡ eight g k
  eight_same f g e k =
      rw (e k, e (7 + k), e (14 + k), e (7 + (14 + k)), e (28 + k), e (7 + (28 + k)), e (14 + (28 + k)), e (7 + (14 + (28 + k))))

  pub gather : bit_and (twice (twice (twice apart 7) 14) 28) 255 ≡ digits_of_rule word d
  unfolding digits_of_rule
  gather =
      ext 8 (bit_and (twice (twice (twice apart 7) 14) 28) 255) (those 8 (λ j. has word (8 * j + d)))
      (omega (arith, and_le_r (twice (twice (twice apart 7) 14) 28) 255)) (those_lt 8 (λ j. has word (8 * j + d)))
      (λ k h.
      has_and (twice (twice (twice apart 7) 14) 28) 255 k
      ∙ ap₂ (λ (s t : Bool). s && t) (all_eight k ∙ eight_same (has apart) (λ m. has mask m && has word (d + m)) apart_at k
      ∙ pick k h (λ m. has word (d + m))) (low_eight k h)
      ∙ and_comm (has word (d + 8 * k)) true
      ∙ ap (has word) (let e : d + 8 * k ≡ 8 * k + d = omega arith in e)
      ∙ sym (has_those 8 (λ j. has word (8 * j + d)) k h))

digits_lt : (word d : ℕ) → digits_of_rule word d < 2 ^ 8
unfolding digits_of_rule
digits_lt word d = those_lt 8 (λ j. has word (8 * j + d))

digits_at : (word d j : ℕ) → j < 8 → has (digits_of_rule word d) j ≡ has word (8 * j + d)
unfolding digits_of_rule
digits_at word d j h = has_those 8 (λ i. has word (8 * i + d)) j h

-- ---- a plane has a square where its byte has the digit
module _ (bytes : List ℕ) (small : Rows bytes 8) where
  word_at : (rank j d : ℕ) → rank < 8 → j < 8 → d < 8 → has (rank_word bytes rank) (8 * j + d) ≡ has (get_or bytes (8 * rank + j) 0) d
  word_at rank j d hr hj hd =
      has_stack (λ i. get_or bytes (8 * rank + i) 0) 8 (omega arith) (λ i h. (small.rows rank hr).each i h) (8 * j + d) (omega arith)
      ∙ ap (λ (t : Bool). t && has (get_or bytes (8 * rank + (8 * j + d) / 8) 0) ((8 * j + d) % 8)) (lt-ltb (8 * j + d) (8 * 8) (omega arith))
      ∙ ap₂ (λ (i m : ℕ). has (get_or bytes (8 * rank + i) 0) m) (let e : (8 * j + d) / 8 ≡ j = omega arith in e) (let e : (8 * j + d) % 8 ≡ d = omega arith in e)

  -- the digits of each rank, of a word made of its bytes
  stacked_at : (w : ℕ → ℕ) (d k : ℕ) → k < 64 → has (stack (λ rank. digits_of_rule (w rank) d) 8) k ≡ has (w (k / 8)) (8 * (k % 8) + d)
  stacked_at w d k h =
      has_stack (λ rank. digits_of_rule (w rank) d) 8 (omega arith) (λ i l. digits_lt (w i) d) k h
      ∙ ap (λ (t : Bool). t && has (digits_of_rule (w (k / 8)) d) (k % 8)) (lt-ltb k (8 * 8) (omega arith))
      ∙ digits_at (w (k / 8)) d (k % 8) (omega arith)

  here : (k d : ℕ) → k < 64 → d < 8 → has (rank_word bytes (k / 8)) (8 * (k % 8) + d) ≡ has (get_or bytes k 0) d
  here k d h l =
      word_at (k / 8) (k % 8) d (omega arith) (omega arith) l
      ∙ ap (λ (i : ℕ). has (get_or bytes i 0) d) (let e : 8 * (k / 8) + k % 8 ≡ k = omega arith in e)

  plane_at : (k d : ℕ) → k < 64 → d < 8 → has (digit_plane bytes d) k ≡ has (get_or bytes k 0) d
  plane_at k d h l = stacked_at (rank_word bytes) d k h ∙ here k d h l

  beyond_at : (k : ℕ) → k < 64
      → has (beyond_of bytes) k ≡ ((has (get_or bytes k 0) 4 || has (get_or bytes k 0) 5) || (has (get_or bytes k 0) 6 || has (get_or bytes k 0) 7))
  beyond_at k h =
      let w : ℕ = rank_word bytes (k / 8) in
      let m : ℕ = 8 * (k % 8) + 4 in
      stacked_at (λ rank. high_of (rank_word bytes rank)) 4 k h
      ∙ has_or (bit_or w (w / 2 ^ 1)) (bit_or (w / 2 ^ 2) (w / 2 ^ 3)) m
      ∙ ap₂ (λ (s t : Bool). s || t)
      (has_or w (w / 2 ^ 1) m ∙ ap₂ (λ (s t : Bool). s || t) (here k 4 h (omega arith))
      (has_shr w 1 m ∙ ap (has w) (let e : 1 + m ≡ 8 * (k % 8) + 5 = omega arith in e) ∙ here k 5 h (omega arith)))
      (has_or (w / 2 ^ 2) (w / 2 ^ 3) m
      ∙ ap₂ (λ (s t : Bool). s || t)
      (has_shr w 2 m ∙ ap (has w) (let e : 2 + m ≡ 8 * (k % 8) + 6 = omega arith in e) ∙ here k 6 h (omega arith))
      (has_shr w 3 m ∙ ap (has w) (let e : 3 + m ≡ 8 * (k % 8) + 7 = omega arith in e) ∙ here k 7 h (omega arith)))

  -- no digit from 4 on, and there is nothing beyond
  high_mask : (k : ℕ) → k < 64 → 4 ≤ k % 8 → has 17361641481138401520 k ≡ true
  unfolding all_below has
  high_mask k h l = pick_true (leb 4 (k % 8)) (le-leb 4 (k % 8) l) (all_at 64 (λ i. not (leb 4 (i % 8)) || has 17361641481138401520 i) tt k h)
    where
      pick_true : (t : Bool) → t ≡ true → T (not t || has 17361641481138401520 k) → has 17361641481138401520 k ≡ true
      pick_true true e t = T_true (has 17361641481138401520 k) t
      pick_true false e t = absurd (mathlib.Core.Bool.false≢true e)

  module _ (all : ℕ) (covers : Covers (rank_word bytes) 8 all) (z : bit_and all 17361641481138401520 ≡ 0) where
    unset : (k d : ℕ) → k < 64 → 4 ≤ d → d < 8 → has (get_or bytes k 0) d ≡ false
    unset k d h l m =
        sym (here k d h m)
        ∙ covers.none (k / 8) (8 * (k % 8) + d) (omega arith)
        (sym (and-true (has all (8 * (k % 8) + d)))
        ∙ ap (λ (t : Bool). has all (8 * (k % 8) + d) && t) (sym (high_mask (8 * (k % 8) + d) (omega arith) (omega arith)))
        ∙ sym (has_and all 17361641481138401520 (8 * (k % 8) + d))
        ∙ ap (λ (n : ℕ). has n (8 * (k % 8) + d)) z
        ∙ has_zero (8 * (k % 8) + d))

    pub none_beyond : 0 ≡ beyond_of bytes
    none_beyond =
        ext 64 0 (beyond_of bytes) (omega arith) (stack_lt (λ rank. digits_of_rule (high_of (rank_word bytes rank)) 4) 8)
        (λ k h.
        has_zero k
        ∙ sym (beyond_at k h ∙ ap₂ (λ (s t : Bool). s || t)
        (ap₂ (λ (s t : Bool). s || t) (unset k 4 h (omega arith) (omega arith)) (unset k 5 h (omega arith) (omega arith)))
        (ap₂ (λ (s t : Bool). s || t) (unset k 6 h (omega arith) (omega arith)) (unset k 7 h (omega arith) (omega arith)))))

  byte_at : (k : ℕ) → k < 64 → get_or bytes k 0 < 256
  byte_at k h = subst (λ (i : ℕ). get_or bytes i 0 < 256) (let e : 8 * (k / 8) + k % 8 ≡ k = omega arith in e)
      ((small.rows (k / 8) (omega arith)).each (k % 8) (omega arith))

-- ---- the place of a byte by its digits: one test over all bytes
abbrev by_digits_rule : ℕ → ℕ
by_digits_rule b = place_by (has b 0) (has b 1) (has b 2) (has b 3) ((has b 4 || has b 5) || (has b 6 || has b 7))

by_digits : (b : ℕ) → b < 256 → by_digits_rule b ≡ table_place b
unfolding all_below has
by_digits b h = eqb→eq (by_digits_rule b) (table_place b) (all_at 256 (λ c. eqb (by_digits_rule c) (table_place c)) tt b h)

sorted_by_holds : (bytes : List ℕ) → Rows bytes 8
    → places_by (has (digit_plane bytes 0)) (has (digit_plane bytes 1)) (has (digit_plane bytes 2)) (has (digit_plane bytes 3)) (has (beyond_of bytes))
    ≡ sorted_by bytes
unfolding sorted_by
sorted_by_holds bytes small =
    let f : ℕ → ℕ = λ k. place_by (has (digit_plane bytes 0) k) (has (digit_plane bytes 1) k) (has (digit_plane bytes 2) k) (has (digit_plane bytes 3) k)
    (has (beyond_of bytes) k) in
    tabulate_same 15 (λ place. those 64 (λ k. eqb (f k) place)) (λ place. those 64 (λ k. eqb (table_place (get_or bytes k 0)) place))
    (λ place hp. those_same (λ k. eqb (f k) place) (λ k. eqb (table_place (get_or bytes k 0)) place) (λ k hk. ap (λ (p : ℕ). eqb p place) (at k hk)))
  where
    at : (k : ℕ) → k < 64
        → place_by (has (digit_plane bytes 0) k) (has (digit_plane bytes 1) k) (has (digit_plane bytes 2) k) (has (digit_plane bytes 3) k)
        (has (beyond_of bytes) k) ≡ table_place (get_or bytes k 0)
    at k h =
        rw (
          plane_at bytes small k 0 h (omega arith),
          plane_at bytes small k 1 h (omega arith),
          plane_at bytes small k 2 h (omega arith),
          plane_at bytes small k 3 h (omega arith),
          beyond_at bytes small k h,
        )
        (by_digits (get_or bytes k 0) (byte_at bytes small k h))

pub sorted_from : (bytes : List ℕ) → Rows bytes 8 → (a b c d h : ℕ) → a ≡ digit_plane bytes 0 → b ≡ digit_plane bytes 1 → c ≡ digit_plane bytes 2
    → d ≡ digit_plane bytes 3 → h ≡ beyond_of bytes
    → places_by (has a) (has b) (has c) (has d) (has h) ≡ sorted_by bytes
sorted_from bytes small a b c d h ea eb ec ed eh = rw (ea, eb, ec, ed, eh) (sorted_by_holds bytes small)

-- ---- a board of each place, by and, or, not of the planes
abbrev sign : Bool → ℕ → ℕ
sign true x = x
sign false x = 2 ^ 64 - 1 - x

sign_lt : (s : Bool) (x : ℕ) → x < 2 ^ 64 → sign s x < 2 ^ 64
sign_lt true x h = h
sign_lt false x h = omega arith

has_sign : (s : Bool) (x k : ℕ) → x < 2 ^ 64 → k < 64 → has (sign s x) k ≡ beq s (has x k)
has_sign true x k h l = beq_true (has x k)
  where
    beq_true : (t : Bool) → t ≡ beq true t
    beq_true true = refl
    beq_true false = refl
has_sign false x k h l = has_not x k h l ∙ not_beq (has x k)
  where
    not_beq : (t : Bool) → not t ≡ beq false t
    not_beq true = refl
    not_beq false = refl

-- ---- a test of so many truths is one computation
abbrev every1 : (Bool → Bool) → Bool
every1 f = f true && f false

at1 : (f : Bool → Bool) → T (every1 f) → (t : Bool) → T (f t)
at1 f h true = and_l (f true) (f false) h
at1 f h false = and_r (f true) (f false) h

abbrev every2 : (Bool → Bool → Bool) → Bool
every2 f = every1 (λ x. every1 (f x))

at2 : (test : Bool → Bool → Bool) → T (every2 test) → (a b : Bool) → T (test a b)
at2 test t a b = at1 (test a) (at1 (λ x. every1 (test x)) t a) b

abbrev every3 : (Bool → Bool → Bool → Bool) → Bool
every3 f = every1 (λ x. every2 (f x))

at3 : (test : Bool → Bool → Bool → Bool) → T (every3 test) → (a b c : Bool) → T (test a b c)
at3 test t a b c = at2 (test a) (at1 (λ x. every2 (test x)) t a) b c

abbrev every4 : (Bool → Bool → Bool → Bool → Bool) → Bool
every4 f = every1 (λ x. every3 (f x))

at4 : (test : Bool → Bool → Bool → Bool → Bool) → T (every4 test) → (a b c d : Bool) → T (test a b c d)
at4 test t a b c d = at3 (test a) (at1 (λ x. every3 (test x)) t a) b c d

abbrev every5 : (Bool → Bool → Bool → Bool → Bool → Bool) → Bool
every5 f = every1 (λ x. every4 (f x))

at5 : (test : Bool → Bool → Bool → Bool → Bool → Bool) → T (every5 test) → (a b c d e : Bool) → T (test a b c d e)
at5 test t a b c d e = at4 (test a) (at1 (λ x. every4 (test x)) t a) b c d e

abbrev every6 : (Bool → Bool → Bool → Bool → Bool → Bool → Bool) → Bool
every6 f = every1 (λ x. every5 (f x))

at6 : (test : Bool → Bool → Bool → Bool → Bool → Bool → Bool) → T (every6 test) → (a b c d e f : Bool) → T (test a b c d e f)
at6 test t a b c d e f = at5 (test a) (at1 (λ x. every5 (test x)) t a) b c d e f

abbrev every7 : (Bool → Bool → Bool → Bool → Bool → Bool → Bool → Bool) → Bool
every7 f = every1 (λ x. every6 (f x))

at7 : (test : Bool → Bool → Bool → Bool → Bool → Bool → Bool → Bool) → T (every7 test) → (a b c d e f g : Bool) → T (test a b c d e f g)
at7 test t a b c d e f g = at6 (test a) (at1 (λ x. every6 (test x)) t a) b c d e f g

abbrev every8 : (Bool → Bool → Bool → Bool → Bool → Bool → Bool → Bool → Bool) → Bool
every8 f = every1 (λ x. every7 (f x))

at8 : (test : Bool → Bool → Bool → Bool → Bool → Bool → Bool → Bool → Bool) → T (every8 test) → (a b c d e f g h : Bool) → T (test a b c d e f g h)
at8 test t a b c d e f g h = at7 (test a) (at1 (λ x. every7 (test x)) t a) b c d e f g h

abbrev every9 : (Bool → Bool → Bool → Bool → Bool → Bool → Bool → Bool → Bool → Bool) → Bool
every9 f = every1 (λ x. every8 (f x))

at9 : (test : Bool → Bool → Bool → Bool → Bool → Bool → Bool → Bool → Bool → Bool) → T (every9 test) → (a b c d e f g h i : Bool) → T (test a b c d e f g h i)
at9 test t a b c d e f g h i = at8 (test a) (at1 (λ x. every8 (test x)) t a) b c d e f g h i

abbrev code_by : Bool → Bool → Bool → Bool → ℕ
code_by a b c d = digit a + 2 * digit b + 4 * digit c + 8 * digit d

-- what the and of five says, for each code below 14
abbrev says : Bool → Bool → Bool → Bool → Bool → Bool → Bool → Bool → Bool → Bool
says sa sb sc sd a b c d h =
    (sd && (sc && sb))
    || beq ((((beq false h && beq sd d) && beq sc c) && beq sb b) && beq sa a) (eqb (place_by a b c d h) (code_by sa sb sc sd))

says_all : T (every9 says)
says_all = tt

module _ (xa xb xc xd xh : ℕ) (fa : xa < 2 ^ 64) (fb : xb < 2 ^ 64) (fc : xc < 2 ^ 64) (fd : xd < 2 ^ 64) (fh : xh < 2 ^ 64) where
  abbrev place : ℕ → ℕ
  place k = place_by (has xa k) (has xb k) (has xc k) (has xd k) (has xh k)

  five : (sa sb sc sd : Bool) → (sd && (sc && sb)) ≡ false
      → bit_and (bit_and (bit_and (bit_and (sign false xh) (sign sd xd)) (sign sc xc)) (sign sb xb)) (sign sa xa)
      ≡ those 64 (λ k. eqb (place k) (code_by sa sb sc sd))
  five sa sb sc sd ok =
      is_those (bit_and (bit_and (bit_and (bit_and (sign false xh) (sign sd xd)) (sign sc xc)) (sign sb xb)) (sign sa xa)) (λ k. eqb (place k) (code_by sa sb sc sd))
      (and_lt 64 (bit_and (bit_and (bit_and (sign false xh) (sign sd xd)) (sign sc xc)) (sign sb xb)) (sign sa xa)
      (and_lt 64 (bit_and (bit_and (sign false xh) (sign sd xd)) (sign sc xc)) (sign sb xb)
      (and_lt 64 (bit_and (sign false xh) (sign sd xd)) (sign sc xc)
      (and_lt 64 (sign false xh) (sign sd xd) (sign_lt false xh fh) (sign_lt sd xd fd)) (sign_lt sc xc fc)) (sign_lt sb xb fb)) (sign_lt sa xa fa))
      (λ k h.
      has_and (bit_and (bit_and (bit_and (sign false xh) (sign sd xd)) (sign sc xc)) (sign sb xb)) (sign sa xa) k
      ∙ ap₂ (λ (s t : Bool). s && t)
      (has_and (bit_and (bit_and (sign false xh) (sign sd xd)) (sign sc xc)) (sign sb xb) k
      ∙ ap₂ (λ (s t : Bool). s && t)
      (has_and (bit_and (sign false xh) (sign sd xd)) (sign sc xc) k
      ∙ ap₂ (λ (s t : Bool). s && t)
      (has_and (sign false xh) (sign sd xd) k ∙ ap₂ (λ (s t : Bool). s && t) (has_sign false xh k fh h) (has_sign sd xd k fd h))
      (has_sign sc xc k fc h))
      (has_sign sb xb k fb h))
      (has_sign sa xa k fa h)
      ∙ told k)
    where
      told : (k : ℕ)
          → ((((beq false (has xh k) && beq sd (has xd k)) && beq sc (has xc k)) && beq sb (has xb k)) && beq sa (has xa k))
          ≡ eqb (place k) (code_by sa sb sc sd)
      told k =
          let all : Bool = (((beq false (has xh k) && beq sd (has xd k)) && beq sc (has xc k)) && beq sb (has xb k))
          && beq sa (has xa k) in
          is_beq all (eqb (place k) (code_by sa sb sc sd))
          (subst (λ (t : Bool). T (t || beq all (eqb (place k) (code_by sa sb sc sd)))) ok
          (at9 says says_all sa sb sc sd (has xa k) (has xb k) (has xc k) (has xd k) (has xh k)))

  others_say : T (every5 (λ a b c d h. beq (h || ((d && c) && b)) (eqb (place_by a b c d h) 14)))
  others_say = tt

  others : bit_or xh (bit_and (bit_and xd xc) xb) ≡ those 64 (λ k. eqb (place k) 14)
  others =
      is_those (bit_or xh (bit_and (bit_and xd xc) xb)) (λ k. eqb (place k) 14)
      (or_lt 64 xh (bit_and (bit_and xd xc) xb) fh (and_lt 64 (bit_and xd xc) xb (and_lt 64 xd xc fd fc) fb))
      (λ k h.
      has_or xh (bit_and (bit_and xd xc) xb) k
      ∙ ap (λ (t : Bool). has xh k || t) (has_and (bit_and xd xc) xb k ∙ ap (λ (t : Bool). t && has xb k) (has_and xd xc k))
      ∙ is_beq (has xh k || ((has xd k && has xc k) && has xb k)) (eqb (place k) 14)
      (at5 (λ a b c d e. beq (e || ((d && c) && b)) (eqb (place_by a b c d e) 14)) others_say (has xa k) (has xb k) (has xc k) (has xd k) (has xh k)))

  -- the fifteen, in the order of the places
  pub all_places :
      bit_and (bit_and (bit_and (bit_and (sign false xh) (sign false xd)) (sign false xc)) (sign false xb)) (sign false xa)
      ∷ bit_and (bit_and (bit_and (bit_and (sign false xh) (sign false xd)) (sign false xc)) (sign false xb)) xa
      ∷ bit_and (bit_and (bit_and (bit_and (sign false xh) (sign false xd)) (sign false xc)) xb) (sign false xa)
      ∷ bit_and (bit_and (bit_and (bit_and (sign false xh) (sign false xd)) (sign false xc)) xb) xa
      ∷ bit_and (bit_and (bit_and (bit_and (sign false xh) (sign false xd)) xc) (sign false xb)) (sign false xa)
      ∷ bit_and (bit_and (bit_and (bit_and (sign false xh) (sign false xd)) xc) (sign false xb)) xa
      ∷ bit_and (bit_and (bit_and (bit_and (sign false xh) (sign false xd)) xc) xb) (sign false xa)
      ∷ bit_and (bit_and (bit_and (bit_and (sign false xh) (sign false xd)) xc) xb) xa
      ∷ bit_and (bit_and (bit_and (bit_and (sign false xh) xd) (sign false xc)) (sign false xb)) (sign false xa)
      ∷ bit_and (bit_and (bit_and (bit_and (sign false xh) xd) (sign false xc)) (sign false xb)) xa
      ∷ bit_and (bit_and (bit_and (bit_and (sign false xh) xd) (sign false xc)) xb) (sign false xa)
      ∷ bit_and (bit_and (bit_and (bit_and (sign false xh) xd) (sign false xc)) xb) xa
      ∷ bit_and (bit_and (bit_and (bit_and (sign false xh) xd) xc) (sign false xb)) (sign false xa)
      ∷ bit_and (bit_and (bit_and (bit_and (sign false xh) xd) xc) (sign false xb)) xa
      ∷ bit_or xh (bit_and (bit_and xd xc) xb)
      ∷ []
      ≡ places_by (has xa) (has xb) (has xc) (has xd) (has xh)
  unfolding tabulate
  all_places =
      ap₂ ◌∷◌ (five false false false false refl)
      (ap₂ ◌∷◌ (five true false false false refl)
      (ap₂ ◌∷◌ (five false true false false refl)
      (ap₂ ◌∷◌ (five true true false false refl)
      (ap₂ ◌∷◌ (five false false true false refl)
      (ap₂ ◌∷◌ (five true false true false refl)
      (ap₂ ◌∷◌ (five false true true false refl)
      (ap₂ ◌∷◌ (five true true true false refl)
      (ap₂ ◌∷◌ (five false false false true refl)
      (ap₂ ◌∷◌ (five true false false true refl)
      (ap₂ ◌∷◌ (five false true false true refl)
      (ap₂ ◌∷◌ (five true true false true refl)
      (ap₂ ◌∷◌ (five false false true true refl)
      (ap₂ ◌∷◌ (five true false true true refl)
      (ap (λ (x : ℕ). x ∷ []) others))))))))))))))
