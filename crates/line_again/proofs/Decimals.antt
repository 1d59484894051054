-- The digits of a counter: what is written in decimal is read as its number, and a counter that is read is the decimal of its number. Assumes nothing.
use mathlib.Core.Path.{◌≡◌, refl, sym, ap, ap₂, subst, ◌∙◌}
use mathlib.Core.Bool.{Bool, true, false, cond, not, ◌&&◌, ◌||◌, or-true, true≢false}
use mathlib.Core.List.{List, [], ◌∷◌, ◌++◌, append-nil, append_assoc}
use Prim.Native.Nat.{ℕ, zero, suc, ◌+◌, ◌-◌, ◌*◌, ◌/◌, ◌%◌, ◌^◌, ◌≤◌, ◌<◌}
use native.Mathlib.Nat.{pow-succ', zero-add}
use native.Mathlib.Decide.{ℕ_discrete}
use native.Mathlib.Omega.{arith}
use lib.Dec.{T, eqb, leb, ltb}
use lib.ListN.{length, length-append}
use borrow.Author.Tests.{eq-eqb, ne_eqb, lt-ltb, le-ltb, ltb-true, ltb-false, le-leb, leb-true}
use Rattle.laws.proofs.Truth.{T_true, true_T, and_l, and_r, and_i, not_e}
use Rattle.text_in.specs.Text.{every}
use Rattle.text_in.proofs.Every.{every_both}
use Rattle.text_out.specs.Text.{digits_up_to, decimal_of}
use Rattle.text_out.proofs.Spelled.{length_below}
use Rattle.line_tail.specs.Words.{is_figure, starts_with, decimal_from, is_counter, counter_of}

-- ---- what is written is read
-- the digits of a number: at least one, one alone below 10, and no 0 before others
pub record Digits (n : ℕ) (s : List ℕ) : Type 0 where
  pub each : T (every is_figure s)
  pub some : 1 ≤ length s
  pub alone : n < 10 → length s ≡ 1
  pub first : 1 ≤ n → starts_with 48 s ≡ false
  pub comes : decimal_from 0 s ≡ n

is_digit : (d : ℕ) → d < 10 → is_figure (48 + d) ≡ true
is_digit d h = rw (le-leb 48 (48 + d) (omega arith), le-leb (48 + d) 57 (omega arith))

one_digit : (n : ℕ) → n < 10 → Digits n ((48 + n) ∷ [])
unfolding every decimal_from
one_digit n h =
    record {
      each = and_i (is_figure (48 + n)) true (true_T (is_digit n h)) tt;
      some = omega arith;
      alone = λ k. refl;
      first = λ k. ne_eqb (48 + n) 48 (λ e. omega arith);
      comes = omega arith;
    }

last_read : (a : ℕ) (s : List ℕ) (b : ℕ) → decimal_from a (s ++ (b ∷ [])) ≡ 10 * decimal_from a s + (b - 48)
unfolding decimal_from
last_read a [] b = refl
last_read a (c ∷ s) b = last_read (10 * a + (c - 48)) s b

starts_front : (s t : List ℕ) → 1 ≤ length s → starts_with 48 (s ++ t) ≡ starts_with 48 s
starts_front [] t h = absurd (omega arith)
starts_front (b ∷ s) t h = refl

one_more : (n : ℕ) (s : List ℕ) → 10 ≤ n → Digits (n / 10) s → Digits n (s ++ ((48 + n % 10) ∷ []))
unfolding every
one_more n s h d =
    let b : ℕ = 48 + n % 10 in
    record {
      each = every_both is_figure s (b ∷ []) d.each (and_i (is_figure b) true (true_T (is_digit (n % 10) (omega arith))) tt);
      some = omega (arith, length-append s (b ∷ []), d.some);
      alone = λ k. absurd (omega arith);
      first = λ k. starts_front s (b ∷ []) d.some ∙ d.first (omega arith);
      comes = last_read 0 s b ∙ ap (λ (k : ℕ). 10 * k + (b - 48)) d.comes ∙ (let e : 10 * (n / 10) + (48 + n % 10 - 48) ≡ n = omega arith in e);
    }

pub digits_of : (f n : ℕ) → n < 10 ^ suc f → Digits n (digits_up_to (suc f) n)
unfolding digits_up_to
digits_of zero n h = rw (lt-ltb n 10 h) (one_digit n h)
digits_of (suc f) n h = go (ltb n 10) refl (digits_of f (n / 10) (tenth (10 ^ suc f) (rw (pow-succ' 10 (suc f)) at h)))
  where
    tenth : (p : ℕ) → n < 10 * p → n / 10 < p
    tenth p q = omega arith

    go : (t : Bool) → ltb n 10 ≡ t → Digits (n / 10) (digits_up_to (suc f) (n / 10))
        → Digits n (cond t ((48 + n) ∷ []) (digits_up_to (suc f) (n / 10) ++ ((48 + n % 10) ∷ [])))
    go true e d = one_digit n (ltb-true n 10 e)
    go false e d = one_more n (digits_up_to (suc f) (n / 10)) (ltb-false n 10 e) d

-- ---- what is read is written so
digit_alone : (g a : ℕ) → 1 ≤ g → a < 10 → digits_up_to g a ≡ (48 + a) ∷ []
unfolding digits_up_to
digit_alone zero a h k = absurd (omega arith)
digit_alone (suc g) a h k = rw (lt-ltb a 10 k)

module _ (b : ℕ) (t : T (is_figure b)) where
  from_48 : 48 ≤ b
  from_48 = leb-true 48 b (T_true (leb 48 b) (and_l (leb 48 b) (leb b 57) t))

  to_57 : b ≤ 57
  to_57 = leb-true b 57 (T_true (leb b 57) (and_r (leb 48 b) (leb b 57) t))

  next_digit : (g a : ℕ) → 1 ≤ a → digits_up_to (suc g) (10 * a + (b - 48)) ≡ digits_up_to g a ++ (b ∷ [])
  unfolding digits_up_to
  next_digit g a h =
      let n : ℕ = 10 * a + (b - 48) in
      let q : n / 10 ≡ a = omega (arith, from_48, to_57) in
      let r : 48 + n % 10 ≡ b = omega (arith, from_48, to_57) in
      rw (le-ltb (10 * a + (b - 48)) 10 (omega arith)) (ap₂ (λ (x y : ℕ). digits_up_to g x ++ (y ∷ [])) q r)

-- digits behind a number that is not 0 are the last of its digits
behind : (s : List ℕ) (g a : ℕ) → 1 ≤ a → T (every is_figure s) → digits_up_to (length s + g) (decimal_from a s) ≡ digits_up_to g a ++ s
unfolding decimal_from every
behind [] g a h m = ap (λ (k : ℕ). digits_up_to k a) (zero-add g) ∙ sym (append-nil (digits_up_to g a))
behind (b ∷ s) g a h m =
    let t = and_l (is_figure b) (every is_figure s) m in
    ap (λ (k : ℕ). digits_up_to k (decimal_from (10 * a + (b - 48)) s)) (let e : suc (length s) + g ≡ length s + suc g = omega arith in e)
    ∙ behind s (suc g) (10 * a + (b - 48)) (omega arith) (and_r (is_figure b) (every is_figure s) m)
    ∙ ap (λ (l : List ℕ). l ++ s) (next_digit b t g a h)
    ∙ append_assoc (digits_up_to g a) (b ∷ []) s

-- a first digit alone, and one that is no 0 with others behind it
pub own_alone : (b : ℕ) → T (is_figure b) → decimal_of (decimal_from 0 (b ∷ [])) ≡ b ∷ []
unfolding decimal_from
own_alone b t =
    digit_alone 20 (10 * 0 + (b - 48)) (omega arith) (omega (arith, to_57 b t))
    ∙ ap (λ (k : ℕ). k ∷ []) (let q : 48 + (10 * 0 + (b - 48)) ≡ b = omega (arith, from_48 b t) in q)

pub own_more : (b : ℕ) (s : List ℕ) → T (is_figure b) → (b ≡ 48 → ⊥) → T (every is_figure s) → length s ≤ 19 → decimal_of (decimal_from 0 (b ∷ s)) ≡ b ∷ s
unfolding decimal_from
own_more b s t n m l =
    let a : ℕ = 10 * 0 + (b - 48) in
    ap (λ (k : ℕ). digits_up_to k (decimal_from a s)) (let e : 20 ≡ length s + (20 - length s) = omega arith in e)
    ∙ behind s (20 - length s) a (omega (arith, from_48 b t)) m
    ∙ ap (λ (l : List ℕ). l ++ s)
    (digit_alone (20 - length s) a (omega arith) (omega (arith, to_57 b t)) ∙ ap (λ (k : ℕ). k ∷ []) (let q : 48 + a ≡ b = omega (arith, from_48 b t) in q))

-- one digit to four, the first of several no 0
record Counter (s : List ℕ) : Type 0 where
  pub each : T (every is_figure s)
  pub some : 1 ≤ length s
  pub few : length s ≤ 4
  pub first : (length s ≡ 1 → ⊥) → starts_with 48 s ≡ false

counter_is : (s : List ℕ) → T (is_counter s) → Counter s
counter_is s e =
    let l : Bool = leb 1 (length s) in
    let m : Bool = leb (length s) 4 in
    let one : Bool = eqb (length s) 1 in
    let p = and_l (every is_figure s && (l && m)) (one || not (starts_with 48 s)) e in
    let q = and_r (every is_figure s) (l && m) p in
    let r = and_r (every is_figure s && (l && m)) (one || not (starts_with 48 s)) e in
    record {
      each = and_l (every is_figure s) (l && m) p;
      some = leb-true 1 (length s) (T_true l (and_l l m q));
      few = leb-true (length s) 4 (T_true m (and_r l m q));
      first = λ n. not_e (starts_with 48 s) (subst (λ (t : Bool). T (t || not (starts_with 48 s))) (ne_eqb (length s) 1 n) r);
    }

is_counter_holds : (s : List ℕ) → Counter s → is_counter s ≡ true
is_counter_holds s c = rw (T_true (every is_figure s) c.each, le-leb 1 (length s) c.some, le-leb (length s) 4 c.few) (go (ℕ_discrete (length s) 1))
  where
    go : Dec (length s ≡ 1) → (eqb (length s) 1 || not (starts_with 48 s)) ≡ true
    go (yes e) = rw (eq-eqb (length s) 1 e)
    go (no n) = rw (c.first n) (or-true (eqb (length s) 1))

-- a counter is the decimal of its number
own_decimal : (s : List ℕ) → Counter s → decimal_of (decimal_from 0 s) ≡ s
unfolding every
own_decimal [] c = absurd (omega (arith, c.some))
own_decimal (b ∷ []) c = own_alone b (and_l (is_figure b) true c.each)
own_decimal (b ∷ (d ∷ s)) c =
    let no : b ≡ 48 → ⊥ = λ e. true≢false (sym (eq-eqb b 48 e) ∙ c.first (λ k. omega arith)) in
    own_more b (d ∷ s) (and_l (is_figure b) (every is_figure (d ∷ s)) c.each) no
    (and_r (is_figure b) (every is_figure (d ∷ s)) c.each) (omega (arith, c.few))

-- ---- a counter there and back
pub counter_back : (n : ℕ) → n ≤ 9999 → counter_of (decimal_of n) ≡ n
unfolding counter_of
counter_back n h =
    let d = digits_of 19 n (omega arith) in
    let c = is_counter_holds (decimal_of n) (record {
      each = d.each;
      some = d.some;
      few = length_below 20 3 n (omega arith);
      first = λ k. d.first (least n d.alone k);
    })
    in
    ap (λ (t : Bool). cond t (decimal_from 0 (decimal_of n)) 10000) c ∙ d.comes
  where
    least : (m : ℕ) → (m < 10 → length (decimal_of n) ≡ 1) → (length (decimal_of n) ≡ 1 → ⊥) → 1 ≤ m
    least zero a k = absurd (k (a (omega arith)))
    least (suc m) a k = omega arith

pub counter_own : (s : List ℕ) → counter_of s ≤ 9999 → decimal_of (counter_of s) ≡ s
unfolding counter_of
counter_own s = go (is_counter s) refl
  where
    go : (t : Bool) → is_counter s ≡ t → cond t (decimal_from 0 s) 10000 ≤ 9999 → decimal_of (cond t (decimal_from 0 s) 10000) ≡ s
    go true e h = own_decimal s (counter_is s (true_T e))
    go false e h = absurd (omega arith)
