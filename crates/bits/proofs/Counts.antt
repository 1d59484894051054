-- How many squares a bitboard has: the machine's count of ones. Assumes nothing.
use mathlib.Core.Path.{◌≡◌, refl, sym, ap, ap₂, ◌∙◌, subst}
use mathlib.Core.Logic.{⊎_elim}
use mathlib.Core.Bool.{Bool, true, false, not, ◌&&◌, ◌||◌, and-true, and-false}
use Prim.Native.Nat.{ℕ, zero, suc, ◌+◌, ◌/◌, ◌%◌, ◌^◌, ◌≤◌, ◌<◌}
use native.Mathlib.Nat.{mod-lt, mod-eq_of_lt, not-suc-le-zero, le-suc_iff, suc_inj}
use native.Mathlib.Omega.{arith}
use lib.Pow.{pow_pos, shr_lt, split}
use lib.Arith.{lt-one}
use lib.Count.{ones, ones_cat}
use lib.Dec.{T, eqb}
use borrow.Author.Tests.{eq-eqb, ne_eqb}
use Rattle.bits.specs.Bitboard.{is_set, has, digit, how_many}
use Rattle.bits.proofs.Digits.{has_mod}

-- ---- the count
ones_digit : (d : ℕ) → d < 2 → ones d ≡ d
unfolding ones
ones_digit zero h = refl
ones_digit (suc zero) h = refl
ones_digit (suc (suc d)) h = absurd (omega arith)

pub digit_of : (d : ℕ) → d < 2 → digit (is_set d) ≡ d
digit_of zero h = refl
digit_of (suc zero) h = refl
digit_of (suc (suc d)) h = absurd (omega arith)

top_digit : (n b : ℕ) → b < 2 ^ suc n → digit (has b n) ≡ b / 2 ^ n
unfolding has
top_digit n b h =
    let l : b / 2 ^ n < 2 = shr_lt 1 n (subst (λ (m : ℕ). b < 2 ^ m) (sym (native.Mathlib.Numerals.one-add n)) h) in
    ap (λ (x : ℕ). digit (is_set x)) (mod-eq_of_lt l) ∙ digit_of (b / 2 ^ n) l

pub many_same : (n : ℕ) (f g : ℕ → Bool) → ((k : ℕ) → k < n → f k ≡ g k) → how_many n f ≡ how_many n g
unfolding how_many
many_same zero f g e = refl
many_same (suc n) f g e = ap₂ (λ (t : Bool) (m : ℕ). digit t + m) (e n (omega arith)) (many_same n f g (λ k l. e k (omega arith)))

-- the ones of b are the squares that stand in it
pub ones_many : (n b : ℕ) → b < 2 ^ n → ones b ≡ how_many n (has b)
unfolding how_many
ones_many zero b h = ap ones (lt-one h) ∙ ones_digit 0 (omega arith)
ones_many (suc n) b h =
    ap ones (sym (split b n)) ∙ ones_cat n (b / 2 ^ n) (b % 2 ^ n) (mod-lt b (pow_pos n))
    ∙ ap₂ (λ (x y : ℕ). x + y)
    (ones_digit (b / 2 ^ n) (shr_lt 1 n (subst (λ (m : ℕ). b < 2 ^ m) (sym (native.Mathlib.Numerals.one-add n)) h)) ∙ sym (top_digit n b h))
    (ones_many n (b % 2 ^ n) (mod-lt b (pow_pos n)) ∙ many_same n (has (b % 2 ^ n)) (has b) (λ k l. has_mod n b k l))

pub many_le : (n : ℕ) (f : ℕ → Bool) → how_many n f ≤ n
unfolding how_many
many_le zero f = omega arith
many_le (suc n) f = omega (arith, many_le n f, bit (f n))
  where
    bit : (t : Bool) → digit t ≤ 1
    bit true = omega arith
    bit false = omega arith

-- ---- none, and no two
pub many_at : (n : ℕ) (f : ℕ → Bool) (i : ℕ) → i < n → f i ≡ true → 1 ≤ how_many n f
unfolding how_many
many_at zero f i h e = absurd (not-suc-le-zero h)
many_at (suc n) f i h e =
    ⊎_elim (λ l. omega (arith, many_at n f i l e)) (λ q. omega (arith, ap digit (ap f (sym (suc_inj q)) ∙ e))) (le-suc_iff.0 h)

pub none_many : (n : ℕ) (f : ℕ → Bool) → how_many n f ≡ 0 → (i : ℕ) → i < n → f i ≡ false
none_many n f z i h = go (f i) refl
  where
    go : (t : Bool) → f i ≡ t → t ≡ false
    go true e = absurd (omega (arith, many_at n f i h e))
    go false e = refl

pub many_none : (n : ℕ) (f : ℕ → Bool) → ((i : ℕ) → i < n → f i ≡ false) → how_many n f ≡ 0
unfolding how_many
many_none zero f e = refl
many_none (suc n) f e = omega (arith, ap digit (e n (omega arith)), many_none n f (λ i l. e i (omega arith)))

-- where at most one passes the test, two that pass it are one
pub one_alone : (n : ℕ) (f : ℕ → Bool) → how_many n f ≤ 1 → (i j : ℕ) → i < n → j < n → f i ≡ true → f j ≡ true → i ≡ j
unfolding how_many
one_alone zero f h i j hi hj ei ej = absurd (not-suc-le-zero hi)
one_alone (suc n) f h i j hi hj ei ej =
    ⊎_elim
    (λ li. ⊎_elim (λ lj. one_alone n f (omega arith) i j li lj ei ej) (λ qj. absurd (two i li ei (ap f (sym (suc_inj qj)) ∙ ej))) (le-suc_iff.0 hj))
    (λ qi. ⊎_elim (λ lj. absurd (two j lj ej (ap f (sym (suc_inj qi)) ∙ ei))) (λ qj. suc_inj qi ∙ sym (suc_inj qj)) (le-suc_iff.0 hj))
    (le-suc_iff.0 hi)
  where
    two : (m : ℕ) → m < n → f m ≡ true → f n ≡ true → ⊥
    two m l e q = omega (arith, many_at n f m l e, ap digit q)

pub alone_one : (n : ℕ) (f : ℕ → Bool) → ((i j : ℕ) → i < n → j < n → f i ≡ true → f j ≡ true → i ≡ j) → how_many n f ≤ 1
unfolding how_many
alone_one zero f e = omega arith
alone_one (suc n) f e = go (alone_one n f (λ i j hi hj. e i j (omega arith) (omega arith))) (f n) refl
  where
    others : f n ≡ true → (i : ℕ) → i < n → (t : Bool) → f i ≡ t → t ≡ false
    others q i l true p = absurd (omega (arith, e i n (omega arith) (omega arith) p q))
    others q i l false p = refl

    go : how_many n f ≤ 1 → (t : Bool) → f n ≡ t → digit t + how_many n f ≤ 1
    go h true q = omega (arith, many_none n f (λ i l. others q i l (f i) refl))
    go h false q = omega arith

-- ---- a weaker test passes as many or more; one that passes and is left out makes one less
pub many_more : (n : ℕ) (f g : ℕ → Bool) → ((k : ℕ) → k < n → T (f k) → T (g k)) → how_many n f ≤ how_many n g
unfolding how_many
many_more zero f g h = omega arith
many_more (suc n) f g h = omega (arith, many_more n f g (λ k l. h k (omega arith)), digits (f n) (g n) (h n (omega arith)))
  where
    digits : (a b : Bool) → (T a → T b) → digit a ≤ digit b
    digits true true i = omega arith
    digits true false i = absurd (i tt)
    digits false b i = omega arith

pub many_less : (n s : ℕ) (f : ℕ → Bool) → s < n → f s ≡ true → how_many n f ≡ suc (how_many n (λ k. f k && not (eqb k s)))
unfolding how_many
many_less zero s f h e = absurd (not-suc-le-zero h)
many_less (suc n) s f h e =
    ⊎_elim
    (λ l. omega (arith, many_less n s f l e, ap digit (kept n (λ q. omega arith))))
    (λ q. omega (arith, top (suc_inj q), many_same n f (λ k. f k && not (eqb k s)) (λ k l. sym (kept k (λ p. omega (arith, suc_inj q))))))
    (le-suc_iff.0 h)
  where
    kept : (k : ℕ) → (k ≡ s → ⊥) → (f k && not (eqb k s)) ≡ f k
    kept k ne = ap (λ (t : Bool). f k && not t) (ne_eqb k s ne) ∙ and-true (f k)

    top : s ≡ n → digit (f n) ≡ suc (digit (f n && not (eqb n s)))
    top q = ap digit (ap f (sym q) ∙ e) ∙ sym (ap (λ (t : Bool). suc (digit (f n && not t))) (eq-eqb n s (sym q))
        ∙ ap (λ (t : Bool). suc (digit t)) (and-false (f n)))

-- of either test no more pass than of both together
pub many_or : (n : ℕ) (f g : ℕ → Bool) → how_many n (λ k. f k || g k) ≤ how_many n f + how_many n g
unfolding how_many
many_or zero f g = omega arith
many_or (suc n) f g = omega (arith, many_or n f g, bit (f n) (g n))
  where
    bit : (a b : Bool) → digit (a || b) ≤ digit a + digit b
    bit true b = omega arith
    bit false b = omega arith
