-- The six changes that turn the board half round, by tests that antt computes. Assumes nothing.
use Rattle.std.proofs.Common.{◌≡◌, ℕ, ◌+◌, ◌-◌, ◌*◌, ◌/◌, ◌%◌, ◌^◌, ◌<◌, Bool, true, false, cond, not, ◌&&◌, ◌||◌, T, eqb, ltb, leb, refl, ap, ◌∙◌, ap₂, true≢false, eqb→eq, ltb→lt}
use mathlib.Core.Bool.{false≢true, beq}
use lib.Bits.{bit_and, bit_or}
use Rattle.bits.specs.Bitboard.{has, those}
use Rattle.bits.proofs.Digits.{has_or, has_and, has_shr, has_shl}
use Rattle.bits.proofs.Those.{has_those, those_same}
use Rattle.laws.specs.Tests.{all_below}
use Rattle.laws.proofs.Truth.{is_beq}
use Rattle.laws.proofs.Tests.{all_at}
use Rattle.attack_rays.specs.PrivateMirror.{paired, partner, mirrored}

pub paired_at : (n m k : ℕ) → T (paired n m) → k < 64 → (leb n k && has m (k - n)) ≡ not (has m k)
unfolding paired
paired_at n m k t h =
    is_beq (leb n k && has m (k - n)) (not (has m k)) (all_at 64 (λ j. beq (leb n j && has m (j - n)) (not (has m j))) t k h)

-- ---- one change
choose : (a b l mk mb : Bool) → (l && mb) ≡ not mk → ((a && mk) || (l && (b && mb))) ≡ cond mk a b
choose true b false true mb e = refl
choose false b false true mb e = refl
choose a b true true true e = absurd (true≢false e)
choose true true true true false e = refl
choose true false true true false e = refl
choose false true true true false e = refl
choose false false true true false e = refl
choose a b false false mb e = absurd (false≢true e)
choose a b true false false e = absurd (false≢true e)
choose true true true false true e = refl
choose true false true false true e = refl
choose false true true false true e = refl
choose false false true false true e = refl

out : (x n m k : ℕ) (t : Bool) → cond t (has x (n + k)) (has x (k - n)) ≡ has x (cond t (n + k) (k - n))
out x n m k true = refl
out x n m k false = refl

-- a change puts at each square what stood on its partner
pub changed_at : (x n m k : ℕ) → T (paired n m) → k < 64 → has (bit_or (bit_and (x / 2 ^ n) m) (bit_and x m * 2 ^ n % 2 ^ 64)) k ≡ has x (partner n m k)
unfolding partner
changed_at x n m k p h =
    has_or (bit_and (x / 2 ^ n) m) (bit_and x m * 2 ^ n % 2 ^ 64) k
    ∙ ap₂ (λ (s t : Bool). s || t) (has_and (x / 2 ^ n) m k ∙ ap (λ (t : Bool). t && has m k) (has_shr x n k))
    (has_shl (bit_and x m) n k h ∙ ap (λ (t : Bool). leb n k && t) (has_and x m (k - n)))
    ∙ choose (has x (n + k)) (has x (k - n)) (leb n k) (has m k) (has m (k - n)) (paired_at n m k p h) ∙ out x n m k (has m k)

-- the partner stands on the board
pub partner_inside : (n m : ℕ) → T (all_below 64 (λ k. ltb (partner n m k) 64)) → (k : ℕ) → k < 64 → partner n m k < 64
partner_inside n m t k h = ltb→lt (partner n m k) 64 (all_at 64 (λ j. ltb (partner n m j) 64) t k h)

abbrev p₁ : ℕ → ℕ
p₁ = partner 1 0x5555_5555_5555_5555

abbrev p₂ : ℕ → ℕ
p₂ = partner 2 0x3333_3333_3333_3333

abbrev p₄ : ℕ → ℕ
p₄ = partner 4 0x0f0f_0f0f_0f0f_0f0f

abbrev pub p₈ : ℕ → ℕ
p₈ = partner 8 0x00ff_00ff_00ff_00ff

abbrev pub p₁₆ : ℕ → ℕ
p₁₆ = partner 16 0x0000_ffff_0000_ffff

abbrev pub p₃₂ : ℕ → ℕ
p₃₂ = partner 32 0x0000_0000_ffff_ffff

all_six : (k : ℕ) → k < 64 → p₁ (p₂ (p₄ (p₈ (p₁₆ (p₃₂ k))))) ≡ 63 - k
unfolding partner all_below
all_six k h = eqb→eq (p₁ (p₂ (p₄ (p₈ (p₁₆ (p₃₂ k)))))) (63 - k) (all_at 64 (λ j. eqb (p₁ (p₂ (p₄ (p₈ (p₁₆ (p₃₂ j)))))) (63 - j)) tt k h)

-- one change after the other
pub changed_after : (a x : ℕ) (p : ℕ → ℕ) → a ≡ those 64 (λ k. has x (p k)) → (k : ℕ) → k < 64 → has a k ≡ has x (p k)
changed_after a x p e k h = ap (λ (y : ℕ). has y k) e ∙ has_those 64 (λ j. has x (p j)) k h

pub six : (x a b c d e f : ℕ) → a ≡ those 64 (λ k. has x (p₁ k)) → b ≡ those 64 (λ k. has a (p₂ k)) → c ≡ those 64 (λ k. has b (p₄ k))
    → d ≡ those 64 (λ k. has c (p₈ k)) → e ≡ those 64 (λ k. has d (p₁₆ k)) → f ≡ those 64 (λ k. has e (p₃₂ k)) → f ≡ mirrored x
unfolding mirrored partner all_below
six x a b c d e f ea eb ec ed ee ef =
    ef ∙ those_same (λ k. has e (p₃₂ k)) (λ k. has x (63 - k))
    (λ k h.
    let h₁ : p₃₂ k < 64 = partner_inside 32 0x0000_0000_ffff_ffff tt k h in
    let h₂ : p₁₆ (p₃₂ k) < 64 = partner_inside 16 0x0000_ffff_0000_ffff tt (p₃₂ k) h₁ in
    let h₃ : p₈ (p₁₆ (p₃₂ k)) < 64 = partner_inside 8 0x00ff_00ff_00ff_00ff tt (p₁₆ (p₃₂ k)) h₂ in
    let h₄ : p₄ (p₈ (p₁₆ (p₃₂ k))) < 64 = partner_inside 4 0x0f0f_0f0f_0f0f_0f0f tt (p₈ (p₁₆ (p₃₂ k))) h₃ in
    let h₅ : p₂ (p₄ (p₈ (p₁₆ (p₃₂ k)))) < 64 = partner_inside 2 0x3333_3333_3333_3333 tt (p₄ (p₈ (p₁₆ (p₃₂ k)))) h₄ in
    changed_after e d p₁₆ ee (p₃₂ k) h₁ ∙ changed_after d c p₈ ed (p₁₆ (p₃₂ k)) h₂ ∙ changed_after c b p₄ ec (p₈ (p₁₆ (p₃₂ k))) h₃
    ∙ changed_after b a p₂ eb (p₄ (p₈ (p₁₆ (p₃₂ k)))) h₄ ∙ changed_after a x p₁ ea (p₂ (p₄ (p₈ (p₁₆ (p₃₂ k))))) h₅ ∙ ap (has x) (all_six k h))
