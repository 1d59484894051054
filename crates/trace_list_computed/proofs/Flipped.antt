-- The board turned over by three changes of ranks, by a test that antt computes. Assumes nothing.
use mathlib.Core.Path.{◌≡◌, ap, ◌∙◌}
use Prim.Native.Nat.{ℕ, ◌<◌}
use lib.Bits.{bit_xor}
use lib.Dec.{eqb, eqb→eq}
use Rattle.laws.specs.Tests.{all_below}
use Rattle.laws.proofs.Tests.{all_at}
use Rattle.bits.specs.Bitboard.{has, those}
use Rattle.bits.proofs.Those.{has_those, those_same}
use Rattle.attack_rays.specs.PrivateMirror.{partner}
use Rattle.attack_rays.proofs.Pairs.{partner_inside, p₈, p₁₆, p₃₂, changed_after}
use Rattle.trace_list_computed.specs.PrivateWalk.{turned_over}

all_three : (k : ℕ) → k < 64 → p₈ (p₁₆ (p₃₂ k)) ≡ bit_xor k 56
unfolding partner all_below
all_three k h = eqb→eq (p₈ (p₁₆ (p₃₂ k))) (bit_xor k 56) (all_at 64 (λ j. eqb (p₈ (p₁₆ (p₃₂ j))) (bit_xor j 56)) tt k h)

pub three : (x a b c : ℕ) → a ≡ those 64 (λ k. has x (p₈ k)) → b ≡ those 64 (λ k. has a (p₁₆ k)) → c ≡ those 64 (λ k. has b (p₃₂ k)) → c ≡ turned_over x
unfolding turned_over partner all_below
three x a b c ea eb ec =
    ec ∙ those_same (λ k. has b (p₃₂ k)) (λ k. has x (bit_xor k 56))
    (λ k h.
    let h₁ : p₃₂ k < 64 = partner_inside 32 0x0000_0000_ffff_ffff tt k h in
    let h₂ : p₁₆ (p₃₂ k) < 64 = partner_inside 16 0x0000_ffff_0000_ffff tt (p₃₂ k) h₁ in
    changed_after b a p₁₆ eb (p₃₂ k) h₁ ∙ changed_after a x p₈ ea (p₁₆ (p₃₂ k)) h₂ ∙ ap (has x) (all_three k h))

pub has_turned : (x k : ℕ) → k < 64 → has (turned_over x) k ≡ has x (bit_xor k 56)
unfolding turned_over
has_turned x k h = has_those 64 (λ j. has x (bit_xor j 56)) k h
