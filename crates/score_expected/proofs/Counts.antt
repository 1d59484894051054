-- Which entry a score counts as, in document 02's words. Assumes nothing.
use mathlib.Core.Path.{◌≡◌, ap, ◌∙◌}
use Prim.Native.Nat.{ℕ, ◌+◌, ◌-◌, ◌*◌, ◌≤◌, ◌<◌}
use native.Mathlib.Omega.{arith}
use lib.IntN.{ℤ, pos, negsuc, ◌+ℤ◌, ◌*ℤ◌, sub_ℕ}
use lib.ListN.{get_or}
use lib.Signed.{◌≤ℤ◌}
use Rattle.laws.proofs.Diff.{Diff, above_zero_rule, below_zero, diff_of, diff_pos, diff_add, diff_scale, diff_sub, diff_eq, diff_swap, le_diff}
use Rattle.score_expected.specs.Expected.{entry_of, score_place, expected_of, table}
use Rattle.score_expected.specs.Rule.{CountsAs}
use Rattle.score_expected.proofs.Places.{place_is}
use Rattle.score_expected.proofs.Entries.{table_at}

-- by its place
at_place : (z j : ℤ) (k : ℕ) → k < 801 → score_place z ≡ k → Diff j k 400 → expected_of z ≡ entry_of j
at_place z j k h e d =
    ap (λ (i : ℕ). get_or table i 0) e ∙ table_at k h ∙ ap entry_of (diff_eq (sub_ℕ k 400) j k 400 k 400 (diff_sub k 400) d (omega arith))

-- THE SCORE COUNTED, in document 02's words
pub counts_as : (z : ℤ) → CountsAs z
counts_as z = record {
  below = λ h. at_place z (negsuc 399) 0 (omega arith) (omega (
    arith,
    place_is z,
    le_diff z (negsuc 1599) (above_zero_rule z) (below_zero z) 0 1600 (diff_of z) (omega arith) h,
  )) (omega arith);
  over = λ h. at_place z (pos 400) 800 (omega arith) (omega (
    arith,
    place_is z,
    le_diff (pos 1600) z 1600 0 (above_zero_rule z) (below_zero z) (omega arith) (diff_of z) h,
  )) (omega arith);
  between = mid;
}
  where
    mid : (j : ℤ) → negsuc 399 ≤ℤ j → j ≤ℤ pos 400 → (j *ℤ pos 4) ≤ℤ z → z ≤ℤ (j *ℤ pos 4 +ℤ pos 3) → expected_of z ≡ entry_of j
    mid j lo hi h k =
        let a : ℕ = above_zero_rule j in
        let b : ℕ = below_zero j in
        let four = diff_scale j 4 a b (diff_of j) in
        let l : 0 + b ≤ a + 400 = le_diff (negsuc 399) j 0 400 a b (omega arith) (diff_of j) lo in
        let m : a + 0 ≤ 400 + b = le_diff j (pos 400) a b 400 0 (diff_of j) (omega arith) hi in
        let n : a * 4 + below_zero z ≤ above_zero_rule z + b * 4 = le_diff (j *ℤ pos 4) z (a * 4) (b * 4) (above_zero_rule z) (below_zero z) four (diff_of z) h in
        let o : above_zero_rule z + (b * 4 + 0) ≤ (a * 4 + 3) + below_zero z =
        le_diff z (j *ℤ pos 4 +ℤ pos 3) (above_zero_rule z) (below_zero z) (a * 4 + 3) (b * 4 + 0) (diff_of z)
        (diff_add (j *ℤ pos 4) (pos 3) (a * 4) (b * 4) 3 0 four (diff_pos 3)) k in
        at_place z j (a + 400 - b) (omega arith) (omega (arith, place_is z)) (diff_swap j a b (a + 400 - b) 400 (diff_of j) (omega arith))
