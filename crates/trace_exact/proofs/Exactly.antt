-- The exact sum of a position's trace with the shipped weights, by the score's own sums: material without the kings' values, pair,
-- mobility, both phases of the square weights. Assumes nothing.
use mathlib.Core.Path.{◌≡◌, refl, sym, ap, ap₂, ◌∙◌, subst}
use mathlib.Core.List.{List}
use Prim.Native.Nat.{ℕ, ◌+◌, ◌*◌, ◌<◌}
use native.Mathlib.Omega.{arith}
use lib.IntN.{ℤ, pos, ◌+ℤ◌, ◌-ℤ◌, ◌*ℤ◌}
use lib.ListN.{get_or}
use Rattle.laws.specs.Sums.{sum_n, sum_z}
use Rattle.laws.proofs.Sums.{whole_same}
use Rattle.laws.proofs.Diff.{Diff, above_zero_rule, below_zero, diff_of, diff_add, diff_minus, diff_scale}
use Rattle.laws.proofs.Terms.{diff_of_two, diff_weighed}
use Rattle.places.specs.Places.{entry_place, weight_place}
use Rattle.score_material.specs.Pieces.{count, pieces}
use Rattle.chess.specs.Values.{value_of}
use Rattle.score_taper.specs.Parts.{tempo_value}
use Rattle.score_material.specs.Material.{pair, pair_value}
use Rattle.score_tally.specs.Mobility.{factor_of, attacked, mobility_sum}
use Rattle.trace_named.specs.Named as D
use Rattle.trace_counts.specs.declared.Trace.{Trace}
use Rattle.trace.specs.Trace.{sign_of, trace_of, entry_at, entries_of}
use Rattle.trace_exact.specs.Exact.{WholeWeights, shipped_whole, difference, kind_counts, term, square_sum, exact_by, exact_sum}
use Rattle.trace.proofs.Planes.{entries_at}
use Rattle.trace_exact.proofs.Entries.{thirtieths, square_sum_holds}

-- ---- the entries as a list, or by their places
same_squares : (w : WholeWeights) (e f : ℕ → ℤ) (x : ℤ) → ((i : ℕ) → i < 768 → e i ≡ f i) → square_sum w e x ≡ square_sum w f x
unfolding square_sum
same_squares w e f x h =
    whole_same 6 (λ kind. sum_z 64 (λ s. term w e x kind s 0 -ℤ term w e x kind s 1)) (λ kind. sum_z 64 (λ s. term w f x kind s 0 -ℤ term w f x kind s 1))
    (λ kind hk. whole_same 64 (λ s. term w e x kind s 0 -ℤ term w e x kind s 1) (λ s. term w f x kind s 0 -ℤ term w f x kind s 1)
    (λ s hs. ap₂ ◌-ℤ◌ (one kind s 0 hk hs (omega arith)) (one kind s 1 hk hs (omega arith))))
  where
    one : (kind s c : ℕ) → kind < 6 → s < 64 → c < 2 → term w e x kind s c ≡ term w f x kind s c
    one kind s c hk hs hc = ap (λ (z : ℤ). z *ℤ (w.square (weight_place kind 0 s) *ℤ (x -ℤ pos 2) +ℤ w.square (weight_place kind 1 s) *ℤ
        (pos 32 -ℤ x))) (h (entry_place kind s c) (omega arith))

pub exact_at : (w : WholeWeights) (t : Trace) (bbs : List ℕ) → exact_sum w t (entries_of bbs) ≡ exact_by w t (λ i. pos (entry_at bbs i))
unfolding exact_sum exact_by
exact_at w t bbs =
    ap (λ (z : ℤ). (sum_z 5 (λ kind. difference (kind_counts t kind) *ℤ w.value kind) +ℤ difference t.bishop_pair *ℤ w.pair +ℤ t.side *ℤ
    w.tempo) *ℤ pos 30
    +ℤ sum_z 6 (λ kind. (D.attacked_in t kind 0 -ℤ D.attacked_in t kind 1) *ℤ w.mobility kind) *ℤ pos 3 +ℤ z)
    (same_squares w (λ i. get_or (entries_of bbs) i (pos 0)) (λ i. pos (entry_at bbs i)) t.piece_count (λ i h. entries_at bbs i h))

-- ---- material without kings
unfoldable pub kingless_worth : List ℕ → ℕ → ℕ
kingless_worth bbs colour = sum_n 5 (λ kind. count bbs kind colour * value_of kind)

-- the counts and the mobility as sums over functions of the kind
counts_is : (bbs : List ℕ) (side : ℕ)
    → sum_z 5 (λ kind. difference (kind_counts (trace_of bbs side) kind) *ℤ pos (value_of kind))
    ≡ sum_z 5 (λ kind. (pos (count bbs kind 0) -ℤ pos (count bbs kind 1)) *ℤ pos (value_of kind))
unfolding sum_z trace_of
counts_is bbs side = refl

moves_is : (bbs : List ℕ) (side : ℕ)
    → sum_z 6 (λ kind. (D.attacked_in (trace_of bbs side) kind 0 -ℤ D.attacked_in (trace_of bbs side) kind 1) *ℤ pos (factor_of kind))
    ≡ sum_z 6 (λ kind. (pos (attacked bbs kind 0) -ℤ pos (attacked bbs kind 1)) *ℤ pos (factor_of kind))
unfolding sum_z trace_of attacked
moves_is bbs side = refl

-- the exact sum, part by part
parts : (bbs : List ℕ) (side : ℕ) (counts moves : ℤ)
    → sum_z 5 (λ kind. difference (kind_counts (trace_of bbs side) kind) *ℤ pos (value_of kind)) ≡ counts
    → sum_z 6 (λ kind. (D.attacked_in (trace_of bbs side) kind 0 -ℤ D.attacked_in (trace_of bbs side) kind 1) *ℤ pos (factor_of kind)) ≡ moves
    → exact_by shipped_whole (trace_of bbs side) (λ i. pos (entry_at bbs i))
    ≡ (counts +ℤ (pos (pair bbs 0) -ℤ pos (pair bbs 1)) *ℤ pos pair_value +ℤ sign_of side *ℤ pos tempo_value) *ℤ pos 30 +ℤ moves *ℤ pos 3 +ℤ
    (thirtieths bbs 0 -ℤ thirtieths bbs 1)
unfolding exact_by trace_of
parts bbs side counts moves c m =
    ap₂ (λ (x y : ℤ). (x +ℤ (pos (pair bbs 0) -ℤ pos (pair bbs 1)) *ℤ pos pair_value +ℤ sign_of side *ℤ pos tempo_value) *ℤ pos 30 +ℤ y *ℤ pos 3 +ℤ
    square_sum shipped_whole (λ i. pos (entry_at bbs i)) (pos (pieces bbs))) c m
    ∙ ap (λ (z : ℤ). (counts +ℤ (pos (pair bbs 0) -ℤ pos (pair bbs 1)) *ℤ pos pair_value +ℤ sign_of side *ℤ pos tempo_value) *ℤ pos 30 +ℤ moves *ℤ pos 3
    +ℤ z) (square_sum_holds bbs)

same_diff : (z y : ℤ) (m n : ℕ) → z ≡ y → Diff y m n → Diff z m n
same_diff z y m n e d = subst (λ (x : ℤ). Diff x m n) (sym e) d

-- the exact sum as a difference; a and b are 11·side as one
pub diff_exact : (bbs : List ℕ) (side a b : ℕ) → Diff (sign_of side *ℤ pos tempo_value) a b
    → Diff (exact_sum shipped_whole (trace_of bbs side) (entries_of bbs))
    ((kingless_worth bbs 0 + pair bbs 0 * pair_value + a) * 30 + mobility_sum bbs 0 * 3 + (above_zero_rule (thirtieths bbs 0) + below_zero (thirtieths bbs 1)))
    ((kingless_worth bbs 1 + pair bbs 1 * pair_value + b) * 30 + mobility_sum bbs 1 * 3 + (below_zero (thirtieths bbs 0) + above_zero_rule (thirtieths bbs 1)))
unfolding kingless_worth mobility_sum
diff_exact bbs side a b h =
    same_diff (exact_sum shipped_whole (trace_of bbs side) (entries_of bbs)) _
    ((kingless_worth bbs 0 + pair bbs 0 * pair_value + a) * 30 + mobility_sum bbs 0 * 3 + (above_zero_rule (thirtieths bbs 0) + below_zero (thirtieths bbs 1)))
    ((kingless_worth bbs 1 + pair bbs 1 * pair_value + b) * 30 + mobility_sum bbs 1 * 3 + (below_zero (thirtieths bbs 0) + above_zero_rule (thirtieths bbs 1)))
    (exact_at shipped_whole (trace_of bbs side) bbs ∙ by_parts)
    (diff_add ((counts +ℤ pairs *ℤ pos pair_value +ℤ sign_of side *ℤ pos tempo_value) *ℤ pos 30 +ℤ moves *ℤ pos 3) (thirtieths bbs 0 -ℤ thirtieths bbs 1) _ _ _ _
    (diff_add ((counts +ℤ pairs *ℤ pos pair_value +ℤ sign_of side *ℤ pos tempo_value) *ℤ pos 30) (moves *ℤ pos 3) _ _ _ _
    (diff_scale (counts +ℤ pairs *ℤ pos pair_value +ℤ sign_of side *ℤ pos tempo_value) 30 _ _
    (diff_add (counts +ℤ pairs *ℤ pos pair_value) (sign_of side *ℤ pos tempo_value) _ _ a b
    (diff_add counts (pairs *ℤ pos pair_value) _ _ _ _
    (diff_weighed 5 (λ kind. count bbs kind 0) (λ kind. count bbs kind 1) value_of)
    (diff_scale pairs pair_value _ _ (diff_of_two (pair bbs 0) (pair bbs 1))))
    h))
    (diff_scale moves 3 _ _ (diff_weighed 6 (λ kind. attacked bbs kind 0) (λ kind. attacked bbs kind 1) factor_of)))
    (diff_minus (thirtieths bbs 0) (thirtieths bbs 1) _ _ _ _ (diff_of (thirtieths bbs 0)) (diff_of (thirtieths bbs 1))))
  where
    counts : ℤ
    counts = sum_z 5 (λ kind. (pos (count bbs kind 0) -ℤ pos (count bbs kind 1)) *ℤ pos (value_of kind))

    moves : ℤ
    moves = sum_z 6 (λ kind. (pos (attacked bbs kind 0) -ℤ pos (attacked bbs kind 1)) *ℤ pos (factor_of kind))

    pairs : ℤ
    pairs = pos (pair bbs 0) -ℤ pos (pair bbs 1)

    by_parts : exact_by shipped_whole (trace_of bbs side) (λ i. pos (entry_at bbs i))
        ≡ (counts +ℤ pairs *ℤ pos pair_value +ℤ sign_of side *ℤ pos tempo_value) *ℤ pos 30 +ℤ moves *ℤ pos 3 +ℤ (thirtieths bbs 0 -ℤ thirtieths bbs 1)
    by_parts = parts bbs side counts moves (counts_is bbs side) (moves_is bbs side)
