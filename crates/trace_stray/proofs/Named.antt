-- The named weights' part of the double, with the shipped weights: material is exact, each mobility quotient and each sum after it may round
-- once, 17 roundings in all. Assumes nothing.
use mathlib.Core.Path.{◌≡◌, refl, subst}
use mathlib.Core.Bool.{false}
use mathlib.Core.List.{List}
use Prim.Native.Nat.{ℕ, suc, ◌+◌, ◌*◌, ◌^◌, ◌≤◌}
use native.Mathlib.Nat.{mul-le-mul}
use native.Mathlib.Omega.{arith}
use lib.Dec.{lit≤}
use lib.IntN.{ℤ, pos, nat_abs, ◌+ℤ◌, ◌-ℤ◌, ◌*ℤ◌, *ℤ_comm}
use lib.ListN.{get_or}
use lib.Ieee.{Float, of_bits}
use lib.Ieee.Exact.{HasValue}
use Rattle.laws.specs.Sums.{sum_z}
use Rattle.laws.proofs.Diff.{Diff, above_zero_rule, below_zero, diff_of, diff_pos, diff_add, diff_minus, diff_scale, diff_eq, abs_minus}
use Rattle.chess.specs.Values.{value_of}
use Rattle.score_tally.specs.Mobility.{factor_of}
use Rattle.trace_counts.specs.declared.Trace.{Trace}
use Rattle.doubles.specs.Doubles.{dbl, d0, d10}
use Rattle.trace_named.specs.Named.{count_added, moved, attacked_in, named}
use Rattle.trace_shipped.specs.Weights.{shipped}
use Rattle.trace_exact.specs.Exact.{difference, kind_counts}
use Rattle.trace_rounding.proofs.Doubles.{Exactly, exactly_int, exactly_add, exactly_mul, Nearly, nearly_whole, nearly_add, nearly_sub, nearly_tenth}
use Rattle.trace_stray.proofs.Ranged.{Ranged}

nothing : Exactly d0 (pos 0) 0
unfolding of_bits
nothing = record { is = (0, refl, (omega arith, omega arith)); most = omega arith }

ten : HasValue d10 false 10 1
unfolding of_bits
ten = (refl, refl)

-- a count that is at most m, weighed by v
pub counts : {s : Float} {z : ℤ} {b : ℕ} (l : List ℤ) (m v : ℕ) → Exactly s z b → ((i : ℕ) → nat_abs (get_or l i (pos 0)) ≤ m) → m + m ≤ 2 ^ 10
    → v ≤ 2 ^ 10 → b ≤ 2 ^ 30
    → Exactly (count_added s l (dbl (pos v))) (z +ℤ difference l *ℤ pos v) (b + (m + m) * v)
counts {s} {z} {b} l m v p h i j k =
    let w : (m + m) * v ≤ 2 ^ 10 * 2 ^ 10 = mul-le-mul i j in
    exactly_add p
    (exactly_mul (exactly_int (difference l) (m + m) (abs_minus (get_or l 0 (pos 0)) (get_or l 1 (pos 0)) m m (h 0) (h 1)) (omega arith))
    (exactly_int (pos v) v (omega arith) (omega arith)) (omega arith))
    (omega arith)

-- attacked squares, at most 1728 a colour, weighed by v
pub moves : {s : Float} {z : ℤ} {k b : ℕ} (white black : ℤ) (v : ℕ) → Nearly s z k b → nat_abs white ≤ 1728 → nat_abs black ≤ 1728 → v ≤ 100
    → b ≤ 10000000 → k ≤ 2 ^ 9
    → Nearly (moved s white black (dbl (pos v))) (z +ℤ white *ℤ pos v *ℤ pos 3 -ℤ black *ℤ pos v *ℤ pos 3) (suc (suc (k + 1) + 1))
    (b + 1728 * v * 3 + 1728 * v * 3)
moves {s} {z} {k} {b} white black v p h i j r q =
    nearly_sub
    (nearly_add p (nearly_tenth d10 (exactly_mul (exactly_int white 1728 h (omega arith)) (exactly_int (pos v) v (omega arith) (omega arith))
    (omega arith)) ten (omega arith)) (omega arith) (omega arith))
    (nearly_tenth d10 (exactly_mul (exactly_int black 1728 i (omega arith)) (exactly_int (pos v) v (omega arith) (omega arith)) (omega arith)) ten
    (omega arith))
    (omega arith) (omega arith)

-- ---- the part's exact sum, in the source's order, and as the exact sum has it
abbrev material_sum : Trace → ℤ
material_sum t =
    pos 0 +ℤ difference t.pawns *ℤ pos 100 +ℤ difference t.knights *ℤ pos 304 +ℤ difference t.bishops *ℤ pos 292
    +ℤ difference t.rooks *ℤ pos 487 +ℤ difference t.queens *ℤ pos 1013 +ℤ difference t.bishop_pair *ℤ pos 33

abbrev with : ℤ → ℤ → ℤ → ℕ → ℤ
with z white black v = z +ℤ white *ℤ pos v *ℤ pos 3 -ℤ black *ℤ pos v *ℤ pos 3

abbrev in_order_rule : Trace → ℤ
in_order_rule t =
    with (with (with (with (material_sum t *ℤ pos 30) (attacked_in t 1 0) (attacked_in t 1 1) 24) (attacked_in t 2 0) (attacked_in t 2 1) 47)
    (attacked_in t 3 0) (attacked_in t 3 1) 39)
    (attacked_in t 4 0) (attacked_in t 4 1) 21
    +ℤ pos 11 *ℤ t.side *ℤ pos 30

unfoldable pub named_sum : Trace → ℤ
unfolding sum_z
named_sum t =
    (sum_z 5 (λ kind. difference (kind_counts t kind) *ℤ pos (value_of kind)) +ℤ difference t.bishop_pair *ℤ pos 33 +ℤ t.side *ℤ pos 11) *ℤ pos 30
    +ℤ sum_z 6 (λ kind. (attacked_in t kind 0 -ℤ attacked_in t kind 1) *ℤ pos (factor_of kind)) *ℤ pos 3

-- z is p − n; a tenth of mobility more
diff_with : (z white black : ℤ) (v p n : ℕ) → Diff z p n → Diff (with z white black v) (p + above_zero_rule white * v * 3 + below_zero black * v * 3)
    (n + below_zero white * v * 3 + above_zero_rule black * v * 3)
diff_with z white black v p n d =
    diff_minus (z +ℤ white *ℤ pos v *ℤ pos 3) (black *ℤ pos v *ℤ pos 3) _ _ _ _
    (diff_add z (white *ℤ pos v *ℤ pos 3) p n _ _ d (diff_scale (white *ℤ pos v) 3 _ _ (diff_scale white v _ _ (diff_of white))))
    (diff_scale (black *ℤ pos v) 3 _ _ (diff_scale black v _ _ (diff_of black)))

diff_weighed : (white black : ℤ) (v : ℕ) → Diff ((white -ℤ black) *ℤ pos v) ((above_zero_rule white + below_zero black) * v) ((below_zero white + above_zero_rule black) * v)
diff_weighed white black v = diff_scale (white -ℤ black) v _ _ (diff_minus white black _ _ _ _ (diff_of white) (diff_of black))

regrouped : (m s a b c d e f g h i j k l : ℤ)
    → with (with (with (with (m *ℤ pos 30) c d 24) e f 47) g h 39) i j 21 +ℤ pos 11 *ℤ s *ℤ pos 30
    ≡ (m +ℤ s *ℤ pos 11) *ℤ pos 30
    +ℤ (pos 0 +ℤ (a -ℤ b) *ℤ pos 0 +ℤ (c -ℤ d) *ℤ pos 24 +ℤ (e -ℤ f) *ℤ pos 47 +ℤ (g -ℤ h) *ℤ pos 39 +ℤ (i -ℤ j) *ℤ pos 21 +ℤ (k -ℤ l) *ℤ pos 0) *ℤ pos 3
regrouped m s a b c d e f g h i j k l =
    diff_eq (with (with (with (with (m *ℤ pos 30) c d 24) e f 47) g h 39) i j 21 +ℤ pos 11 *ℤ s *ℤ pos 30)
    ((m +ℤ s *ℤ pos 11) *ℤ pos 30
    +ℤ (pos 0 +ℤ (a -ℤ b) *ℤ pos 0 +ℤ (c -ℤ d) *ℤ pos 24 +ℤ (e -ℤ f) *ℤ pos 47 +ℤ (g -ℤ h) *ℤ pos 39 +ℤ (i -ℤ j) *ℤ pos 21 +ℤ (k -ℤ l) *ℤ pos 0) *ℤ pos 3)
    _ _ _ _
    (diff_add (with (with (with (with (m *ℤ pos 30) c d 24) e f 47) g h 39) i j 21) (pos 11 *ℤ s *ℤ pos 30) _ _ _ _
    (diff_with (with (with (with (m *ℤ pos 30) c d 24) e f 47) g h 39) i j 21 _ _
    (diff_with (with (with (m *ℤ pos 30) c d 24) e f 47) g h 39 _ _
    (diff_with (with (m *ℤ pos 30) c d 24) e f 47 _ _
    (diff_with (m *ℤ pos 30) c d 24 _ _ (diff_scale m 30 _ _ (diff_of m))))))
    (diff_scale (pos 11 *ℤ s) 30 (above_zero_rule s * 11) (below_zero s * 11)
    (subst (λ (z : ℤ). Diff z (above_zero_rule s * 11) (below_zero s * 11)) (*ℤ_comm s (pos 11)) (diff_scale s 11 _ _ (diff_of s)))))
    (diff_add ((m +ℤ s *ℤ pos 11) *ℤ pos 30)
    ((pos 0 +ℤ (a -ℤ b) *ℤ pos 0 +ℤ (c -ℤ d) *ℤ pos 24 +ℤ (e -ℤ f) *ℤ pos 47 +ℤ (g -ℤ h) *ℤ pos 39 +ℤ (i -ℤ j) *ℤ pos 21 +ℤ (k -ℤ l) *ℤ pos 0) *ℤ pos 3) _ _ _ _
    (diff_scale (m +ℤ s *ℤ pos 11) 30 _ _ (diff_add m (s *ℤ pos 11) _ _ _ _ (diff_of m) (diff_scale s 11 _ _ (diff_of s))))
    (diff_scale (pos 0 +ℤ (a -ℤ b) *ℤ pos 0 +ℤ (c -ℤ d) *ℤ pos 24 +ℤ (e -ℤ f) *ℤ pos 47 +ℤ (g -ℤ h) *ℤ pos 39 +ℤ (i -ℤ j) *ℤ pos 21 +ℤ (k -ℤ l) *ℤ pos 0) 3 _ _
    (diff_add (pos 0 +ℤ (a -ℤ b) *ℤ pos 0 +ℤ (c -ℤ d) *ℤ pos 24 +ℤ (e -ℤ f) *ℤ pos 47 +ℤ (g -ℤ h) *ℤ pos 39 +ℤ (i -ℤ j) *ℤ pos 21) ((k -ℤ l) *ℤ pos 0) _ _ _ _
    (diff_add (pos 0 +ℤ (a -ℤ b) *ℤ pos 0 +ℤ (c -ℤ d) *ℤ pos 24 +ℤ (e -ℤ f) *ℤ pos 47 +ℤ (g -ℤ h) *ℤ pos 39) ((i -ℤ j) *ℤ pos 21) _ _ _ _
    (diff_add (pos 0 +ℤ (a -ℤ b) *ℤ pos 0 +ℤ (c -ℤ d) *ℤ pos 24 +ℤ (e -ℤ f) *ℤ pos 47) ((g -ℤ h) *ℤ pos 39) _ _ _ _
    (diff_add (pos 0 +ℤ (a -ℤ b) *ℤ pos 0 +ℤ (c -ℤ d) *ℤ pos 24) ((e -ℤ f) *ℤ pos 47) _ _ _ _
    (diff_add (pos 0 +ℤ (a -ℤ b) *ℤ pos 0) ((c -ℤ d) *ℤ pos 24) _ _ _ _
    (diff_add (pos 0) ((a -ℤ b) *ℤ pos 0) 0 0 _ _ (diff_pos 0) (diff_weighed a b 0))
    (diff_weighed c d 24))
    (diff_weighed e f 47))
    (diff_weighed g h 39))
    (diff_weighed i j 21))
    (diff_weighed k l 0))))
    (omega arith)

in_order : (t : Trace) → in_order_rule t ≡ named_sum t
unfolding named_sum sum_z
in_order t =
    regrouped (material_sum t) t.side (attacked_in t 0 0) (attacked_in t 0 1) (attacked_in t 1 0) (attacked_in t 1 1) (attacked_in t 2 0)
    (attacked_in t 2 1) (attacked_in t 3 0) (attacked_in t 3 1)
    (attacked_in t 4 0) (attacked_in t 4 1) (attacked_in t 5 0) (attacked_in t 5 1)

-- 30·281154 + 6·1728·(24 + 47 + 39 + 21) + 330 thirtieths at most
pub named_nearly : (t : Trace) → Ranged t → Nearly (named t shipped) (named_sum t) 17 9793158
unfolding shipped
named_nearly t r =
    subst (λ (z : ℤ). Nearly (named t shipped) z 17 9793158) (in_order t)
    (nearly_add
    (moves (attacked_in t 4 0) (attacked_in t 4 1) 21
    (moves (attacked_in t 3 0) (attacked_in t 3 1) 39
    (moves (attacked_in t 2 0) (attacked_in t 2 1) 47
    (moves (attacked_in t 1 0) (attacked_in t 1 1) 24
    (nearly_whole
    (counts t.bishop_pair 1 33
    (counts t.queens 64 1013
    (counts t.rooks 64 487
    (counts t.bishops 64 292
    (counts t.knights 64 304
    (counts t.pawns 64 100 nothing r.pawns (lit≤ tt) (lit≤ tt) (lit≤ tt))
    r.knights (lit≤ tt) (lit≤ tt) (lit≤ tt))
    r.bishops (lit≤ tt) (lit≤ tt) (lit≤ tt))
    r.rooks (lit≤ tt) (lit≤ tt) (lit≤ tt))
    r.queens (lit≤ tt) (lit≤ tt) (lit≤ tt))
    r.pairs (lit≤ tt) (lit≤ tt) (lit≤ tt)))
    (r.attacks 2) (r.attacks 3) (lit≤ tt) (lit≤ tt) (lit≤ tt))
    (r.attacks 4) (r.attacks 5) (lit≤ tt) (lit≤ tt) (lit≤ tt))
    (r.attacks 6) (r.attacks 7) (lit≤ tt) (lit≤ tt) (lit≤ tt))
    (r.attacks 8) (r.attacks 9) (lit≤ tt) (lit≤ tt) (lit≤ tt))
    (nearly_whole (exactly_mul (exactly_int (pos 11) 11 (lit≤ tt) (lit≤ tt)) (exactly_int t.side 1 r.side (lit≤ tt)) (lit≤ tt)))
    (lit≤ tt) (lit≤ tt))
