-- The score shown and the double: demand 3's 85 thirtieths and the double's millionth, added. Assumes nothing.
use mathlib.Core.Bool.{Bool, true, false, cond}
use Prim.Native.Nat.{ℕ, suc, ◌+◌, ◌*◌, ◌^◌, ◌≤◌, ◌<◌}
use native.Mathlib.Nat.{add-mul, mul-le-mul_right}
use native.Mathlib.Omega.{arith}
use lib.Dec.{eqb}
use lib.IntN.{ℤ, pos, negsuc, neg_ℤ, nat_abs, ◌-ℤ◌, ◌*ℤ◌}
use lib.Ieee.{Float, nan, inf, fin}
use Rattle.chess.specs.Named.{turned_for_black}
use Rattle.laws.proofs.Diff.{above_zero_rule, below_zero, diff_of, diff_neg, diff_minus, diff_scale, diff_abs, abs_diff}
use Rattle.claims.proofs.Agreed.{agreement}
use Rattle.trace_stray.specs.Stray.{signed, million, CloserThan, millionth, agreed, shipped_double, exact, Shown}
use Rattle.trace_stray.proofs.Strayed.{is_near}

-- A is near E, and E near S: all in D parts of a thirtieth
nearer : (A E S : ℤ) (D : ℕ) → nat_abs (A -ℤ E) * million < millionth * D → nat_abs (E -ℤ S) ≤ 85 * D → nat_abs (A -ℤ S) * million < agreed * D
nearer A E S D h l =
    let p = abs_diff (A -ℤ E) (above_zero_rule A + below_zero E) (below_zero A + above_zero_rule E) (nat_abs (A -ℤ E))
    (diff_minus A E _ _ _ _ (diff_of A) (diff_of E)) (omega arith) in
    let q = abs_diff (E -ℤ S) (above_zero_rule E + below_zero S) (below_zero E + above_zero_rule S) (85 * D) (diff_minus E S _ _ _ _ (diff_of E) (diff_of S)) l in
    let r : nat_abs (A -ℤ S) ≤ nat_abs (A -ℤ E) + 85 * D = diff_abs (A -ℤ S) (above_zero_rule A + below_zero S) (below_zero A + above_zero_rule S)
    (nat_abs (A -ℤ E) + 85 * D) (diff_minus A S _ _ _ _ (diff_of A) (diff_of S)) (omega (arith, p.0, p.1, q.0, q.1))
    (omega (arith, p.0, p.1, q.0, q.1)) in
    sum (nat_abs (A -ℤ S)) (nat_abs (A -ℤ E)) h r
  where
    sum : (a b : ℕ) → b * million < millionth * D → a ≤ b + 85 * D → a * million < agreed * D
    sum a b h r = omega arith

scaled : (E S : ℤ) (D : ℕ) → nat_abs (E -ℤ S) ≤ 85 → nat_abs (E *ℤ pos D -ℤ S *ℤ pos D) ≤ 85 * D
scaled E S D l =
    let q = abs_diff (E -ℤ S) (above_zero_rule E + below_zero S) (below_zero E + above_zero_rule S) 85 (diff_minus E S _ _ _ _ (diff_of E) (diff_of S)) l in
    diff_abs (E *ℤ pos D -ℤ S *ℤ pos D) (above_zero_rule E * D + below_zero S * D) (below_zero E * D + above_zero_rule S * D) (85 * D)
    (diff_minus (E *ℤ pos D) (S *ℤ pos D) _ _ _ _ (diff_scale E D _ _ (diff_of E)) (diff_scale S D _ _ (diff_of S)))
    (times (above_zero_rule E) (below_zero S) (below_zero E) (above_zero_rule S) q.0) (times (below_zero E) (above_zero_rule S) (above_zero_rule E) (below_zero S) q.1)
  where
    times : (a b c d : ℕ) → a + b ≤ c + d + 85 → a * D + b * D ≤ c * D + d * D + 85 * D
    times a b c d h =
        let m : (a + b) * D ≤ (c + d + 85) * D = mul-le-mul_right D h in
        omega (arith, add-mul a b D, add-mul (c + d) 85 D, add-mul c d D)

together : (x : Float) (E S : ℤ) → CloserThan millionth x E → nat_abs (E -ℤ S) ≤ 85 → CloserThan agreed x S
together nan E S w l = w
together (inf s) E S w l = w
together (fin s m (pos e)) E S w l = nearer (signed s m *ℤ pos (2 ^ e) *ℤ pos 30) E S 1 w l
together (fin s m (negsuc e)) E S w l =
    nearer (signed s m *ℤ pos 30) (E *ℤ pos (2 ^ suc e)) (S *ℤ pos (2 ^ suc e)) (2 ^ suc e) w (scaled E S (2 ^ suc e) l)

-- demand 3 from White's side
turned_back : (side : ℕ) (s E : ℤ) → nat_abs (s *ℤ pos 30 -ℤ turned_for_black side E) ≤ 85 → nat_abs (E -ℤ turned_for_black side s *ℤ pos 30) ≤ 85
turned_back side s E = go (eqb side 0)
  where
    go : (t : Bool) → nat_abs (s *ℤ pos 30 -ℤ cond t E (neg_ℤ E)) ≤ 85 → nat_abs (E -ℤ cond t s (neg_ℤ s) *ℤ pos 30) ≤ 85
    go true l =
        let q = abs_diff (s *ℤ pos 30 -ℤ E) (above_zero_rule s * 30 + below_zero E) (below_zero s * 30 + above_zero_rule E) 85
        (diff_minus (s *ℤ pos 30) E _ _ _ _ (diff_scale s 30 _ _ (diff_of s)) (diff_of E)) l in
        diff_abs (E -ℤ s *ℤ pos 30) (above_zero_rule E + below_zero s * 30) (below_zero E + above_zero_rule s * 30) 85
        (diff_minus E (s *ℤ pos 30) _ _ _ _ (diff_of E) (diff_scale s 30 _ _ (diff_of s))) (omega (arith, q.0, q.1)) (omega (arith, q.0, q.1))
    go false l =
        let q = abs_diff (s *ℤ pos 30 -ℤ neg_ℤ E) (above_zero_rule s * 30 + above_zero_rule E) (below_zero s * 30 + below_zero E) 85
        (diff_minus (s *ℤ pos 30) (neg_ℤ E) _ _ _ _ (diff_scale s 30 _ _ (diff_of s)) (diff_neg E _ _ (diff_of E))) l in
        diff_abs (E -ℤ neg_ℤ s *ℤ pos 30) (above_zero_rule E + above_zero_rule s * 30) (below_zero E + below_zero s * 30) 85
        (diff_minus E (neg_ℤ s *ℤ pos 30) _ _ _ _ (diff_of E) (diff_scale (neg_ℤ s) 30 _ _ (diff_neg s _ _ (diff_of s)))) (omega (arith, q.0, q.1))
        (omega (arith, q.0, q.1))

pub shown : Shown
shown bbs bytes state s kings e =
    let side : ℕ = state.side in
    together (shipped_double bbs side) (exact bbs side) (turned_for_black side s *ℤ pos 30) (is_near bbs side)
    (turned_back side s (exact bbs side) (agreement bbs bytes state s kings e))
