-- W-209. A trace that is not refused has its double within 17 + 3·768 roundings of 2^-33 of its exact sum divided by thirty: less than a
-- millionth, even if all its entries are 1. Of consistency nothing is used. Assumes nothing.
use mathlib.Core.Path.{◌≡◌, ap, subst}
use mathlib.Core.Bool.{Bool, true, ◌&&◌}
use mathlib.Core.List.{List}
use Prim.Native.Nat.{ℕ, ◌≤◌}
use native.Mathlib.Omega.{arith}
use lib.Dec.{eqb, lit≤}
use lib.IntN.{ℤ, pos, nat_abs}
use lib.ListN.{length, get_or}
use lib.Ieee.{Float}
use Rattle.laws.specs.Sums.{sum_n}
use Rattle.laws.proofs.Truth.{true_T, T_true, and_l, and_r}
use Rattle.laws.proofs.Sums.{sum_le}
use Rattle.laws.proofs.Tables.{tabulate_length}
use Rattle.refusal.specs.Answer.{Answer, given, or_refuse}
use Rattle.refusal.specs.declared.Refusal.{Refusal}
use Rattle.refusal.specs.declared.Refusal.TheVariants as R
use Rattle.refusal.proofs.Answers.{passed}
use Rattle.trace_counts.specs.Ranges.{in_ranges, are_entries}
use Rattle.trace_counts.specs.declared.Trace.{Trace}
use Rattle.trace.specs.Trace.{trace_of, entries_of}
use Rattle.trace.proofs.Planes.{entries_length}
use Rattle.trace_shipped.specs.Weights.{square_weight, shipped, shipped_squares}
use Rattle.doubles.specs.Doubles.{dbl}
use Rattle.trace_double.specs.Double.{double}
use Rattle.trace_double.specs.Promises.{double_of}
use Rattle.trace_exact.specs.Exact.{shipped_whole, exact_sum}
use Rattle.trace_exact.proofs.Ranges.{in_ranges_holds, are_entries_holds}
use Rattle.trace_rounding.proofs.Doubles.{exactly_int}
use Rattle.trace_stray.specs.Stray.{CloserThan, millionth, shipped_double, exact, EveryTrace, Stray}
use Rattle.trace_stray.proofs.Margin.{margin}
use Rattle.trace_stray.proofs.Ranged.{Ranged, ranged, Entered, entered}
use Rattle.trace_stray.proofs.Named.{named_nearly}
use Rattle.trace_stray.proofs.Squares.{Sum}
use Rattle.trace_stray.proofs.Folded.{folded_sum}
use Rattle.trace_stray.proofs.Sums.{exact_placed}

-- ---- any trace that TRACE does not refuse
abbrev ones_of : List ℤ → ℕ → ℕ
ones_of entries k = nat_abs (get_or entries k (pos 0))

double_sum : (t : Trace) (entries : List ℤ) → in_ranges t ≡ true → are_entries entries ≡ true
    → Sum (double t entries shipped shipped_squares) (exact_sum shipped_whole t entries) (sum_n 768 (ones_of entries))
unfolding double
double_sum t entries e h =
    let r : Ranged t = ranged t e in
    let w : Entered entries = entered entries h in
    rw (exact_placed t entries)
    (folded_sum _ t.piece_count (ones_of entries) (exactly_int t.piece_count 64 r.pieces (lit≤ tt)) w.ones
    entries 768 (λ k l. w.whole k) (lit≤ tt) (sum_le 768 1 (ones_of entries) (λ k l. w.ones k)) (record { nearly = named_nearly t r }))

strays : (t : Trace) (entries : List ℤ) → in_ranges t ≡ true → are_entries entries ≡ true
    → CloserThan millionth (double t entries shipped shipped_squares) (exact_sum shipped_whole t entries)
strays t entries e h =
    let few : sum_n 768 (ones_of entries) ≤ 768 = sum_le 768 1 (ones_of entries) (λ k l. (entered entries h).ones k) in
    margin (double t entries shipped shipped_squares) (exact_sum shipped_whole t entries) _ _ (double_sum t entries e h).nearly (omega arith)

same_given : (x y : Float) → ◌≡◌ {A = Answer Float} (given x) (given y) → x ≡ y
same_given x y e = cc

pub every_trace : EveryTrace
every_trace t entries x e =
    let shape = passed (eqb (length entries) 768 && eqb (length shipped_squares) 768) R.Shape x _ e in
    let range = passed (in_ranges t && are_entries entries) R.Trace x (given (double t entries shipped shipped_squares)) shape.1 in
    subst (λ (y : Float). CloserThan millionth y (exact_sum shipped_whole t entries)) (same_given (double t entries shipped shipped_squares) x range.1)
    (strays t entries (T_true (in_ranges t) (and_l (in_ranges t) (are_entries entries) (true_T range.0)))
    (T_true (are_entries entries) (and_r (in_ranges t) (are_entries entries) (true_T range.0))))

-- ---- a position's trace
squares_length : length shipped_squares ≡ 768
unfolding shipped_squares
squares_length = tabulate_length 768 (λ i. dbl (square_weight i))

-- what `Trace::eval` answers
is_given : (bbs : List ℕ) (side : ℕ) → double_of (trace_of bbs side) (entries_of bbs) shipped shipped_squares ≡ given (shipped_double bbs side)
is_given bbs side =
    answered (eqb (length (entries_of bbs)) 768) (eqb (length shipped_squares) 768) (in_ranges (trace_of bbs side)) (are_entries (entries_of bbs)) R.Shape
    R.Trace (shipped_double bbs side)
    (ap (λ (n : ℕ). eqb n 768) (entries_length bbs)) (ap (λ (n : ℕ). eqb n 768) squares_length) (in_ranges_holds bbs side) (are_entries_holds bbs)
  where
    answered : (a b c d : Bool) (m n : Refusal) (x : Float) → a ≡ true → b ≡ true → c ≡ true → d ≡ true
        → or_refuse (a && b) m (or_refuse (c && d) n (given x)) ≡ given x
    answered a b c d m n x p q r s = rw (p, q, r, s)

pub is_near : (bbs : List ℕ) (side : ℕ) → CloserThan millionth (shipped_double bbs side) (exact bbs side)
is_near bbs side = every_trace (trace_of bbs side) (entries_of bbs) (shipped_double bbs side) (is_given bbs side)

pub stray : Stray
stray bbs bytes side e = (is_given bbs side, is_near bbs side)
