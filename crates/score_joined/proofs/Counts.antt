-- Two sums put together: MANY by the first count that has no room, else each total of both. Assumes nothing.
use mathlib.Core.Path.{◌≡◌, sym, ap₂, ◌∙◌}
use Prim.Native.Nat.{ℕ, ◌+◌, ◌^◌, ◌<◌, ◌≤◌}
use native.Mathlib.Omega.{arith}
use borrow.Author.Tests.{le-leb, lt-leb, lt-ltb, le-ltb}
use Rattle.refusal.specs.Answer.{given, refusal_of, answered}
use Rattle.refusal.specs.declared.Refusal.TheVariants as R
use Rattle.score_errors.specs.declared.Totals.{Totals}
use Rattle.score_joined.specs.Sums.{totals_of_both, sum_of_both, sums_joined}
use Rattle.score_joined.specs.Promises.{JoinsSums, TotalsFit}
use Rattle.std.specs.Prelude.{Result, Ok}
use Rattle.refusal.specs.declared.Refusal.{Refusal}

module _ (x y : Totals) (m n : ℕ) where
  pub many_scored : 1000000 < x.scored + y.scored → refusal_of R.Many ≡ sum_of_both (x, m) (y, n)
  many_scored h = simp (lt-leb (x.scored + y.scored) 1000000 h)

  module _ (s : x.scored + y.scored ≤ 1000000) where
    pub many_apart : 1000000 < x.apart + y.apart → refusal_of R.Many ≡ sum_of_both (x, m) (y, n)
    many_apart h = simp (le-leb (x.scored + y.scored) 1000000 s, lt-leb (x.apart + y.apart) 1000000 h)

    module _ (a : x.apart + y.apart ≤ 1000000) where
      pub many_summed : 0xffffffffffffffff < x.sum + y.sum → refusal_of R.Many ≡ sum_of_both (x, m) (y, n)
      many_summed h = simp (le-leb (x.scored + y.scored) 1000000 s, le-leb (x.apart + y.apart) 1000000 a, le-ltb (x.sum + y.sum) (2 ^ 64) (omega arith))

      module _ (q : x.sum + y.sum ≤ 0xffffffffffffffff) where
        pub many_refused : 0xffffffffffffffff < m + n → refusal_of R.Many ≡ sum_of_both (x, m) (y, n)
        many_refused h =
            simp (
              le-leb (x.scored + y.scored) 1000000 s,
              le-leb (x.apart + y.apart) 1000000 a,
              lt-ltb (x.sum + y.sum) (2 ^ 64) (omega arith),
              le-ltb (m + n) (2 ^ 64) (omega arith),
            )

        pub few_enough : m + n ≤ 0xffffffffffffffff → given (totals_of_both x y, m + n) ≡ sum_of_both (x, m) (y, n)
        few_enough h =
            simp (
              le-leb (x.scored + y.scored) 1000000 s,
              le-leb (x.apart + y.apart) 1000000 a,
              lt-ltb (x.sum + y.sum) (2 ^ 64) (omega arith),
              lt-ltb (m + n) (2 ^ 64) (omega arith),
            )

        pub they_fit : TotalsFit x y
        they_fit = record { scored = omega arith; apart = omega arith; sum = omega arith }

  -- both parts have a sum
  pub both_given_holds : (first second r : Result (Totals × ℕ) Refusal) → first ≡ Ok (x, m) → second ≡ Ok (y, n) → answered r ≡ sum_of_both (x, m) (y, n) → JoinsSums first second r
  both_given_holds first second r e f p = p ∙ sym (ap₂ (λ (a b : Result (Totals × ℕ) Refusal). sums_joined (answered a) (answered b)) e f)
