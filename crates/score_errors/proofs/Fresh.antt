-- From none, over any list of loaded lines, the totals are the sums worked out afresh from the list. A squared distance is at most a million
-- times a million, so a million of them do not pass 64 bits. Assumes nothing.
use mathlib.Core.Path.{◌≡◌, refl, sym, ap, ◌∙◌}
use mathlib.Core.Bool.{Bool, true, false, ◌&&◌}
use mathlib.Core.List.{List, [], ◌∷◌}
use Prim.Native.Nat.{ℕ, ◌+◌, ◌*◌, ◌<◌, ◌≤◌, zero-le}
use native.Mathlib.Nat.{mul-le-mul}
use native.Mathlib.Omega.{arith}
use borrow.Author.Tests.{le-leb, lt-leb, ltb-true, ltb-false}
use lib.Dec.{T, leb, ltb, ltb→lt}
use lib.IntN.{ℤ}
use Rattle.chess.specs.Named.{turned_for_black}
use Rattle.laws.proofs.Truth.{and_l, and_r, true_T, T_true}
use Rattle.refusal.specs.Answer.{Answer, given, refused, or_refuse, refusal_of}
use Rattle.refusal.specs.declared.Refusal.TheVariants as R
use Rattle.score.specs.Score.{Outcome, verdict, score}
use Rattle.score_expected.specs.Expected.{table, score_place}
use Rattle.score_expected.proofs.Entries.{table_most}
use Rattle.score_errors.specs.Errors.{apart_by, square_with, scored_of, apart_of, totals_with}
use Rattle.score_errors.specs.Promises.{none}
use Rattle.score_errors.specs.Collection.{LoadedLine, is_scored, is_apart, squared, scored_in, apart_in, sum_in, go_on, add_all, well_loaded, Fresh}
use Rattle.score_errors.specs.declared.Totals.{Totals}
use Rattle.score_errors.proofs.Doors.{both}
use Rattle.score_errors.proofs.Counted.{many_scored, one_scored, many_apart, one_apart}

-- ---- a squared distance is at most a million times a million
near : (half e : ℕ) → half < 3 → e ≤ 1000000 → apart_by (500000 * half) e ≤ 1000000
near half e h k = omega arith

square_most : (side half : ℕ) (z : ℤ) → half < 3 → square_with table side z half ≤ 1000000000000
square_most side half z h =
    let k = near half _ h (table_most (score_place (turned_for_black side z))) in
    mul-le-mul k k

squared_most : (side half : ℕ) (a : Answer Outcome) → half < 3 → squared side a half ≤ 1000000000000 * is_scored a
squared_most side half (given (score z)) h = square_most side half z h
squared_most side half (given (verdict v)) h = zero-le
squared_most side half (refused n l) h = zero-le

pub sum_most : (ls : List LoadedLine) → well_loaded ls ≡ true → sum_in ls ≤ 1000000000000 * scored_in ls
unfolding sum_in scored_in well_loaded
sum_most [] e = zero-le
sum_most (l ∷ ls) e =
    let t : T ((ltb l.side 2 && ltb l.half 3) && well_loaded ls) = true_T e in
    let w : T (ltb l.side 2 && ltb l.half 3) = and_l (ltb l.side 2 && ltb l.half 3) (well_loaded ls) t in
    let h : l.half < 3 = ltb→lt l.half 3 (and_r (ltb l.side 2) (ltb l.half 3) w) in
    omega (
      arith,
      squared_most l.side l.half l.answer h,
      sum_most ls
          (T_true (well_loaded ls) (and_r (ltb l.side 2 && ltb l.half 3) (well_loaded ls) t)),
    )

-- ---- what a list comes to from totals on: the sums, or MANY by the counts alone
abbrev pub three : ℕ → ℕ → ℕ → Totals
three s a m = record { scored = s; apart = a; sum = m }

abbrev counts : ℕ → ℕ → ℕ → Answer Totals
counts s a m = or_refuse (leb s 1000000 && leb a 1000000) R.Many (given (three s a m))

same : (s a m s' a' m' : ℕ) → s ≡ s' → a ≡ a' → m ≡ m' → counts s a m ≡ counts s' a' m'
same s a m s' a' m' p q r = cc

too_many : (s a m : ℕ) → 1000000 < s → refusal_of R.Many ≡ counts s a m
too_many s a m h = simp (lt-leb s 1000000 h)

too_many_apart : (s a m : ℕ) → 1000000 < a → refusal_of R.Many ≡ counts s a m
too_many_apart s a m h = simp (lt-leb a 1000000 h) (go (leb s 1000000))
  where
    go : (t : Bool) → refusal_of R.Many ≡ or_refuse (t && false) R.Many (given (three s a m))
    go true = refl
    go false = refl

enough : (s a m : ℕ) → s ≤ 1000000 → a ≤ 1000000 → given (three s a m) ≡ counts s a m
enough s a m h k = simp (le-leb s 1000000 h, le-leb a 1000000 k)

-- totals that lines may have come to
record Met (t : Totals) : Type 0 where
  scored : t.scored ≤ 1000000
  apart : t.apart ≤ 1000000
  sum : t.sum ≤ 1000000000000 * t.scored

abbrev kept : Totals → ℕ → ℕ → ℕ → Answer Totals
kept t s a m = counts (t.scored + s) (t.apart + a) (t.sum + m)

-- a line with a score, and then the rest
scored_on : (t : Totals) (q s a m : ℕ) (rest : Totals → Answer Totals) → Met t → q ≤ 1000000000000
    → (Met (three (t.scored + 1) t.apart (t.sum + q)) → rest (three (t.scored + 1) t.apart (t.sum + q))
    ≡ kept (three (t.scored + 1) t.apart (t.sum + q)) s a m)
    → go_on (scored_of t q) rest ≡ kept t (1 + s) a (q + m)
scored_on t q s a m rest h k f = go (ltb t.scored 1000000) refl
  where
    go : (b : Bool) → ltb t.scored 1000000 ≡ b → go_on (scored_of t q) rest ≡ kept t (1 + s) a (q + m)
    go true e =
        let l : t.scored < 1000000 = ltb-true t.scored 1000000 e in
        let n : t.sum + q < 18446744073709551616 = omega (arith, h.sum) in
        let w : Met (three (t.scored + 1) t.apart (t.sum + q)) = record { scored = omega arith; apart = h.apart; sum = omega (arith, h.sum) } in
        ap (λ (x : Answer Totals). go_on x rest) (sym (one_scored t q l n)) ∙ f w
        ∙ same (t.scored + 1 + s) (t.apart + a) (t.sum + q + m) (t.scored + (1 + s)) (t.apart + a) (t.sum + (q + m)) (omega arith) refl (omega arith)
    go false e =
        let l : 1000000 ≤ t.scored = ltb-false t.scored 1000000 e in
        ap (λ (x : Answer Totals). go_on x rest) (sym (many_scored t q l)) ∙ too_many (t.scored + (1 + s)) (t.apart + a) (t.sum + (q + m)) (omega arith)

-- a line apart, and then the rest
apart_on : (t : Totals) (s a m : ℕ) (rest : Totals → Answer Totals) → Met t
    → (Met (three t.scored (t.apart + 1) t.sum) → rest (three t.scored (t.apart + 1) t.sum)
    ≡ kept (three t.scored (t.apart + 1) t.sum) s a m)
    → go_on (apart_of t) rest ≡ kept t (0 + s) (1 + a) (0 + m)
apart_on t s a m rest h f = go (ltb t.apart 1000000) refl
  where
    go : (b : Bool) → ltb t.apart 1000000 ≡ b → go_on (apart_of t) rest ≡ kept t (0 + s) (1 + a) (0 + m)
    go true e =
        let l : t.apart < 1000000 = ltb-true t.apart 1000000 e in
        let w : Met (three t.scored (t.apart + 1) t.sum) = record { scored = h.scored; apart = omega arith; sum = h.sum } in
        ap (λ (x : Answer Totals). go_on x rest) (sym (one_apart t l)) ∙ f w
        ∙ same (t.scored + s) (t.apart + 1 + a) (t.sum + m) (t.scored + (0 + s)) (t.apart + (1 + a)) (t.sum + (0 + m)) (omega arith)
        (omega arith) (omega arith)
    go false e =
        let l : 1000000 ≤ t.apart = ltb-false t.apart 1000000 e in
        ap (λ (x : Answer Totals). go_on x rest) (sym (many_apart t l))
        ∙ too_many_apart (t.scored + (0 + s)) (t.apart + (1 + a)) (t.sum + (0 + m)) (omega arith)

-- one line of any kind, and then the rest
line_on : (t : Totals) (side half : ℕ) (answer : Answer Outcome) (s a m : ℕ) (rest : Totals → Answer Totals) → Met t → side < 2 → half < 3
    → ((u : Totals) → Met u → rest u ≡ kept u s a m)
    → go_on (totals_with t side answer half) rest ≡ kept t (is_scored answer + s) (is_apart answer + a) (squared side answer half + m)
line_on t side half (given (score z)) s a m rest h i k f =
    ap (λ (x : Answer Totals). go_on x rest) (sym (both table t side half (given (score z)) i k))
    ∙ scored_on t (square_with table side z half) s a m rest h (square_most side half z k)
    (f (three (t.scored + 1) t.apart (t.sum + square_with table side z half)))
    ∙ same (t.scored + (1 + s)) (t.apart + a) (t.sum + (square_with table side z half + m)) (t.scored + (1 + s)) (t.apart + (0 + a))
    (t.sum + (square_with table side z half + m)) refl (omega arith) refl
line_on t side half (given (verdict v)) s a m rest h i k f =
    ap (λ (x : Answer Totals). go_on x rest) (sym (both table t side half (given (verdict v)) i k))
    ∙ apart_on t s a m rest h (f (three t.scored (t.apart + 1) t.sum))
line_on t side half (refused n l) s a m rest h i k f =
    ap (λ (x : Answer Totals). go_on x rest) (sym (both table t side half (refused n l) i k))
    ∙ apart_on t s a m rest h (f (three t.scored (t.apart + 1) t.sum))

-- any list, from totals that lines may have come to
all_on_holds : (ls : List LoadedLine) → well_loaded ls ≡ true → (t : Totals) → Met t → add_all t ls ≡ kept t (scored_in ls) (apart_in ls) (sum_in ls)
unfolding add_all scored_in apart_in sum_in well_loaded
all_on_holds [] e t h =
    enough t.scored t.apart t.sum h.scored h.apart
    ∙ same t.scored t.apart t.sum (t.scored + 0) (t.apart + 0) (t.sum + 0) (omega arith) (omega arith) (omega arith)
all_on_holds (l ∷ ls) e t h =
    let p : T ((ltb l.side 2 && ltb l.half 3) && well_loaded ls) = true_T e in
    let w : T (ltb l.side 2 && ltb l.half 3) = and_l (ltb l.side 2 && ltb l.half 3) (well_loaded ls) p in
    let i : l.side < 2 = ltb→lt l.side 2 (and_l (ltb l.side 2) (ltb l.half 3) w) in
    let k : l.half < 3 = ltb→lt l.half 3 (and_r (ltb l.side 2) (ltb l.half 3) w) in
    let r : well_loaded ls ≡ true = T_true (well_loaded ls) (and_r (ltb l.side 2 && ltb l.half 3) (well_loaded ls) p) in
    line_on t l.side l.half l.answer (scored_in ls) (apart_in ls) (sum_in ls) (λ u. add_all u ls) h i k (all_on_holds ls r)

-- THE TOTALS of any list of loaded lines
pub fresh_holds : (ls : List LoadedLine) → Fresh ls
fresh_holds ls = record {
  totals = λ e.
      all_on_holds ls e none (record { scored = zero-le; apart = zero-le; sum = zero-le })
      ∙ same (0 + scored_in ls) (0 + apart_in ls) (0 + sum_in ls) (scored_in ls) (apart_in ls) (sum_in ls) (omega arith) (omega arith) (omega arith);
  small = λ e h. omega (arith, sum_most ls e);
}
