-- The summary worked out afresh from two runs, of which the first has no short last piece: the sums of both. Assumes nothing.
use Rattle.std.proofs.Common.{◌≡◌, ℕ, zero, suc, ◌+◌, ◌*◌, ◌/◌, ◌<◌, ◌≤◌, List, ◌++◌, length, get_or, sym, ap, ◌∙◌, ap₂, mod-eq_of_lt, arith}
use Rattle.laws.specs.Sums.{sum_n}
use Rattle.laws.proofs.Tables.{tabulate_same, tabulate_length}
use Rattle.laws.proofs.Sums.{sum_same, sum_le}
use Rattle.store_record.specs.Record.{half_in, record_at}
use Rattle.store_counts.specs.Summary.{record_brings, summary_afresh, wrapped_sum}
use Rattle.store_totals.proofs.Kept.{brought, summary_at, brings_2}
use Rattle.store_joined.specs.Summaries.{summary_of_both}
use Rattle.store_joined.proofs.Pieces.{record_first, record_second}

-- the first n terms, and m more
sum_both : (n m : ℕ) (f : ℕ → ℕ) → sum_n (n + m) f ≡ sum_n n f + sum_n m (λ i. f (n + i))
unfolding sum_n
sum_both n zero f = ap (λ (k : ℕ). sum_n k f) (let e : n + 0 ≡ n = omega arith in e) ∙ (let z : sum_n n f ≡ sum_n n f + 0 = omega arith in z)
sum_both n (suc m) f =
    let r = sum_both n m f in
    ap (λ (k : ℕ). sum_n k f) (let e : n + suc m ≡ suc (n + m) = omega arith in e)
    ∙ (let z : sum_n (n + m) f + f (n + m) ≡ sum_n n f + (sum_n m (λ i. f (n + i)) + f (n + m)) = omega arith in z)

pub afresh_770 : (run : List ℕ) (n : ℕ) → length (summary_afresh run n) ≡ 770
unfolding summary_afresh
afresh_770 run n = tabulate_length 770 (λ place. sum_n n (λ i. record_brings (record_at run i) place))

module _ (a b : List ℕ) where
  -- of records of the first alone
  pub afresh_first : (n : ℕ) → n ≤ length a / 34 → summary_afresh (a ++ b) n ≡ summary_afresh a n
  unfolding summary_afresh
  afresh_first n h =
      tabulate_same 770 (λ p. sum_n n (brought (a ++ b) p)) (λ p. sum_n n (brought a p))
      (λ p l. sum_same n (brought (a ++ b) p) (brought a p) (λ i q. ap (λ (r : List ℕ). record_brings r p) (record_first a b i (omega arith))))

  module _ (k m : ℕ) (size : length a ≡ 34 * k) (there : m ≤ length b / 34) (few : k + m ≤ 10000000)
      (first : (i : ℕ) → i < k → half_in (record_at a i) ≤ 2) (second : (i : ℕ) → i < m → half_in (record_at b i) ≤ 2) where
    -- of all of the first, and of so many of the second
    place : (p : ℕ) → p < 770 → wrapped_sum (get_or (summary_afresh a k) p 0) (get_or (summary_afresh b m) p 0) ≡ sum_n (k + m) (brought (a ++ b) p)
    place p h =
        let x : sum_n k (brought a p) ≤ 2 * k = sum_le k 2 (brought a p) (λ i l. brings_2 (record_at a i) p (first i l)) in
        let y : sum_n m (brought b p) ≤ 2 * m = sum_le m 2 (brought b p) (λ i l. brings_2 (record_at b i) p (second i l)) in
        let u : sum_n k (brought (a ++ b) p) ≡ sum_n k (brought a p) =
        sum_same k (brought (a ++ b) p) (brought a p) (λ i l. ap (λ (r : List ℕ). record_brings r p) (record_first a b i (omega arith))) in
        let v : sum_n m (λ i. brought (a ++ b) p (k + i)) ≡ sum_n m (brought b p) =
        sum_same m (λ i. brought (a ++ b) p (k + i)) (brought b p) (λ i l. ap (λ (r : List ℕ). record_brings r p) (record_second a b k i size (omega arith))) in
        ap₂ wrapped_sum (summary_at a k p h) (summary_at b m p h) ∙ mod-eq_of_lt (omega arith) ∙ sym (sum_both k m (brought (a ++ b) p) ∙ ap₂ ◌+◌ u v)

    pub afresh_both : summary_of_both (summary_afresh a k) (summary_afresh b m) ≡ summary_afresh (a ++ b) (k + m)
    unfolding summary_of_both summary_afresh
    afresh_both =
        tabulate_same 770 (λ p. wrapped_sum (get_or (summary_afresh a k) p 0) (get_or (summary_afresh b m) p 0)) (λ p. sum_n (k + m) (brought (a ++ b) p)) place
