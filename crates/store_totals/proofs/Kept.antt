-- What every call keeps: the summary is the one worked out afresh. The sums stay below 2^64, since a store has 10,000,000 records at most.
-- Assumes nothing.
use mathlib.Core.Path.{◌≡◌, refl, sym, ap, subst, ◌∙◌}
use mathlib.Core.Bool.{Bool, true, false, cond}
use mathlib.Core.List.{List}
use Prim.Native.Nat.{ℕ, zero, suc, ◌+◌, ◌*◌, ◌-◌, ◌/◌, ◌%◌, ◌^◌, ◌≤◌, ◌<◌}
use native.Mathlib.Nat.{mod-eq_of_lt}
use native.Mathlib.Numerals.{add-one}
use native.Mathlib.Omega.{arith}
use lib.Dec.{eqb, ltb}
use lib.ListN.{length, get_or}
use borrow.Author.Tests.{ltb-true, ltb-false, eqb-true, eqb-false}
use Rattle.laws.specs.Tables.{tabulate}
use Rattle.laws.specs.Sums.{sum_n}
use Rattle.laws.proofs.Tables.{entry, tabulate_same}
use Rattle.laws.proofs.Sums.{sum_more, sum_same, sum_le}
use Rattle.store_record.specs.Record.{code_in, half_in, record_at}
use Rattle.store_counts.specs.Summary.{counted_code, counted_square, record_brings, summary_afresh, moved_by, summary_moved, wraps_off, summary_more, summary_less}
use Rattle.store_summary.specs.Promises.{records_in, with_record}
use Rattle.store_totals.specs.Totals.{empty_summary}
use Rattle.store_totals.proofs.Runs.{with_size, record_new, record_other}

-- ---- sums
-- one term changed
sum_changed : (n j : ℕ) (f g : ℕ → ℕ) → j < n → ((i : ℕ) → i < n → (i ≡ j → ⊥) → f i ≡ g i) → sum_n n g + f j ≡ sum_n n f + g j
unfolding sum_n
sum_changed zero j f g h o = absurd (omega arith)
sum_changed (suc n) j f g h o = go (eqb j n) refl (λ l. sum_changed n j f g l (λ i m p. o i (omega arith) p))
  where
    go : (t : Bool) → eqb j n ≡ t → (j < n → sum_n n g + f j ≡ sum_n n f + g j) → sum_n n g + g n + f j ≡ sum_n n f + f n + g j
    go true e r =
        let q : j ≡ n = eqb-true j n e in
        let s : sum_n n f ≡ sum_n n g = sum_same n f g (λ i l. o i (omega arith) (λ p. omega arith)) in
        let a : f j ≡ f n = ap f q in
        let b : g j ≡ g n = ap g q in
        omega arith
    go false e r =
        let d = eqb-false j n e in
        let s = r (omega arith) in
        let a : f n ≡ g n = o n (omega arith) (λ p. d (sym p)) in
        omega arith

ones : (n : ℕ) → sum_n n (λ i. 1) ≡ n
unfolding sum_n
ones zero = refl
ones (suc n) = ap (λ (m : ℕ). m + 1) (ones n) ∙ add-one n

-- ---- the summary of a store
-- what a record of a run brings to a place
abbrev pub brought : List ℕ → ℕ → ℕ → ℕ
brought run p i = record_brings (record_at run i) p

pub summary_at : (run : List ℕ) (n p : ℕ) → p < 770 → get_or (summary_afresh run n) p 0 ≡ sum_n n (brought run p)
unfolding summary_afresh
summary_at run n p h = entry 770 (λ place. sum_n n (brought run place)) 0 p h

pub records_are : (run : List ℕ) (n : ℕ) → records_in (summary_afresh run n) ≡ n
records_are run n = summary_at run n 0 (omega arith) ∙ ones n

-- what a record brings is 2 at most, where its half points are
pub brings_2 : (bytes : List ℕ) (p : ℕ) → half_in bytes ≤ 2 → record_brings bytes p ≤ 2
brings_2 bytes p h = go (eqb p 0) (eqb p 1) (eqb (code_in bytes (counted_square p)) (counted_code p))
  where
    go : (a b c : Bool) → cond a 1 (cond b (half_in bytes) (cond c 1 0)) ≤ 2
    go true b c = omega arith
    go false true c = h
    go false false true = omega arith
    go false false false = omega arith

-- what is taken off is what was brought, from 2^64
less_brought : (bytes : List ℕ) (p : ℕ) → moved_by (wraps_off 1) (wraps_off (half_in bytes)) bytes p ≡ wraps_off (record_brings bytes p)
less_brought bytes p = go (eqb p 0) (eqb p 1) (eqb (code_in bytes (counted_square p)) (counted_code p))
  where
    go : (a b c : Bool) → cond a (wraps_off 1) (cond b (wraps_off (half_in bytes)) (cond c (wraps_off 1) 0))
        ≡ wraps_off (cond a 1 (cond b (half_in bytes) (cond c 1 0)))
    go true b c = refl
    go false true c = refl
    go false false true = refl
    go false false false = refl

-- ---- what every call keeps
pub record KeptAfresh (run summary : List ℕ) : Type 0 where
  pub n : ℕ
  pub is : summary ≡ summary_afresh run n
  pub few : n ≤ 10000000
  pub fits : 34 * n ≤ length run
  pub halves : (i : ℕ) → i < n → half_in (record_at run i) ≤ 2

pub kept_none : (run : List ℕ) → KeptAfresh run empty_summary
unfolding summary_afresh tabulate sum_n
kept_none run = record { n = 0; is = refl; few = omega arith; fits = omega arith; halves = λ i h. absurd (omega arith) }

small : (n : ℕ) (run : List ℕ) → n ≤ 10000000 → ((i : ℕ) → i < n → half_in (record_at run i) ≤ 2) → (p : ℕ) → sum_n n (brought run p) < 2 ^ 64
small n run few halves p = let s : sum_n n (brought run p) ≤ 2 * n = sum_le n 2 (brought run p) (λ i h. brings_2 (record_at run i) p (halves i h)) in omega arith

module _ (run summary : List ℕ) (k : KeptAfresh run summary) (bytes : List ℕ) (size : length bytes ≡ 34) (half : half_in bytes ≤ 2) where
  -- a record more
  pub kept_added : k.n < 10000000 → k.n < length run / 34 → KeptAfresh (with_record run k.n bytes) (summary_more summary bytes)
  unfolding summary_moved summary_afresh
  kept_added few room = record {
    n = k.n + 1;
    is = there;
    few = omega arith;
    fits = omega (arith, with_size run k.n bytes room size);
    halves = halves;
  }
    where
      old_records : (i : ℕ) → i < k.n → record_at (with_record run k.n bytes) i ≡ record_at run i
      old_records i h = record_other run k.n bytes room size i (omega arith) (λ q. omega arith)

      halves : (i : ℕ) → i < k.n + 1 → half_in (record_at (with_record run k.n bytes) i) ≤ 2
      halves i h = go (ltb i k.n) refl
        where
          go : (t : Bool) → ltb i k.n ≡ t → half_in (record_at (with_record run k.n bytes) i) ≤ 2
          go true e = let l = ltb-true i k.n e in subst (λ (r : List ℕ). half_in r ≤ 2) (sym (old_records i l)) (k.halves i l)
          go false e =
              let q : i ≡ k.n = (let l = ltb-false i k.n e in omega arith) in
              subst (λ (r : List ℕ). half_in r ≤ 2) (sym (ap (record_at (with_record run k.n bytes)) q ∙ record_new run k.n bytes room size)) half

      place : (p : ℕ) → p < 770 → (get_or summary p 0 + moved_by 1 (half_in bytes) bytes p) % 2 ^ 64 ≡ sum_n (k.n + 1) (brought (with_record run k.n bytes) p)
      place p h =
          let f = sum_same k.n (brought run p) (brought (with_record run k.n bytes) p)
          (λ i l. ap (λ (r : List ℕ). record_brings r p) (sym (old_records i l))) in
          let g : brought (with_record run k.n bytes) p k.n ≡ record_brings bytes p =
          ap (λ (r : List ℕ). record_brings r p) (record_new run k.n bytes room size) in
          let e : get_or summary p 0 ≡ sum_n k.n (brought run p) = ap (λ (s : List ℕ). get_or s p 0) k.is ∙ summary_at run k.n p h in
          let m = sum_more (brought (with_record run k.n bytes) p) k.n in
          let t = small (k.n + 1) (with_record run k.n bytes) (omega arith) halves p in
          let w : get_or summary p 0 + record_brings bytes p ≡ sum_n (k.n + 1) (brought (with_record run k.n bytes) p) = omega arith in
          ap (λ (x : ℕ). x % 2 ^ 64) w ∙ mod-eq_of_lt t

      there : summary_more summary bytes ≡ summary_afresh (with_record run k.n bytes) (k.n + 1)
      there = tabulate_same 770 (λ p. (get_or summary p 0 + moved_by 1 (half_in bytes) bytes p) % 2 ^ 64)
          (λ p. sum_n (k.n + 1) (brought (with_record run k.n bytes) p)) place

  -- another record
  pub kept_replaced : (number : ℕ) → number < k.n → KeptAfresh (with_record run number bytes) (summary_more (summary_less summary (record_at run number)) bytes)
  unfolding summary_moved summary_afresh
  kept_replaced number l = record {
    n = k.n;
    is = there;
    few = k.few;
    fits = omega (arith, with_size run number bytes room size, k.fits);
    halves = halves;
  }
    where
      room : number < length run / 34
      room = omega (arith, k.fits)

      others : (i : ℕ) → i < k.n → (i ≡ number → ⊥) → record_at (with_record run number bytes) i ≡ record_at run i
      others i h o = record_other run number bytes room size i (omega (arith, k.fits)) o

      halves : (i : ℕ) → i < k.n → half_in (record_at (with_record run number bytes) i) ≤ 2
      halves i h = go (eqb i number) refl
        where
          go : (t : Bool) → eqb i number ≡ t → half_in (record_at (with_record run number bytes) i) ≤ 2
          go true e = subst (λ (r : List ℕ). half_in r ≤ 2) (sym (ap (record_at (with_record run number bytes)) (eqb-true i number e)
              ∙ record_new run number bytes room size)) half
          go false e = subst (λ (r : List ℕ). half_in r ≤ 2) (sym (others i h (eqb-false i number e))) (k.halves i h)

      wrapped : (s o c s' : ℕ) → s' + o ≡ s + c → o ≤ 2 → s' < 2 ^ 64 → ((s + (2 ^ 64 - o) % 2 ^ 64) % 2 ^ 64 + c) % 2 ^ 64 ≡ s'
      wrapped s o c s' e u v = omega arith

      place : (p : ℕ) → p < 770
          → (get_or (summary_less summary (record_at run number)) p 0 + moved_by 1 (half_in bytes) bytes p) % 2 ^ 64
          ≡ sum_n k.n (brought (with_record run number bytes) p)
      place p h =
          let old : List ℕ = record_at run number in
          let f = sum_changed k.n number (brought run p) (brought (with_record run number bytes) p) l
          (λ i m o. ap (λ (r : List ℕ). record_brings r p) (sym (others i m o))) in
          let g : brought (with_record run number bytes) p number ≡ record_brings bytes p =
          ap (λ (r : List ℕ). record_brings r p) (record_new run number bytes room size) in
          let e : get_or summary p 0 ≡ sum_n k.n (brought run p) = ap (λ (s : List ℕ). get_or s p 0) k.is ∙ summary_at run k.n p h in
          let t = small k.n (with_record run number bytes) k.few halves p in
          let b = brings_2 old p (k.halves number l) in
          ap (λ (x : ℕ). (x + record_brings bytes p) % 2 ^ 64)
          (entry 770 (λ q. (get_or summary q 0 + moved_by (wraps_off 1) (wraps_off (half_in old)) old q) % 2 ^ 64) 0 p h
          ∙ ap (λ (x : ℕ). (get_or summary p 0 + x) % 2 ^ 64) (less_brought old p))
          ∙ wrapped (get_or summary p 0) (record_brings old p) (record_brings bytes p) (sum_n k.n (brought (with_record run number bytes) p)) (omega arith) b t

      there : summary_more (summary_less summary (record_at run number)) bytes ≡ summary_afresh (with_record run number bytes) k.n
      there =
          tabulate_same 770 (λ p. (get_or (summary_less summary (record_at run number)) p 0 + moved_by 1 (half_in bytes) bytes p) % 2 ^ 64)
          (λ p. sum_n k.n (brought (with_record run number bytes) p)) place
