-- WHAT IS TOLD OF STORES, PUT TOGETHER, IS WHAT IS TOLD OF THEIR BYTES ONE AFTER ANOTHER: by whether the first has a record that is refused, then by the
-- 10,000,000 records that a summary counts. Assumes nothing.
use Rattle.std.proofs.Common.{◌≡◌, ℕ, ◌+◌, ◌-◌, ◌*◌, ◌/◌, ◌%◌, ◌<◌, ◌≤◌, Bool, true, false, cond, ◌&&◌, eqb, ltb, leb, List, [], ◌∷◌, ◌++◌, map, length, sym, refl, ap, ◌∙◌, subst, ap₂, append_assoc, append-nil, arith, length-append, ltb-false, ltb-true, le-ltb, lt-ltb, eq-eqb, ne_eqb, eqb-true, le-leb, leb-false, leb-true}
use mathlib.Core.Bool.{false≢true}
use borrow.Author.Tests.{eqb-false}
use Rattle.laws.specs.Tables.{tabulate}
use Rattle.laws.specs.Sums.{sum_n}
use Rattle.refusal.specs.Answer.{Answer, given, or_refuse}
use Rattle.refusal.specs.declared.Refusal.TheVariants as R
use Rattle.ledger_whole.specs.Whole.{joined}
use Rattle.store_record.specs.Record.{half_in, record_at}
use Rattle.store_cut.specs.Pieces.{records_from, pieces_of}
use Rattle.store_counts.specs.Summary.{summary_afresh}
use Rattle.store_summary.specs.Promises.{records_in}
use Rattle.store_totals.specs.Totals.{empty_summary}
use Rattle.store_totals.proofs.Kept.{records_are}
use Rattle.store_gather.specs.Gather.{Gathered, gathered}
use Rattle.store_gather.specs.declared.First.{First}
use Rattle.store_gathered.specs.Calls.{gather_input}
use Rattle.store_gathered.specs.Gathered.{first_refused, read_before}
use Rattle.store_gathered.proofs.Gathered.{whole}
use Rattle.store_joined.specs.Summaries.{summary_of_both, summaries_joined}
use Rattle.store_joined.specs.Parts.{told_by, told_up_to, store_told, ToldByCalls, first_after, told_after, stores_told, stores_told_from, at_record_ends}
use Rattle.store_joined.specs.Parts.{SummariesOfParts, SummariesOfTwo}
use Rattle.store_joined.proofs.Pieces.{pieces_both}
use Rattle.store_joined.proofs.Firsts.{no_first, many_first, first_none, first_from_holds, firsts_both, moved_on, at_most, first_moved}
use Rattle.store_joined.proofs.Read.{all_read}
use Rattle.store_joined.proofs.Counted.{afresh_770, afresh_first, afresh_both}

-- ---- what is told by calls
pub told_by_calls : ToldByCalls
told_by_calls piece calls first last size made =
    let w = whole piece calls first last size made in
    ap (told_by first) w.afresh ∙ ap (told_up_to (gather_input calls)) w.told

-- ---- how many are read before a first one
read_all : (store : List ℕ) (f : First) → f.number ≡ 0 → read_before f store ≡ length store / 34
read_all store f e = ap (λ (t : Bool). cond t (length store / 34) (f.number - 1)) (eq-eqb f.number 0 e)

read_some : (store : List ℕ) (f : First) → (f.number ≡ 0 → ⊥) → read_before f store ≡ f.number - 1
read_some store f n = ap (λ (t : Bool). cond t (length store / 34) (f.number - 1)) (ne_eqb f.number 0 n)

-- the summaries of so many records, joined
module _ (a b : List ℕ) (k m : ℕ) where
  sums : summaries_joined (summary_afresh a k) (summary_afresh b m) ≡ or_refuse (leb (k + m) 10000000) R.Many
      (given (summary_of_both (summary_afresh a k) (summary_afresh b m)))
  sums =
      ap₂ (λ (s t : Bool). or_refuse (s && t) R.Shape (or_refuse (leb (records_in (summary_afresh a k) + records_in (summary_afresh b m)) 10000000) R.Many
      (given (summary_of_both (summary_afresh a k) (summary_afresh b m)))))
      (eq-eqb (length (summary_afresh a k)) 770 (afresh_770 a k)) (eq-eqb (length (summary_afresh b m)) 770 (afresh_770 b m))
      ∙ ap₂ (λ (x y : ℕ). or_refuse (leb (x + y) 10000000) R.Many (given (summary_of_both (summary_afresh a k) (summary_afresh b m)))) (records_are a k)
      (records_are b m)

module _ (a b : List ℕ) (even : length a % 34 ≡ 0) where
  abbrev k : ℕ
  k = length a / 34

  abbrev fa : First
  fa = first_refused 1 (pieces_of a)

  abbrev fb : First
  fb = first_refused 1 (pieces_of b)

  abbrev m : ℕ
  m = read_before fb b

  abbrev past : ℕ
  past = 1 + length (pieces_of b)

  size : length a ≡ 34 * k
  size = omega arith

  first_is : first_refused 1 (pieces_of (a ++ b)) ≡ cond (eqb fa.number 0) (first_refused (1 + k) (pieces_of b)) fa
  first_is =
      let p = pieces_both k a b size in
      ap (first_refused 1) p.0 ∙ firsts_both 1 (pieces_of a) (pieces_of b) (omega arith)
      ∙ ap (λ (n : ℕ). cond (eqb fa.number 0) (first_refused (1 + n) (pieces_of b)) fa) p.1

  -- ---- a record of the first store is refused
  early : (fa.number ≡ 0 → ⊥) → stores_told (store_told a) (store_told b) ≡ store_told (a ++ b)
  early n =
      let e : eqb fa.number 0 ≡ false = ne_eqb fa.number 0 n in
      let f : first_refused 1 (pieces_of (a ++ b)) ≡ fa = first_is ∙ ap (λ (t : Bool). cond t (first_refused (1 + k) (pieces_of b)) fa) e in
      let s : summary_afresh (a ++ b) (read_before fa (a ++ b)) ≡ summary_afresh a (read_before fa a) =
      ap (summary_afresh (a ++ b)) (read_some (a ++ b) fa n ∙ sym (read_some a fa n)) ∙ afresh_first a b (read_before fa a) (all_read a).there in
      kept e (ltb fa.number 10000001)
      ∙ sym (ap (told_up_to (a ++ b)) f ∙ ap (λ (x : List ℕ). or_refuse (ltb fa.number 10000001) R.Many (given (gathered x fa.number fa.refusal))) s)
    where
      kept : eqb fa.number 0 ≡ false → (t : Bool)
          → stores_told (or_refuse t R.Many (given (gathered (summary_afresh a (read_before fa a)) fa.number fa.refusal))) (store_told b)
          ≡ or_refuse t R.Many (given (gathered (summary_afresh a (read_before fa a)) fa.number fa.refusal))
      kept e false = refl
      kept e true =
          let g : Gathered = gathered (summary_afresh a (read_before fa a)) fa.number fa.refusal in
          ap (λ (t : Bool). cond t (told_after g (store_told b)) (given g)) e

  -- ---- none is
  module _ (none : fa.number ≡ 0) where
    abbrev first_told : Gathered
    first_told = gathered (summary_afresh a k) 0 0

    read_k : read_before fa a ≡ k
    read_k = read_all a fa none

    few : k ≤ 10000000
    few = subst (λ (n : ℕ). n ≤ 10000000) read_k (all_read a).few

    halves : (i : ℕ) → i < k → half_in (record_at a i) ≤ 2
    halves = subst (λ (n : ℕ). (i : ℕ) → i < n → half_in (record_at a i) ≤ 2) read_k (all_read a).halves

    told_a : store_told a ≡ given first_told
    told_a = ap (told_up_to a) (first_none 1 (pieces_of a) (omega arith) none)

    first_moves : first_refused 1 (pieces_of (a ++ b)) ≡ moved_on k past fb
    first_moves =
        first_is ∙ ap (λ (t : Bool). cond t (first_refused (1 + k) (pieces_of b)) fa) (eq-eqb fa.number 0 none)
        ∙ first_moved k 1 (pieces_of b) (omega arith) (omega (arith, few))

    -- all of the second's records that are read, and its first refused one
    all_pieces : fb.number ≡ 0 → past ≡ 1 + m
    all_pieces e = let q = (all_read b).every e in let r = read_all b fb e in omega arith

    next_one : (fb.number ≡ 0 → ⊥) → fb.number ≡ m + 1
    next_one n = let q = first_from_holds 1 (pieces_of b) n in let r = read_some b fb n in omega arith

    abbrev both : List ℕ
    both = summary_afresh (a ++ b) (k + m)

    past_most : 10000000 < k + m → many_first ≡ moved_on k past fb
    past_most h = at_most k past fb (λ e. let q = all_pieces e in omega arith) (λ n. let q = next_one n in omega arith)

    both_is : k + m ≤ 10000000 → summary_of_both (summary_afresh a k) (summary_afresh b m) ≡ both
    both_is h = afresh_both a b k m size (all_read b).there h halves (all_read b).halves

    -- by whether the second has a refused record
    within : k + m ≤ 10000000 → (x : Bool) → eqb fb.number 0 ≡ x
        → cond x (given (gathered both 0 0)) (or_refuse (ltb (records_in both) 10000000) R.Many (given (gathered both (records_in both + 1) fb.refusal)))
        ≡ told_up_to (a ++ b) (cond x (cond (leb (past + k) 10000001) no_first many_first)
        (cond (ltb (fb.number + k) 10000001) (record { number = fb.number + k; refusal = fb.refusal }) many_first))
    within h true e =
        let z : fb.number ≡ 0 = eqb-true fb.number 0 e in
        let p = all_pieces z in
        let r = read_all b fb z in
        let l = length-append a b in
        let s = size in
        let n : k + m ≡ length (a ++ b) / 34 = omega arith in
        ap (λ (j : ℕ). given (gathered (summary_afresh (a ++ b) j) 0 0)) n
        ∙ sym (ap (λ (t : Bool). told_up_to (a ++ b) (cond t no_first many_first)) (le-leb (past + k) 10000001 (omega arith)))
    within h false e =
        let o = next_one (eqb-false fb.number 0 e) in
        let n : fb.number + k ≡ k + m + 1 = omega arith in
        ap (λ (j : ℕ). or_refuse (ltb j 10000000) R.Many (given (gathered both (j + 1) fb.refusal))) (records_are (a ++ b) (k + m))
        ∙ room (ltb (k + m) 10000000) refl
        ∙ sym (ap (λ (j : ℕ). told_up_to (a ++ b) (cond (ltb j 10000001) (record { number = j; refusal = fb.refusal }) many_first)) n)
      where
        room : (t : Bool) → ltb (k + m) 10000000 ≡ t
            → or_refuse t R.Many (given (gathered both (k + m + 1) fb.refusal))
            ≡ told_up_to (a ++ b) (cond (ltb (k + m + 1) 10000001) (record { number = k + m + 1; refusal = fb.refusal }) many_first)
        room true q =
            let l = ltb-true (k + m) 10000000 q in
            let low : ltb (k + m + 1) 10000001 ≡ true = lt-ltb (k + m + 1) 10000001 (omega arith) in
            let f : First = record { number = k + m + 1; refusal = fb.refusal } in
            let r : read_before f (a ++ b) ≡ k + m = read_some (a ++ b) f (λ z. omega arith) ∙ (let b1 : k + m + 1 - 1 ≡ k + m = omega arith in b1) in
            sym (ap (λ (t : Bool). told_up_to (a ++ b) (cond t f many_first)) low
            ∙ ap (λ (t : Bool). or_refuse t R.Many (given (gathered (summary_afresh (a ++ b) (read_before f (a ++ b))) (k + m + 1) fb.refusal))) low
            ∙ ap (λ (j : ℕ). given (gathered (summary_afresh (a ++ b) j) (k + m + 1) fb.refusal)) r)
        room false q =
            let l = ltb-false (k + m) 10000000 q in
            sym (ap (λ (t : Bool). told_up_to (a ++ b) (cond t (record { number = k + m + 1; refusal = fb.refusal }) many_first))
            (le-ltb (k + m + 1) 10000001 (omega arith)))

    counted : told_after first_told (given (gathered (summary_afresh b m) fb.number fb.refusal)) ≡ told_up_to (a ++ b) (moved_on k past fb)
    counted = ap (first_after (gathered (summary_afresh b m) fb.number fb.refusal)) (sums a b k m) ∙ go (leb (k + m) 10000000) refl
      where
        go : (t : Bool) → leb (k + m) 10000000 ≡ t
            → first_after (gathered (summary_afresh b m) fb.number fb.refusal)
            (or_refuse t R.Many (given (summary_of_both (summary_afresh a k) (summary_afresh b m)))) ≡ told_up_to (a ++ b) (moved_on k past fb)
        go false q = ap (told_up_to (a ++ b)) (past_most (leb-false (k + m) 10000000 q))
        go true q =
            let h = leb-true (k + m) 10000000 q in
            ap (λ (x : List ℕ). first_after (gathered (summary_afresh b m) fb.number fb.refusal) (given x)) (both_is h) ∙ within h (eqb fb.number 0) refl

    after : (t : Bool) → ltb fb.number 10000001 ≡ t
        → told_after first_told (or_refuse t R.Many (given (gathered (summary_afresh b m) fb.number fb.refusal))) ≡ told_up_to (a ++ b) (moved_on k past fb)
    after true e = counted
    after false e =
        let h = ltb-false fb.number 10000001 e in
        ap (told_up_to (a ++ b)) (at_most k past fb (λ z. absurd (omega arith)) (λ z. omega arith))

    late : stores_told (store_told a) (store_told b) ≡ store_told (a ++ b)
    late = ap (λ (x : Answer Gathered). stores_told x (store_told b)) told_a ∙ after (ltb fb.number 10000001) refl ∙ sym (ap (told_up_to (a ++ b)) first_moves)

  two : stores_told (store_told a) (store_told b) ≡ store_told (a ++ b)
  two = go (eqb fa.number 0) refl
    where
      go : (t : Bool) → eqb fa.number 0 ≡ t → stores_told (store_told a) (store_told b) ≡ store_told (a ++ b)
      go true e = late (eqb-true fa.number 0 e)
      go false e = early (eqb-false fa.number 0 e)

pub summaries_of_two : (a b : List ℕ) → SummariesOfTwo a b
summaries_of_two a b = record { whole = two a b }

-- ---- any number of stores
onward : (a : List ℕ) (parts : List (List ℕ)) → length a % 34 ≡ 0 → at_record_ends parts ≡ true
    → stores_told_from (store_told a) (map store_told parts) ≡ store_told (a ++ joined parts)
unfolding stores_told_from at_record_ends joined
onward a [] e h = ap store_told (sym (append-nil a))
onward a (p ∷ []) e h = two a p e ∙ ap (λ (x : List ℕ). store_told (a ++ x)) (sym (append-nil p))
onward a (p ∷ (q ∷ ps)) e h =
    ap (λ (x : Answer Gathered). stores_told_from x (map store_told (q ∷ ps))) (two a p e) ∙ go (eqb (length p % 34) 0) refl h (onward (a ++ p) (q ∷ ps))
  where
    go : (t : Bool) → eqb (length p % 34) 0 ≡ t → (t && at_record_ends (q ∷ ps)) ≡ true
        → (length (a ++ p) % 34 ≡ 0 → at_record_ends (q ∷ ps) ≡ true → stores_told_from (store_told (a ++ p)) (map store_told (q ∷ ps))
        ≡ store_told ((a ++ p) ++ joined (q ∷ ps)))
        → stores_told_from (store_told (a ++ p)) (map store_told (q ∷ ps)) ≡ store_told (a ++ (p ++ joined (q ∷ ps)))
    go false z y r = absurd (false≢true y)
    go true z y r =
        let s : length p % 34 ≡ 0 = eqb-true (length p % 34) 0 z in
        let l = length-append a p in
        r (omega arith) y ∙ ap store_told (append_assoc a p (joined (q ∷ ps)))

nothing_told : store_told [] ≡ given (gathered empty_summary 0 0)
unfolding first_refused records_from summary_afresh tabulate sum_n
nothing_told = refl

pub summaries_of_parts : (parts : List (List ℕ)) → SummariesOfParts parts
summaries_of_parts parts = record {
  whole = λ e. ap (λ (a : Answer Gathered). stores_told_from a (map store_told parts)) (sym nothing_told) ∙ onward [] parts refl e;
}
