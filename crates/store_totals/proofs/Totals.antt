-- FROM AN EMPTY STORE, OVER ANY CALLS the summary is the one worked out afresh, and its pieces are those of the records. Assumes nothing.
use mathlib.Core.Path.{◌≡◌, refl, sym, ap, ap₂, subst, subst₂, ◌∙◌}
use mathlib.Core.Bool.{Bool, true, false, cond}
use mathlib.Core.List.{List, [], ◌∷◌}
use Prim.Native.Nat.{ℕ, zero, suc, ◌+◌, ◌/◌, ◌%◌, ◌≤◌, ◌<◌}
use native.Mathlib.Omega.{arith}
use lib.Dec.{eqb, ltb}
use lib.ListN.{length, get_or}
use borrow.Author.Tests.{ltb-true, ne_eqb}
use Rattle.laws.specs.Sums.{sum_n}
use Rattle.laws.proofs.Sums.{sum_same}
use Rattle.refusal.specs.Answer.{Answer, given, refused, or_refuse}
use Rattle.refusal.specs.declared.Refusal.TheVariants as R
use Rattle.refusal.proofs.Answers.{passed, given_not}
use Rattle.bits.specs.Bitboard.{digit, how_many}
use Rattle.position.specs.declared.State.{State}
use Rattle.position.proofs.Doors.{through}
use Rattle.line_parse.specs.Line.{Line}
use Rattle.store_record.specs.Record.{record_of, code_in, half_in, record_at, stored_says}
use Rattle.store_record.specs.Promises.{store_of}
use Rattle.store_record.proofs.Records.{record_34, record_half}
use Rattle.store_counts.specs.Summary.{count_place, counted_code, counted_square, record_brings, summary_afresh, summary_more, summary_less}
use Rattle.store_summary.specs.Promises.{Store, records_in, with_record, if_given, blank, with_new, add_new, add_of, replace_old, replace_of, KeepsStore}
use Rattle.store_totals.specs.Totals.{SummaryCall, adding, replacing, Calls, empty_summary, pieces_in, FromEmpty}
use Rattle.store_totals.proofs.Kept.{KeptAfresh, brought, summary_at, records_are, kept_none, kept_added, kept_replaced}
use Rattle.std.specs.Prelude.{Result}
use Rattle.refusal.specs.declared.Refusal.{Refusal}

-- ---- a call
-- what a call leaves, where what it gives keeps what it was given
keep_call : (a : Answer Store) (b : Store) (r : Result Unit Refusal) (run' summary' : List ℕ) → KeepsStore a b r run' summary'
    → KeptAfresh b.run b.summary → ((c : Store) → a ≡ given c → KeptAfresh c.run c.summary) → KeptAfresh run' summary'
keep_call (given c) b r run' summary' q k f = subst₂ KeptAfresh (sym q.run) (sym q.summary) (f c refl)
keep_call (refused n v) b r run' summary' q k f = subst₂ KeptAfresh (sym q.run) (sym q.summary) k

-- what came after was given, so what came before was
went_on : {A B : Type 0} (a : Answer A) (rest : A → Answer B) (b : B) → if_given a rest ≡ given b → (x : A) × (rest x ≡ given b) × (a ≡ given x)
went_on (given x) rest b e = (x, e, refl)
went_on (refused n v) rest b e = given_not (sym e)

module _ (bbs board : List ℕ) (state : State) (half : ℕ) where
  -- a record that was written: 34 bytes, with half points
  written : (bytes : List ℕ) → store_of bbs board state half blank ≡ given bytes → (length bytes ≡ 34) × (half_in bytes ≤ 2)
  unfolding store_of
  written bytes e =
      let l : Line = record { state = state; half = half; board = board } in
      let y : Answer (List ℕ) = or_refuse (eqb (length blank) 34) R.Length (given (record_of l)) in
      let t = through bbs board state (or_refuse (ltb half 3) R.Result y) bytes e in
      let p = passed (ltb half 3) R.Result bytes y t.1 in
      let q = passed (eqb (length blank) 34) R.Length bytes (given (record_of l)) p.1 in
      let same : record_of l ≡ bytes = cc q.1 in
      let h = ltb-true half 3 p.0 in
      let g : half_in bytes ≡ half = sym (ap half_in same) ∙ record_half l in
      (sym (ap length same) ∙ record_34 l, omega arith)

  module _ (run summary : List ℕ) (k : KeptAfresh run summary) where
    abbrev b : Store
    b = record { run = run; summary = summary }

    counted : records_in summary ≡ k.n
    counted = ap records_in k.is ∙ records_are run k.n

    -- the record that was prepared, and what is done with it
    new : (c : Store) (rest : List ℕ → Answer Store) → with_new bbs board state half b rest ≡ given c → (bytes : List ℕ) × (rest bytes ≡ given c)
        × (store_of bbs board state half blank ≡ given bytes)
    new c rest e =
        let p = passed (eqb (length summary) 770) R.Shape c (if_given (store_of bbs board state half blank) rest) e in
        went_on (store_of bbs board state half blank) rest c p.1

    after_add : (c : Store) → add_of bbs board state half b ≡ given c → KeptAfresh c.run c.summary
    unfolding add_of
    after_add c e =
        let n = new c (add_new b) e in
        let bytes : List ℕ = n.0 in
        let w = written bytes n.2 in
        let x : Store = record { run = with_record run (records_in summary) bytes; summary = summary_more summary bytes } in
        let z : Answer Store = or_refuse (ltb (records_in summary) (length run / 34)) R.Room (given x) in
        let y : Answer Store = or_refuse (ltb (records_in summary) 10000000) R.Many z in
        let p = passed (eqb (length run % 34) 0) R.Length c y n.1 in
        let q = passed (ltb (records_in summary) 10000000) R.Many c z p.1 in
        let r = passed (ltb (records_in summary) (length run / 34)) R.Room c (given x) q.1 in
        let same : x ≡ c = cc r.1 in
        let m = ltb-true (records_in summary) 10000000 q.0 in
        let f = ltb-true (records_in summary) (length run / 34) r.0 in
        let i = counted in
        subst (λ (o : Store). KeptAfresh o.run o.summary) same
        (subst (λ (j : ℕ). KeptAfresh (with_record run j bytes) (summary_more summary bytes)) (sym i)
        (kept_added run summary k bytes w.0 w.1 (omega arith) (omega arith)))

    after_replace : (number : ℕ) (c : Store) → replace_of bbs board state half number b ≡ given c → KeptAfresh c.run c.summary
    unfolding replace_of
    after_replace number c e =
        let n = new c (replace_old number b) e in
        let bytes : List ℕ = n.0 in
        let w = written bytes n.2 in
        let x : Store = record { run = with_record run number bytes; summary = summary_more (summary_less summary (record_at run number)) bytes } in
        let z : Answer Store = or_refuse (ltb number (records_in summary)) R.Absent (given x) in
        let o = went_on (stored_says run number) (λ l. z) c n.1 in
        let r = passed (ltb number (records_in summary)) R.Absent c (given x) o.1 in
        let same : x ≡ c = cc r.1 in
        let f = ltb-true number (records_in summary) r.0 in
        let i = counted in
        subst (λ (o : Store). KeptAfresh o.run o.summary) same (kept_replaced run summary k bytes w.0 w.1 number (omega arith))

-- ---- all calls
all : (run summary : List ℕ) (calls : List SummaryCall) (last lastSummary : List ℕ) → KeptAfresh run summary → Calls run summary calls last lastSummary
    → KeptAfresh last lastSummary
unfolding Calls
all run summary [] last lastSummary k m = subst₂ KeptAfresh m.0 m.1 k
all run summary (adding bbs board state half r run' summary' ∷ cs) last lastSummary k m =
    all run' summary' cs last lastSummary
    (keep_call (add_of bbs board state half (record { run = run; summary = summary })) (record { run = run; summary = summary }) r run' summary' m.0 k
    (after_add bbs board state half run summary k)) m.1
all run summary (replacing bbs board state half number r run' summary' ∷ cs) last lastSummary k m =
    all run' summary' cs last lastSummary
    (keep_call (replace_of bbs board state half number (record { run = run; summary = summary })) (record { run = run; summary = summary }) r run'
    summary' m.0 k
    (after_replace bbs board state half run summary k number)) m.1

-- ---- the piece totals
sum_both : (n : ℕ) (f g : ℕ → ℕ) → sum_n n f + sum_n n g ≡ sum_n n (λ i. f i + g i)
unfolding sum_n
sum_both zero f g = refl
sum_both (suc n) f g = let e = sum_both n f g in omega arith

zeros : (n : ℕ) → sum_n n (λ i. 0) ≡ 0
unfolding sum_n
zeros zero = refl
zeros (suc n) = let e = zeros n in omega arith

sum_swap : (m n : ℕ) (f : ℕ → ℕ → ℕ) → sum_n m (λ k. sum_n n (λ i. f i k)) ≡ sum_n n (λ i. sum_n m (f i))
unfolding sum_n
sum_swap zero n f = sym (zeros n)
sum_swap (suc m) n f = ap (λ (x : ℕ). x + sum_n n (λ i. f i m)) (sum_swap m n f) ∙ sum_both n (λ i. sum_n m (f i)) (λ i. f i m)

counts : (n : ℕ) (t : ℕ → Bool) → sum_n n (λ k. cond (t k) 1 0) ≡ how_many n t
unfolding sum_n how_many
counts zero t = refl
counts (suc n) t = go (t n) (counts n t)
  where
    go : (x : Bool) → sum_n n (λ k. cond (t k) 1 0) ≡ how_many n t → sum_n n (λ k. cond (t k) 1 0) + cond x 1 0 ≡ digit x + how_many n t
    go true e = omega arith
    go false e = omega arith

pieces : (run : List ℕ) (records code : ℕ) → 2 ≤ code → code ≤ 13
    → sum_n 64 (λ k. get_or (summary_afresh run records) (count_place code k) 0) ≡ sum_n records (λ i. pieces_in code (record_at run i))
pieces run records code l u =
    sum_same 64 (λ k. get_or (summary_afresh run records) (count_place code k) 0) (λ k. sum_n records (λ i. cond (eqb (code_in (record_at run i) k) code) 1 0))
    (λ k h. summary_at run records (count_place code k) (omega arith)
    ∙ sum_same records (brought run (count_place code k)) (λ i. cond (eqb (code_in (record_at run i) k) code) 1 0) (λ i m. one_piece (record_at run i) k h l))
    ∙ sum_swap 64 records (λ i k. cond (eqb (code_in (record_at run i) k) code) 1 0)
    ∙ sum_same records (λ i. sum_n 64 (λ k. cond (eqb (code_in (record_at run i) k) code) 1 0)) (λ i. pieces_in code (record_at run i))
    (λ i m. counts 64 (λ k. eqb (code_in (record_at run i) k) code))
  where
    one_piece : (r : List ℕ) (k : ℕ) → k < 64 → 2 ≤ code → record_brings r (count_place code k) ≡ cond (eqb (code_in r k) code) 1 0
    one_piece r k h l =
        let p : ℕ = count_place code k in
        let a : counted_square p ≡ k = omega arith in
        let c : counted_code p ≡ code = omega arith in
        ap₂ (λ (x y : Bool). cond x 1 (cond y (half_in r) (cond (eqb (code_in r (counted_square p)) (counted_code p)) 1 0)))
        (ne_eqb p 0 (λ q. omega arith)) (ne_eqb p 1 (λ q. omega arith))
        ∙ ap₂ (λ (x y : ℕ). cond (eqb (code_in r x) y) 1 0) a c

-- FROM AN EMPTY STORE: for every run, any calls on it and its summary, refused ones too
pub totals : FromEmpty
totals run calls last lastSummary made =
    let k = all run empty_summary calls last lastSummary (kept_none run) made in
    let a : lastSummary ≡ summary_afresh last (records_in lastSummary) = k.is ∙ ap (summary_afresh last) (sym (ap records_in k.is ∙ records_are last k.n)) in
    record {
      afresh = a;
      pieces = λ code l u.
          ap (λ (s : List ℕ). sum_n 64 (λ j. get_or s (count_place code j) 0)) a ∙ pieces last (records_in lastSummary) code l u;
    }
