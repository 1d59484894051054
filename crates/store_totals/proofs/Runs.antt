-- A run with one record put into it: that record is the one put, every other record is as it was. Assumes nothing.
use mathlib.Core.Path.{◌≡◌, refl, sym, ap, ◌∙◌}
use mathlib.Core.Logic.{◌⊎◌, inl, inr, ⊎_elim}
use mathlib.Core.Bool.{Bool, true, false}
use mathlib.Core.List.{List, ◌++◌}
use lib.Dec.{ltb}
use borrow.Author.Tests.{ltb-true, ltb-false}
use Prim.Native.Nat.{ℕ, ◌+◌, ◌*◌, ◌-◌, ◌/◌, ◌≤◌, ◌<◌}
use native.Mathlib.Omega.{arith}
use lib.ListN.{length, get_or, take, drop, length-append, length-drop, get_or-append}
use lib.Seq.{ext_get_or, get_or-take, get_or-drop, get_or-append-add, length-take-le}
use Rattle.store_record.specs.Record.{record_at}
use Rattle.store_summary.specs.Promises.{with_record}
use Rattle.store_summary.proofs.Keeping.{record_size}

-- ---- a record's bytes are the run's
pub record_byte : (run : List ℕ) (i j : ℕ) → j < 34 → get_or (record_at run i) j 0 ≡ get_or run (34 * i + j) 0
record_byte run i j h = get_or-take 34 (drop (34 * i) run) j 0 h ∙ get_or-drop (34 * i) run j 0

module _ (run : List ℕ) (number : ℕ) (bytes : List ℕ) (there : number < length run / 34) (size : length bytes ≡ 34) where
  abbrev front : List ℕ
  front = take (34 * number) run

  abbrev back : List ℕ
  back = drop (34 * number + 34) run

  front_size : length front ≡ 34 * number
  front_size = length-take-le (34 * number) run (omega arith)

  pub with_size : length (with_record run number bytes) ≡ length run
  unfolding with_record
  with_size =
      let a = length-append front (bytes ++ back) in
      let b = length-append bytes back in
      let c = length-drop (34 * number + 34) run in
      let d = front_size in
      omega arith

  within : (j : ℕ) → j < 34 → get_or (with_record run number bytes) (34 * number + j) 0 ≡ get_or bytes j 0
  unfolding with_record
  within j h =
      ap (λ (n : ℕ). get_or (front ++ (bytes ++ back)) (n + j) 0) (sym front_size) ∙ get_or-append-add front (bytes ++ back) j 0
      ∙ get_or-append bytes back 0 j (omega arith)

  before : (p : ℕ) → p < 34 * number → get_or (with_record run number bytes) p 0 ≡ get_or run p 0
  unfolding with_record
  before p h =
      get_or-append front (bytes ++ back) 0 p (omega (arith, front_size)) ∙ get_or-take (34 * number) run p 0 h

  after : (p : ℕ) → 34 * number + 34 ≤ p → get_or (with_record run number bytes) p 0 ≡ get_or run p 0
  unfolding with_record
  after p h =
      let q : ℕ = p - (34 * number + 34) in
      let e : p ≡ length front + (length bytes + q) = omega (arith, front_size) in
      ap (λ (n : ℕ). get_or (front ++ (bytes ++ back)) n 0) e ∙ get_or-append-add front (bytes ++ back) (length bytes + q) 0
      ∙ get_or-append-add bytes back q 0 ∙ get_or-drop (34 * number + 34) run q 0
      ∙ ap (λ (n : ℕ). get_or run n 0) (let z : 34 * number + 34 + q ≡ p = omega arith in z)

  pub record_new : record_at (with_record run number bytes) number ≡ bytes
  record_new =
      let s = with_size in
      let n : length (record_at (with_record run number bytes) number) ≡ 34 = record_size (with_record run number bytes) number (omega arith) in
      ext_get_or 0 (record_at (with_record run number bytes) number) bytes (n ∙ sym size)
      (λ j h. let g : j < 34 = omega arith in record_byte (with_record run number bytes) number j g ∙ within j g)

  pub record_other : (i : ℕ) → i < length run / 34 → (i ≡ number → ⊥) → record_at (with_record run number bytes) i ≡ record_at run i
  record_other i l o =
      let s = with_size in
      let n : length (record_at (with_record run number bytes) i) ≡ 34 = record_size (with_record run number bytes) i (omega arith) in
      let m = record_size run i l in
      ext_get_or 0 (record_at (with_record run number bytes) i) (record_at run i) (n ∙ sym m)
      (λ j h.
      let g : j < 34 = omega arith in
      record_byte (with_record run number bytes) i j g
      ∙ ⊎_elim (λ a. before (34 * i + j) (omega arith)) (λ a. after (34 * i + j) (omega arith)) (apart i number o)
      ∙ sym (record_byte run i j g))
    where
      apart : (i k : ℕ) → (i ≡ k → ⊥) → (i < k) ⊎ (k < i)
      apart i k n = go (ltb i k) refl
        where
          go : (t : Bool) → ltb i k ≡ t → (i < k) ⊎ (k < i)
          go true e = inl (ltb-true i k e)
          go false e = inr (let l = ltb-false i k e in omega arith)
