-- The test of the entries by what they are together, and what an entry's bits say of it. Assumes nothing.
use mathlib.Core.Path.{◌≡◌, sym, ap, subst, ◌∙◌}
use mathlib.Core.Bool.{Bool, true, ◌&&◌}
use mathlib.Core.List.{List}
use Prim.Native.Nat.{ℕ, ◌+◌, ◌*◌, ◌-◌, ◌/◌, ◌%◌, ◌^◌, ◌≤◌, ◌<◌}
use native.Mathlib.Decide.{ℕ_discrete, dec_le}
use native.Mathlib.Omega.{arith}
use borrow.Author.Tests.{eq-eqb, lt-ltb}
use lib.Dec.{T, ltb, leb, leb→le, le→leb, ltb→lt, lt→ltb}
use lib.IntN.{ℤ, pos, negsuc}
use lib.Signed.{mag}
use lib.ListN.{length, get_or}
use mir.Syntax.{w32}
use mir.Val.{of_z}
use Rattle.laws.proofs.Tests.{all_at, all_of}
use Rattle.laws.proofs.Truth.{iff, and_r, and_i, true_T}
use Rattle.trace_counts.specs.Ranges.{within, in_ranges, are_entries}
use Rattle.trace_counts.specs.declared.Trace.{Trace}
use Rattle.trace_marks.specs.Marks.{bits_at, Held, together, group_of, groups_of, odd_at, odd_of}
use Rattle.trace_marks.specs.Promises.{ones_of, Sees}
use Rattle.trace_marks.specs.declared.Reading.{Reading}
use Rattle.trace_marks.proofs.Marks.{together_most, together_small, together_lt}

-- ---- one entry
pub bits_small : (z : ℤ) → mag z < 2 ^ 31 → of_z w32 z < 2 → T (within (pos 1) z)
bits_small (pos n) m h = and_i (leb 0 n) (leb n 1) (le→leb 0 n (omega arith)) (le→leb n 1 (omega arith))
bits_small (negsuc n) m h = absurd (omega arith)

pub small_bits : (z : ℤ) → T (within (pos 1) z) → of_z w32 z < 2
small_bits (pos n) t = let q = leb→le n 1 (and_r (leb 0 n) (leb n 1) t) in omega arith
small_bits (negsuc n) t = absurd t

pub no_bits : (z : ℤ) → T (within (pos 1) z) → of_z w32 z ≡ 0 → z ≡ pos 0
no_bits (pos n) t e = ap pos e
no_bits (negsuc n) t e = absurd t

pub odd_small : (entries : List ℤ) (g j : ℕ) → odd_at entries g j < 2
odd_small entries g j = omega arith

-- ---- all of them
module _ (entries : List ℤ) (l : length entries ≡ 768) where
  pub entry_at_holds : are_entries entries ≡ true → (k : ℕ) → k < 768 → T (within (pos 1) (get_or entries k (pos 0)))
  entry_at_holds t k h = all_at (length entries) (λ i. within (pos 1) (get_or entries i (pos 0))) (true_T t) k (omega arith)

  each_small : T (are_entries entries) → (g : ℕ) → g < 48 → group_of entries g < 2
  each_small t g h =
      together_small (λ j. bits_at entries (16 * g + j)) 16
      (λ j i. small_bits (get_or entries (16 * g + j) (pos 0)) (all_at (length entries) (λ k. within (pos 1) (get_or entries k (pos 0))) t (16 * g + j)
      (omega arith)))

  pub odd_none : are_entries entries ≡ true → (g j : ℕ) → g < 48 → j < 16 → odd_at entries g j ≡ 0 → get_or entries (16 * g + j) (pos 0) ≡ pos 0
  odd_none t g j h i z =
      let w = entry_at_holds t (16 * g + j) (omega arith) in
      no_bits (get_or entries (16 * g + j) (pos 0)) w (omega (arith, z, small_bits (get_or entries (16 * g + j) (pos 0)) w))

  pub ones_of_holds : (g : ℕ) → g < 48 → ones_of entries g ≡ odd_of entries g
  ones_of_holds g h = simp (eq-eqb (length entries) 768 l, lt-ltb g 48 h)

  pub seen_entries : {r : Reading} → Sees entries r → r.entries ≡ are_entries entries
  seen_entries e = ap (λ (r : Reading). r.entries) e ∙ simp (eq-eqb (length entries) 768 l)

  pub seen_groups : {r : Reading} → Sees entries r → r.groups ≡ groups_of entries 48
  seen_groups e = ap (λ (r : Reading). r.groups) e ∙ simp (eq-eqb (length entries) 768 l)

  pub group_none : are_entries entries ≡ true → (g j : ℕ) → g < 48 → j < 16 → group_of entries g ≡ 0 → get_or entries (16 * g + j) (pos 0) ≡ pos 0
  group_none t g j h i z =
      no_bits (get_or entries (16 * g + j) (pos 0)) (entry_at_holds t (16 * g + j) (omega arith))
      (let q = together_most (λ k. bits_at entries (16 * g + k)) 16 j i in omega arith)

  at_place : (k : ℕ) → (f : ℕ → ℕ) → f (16 * (k / 16) + k % 16) < 2 → f k < 2
  at_place k f h = subst (λ (i : ℕ). f i < 2) (let q : 16 * (k / 16) + k % 16 ≡ k = omega arith in q) h

  pub tested : Held entries 0 768 → ltb (together (group_of entries) 48) 2 ≡ are_entries entries
  tested m =
      iff (ltb (together (group_of entries) 48) 2) (are_entries entries)
      (λ t. all_of (length entries) (λ k. within (pos 1) (get_or entries k (pos 0))) (λ k h. one (ltb→lt (together (group_of entries) 48) 2 t) k (omega arith)))
      (λ t. lt→ltb (together (group_of entries) 48) 2 (together_small (group_of entries) 48 (each_small t)))
    where
      one : together (group_of entries) 48 < 2 → (k : ℕ) → k < 768 → T (within (pos 1) (get_or entries k (pos 0)))
      one u k h =
          let a = together_most (group_of entries) 48 (k / 16) (omega arith) in
          let b = together_most (λ j. bits_at entries (16 * (k / 16) + j)) 16 (k % 16) (omega arith) in
          bits_small (get_or entries k (pos 0)) (subst (λ (i : ℕ). mag (get_or entries i (pos 0)) < 2 ^ 31) (let q : 0 + k ≡ k = omega arith in q) (m.each k h))
          (at_place k (bits_at entries) (omega arith))

pub held_more : (entries : List ℤ) (g : ℕ) → Held entries 0 (16 * g) → Held entries (16 * g) 16 → Held entries 0 (16 * (g + 1))
held_more entries g a b = record { each = λ j h. elim (dec_le (16 * g) j) [ yes l ↦ after j h l | no l ↦ a.each j (omega arith) ] }
  where
    after : (j : ℕ) → j < 16 * (g + 1) → 16 * g ≤ j → mag (get_or entries (0 + j) (pos 0)) < 2 ^ 31
    after j h l = subst (λ (i : ℕ). mag (get_or entries i (pos 0)) < 2 ^ 31) (let q : 16 * g + (j - 16 * g) ≡ 0 + j = omega arith in q)
        (b.each (j - 16 * g) (omega arith))

pub held_begin : (entries : List ℤ) (k : ℕ) → Held entries k 0
held_begin entries k = record { each = λ j h. absurd (omega arith) }

pub held_next : (entries : List ℤ) (k n : ℕ) → Held entries k n → mag (get_or entries (k + n) (pos 0)) < 2 ^ 31 → Held entries k (n + 1)
held_next entries k n a m = record {
  each = λ j h. elim (ℕ_discrete j n)
      [ yes e ↦ subst (λ (i : ℕ). mag (get_or entries (k + i) (pos 0)) < 2 ^ 31) (sym e) m | no e ↦ a.each j (omega arith) ];
}

-- ---- the machine's bits of all of them together are those of the union
bits_lt : (z : ℤ) → mag z < 2 ^ 31 → of_z w32 z < 2 ^ 32
bits_lt (pos n) h = omega arith
bits_lt (negsuc n) h = omega arith

pub group_lt : (entries : List ℤ) (g : ℕ) → Held entries (16 * g) 16 → group_of entries g < 2 ^ 32
group_lt entries g m = together_lt 32 (λ j. bits_at entries (16 * g + j)) 16 (λ j h. bits_lt (get_or entries (16 * g + j) (pos 0)) (m.each j h))

-- ---- both tests of a trace: what the code's two give together
pub tested_both : (t : Trace) (entries : List ℤ) {a b u : Bool} → a ≡ in_ranges t → b ≡ are_entries entries → (a && b) ≡ u
    → (in_ranges t && are_entries entries) ≡ u
tested_both t entries p q e = rw (sym p, sym q) e
