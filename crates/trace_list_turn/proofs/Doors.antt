-- What `list_of` and `flat_of` return: one law for each return. Assumes nothing.
use mathlib.Core.Path.{◌≡◌, sym, ap, subst, ◌∙◌}
use mathlib.Core.Bool.{Bool, true, false, ◌&&◌}
use mathlib.Core.List.{List}
use Prim.Native.Nat.{ℕ, ◌<◌, ◌≤◌}
use borrow.Author.Tests.{eq-eqb, ne_eqb, le-leb, lt-leb}
use lib.IntN.{ℤ}
use lib.ListN.{length}
use Rattle.refusal.specs.declared.Refusal.TheVariants as R
use Rattle.bits.specs.Bitboard.{how_many}
use Rattle.trace_counts.specs.Ranges.{in_ranges, are_entries}
use Rattle.trace_counts.specs.declared.Trace.{Trace}
use Rattle.trace_list.specs.Form.{is_one_rule, is_list, list_places, ones_in, list_bytes, flat_of}
use Rattle.trace_list.proofs.Ones.{ones_count}
use Rattle.trace_list_turn.specs.Promises.{ListsTrace, Flattens}
use Rattle.std.specs.Prelude.{Ok, Err}

pub counted : (entries : List ℤ) {n : ℕ} → n ≡ how_many 768 (is_one_rule entries) → n ≡ length (ones_in entries)
unfolding ones_in
counted entries e = e ∙ sym (ones_count (is_one_rule entries) 768)

module _ (t : Trace) (es : List ℤ) (bytes : List ℕ) where
  pub unlike : (length es ≡ 768 → ⊥) → ListsTrace t es bytes (Err R.Shape) bytes
  unlike n = record { answer = rw (ne_eqb (length es) 768 n); lent = rw (ne_eqb (length es) 768 n) }

  pub no_trace_holds : length es ≡ 768 → (in_ranges t && are_entries es) ≡ false → ListsTrace t es bytes (Err R.Trace) bytes
  no_trace_holds e u = record { answer = simp (eq-eqb (length es) 768 e, u); lent = simp (eq-eqb (length es) 768 e, u) }

  pub too_many : length es ≡ 768 → (in_ranges t && are_entries es) ≡ true → 64 < length (ones_in es) → ListsTrace t es bytes (Err R.Entry) bytes
  too_many e u h = record {
    answer = simp (eq-eqb (length es) 768 e, u, lt-leb (length (ones_in es)) 64 h);
    lent =
        simp (eq-eqb (length es) 768 e, u, lt-leb (length (ones_in es)) 64 h);
  }

  pub made : length es ≡ 768 → (in_ranges t && are_entries es) ≡ true → {n : ℕ} → n ≡ length (ones_in es) → n ≤ 64 → {after : List ℕ}
      → after ≡ list_bytes (ones_in es) → ListsTrace t es bytes (Ok n) after
  made e u {n} q h a =
      let few : length (ones_in es) ≤ 64 = subst (λ (m : ℕ). m ≤ 64) q h in
      record {
        answer = simp (eq-eqb (length es) 768 e, u, le-leb (length (ones_in es)) 64 few, q);
        lent =
            simp (eq-eqb (length es) 768 e, u, le-leb (length (ones_in es)) 64 few) a;
      }

module _ (t : Trace) (used : ℕ) (bytes : List ℕ) (es : List ℤ) where
  pub flat_unlike : (length es ≡ 768 → ⊥) → Flattens t used bytes es (Err R.Shape) es
  flat_unlike n = record { answer = rw (ne_eqb (length es) 768 n); lent = rw (ne_eqb (length es) 768 n) }

  pub flat_no_trace : length es ≡ 768 → {a : Bool} → a ≡ in_ranges t → a ≡ false → Flattens t used bytes es (Err R.Trace) es
  flat_no_trace e q u = record { answer = simp (eq-eqb (length es) 768 e, sym q ∙ u); lent = simp (eq-eqb (length es) 768 e, sym q ∙ u) }

  pub flat_no_list : length es ≡ 768 → {a b : Bool} → a ≡ in_ranges t → a ≡ true → b ≡ is_list used bytes → b ≡ false
      → Flattens t used bytes es (Err R.Entry) es
  flat_no_list e q u l v = record {
    answer = simp (eq-eqb (length es) 768 e, sym q ∙ u, sym l ∙ v);
    lent =
        simp (eq-eqb (length es) 768 e, sym q ∙ u, sym l ∙ v);
  }

  pub flattened : length es ≡ 768 → {a b : Bool} → a ≡ in_ranges t → a ≡ true → b ≡ is_list used bytes → b ≡ true → {n : ℕ} {after : List ℤ} → n ≡ used
      → after ≡ flat_of (list_places bytes n)
      → Flattens t used bytes es (Ok tt) after
  flattened e q u l v {n} {after} i o =
      let here : after ≡ flat_of (list_places bytes used) = o ∙ ap (λ (m : ℕ). flat_of (list_places bytes m)) i in
      record { answer = simp (eq-eqb (length es) 768 e, sym q ∙ u, sym l ∙ v, here); lent = simp (eq-eqb (length es) 768 e, sym q ∙ u, sym l ∙ v) here }
