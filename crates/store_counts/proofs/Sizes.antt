-- A summary or a record of another size leaves the summary alone; of their sizes, the record is counted or taken off. Assumes nothing.
use Rattle.std.proofs.Common.{◌≡◌, ℕ, ◌+◌, ◌%◌, ◌^◌, Bool, cond, ◌&&◌, eqb, List, length, get_or, sym, ap, ◌∙◌, ap₂, eq-eqb, ne_eqb}
use mathlib.Core.Bool.{and-false}
use Rattle.laws.proofs.Tables.{tabulate_length}
use Rattle.store_record.specs.Record.{half_in}
use Rattle.store_counts.specs.Summary.{wraps_off, moved_by, summary_moved, summary_more, summary_less}
use Rattle.store_counts.specs.Promises.{if_sized}

module _ (summary bytes moved : List ℕ) where
  pub not_770 : (length summary ≡ 770 → ⊥) → summary ≡ if_sized summary bytes moved
  not_770 n = sym (ap (λ (t : Bool). cond (t && eqb (length bytes) 34) moved summary) (ne_eqb (length summary) 770 n))

  pub not_34 : (length bytes ≡ 34 → ⊥) → summary ≡ if_sized summary bytes moved
  not_34 n =
      sym (ap (λ (t : Bool). cond (eqb (length summary) 770 && t) moved summary) (ne_eqb (length bytes) 34 n)
      ∙ ap (λ (t : Bool). cond t moved summary) (and-false (eqb (length summary) 770)))

  pub sized : length summary ≡ 770 → length bytes ≡ 34 → moved ≡ if_sized summary bytes moved
  sized m n = sym (ap₂ (λ (s t : Bool). cond (s && t) moved summary) (eq-eqb (length summary) 770 m) (eq-eqb (length bytes) 34 n))

module _ (summary bytes : List ℕ) (m : length summary ≡ 770) (n : length bytes ≡ 34) (summary' : List ℕ) (points : ℕ) where
  pub counted_more : points ≡ half_in bytes → summary' ≡ summary_moved summary 1 points bytes → summary' ≡ if_sized summary bytes (summary_more summary bytes)
  counted_more q e = e ∙ ap (λ (x : ℕ). summary_moved summary 1 x bytes) q ∙ sized summary bytes (summary_more summary bytes) m n

  pub counted_less : points ≡ wraps_off (half_in bytes) → summary' ≡ summary_moved summary 0xffffffffffffffff points bytes
      → summary' ≡ if_sized summary bytes (summary_less summary bytes)
  counted_less q e = e ∙ ap (λ (x : ℕ). summary_moved summary 0xffffffffffffffff x bytes) q ∙ sized summary bytes (summary_less summary bytes) m n

-- a summary with a record more or less is 770 numbers too
pub moved_770 : (s : List ℕ) (once points : ℕ) (bytes : List ℕ) → length (summary_moved s once points bytes) ≡ 770
unfolding summary_moved
moved_770 s once points bytes = tabulate_length 770 (λ place. (get_or s place 0 + moved_by once points bytes place) % 2 ^ 64)
