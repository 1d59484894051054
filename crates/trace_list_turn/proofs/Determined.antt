-- Each public function is determined by its promise: two results and memories that it allows are equal. Assumes nothing.
use mathlib.Core.Path.{◌≡◌, refl, sym, ap, ◌∙◌}
use mathlib.Core.List.{List}
use Prim.Native.Nat.{ℕ}
use lib.IntN.{ℤ}
use Rattle.refusal.proofs.Paper.{one, read_back_rule, number_back, answered_one}
use Rattle.trace_counts.specs.declared.Trace.{Trace}
use Rattle.trace_list_turn.specs.Promises.{ListsTrace, flattened_paper, Flattens}
use Rattle.std.specs.Prelude.{Result, Ok, Err}
use Rattle.refusal.specs.declared.Refusal.{Refusal}

-- ---- from flat to list
pub list_of : (t : Trace) (entries : List ℤ) (before : List ℕ) (r s : Result ℕ Refusal) (after last : List ℕ) → ListsTrace t entries before r after
    → ListsTrace t entries before s last
    → (r ≡ s) × (after ≡ last)
list_of t entries before r s after last p q = (
  answered_one p.answer q.answer,
  one p.lent q.lent,
)

-- ---- from list to flat
abbrev done : List ℤ → Result Unit Refusal
done entries = Ok tt

flat : (r : Result Unit Refusal) (after : List ℤ) → read_back_rule done Err (flattened_paper r after) ≡ r
flat (Ok tt) after = refl
flat (Err q) after = ap Err (number_back q)

pub flat_of_holds : (t : Trace) (used : ℕ) (bytes : List ℕ) (before : List ℤ) (r s : Result Unit Refusal) (after last : List ℤ) → Flattens t used bytes before r after
    → Flattens t used bytes before s last → (r ≡ s) × (after ≡ last)
flat_of_holds t used bytes before r s after last p q =
    (sym (flat r after) ∙ ap (read_back_rule done Err) (one p.answer q.answer) ∙ flat s last, one p.lent q.lent)
