-- The public function is determined by its promise: two results and memories that it allows are equal. Assumes nothing.
use mathlib.Core.Path.{◌≡◌, refl, sym, ap, ap₂, ◌∙◌}
use mathlib.Core.List.{List}
use Prim.Native.Nat.{ℕ}
use Rattle.refusal.proofs.Paper.{one, read_back_rule, number_back}
use Rattle.position.specs.declared.State.{State}
use Rattle.trace_counts.specs.declared.Trace.{Trace}
use Rattle.trace.specs.Promises.{paper_of}
use Rattle.trace_list_computed.specs.Promises.{ComputesList}
use Rattle.trace_list_computed.specs.declared.ListTraced.{ListTraced}
use Rattle.std.specs.Prelude.{Result, Ok, Err}
use Rattle.refusal.specs.declared.Refusal.{Refusal}

-- ---- the test's outcome is read off the answer
abbrev fit : Trace → Result Unit Refusal
fit t = Ok tt

back : (c : Result Unit Refusal) (t : Trace) → read_back_rule fit Err (paper_of c t) ≡ c
back (Ok tt) t = refl
back (Err q) t = ap Err (number_back q)

abbrev all : Result Unit Refusal → Trace → ℕ → ListTraced
all c t n = record { checked = c; trace = t; used = n }

pub compute_list : (bbs board : List ℕ) (state : State) (before : List ℕ) (r s : ListTraced) (after last : List ℕ) → ComputesList bbs board state before r after
    → ComputesList bbs board state before s last → (r ≡ s) × (after ≡ last)
compute_list bbs board state before r s after last p q =
    let c : r.checked ≡ s.checked = sym (back r.checked r.trace) ∙ ap (read_back_rule fit Err) (one p.answer q.answer)
    ∙ back s.checked s.trace in (
      ap₂ (λ (x : Result Unit Refusal) (y : Trace). all x y r.used) c (one p.trace q.trace)
          ∙ ap (all s.checked s.trace) (one p.used q.used),
      one p.lent q.lent,
    )
