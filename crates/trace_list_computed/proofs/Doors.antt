-- What `compute_list` returns: one law for each return. Assumes nothing.
use mathlib.Core.Path.{◌≡◌, ap, ◌∙◌}
use mathlib.Core.Bool.{true}
use mathlib.Core.List.{List}
use Prim.Native.Nat.{ℕ}
use lib.IntN.{ℤ}
use lib.ListN.{length}
use Rattle.refusal.specs.Answer.{Answer, given, refusal_of}
use Rattle.refusal.specs.declared.Refusal.{Refusal}
use Rattle.position_consistent.specs.Consistent.{consistent}
use Rattle.position.specs.declared.State.{State}
use Rattle.trace_counts.specs.declared.Trace.{Trace}
use Rattle.trace.specs.Trace.{trace_of, entries_of, mobility_of}
use Rattle.trace.specs.PrivateMarked.{trace_with}
use Rattle.trace.specs.Promises.{paper_of, trace_from}
use Rattle.trace_list.specs.Form.{ones_in, list_bytes}
use Rattle.trace_list_computed.specs.PrivateWalk.{refused_list}
use Rattle.trace_list_computed.specs.Promises.{list_traced_of, used_after, list_after, ComputesList}
use Rattle.trace_list_computed.specs.declared.ListTraced.{ListTraced}
use Rattle.trace_list_computed.proofs.Sums.{ones_are_pieces}
use Rattle.std.specs.Prelude.{Ok}

module _ (bbs board : List ℕ) (state : State) (before : List ℕ) where
  abbrev answer : Answer Trace
  answer = list_traced_of bbs board state

  pub refuses : (r : ListTraced) (q : Refusal) → refusal_of q ≡ list_traced_of bbs board state → r ≡ refused_list q → ComputesList bbs board state before r before
  refuses r q e c =
      record {
        answer = ap (λ (t : ListTraced). paper_of t.checked t.trace) c ∙ e;
        trace = ap (λ (t : ListTraced). t.trace) c ∙ ap trace_from e;
        used = ap (λ (t : ListTraced). t.used) c ∙ ap (λ (a : Answer Trace). used_after a bbs) e;
        lent = ap (λ (a : Answer Trace). list_after a bbs before) e;
      }

  pub computed : (t : Trace) (mobility : List ℤ) (n : ℕ) (after : List ℕ) → consistent bbs board ≡ true
      → given (trace_of bbs state.side) ≡ list_traced_of bbs board state
      → mobility ≡ mobility_of bbs → t ≡ trace_with bbs state.side mobility → n ≡ length (ones_in (entries_of bbs)) → after ≡ list_bytes (ones_in (entries_of bbs))
      → ComputesList bbs board state before (record { checked = Ok tt; trace = t; used = n }) after
  unfolding trace_of
  computed t mobility n after c a em et en ea =
      let d : t ≡ trace_of bbs state.side = et ∙ ap (trace_with bbs state.side) em in
      record {
        answer = ap given d ∙ a;
        trace = d ∙ ap trace_from a;
        used = en ∙ ones_are_pieces bbs board c ∙ ap (λ (x : Answer Trace). used_after x bbs) a;
        lent = ea ∙ ap (λ (x : Answer Trace). list_after x bbs before) a;
      }
