-- What is put is the sample of what `compute_list` answers. Assumes nothing.
use mathlib.Core.Path.{◌≡◌, refl, sym, ap, ◌∙◌}
use mathlib.Core.List.{List, []}
use Prim.Native.Nat.{ℕ, ◌≤◌}
use native.Mathlib.Omega.{arith}
use lib.ListN.{length, length-append}
use Rattle.refusal.specs.Answer.{Answer, given, refused}
use Rattle.refusal.specs.declared.Refusal.{Refusal}
use Rattle.position.specs.declared.State.{State}
use Rattle.position.proofs.Doors.{through}
use Rattle.score_material.specs.Pieces.{pieces}
use Rattle.trace_counts.specs.declared.Trace.{Trace}
use Rattle.trace.specs.Trace.{trace_of, entries_of}
use Rattle.trace.specs.Promises.{paper_of, trace_from}
use Rattle.trace_list.specs.Form.{ones_in, list_bytes}
use Rattle.trace_list.proofs.Bytes.{bytes_length}
use Rattle.trace_list_computed.specs.Promises.{list_traced_of, used_after, list_after, ComputesList}
use Rattle.trace_list_computed.specs.declared.ListTraced.{ListTraced}
use Rattle.fit_sample.specs.Sample.{number_bytes, entry_bytes, sample_by, sample_of}
use Rattle.fit_sample.proofs.Parts.{numbers_104, entries_long}
use Rattle.std.specs.Prelude.{Result, Ok, Err}

listed_192 : (a : Answer Trace) (bbs before : List ℕ) → length before ≡ 192 → length (list_after a bbs before) ≡ 192
listed_192 (given t) bbs before h = bytes_length (ones_in (entries_of bbs))
listed_192 (refused n l) bbs before h = h

-- a trace that is given is the position's
twelve : (bbs board : List ℕ) (state : State) (t : Trace) → given t ≡ list_traced_of bbs board state → length t.mobility ≡ 12
unfolding trace_of
twelve bbs board state t e =
    let same : given (trace_of bbs state.side) ≡ given t = (through bbs board state (given (trace_of bbs state.side)) t (sym e)).1 in
    sym (ap (λ (a : Answer Trace). length (trace_from a).mobility) same)

module _ (bbs board : List ℕ) (state : State) (half : ℕ) (before : List ℕ) (r : ListTraced) (after : List ℕ)
    (h : ComputesList bbs board state before r after) where
  -- whatever it answers, the list is as long as it was
  pub list_long : length before ≡ 192 → length after ≡ 192
  list_long e = ap length h.lent ∙ listed_192 (list_traced_of bbs board state) bbs before e

  pub sample_none : (q : Refusal) → r.checked ≡ Err q → [] ≡ sample_of bbs board state half
  unfolding sample_of
  sample_none q e =
      ap (λ (a : Answer Trace). sample_by a (pieces bbs) half (list_bytes (ones_in (entries_of bbs))))
      (ap (λ (k : Result Unit Refusal). paper_of k r.trace) (sym e) ∙ h.answer)

  module _ (fit : r.checked ≡ Ok tt) where
    answered : given r.trace ≡ list_traced_of bbs board state
    answered = ap (λ (k : Result Unit Refusal). paper_of k r.trace) (sym fit) ∙ h.answer

    pub sample_some : sample_by (given r.trace) r.used half after ≡ sample_of bbs board state half
    unfolding sample_of
    sample_some =
        ap (λ (u : ℕ). sample_by (given r.trace) u half after) (h.used ∙ ap (λ (a : Answer Trace). used_after a bbs) (sym answered))
        ∙ ap (sample_by (given r.trace) (pieces bbs) half) (h.lent ∙ ap (λ (a : Answer Trace). list_after a bbs before) (sym answered))
        ∙ ap (λ (a : Answer Trace). sample_by a (pieces bbs) half (list_bytes (ones_in (entries_of bbs)))) answered

    pub mobility_12 : length r.trace.mobility ≡ 12
    mobility_12 = twelve bbs board state r.trace answered

-- ---- 300 bytes
pub sample_300 : (t : Trace) (used half : ℕ) (list : List ℕ) → length t.mobility ≡ 12 → length list ≡ 192 → length (sample_by (given t) used half list) ≡ 300
sample_300 t used half list m l =
    omega (arith, length-append (number_bytes t) (entry_bytes used half list), numbers_104 t m, entries_long used half list)

-- of any position: a whole sample, or nothing
pub sample_most : (bbs board : List ℕ) (state : State) (half : ℕ) → length (sample_of bbs board state half) ≤ 300
unfolding sample_of
sample_most bbs board state half = go (list_traced_of bbs board state) refl
  where
    list : List ℕ
    list = list_bytes (ones_in (entries_of bbs))

    go : (a : Answer Trace) → a ≡ list_traced_of bbs board state → length (sample_by a (pieces bbs) half list) ≤ 300
    go (given t) e = let h = sample_300 t (pieces bbs) half list (twelve bbs board state t e) (bytes_length (ones_in (entries_of bbs))) in omega arith
    go (refused n v) e = omega arith
