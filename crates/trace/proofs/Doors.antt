-- What `compute_trace` returns: one law for each return. Assumes nothing.
use mathlib.Core.Path.{◌≡◌, sym, ap, ◌∙◌}
use mathlib.Core.Bool.{Bool, true}
use mathlib.Core.List.{List}
use Prim.Native.Nat.{ℕ, ◌<◌}
use lib.IntN.{ℤ, pos}
use lib.ListN.{length, get_or}
use borrow.Author.Tests.{eq-eqb, ne_eqb}
use Rattle.refusal.specs.Answer.{Answer, given, or_refuse, refusal_of}
use Rattle.refusal.specs.declared.Refusal.{Refusal}
use Rattle.refusal.specs.declared.Refusal.TheVariants as R
use Rattle.bits.specs.Bitboard.{squares}
use Rattle.attack.specs.Attacks.{occupied}
use Rattle.position_consistent.specs.Consistent.{consistent}
use Rattle.position.specs.Checked.{checked}
use Rattle.position.specs.declared.State.{State}
use Rattle.trace_counts.specs.declared.Trace.{Trace}
use Rattle.trace.specs.Trace.{mobility_of, trace_of}
use Rattle.trace.specs.PrivateMarked.{marked, trace_with, refused_with}
use Rattle.trace.specs.Promises.{traced_of, paper, trace_from, entries_after, Traces}
use Rattle.trace.proofs.Planes.{marked_is}
use Rattle.trace.specs.declared.Traced.{Traced}
use Rattle.std.specs.Prelude.{Ok}

-- a refusal, with no trace and the entries as they were
module _ (bbs bytes : List ℕ) (state : State) (entries : List ℤ) where
  abbrev rest : Answer Trace
  rest = checked bbs bytes state (given (trace_of bbs state.side))

  abbrev after : Answer Trace → List ℤ
  after a = entries_after a bbs entries

  refuses : (r : Traced) (q : Refusal) → r ≡ refused_with q → refusal_of q ≡ traced_of bbs bytes state entries → Traces bbs bytes state entries r entries
  refuses r q c e = (ap paper c ∙ e, ap (λ (t : Traced). t.trace) c ∙ ap trace_from e, ap after e)

  pub wrong_entries : (r : Traced) → (length entries ≡ 768 → ⊥) → r ≡ refused_with R.Shape → Traces bbs bytes state entries r entries
  wrong_entries r n c = refuses r R.Shape c (sym (ap (λ (b : Bool). or_refuse b R.Shape rest) (ne_eqb (length entries) 768 n)))

  right : length entries ≡ 768 → rest ≡ traced_of bbs bytes state entries
  right e = sym (ap (λ (b : Bool). or_refuse b R.Shape rest) (eq-eqb (length entries) 768 e))

  pub passed_on : (r : Traced) (q : Refusal) → length entries ≡ 768 → refusal_of q ≡ rest → r ≡ refused_with q → Traces bbs bytes state entries r entries
  passed_on r q e p c = refuses r q c (p ∙ right e)

  pub traced : (t : Trace) (occ : ℕ) (mobility : List ℤ) (blank last : List ℤ) → length entries ≡ 768 → consistent bbs bytes ≡ true
      → given (trace_of bbs state.side) ≡ rest
      → mobility ≡ mobility_of bbs → t ≡ trace_with bbs state.side mobility → length blank ≡ 768 → ((i : ℕ) → i < 768 → get_or blank i (pos 0) ≡ pos 0)
      → occ ≡ occupied bbs
      → last ≡ marked bytes blank (squares occ) → Traces bbs bytes state entries (record { checked = Ok tt; trace = t }) last
  unfolding trace_of
  traced t occ mobility blank last e f p em t-is l z eo m =
      let a : given (trace_of bbs state.side) ≡ traced_of bbs bytes state entries = p ∙ right e in
      let d : t ≡ trace_of bbs state.side = t-is ∙ ap (trace_with bbs state.side) em in
      (ap given d ∙ a, d ∙ ap trace_from a, m ∙ ap (λ (b : ℕ). marked bytes blank (squares b)) eo ∙ marked_is bbs bytes blank f l z ∙ ap after a)
