-- How the answers about a list pass their doors. Assumes nothing.
use mathlib.Core.Path.{◌≡◌, refl, sym, ap, ◌∙◌, subst}
use mathlib.Core.List.{List}
use Prim.Native.Nat.{ℕ}
use lib.Ieee.{Float}
use lib.IntN.{ℤ}
use Rattle.refusal.specs.Answer.{Answer, given, refused, answered}
use Rattle.position.specs.declared.State.{State}
use Rattle.score_material.specs.Pieces.{pieces}
use Rattle.trace_counts.specs.declared.Trace.{Trace}
use Rattle.trace_list_turn.specs.Promises as T
use Rattle.trace_list_computed.specs.Promises.{list_traced_of, used_after, list_after}
use Rattle.fit_gradient.specs.Lists as L
use Rattle.abi_states.specs.States.{state_taken}
use Rattle.abi_states.specs.declared.State.{State as Stated}
use Rattle.abi_codes.specs.Codes.{answer_number, lent_after, Door, as_it_is}
use Rattle.abi_records.specs.Records.{counts_of_rule, trace_of_numbers}
use Rattle.abi_fits.proofs.Fitted.{sums_code, sums_after}
use Rattle.abi_lists.specs.Promises.{ListsTrace, ComputesTraceList}
use Rattle.abi_codes.specs.declared.Code.{Code}
use Rattle.std.specs.Prelude.{Result}
use Rattle.refusal.specs.declared.Refusal.{Refusal}

-- ---- from flat to list
pub list_passed : (counts mobility : List ℤ) (sign total : ℤ) {t : Trace} {entries : List ℤ} {used used' : ℕ} {list list' : List ℕ} {r x : Result ℕ Refusal} {n : Code}
    → T.ListsTrace t entries list r list' → t ≡ trace_of_numbers counts mobility sign total → r ≡ x → n ≡ answer_number (answered x)
    → used' ≡ lent_after as_it_is used (answered x)
    → ListsTrace counts mobility sign total entries used list n used' list'
list_passed counts mobility sign total {entries = entries} {used = used} {list = list} {list' = list'} {r = r} p e m h g =
    let q : T.ListsTrace (trace_of_numbers counts mobility sign total) entries list r list' = subst (λ (t : Trace). T.ListsTrace t entries list r list') e p in
    let a = sym (ap answered m) ∙ q.answer in
    record { code = h ∙ ap answer_number a; many = g ∙ ap (lent_after as_it_is used) a; lent = q.lent }

-- ---- from list to flat
flat_code : (r : Result Unit Refusal) (after : List ℤ) {a : Answer (List ℤ)} → T.flattened_paper r after ≡ a → answer_number (T.flattened_paper r after) ≡ answer_number a
flat_code r after e = ap answer_number e

flat_after : (a : Answer (List ℤ)) (old : List ℤ) → T.flat_after_rule a old ≡ lent_after as_it_is old a
flat_after (given es) old = refl
flat_after (refused n l) old = refl

pub flat_passed : {t u : Trace} {used : ℕ} {list : List ℕ} {old new : List ℤ} {r x : Result Unit Refusal} {n : Code} → T.Flattens t used list old r new → t ≡ u → r ≡ x
    → n ≡ answer_number (T.flattened_paper x new) → Door (T.flattened_of u used list old) as_it_is old n new
flat_passed {u = u} {used = used} {list = list} {old = old} {new = new} {r = r} p e m h =
    let q : T.Flattens u used list old r new = subst (λ (t : Trace). T.Flattens t used list old r new) e p in
    let a = T.flattened_of u used list old in
    record { code = h ∙ ap (λ (y : Result Unit Refusal). answer_number (T.flattened_paper y new)) (sym m) ∙ flat_code r new q.answer; lent = q.lent ∙ flat_after a old }

-- ---- the gradient
pub line_passed : {t u : Trace} {used : ℕ} {list : List ℕ} {c : Float} {old new : List Float} {r x : Result Unit Refusal} {n : Code}
    → L.AddsList t used list c old r new → t ≡ u → r ≡ x
    → n ≡ answer_number (answered x) → Door (L.list_added_of u used list c old) as_it_is old n new
line_passed {u = u} {used = used} {list = list} {c = c} {old = old} {new = new} {r = r} p e m h =
    let q : L.AddsList u used list c old r new = subst (λ (t : Trace). L.AddsList t used list c old r new) e p in
    let a = L.list_added_of u used list c old in
    record { code = h ∙ ap (λ (y : Result Unit Refusal). answer_number (answered y)) (sym m) ∙ ap answer_number q.answer ∙ sums_code a; lent = q.lent ∙ sums_after a old }

-- ---- a position's list
many_after : (a : Answer Trace) (bbs : List ℕ) (used used' n : ℕ) → n ≡ used_after a bbs → used' ≡ lent_after (λ (t : Trace). n) used a
    → used' ≡ lent_after (λ (t : Trace). pieces bbs) used a
many_after (given t) bbs used used' n e h = h ∙ e
many_after (refused m l) bbs used used' n e h = h

pub traced : (bbs bytes : List ℕ) (state : Stated) {taken : State} {counts mobility : List ℤ} {sign total : ℤ} {used : ℕ} {list : List ℕ}
    {x : Answer Trace} {n : Code} {counts' mobility' : List ℤ} {sign' total' : ℤ} {used' : ℕ} {list' : List ℕ} (m : ℕ)
    → taken ≡ state_taken state → x ≡ list_traced_of bbs bytes taken → n ≡ answer_number x → counts' ≡ lent_after counts_of_rule counts x
    → mobility' ≡ lent_after (λ (t : Trace). t.mobility) mobility x
    → sign' ≡ lent_after (λ (t : Trace). t.side) sign x → total' ≡ lent_after (λ (t : Trace). t.piece_count) total x
    → used' ≡ lent_after (λ (t : Trace). m) used x → m ≡ used_after (list_traced_of bbs bytes taken) bbs
    → list' ≡ list_after (list_traced_of bbs bytes taken) bbs list
    → ComputesTraceList bbs bytes state counts mobility sign total used list n counts' mobility' sign' total' used' list'
traced bbs bytes state {counts = counts} {mobility = mobility} {sign = sign} {total = total} {used = used} {list = list} {used' = used'} m t q h g o s p u v k =
    let e = q ∙ ap (list_traced_of bbs bytes) t in
    record {
      code = h ∙ ap answer_number e;
      counted = g ∙ ap (lent_after counts_of_rule counts) e;
      moved = o ∙ ap (lent_after (λ (t : Trace). t.mobility) mobility) e;
      turn = s ∙ ap (lent_after (λ (t : Trace). t.side) sign) e;
      whole = p ∙ ap (lent_after (λ (t : Trace). t.piece_count) total) e;
      many = many_after (list_traced_of bbs bytes (state_taken state)) bbs used used' m
          (v ∙ ap (λ (y : State). used_after (list_traced_of bbs bytes y) bbs) t) (u ∙ ap (lent_after (λ (t : Trace). m) used) e);
      lent = k ∙ ap (λ (y : State). list_after (list_traced_of bbs bytes y) bbs list) t;
    }
