-- `abi_lists::chess_list_eval` meets its contract. Assumes nothing.
use mathlib.Core.Path.{◌≡◌, refl, ap, ◌∙◌}
use mathlib.Core.List.{List}
use lib.Ieee.{Float}
use Prim.Native.Nat.{ℕ}
use mir.Syntax.{w32}
use mir.ValLaws.{to_z-of_z}
use Rattle.refusal.specs.Answer.{Answer, answered}
use Rattle.trace_counts.specs.declared.Trace.{Trace}
use Rattle.trace_counts.specs.declared.Weights.{Weights}
use Rattle.trace_list_double.specs.Promises.{list_double_of}
use Rattle.abi_records.specs.Records.{trace_of_numbers, weights_of}
use Rattle.abi_codes.proofs.Passed.{met, door_passed}
use Rattle.abi_records.proofs.Read.{trace_same}
use Rattle.abi_lists.proofs.chess_list_eval.Goals as goal

-- the records that the call was handed are those of the lent numbers
lent : (n : ℕ) (l : List ℕ) (q : List Float) (t u : Trace) (w v : Weights) {r : Answer Float} → r ≡ list_double_of t n l w q → t ≡ u → w ≡ v
    → r ≡ list_double_of u n l v q
lent n l q t u w v p f g = p ∙ ap (λ (x : Trace). list_double_of x n l w q) f ∙ ap (λ (x : Weights). list_double_of u n l x q) g

pub returns-in-Err : goal.returns-in-Err
returns-in-Err c =
    let handed : answered c.eval_list-answer.result ≡ list_double_of (trace_of_numbers c.args.counts.now c.args.mobility.now c.args.sign c.args.pieces) c.args.used c.args.list.now (weights_of c.args.weights.now) c.args.squares.now =
    let a = c.args in
    lent a.used a.list.now a.squares.now c.trace_of-trace.result
    (trace_of_numbers a.counts.now a.mobility.now a.sign a.pieces)
    c.weights_of-named.result (weights_of a.weights.now) c.eval_list-answer.ensures
    (c.trace_of-trace.ensures
    ∙ trace_same refl refl refl refl refl refl refl (to_z-of_z w32 a.sign c.ranges.sign) (to_z-of_z w32 a.pieces c.ranges.pieces))
    c.weights_of-named.ensures in
    door_passed (met answered handed c.in-Err.is) c.refused.ensures refl

pub returns-in-Ok : goal.returns-in-Ok
returns-in-Ok c =
    let handed : answered c.eval_list-answer.result ≡ list_double_of (trace_of_numbers c.args.counts.now c.args.mobility.now c.args.sign c.args.pieces) c.args.used c.args.list.now (weights_of c.args.weights.now) c.args.squares.now =
    let a = c.args in
    lent a.used a.list.now a.squares.now c.trace_of-trace.result
    (trace_of_numbers a.counts.now a.mobility.now a.sign a.pieces)
    c.weights_of-named.result (weights_of a.weights.now) c.eval_list-answer.ensures
    (c.trace_of-trace.ensures
    ∙ trace_same refl refl refl refl refl refl refl (to_z-of_z w32 a.sign c.ranges.sign) (to_z-of_z w32 a.pieces c.ranges.pieces))
    c.weights_of-named.ensures in
    door_passed (met answered handed c.in-Ok.is) refl refl
