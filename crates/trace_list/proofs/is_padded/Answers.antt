-- `trace_list::is_padded` meets its contract. The loop's invariant: `good` says it of the bytes passed. Assumes nothing.
use mathlib.Core.Path.{◌≡◌, ap, ◌∙◌}
use mathlib.Core.Bool.{◌&&◌}
use Prim.Native.Nat.{ℕ, ◌+◌, ◌*◌, ◌-◌}
use native.Mathlib.Omega.{arith}
use lib.Dec.{eqb}
use lib.ListN.{get_or, take, drop}
use lib.Seq.{get_or-take, get_or-drop}
use Rattle.laws.specs.Tests.{all_below}
use Rattle.trace_list.specs.Form.{is_unused}
use Rattle.trace_list.proofs.Tests.{padded_none, padded_more}
use Rattle.trace_list.proofs.is_padded.Goals as goal

pub loop-byte-init : goal.loop-byte-init
loop-byte-init c = padded_none c.args.used c.args.bytes.now _ (omega arith)

pub loop-byte-preserved : goal.loop-byte-preserved
loop-byte-preserved c =
    let l = c.loop-byte in
    let s = c.args in
    let b = s.bytes.now in
    let k = 3 * s.used in
    let j = l.byte-index in
    let there : get_or (take (192 - k) (drop k b)) j 0 ≡ get_or b (k + j) 0 = get_or-take (192 - k) (drop k b) j 0 (omega arith) ∙ get_or-drop k b j 0 in
    let next : k + j + 1 ≡ k + (j + 1) = omega arith in
    ap (λ (x : ℕ). eqb x 0 && l.good) there ∙ padded_more s.used b (k + j) l.good (omega arith) l.invariant
    ∙ ap (λ (n : ℕ). all_below n (is_unused s.used b)) next

pub returns : goal.returns
returns c =
    let l = c.loop-byte in
    let s = c.args in
    let ended : 3 * s.used + l.byte-index ≡ 192 = omega arith in
    l.invariant ∙ ap (λ (n : ℕ). all_below n (is_unused s.used s.bytes.now)) ended
