-- `trace_list_turn::fill` meets its contract. The loop's invariant: the bytes are those of the ones passed, and `n` is how many they are. Assumes nothing.
use mathlib.Core.Path.{◌≡◌, ap, ◌∙◌}
use Prim.Native.Nat.{ℕ, ◌<◌}
use native.Mathlib.Omega.{arith}
use Rattle.trace_list.specs.Ones.{ones}
use Rattle.trace_list.specs.Form.{is_one_rule, list_bytes, ones_in}
use Rattle.trace_list_turn.proofs.Ways.{bytes_start, length_start, room, tested, length_yes, length_no, bytes_yes, bytes_no}
use Rattle.trace_list_turn.proofs.fill.Goals as goal
use Rattle.trace_list_turn.proofs.fill.Goals.{then-is_one, else-is_one}

pub loop-k-init : goal.loop-k-init
loop-k-init c =
    let f = is_one_rule c.args.entries.now in
    (omega arith, length_start f, bytes_start f c.requires.2)

pub put-requires : goal.put-requires
put-requires c =
    let l = c.loop-k in
    let es = c.args.entries.now in
    let h : l.k < 768 = omega arith in
    let q = tested es l.k c.is_one-arg-1.given c.is_one.ensures c.if-is_one.true in
    (room (is_one_rule es) l.k h q c.requires.1 l.invariant.1, h)

pub loop-k-preserved : goal.loop-k-preserved
loop-k-preserved c =
    let l = c.loop-k in
    let es = c.args.entries.now in
    let h : l.k < 768 = omega arith in
    elim c.if-is_one.branch [
      | then-is_one w ↦
          let q = tested es l.k c.is_one-arg-1.given c.is_one.ensures w.if-is_one.true in
          let r = room (is_one_rule es) l.k h q c.requires.1 l.invariant.1 in
          rw (w.n-is, w.bytes-is) (omega arith, length_yes es l.k q l.invariant.1, w.put.ensures ∙ bytes_yes es l.k q l.invariant.1 r l.invariant.2)
      | else-is_one w ↦
          let q = tested es l.k c.is_one-arg-1.given c.is_one.ensures w.if-is_one.false in
          rw (w.n-is, w.bytes-is) (omega arith, length_no es l.k q l.invariant.1, bytes_no es l.k q l.invariant.2)
    ]

pub returns : goal.returns
unfolding ones_in
returns c =
    let l = c.loop-k in
    let s = c.args in
    let e : l.k ≡ 768 = omega arith in
    l.invariant.2 ∙ ap (λ (n : ℕ). list_bytes (ones (is_one_rule s.entries.now) n)) e
