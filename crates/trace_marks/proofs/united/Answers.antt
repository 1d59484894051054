-- `trace_marks::united` meets its contract. The loop's invariant: the first j entries of the group are in. Assumes nothing.
use mathlib.Core.Path.{◌≡◌, sym, ap, subst, ◌∙◌}
use Prim.Native.Nat.{◌+◌, ◌*◌, ◌-◌, ◌^◌, ◌<◌}
use native.Mathlib.Omega.{arith}
use borrow.Author.Rules.{rules}
use lib.Bits.{bit_or, or_lt}
use lib.IntN.{ℤ, pos}
use lib.Signed.{mag}
use lib.ListN.{get_or, take, drop}
use lib.Seq.{get_or-take, get_or-drop}
use mir.Syntax.{w32}
use mir.Val.{Fits, SFits, of_z}
use mir.ValLaws.{of_z-to_z}
use Rattle.std.proofs.Math.Facts.{Fits-of_z}
use Rattle.trace_marks.specs.Marks.{bits_at, together}
use Rattle.trace_marks.proofs.Marks.{together_none, together_next}
use Rattle.trace_marks.proofs.Tested.{held_begin, held_next}
use Rattle.trace_marks.proofs.united.Goals as goal

pub loop-entry-init : goal.loop-entry-init
loop-entry-init c =
    let a = c.args in
    (together_none (λ i. bits_at a.entries.now (16 * a.group + i)), held_begin a.entries.now (16 * a.group))

pub loop-entry-preserved : goal.loop-entry-preserved
loop-entry-preserved c =
    let l = c.loop-entry in
    let e = c.args.entries.now in
    let k = 16 * c.args.group in
    let j = l.entry-index in
    let z = get_or (take (k + 16 - k) (drop k e)) j (pos 0) in
    let there : z ≡ get_or e (k + j) (pos 0) = get_or-take (k + 16 - k) (drop k e) j (pos 0) (omega arith) ∙ get_or-drop k e j (pos 0) in
    let f : SFits w32 z = search rules in
    let u : Fits w32 l.union-bits = search rules in
    let more : bit_or l.union-bits (of_z w32 z) < 2 ^ 32 = or_lt 32 l.union-bits (of_z w32 z) u.fits (Fits-of_z f).fits in
    let is : bit_or l.union-bits (of_z w32 z) ≡ together (λ i. bits_at e (k + i)) (j + 1) =
    together_next (λ i. bits_at e (k + i)) j (sym (of_z-to_z w32 l.union-bits u) ∙ l.invariant.0) (ap (of_z w32) there) in (
      of_z-to_z w32 (bit_or l.union-bits (of_z w32 z)) (record { fits = more }) ∙ is,
      held_next e k j l.invariant.1 (subst (λ (y : ℤ). mag y < 2 ^ 31) there f.sfits),
    )
