-- `trace_marks::tested_groups` meets its contract. The loop's invariant: the first g groups are in. Assumes nothing.
use mathlib.Core.Path.{◌≡◌, sym, ap, subst, ◌∙◌}
use Prim.Native.Nat.{ℕ, ◌*◌, ◌^◌, ◌<◌}
use native.Mathlib.Omega.{arith}
use borrow.Author.Rules.{rules}
use lib.Bits.{bit_or, or_lt}
use lib.Dec.{ltb}
use mir.Syntax.{w32}
use mir.Val.{Fits, of_z}
use mir.ValLaws.{of_z-to_z}
use Rattle.trace_marks.specs.Marks.{Held, together, group_of, mark_of, groups_of}
use Rattle.trace_marks.proofs.Marks.{together_none, together_next, row_none, row_next}
use Rattle.trace_marks.proofs.Tested.{tested, held_begin, held_more, group_lt}
use Rattle.trace_marks.proofs.tested_groups.Goals as goal

pub loop-g-init : goal.loop-g-init
loop-g-init c = let e = c.args.entries.now in (together_none (group_of e), row_none (λ g. mark_of (group_of e g)), held_begin e 0, omega arith)

pub loop-g-preserved : goal.loop-g-preserved
loop-g-preserved c =
    let l = c.loop-g in
    let e = c.args.entries.now in
    let u = c.united-here in
    let h = u.ensures.1 in
    let w : Fits w32 l.union-bits = search rules in
    let was = sym (of_z-to_z w32 l.union-bits w) in
    let lt : of_z w32 u.result < 2 ^ 32 = subst (λ (n : ℕ). n < 2 ^ 32) (sym u.ensures.0) (group_lt e l.g h) in
    let less : bit_or l.union-bits (of_z w32 u.result) < 2 ^ 32 = or_lt 32 l.union-bits (of_z w32 u.result) w.fits lt in
    let now = of_z-to_z w32 (bit_or l.union-bits (of_z w32 u.result)) (record { fits = less }) in (
      now ∙ together_next (group_of e) l.g (was ∙ l.invariant.0) u.ensures.0,
      row_next (λ g. mark_of (group_of e g)) l.g l.invariant.1 (c.mark.ensures
          ∙ ap mark_of (of_z-to_z w32 (of_z w32 u.result) (record { fits = lt }) ∙ u.ensures.0)),
      held_more e l.g l.invariant.2 h,
      subst (λ (n : ℕ). n < 2 ^ 32) (sym now) less,
    )

pub returns : goal.returns
returns c =
    let l = c.loop-g in
    let e = c.args.entries.now in
    let ended : l.g ≡ 48 = omega arith in
    let all = l.invariant.0 ∙ ap (together (group_of e)) ended in (
      c.is_entry.ensures ∙ ap (λ (n : ℕ). ltb n 2) all
          ∙ tested e c.requires (subst (λ (g : ℕ). Held e 0 (16 * g)) ended l.invariant.2),
      l.invariant.1 ∙ ap (groups_of e) ended,
    )
