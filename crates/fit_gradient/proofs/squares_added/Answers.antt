-- `fit_gradient::squares_added` meets its contract. The loop's invariant: the sums are those of the groups up to the next that has a 1.
-- Assumes nothing.
use mathlib.Core.Path.{◌≡◌, sym, ap, ◌∙◌}
use mathlib.Core.List.{List, ◌∷◌}
use Prim.Native.Nat.{◌+◌, ◌*◌, ◌<◌}
use native.Mathlib.Omega.{arith}
use lib.Ieee.{Float}
use lib.ListN.{length}
use Rattle.bits.specs.Bitboard.{squares}
use Rattle.bits.specs.Answers.{lowest}
use Rattle.bits.proofs.Each.{next_at, next_fits, next_done}
use Rattle.trace_marks.specs.Marks.{group_of, mark_of, fold_from}
use Rattle.trace_marks.proofs.Marks.{mark_small, mark_none}
use Rattle.trace_marks.proofs.Tested.{group_none}
use Rattle.trace_marks.proofs.Walk as walk
use Rattle.trace_marks.proofs.Folds as folds
use Rattle.fit_gradient.specs.Marks.{entry_by}
use Rattle.fit_gradient.proofs.Marks.{nothing, from_0}
use Rattle.fit_gradient.proofs.squares_added.Invariants.{after}
use Rattle.fit_gradient.proofs.squares_added.Goals as goal

pub loop-group-init : goal.loop-group-init
loop-group-init c =
    let a = c.args in
    let p = c.requires in
    let e = a.entries.now in
    let g = a.gradient.now in
    let step = entry_by a.parts e in (
      p.0,
      walk.begun (after a.parts e g) 48 g (λ i. mark_of (group_of e i)) a.groups p.3 (folds.none_yet step g 0) (omega arith)
          (λ i h. mark_small (group_of e i))
          (λ i h z.
          folds.all_still step (after a.parts e g i) (16 * i) 16 (λ j k x. nothing a.parts x (16 * i + j) e
          (group_none e p.1 p.2 i j h k (mark_none (group_of e i) z)))
          ∙ folds.group_more step g i),
    )

pub returns-in_default : goal.returns-in_default
returns-in_default c =
    let l = c.loop-group in
    let a = c.args in
    walk.walk_end (after a.parts a.entries.now a.gradient.now) 48 l.gradient l.rest l.invariant.1
    (next_done l.rest (sym (ap lowest c.in_default.is) ∙ c.next-n.ensures))
    ∙ from_0 a.parts a.entries.now a.gradient.now 768

pub group_marked-requires : goal.group_marked-requires
group_marked-requires c =
    let came : (squares c.loop-group.rest ≡ c.in-Some.group ∷ squares c.in-Some.r) × (c.in-Some.group < 64) = next_at c.loop-group.rest c.in-Some.group c.in-Some.r c.loop-group.invariant.1.fits
    (sym (ap lowest c.in-Some.is) ∙ c.next-n.ensures) in
    let below : c.in-Some.group < 48 = let l = c.loop-group in
    let a = c.args in
    walk.walk_below (after a.parts a.entries.now a.gradient.now) 48 l.gradient l.rest c.in-Some.group
    c.in-Some.r l.invariant.1 (came).0 in
    let p = c.requires in
    (c.loop-group.invariant.0, p.1, below, p.2)

pub loop-group-smaller : goal.loop-group-smaller
loop-group-smaller c =
    let came : (squares c.loop-group.rest ≡ c.in-Some.group ∷ squares c.in-Some.r) × (c.in-Some.group < 64) = next_at c.loop-group.rest c.in-Some.group c.in-Some.r c.loop-group.invariant.1.fits
    (sym (ap lowest c.in-Some.is) ∙ c.next-n.ensures) in
    omega (arith, ap length (came).0)

pub loop-group-preserved : goal.loop-group-preserved
loop-group-preserved c =
    let came : (squares c.loop-group.rest ≡ c.in-Some.group ∷ squares c.in-Some.r) × (c.in-Some.group < 64) = next_at c.loop-group.rest c.in-Some.group c.in-Some.r c.loop-group.invariant.1.fits
    (sym (ap lowest c.in-Some.is) ∙ c.next-n.ensures) in
    let l = c.loop-group in
    let a = c.args in
    let e = a.entries.now in
    let F = after a.parts e a.gradient.now in
    let i = c.in-Some.group in
    let r = c.in-Some.r in (
      c.group_marked.ensures.1,
      walk.walk_on F 48 l.gradient l.rest i r l.invariant.1 (came).0 c.group_marked.new.gradient (next_fits c.loop-group.rest c.in-Some.group c.in-Some.r (sym (ap lowest c.in-Some.is) ∙ c.next-n.ensures))
          (c.group_marked.ensures.0
          ∙ ap (λ (g : List Float). fold_from (entry_by a.parts e) g (16 * i) 16) (walk.walk_at F 48 l.gradient l.rest i r l.invariant.1 (came).0)
          ∙ folds.group_more (entry_by a.parts e) a.gradient.now i),
    )
