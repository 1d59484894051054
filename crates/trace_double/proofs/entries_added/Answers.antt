-- `trace_double::entries_added` meets its contract. The loop's invariant: the score is that of the groups up to the next that has a 1.
-- Assumes nothing.
use mathlib.Core.Path.{◌≡◌, sym, ap, ◌∙◌}
use mathlib.Core.List.{◌∷◌}
use Prim.Native.Nat.{◌+◌, ◌*◌, ◌<◌}
use native.Mathlib.Omega.{arith}
use borrow.Author.Rules.{rules}
use lib.Ieee.{Float}
use lib.ListN.{length}
use Rattle.bits.specs.Bitboard.{squares}
use Rattle.bits.specs.Answers.{lowest}
use Rattle.bits.proofs.Each.{next_at, next_fits, next_done}
use Rattle.trace_marks.specs.Marks.{group_of, mark_of}
use Rattle.trace_marks.proofs.Marks.{mark_small, mark_none}
use Rattle.trace_marks.proofs.Tested.{group_none}
use Rattle.trace_marks.proofs.Walk as walk
use Rattle.trace_double.specs.PrivateFrom.{entry_step, entries_from}
use Rattle.trace_marks.proofs.Folds as folds
use Rattle.trace_double.proofs.Folds.{nothing, from_0}
use Rattle.trace_double.proofs.entries_added.Invariants.{after}
use Rattle.trace_double.proofs.entries_added.Goals as goal

pub loop-group-init : goal.loop-group-init
loop-group-init c =
    let a = c.args in
    let p = c.requires in
    let w = a.squares.now in
    let e = a.entries.now in
    walk.begun (after w a.x e a.start) 48 a.start (λ g. mark_of (group_of e g)) a.groups p.3
    (folds.none_yet (entry_step w a.x e) a.start 0) (omega arith)
    (λ g h. mark_small (group_of e g))
    (λ g h z.
    folds.all_still (entry_step w a.x e) (after w a.x e a.start g) (16 * g) 16
    (λ j i. nothing w a.x e (16 * g + j) (group_none e p.1 p.2 g j h i (mark_none (group_of e g) z)))
    ∙ folds.group_more (entry_step w a.x e) a.start g)

pub returns-in_default : goal.returns-in_default
returns-in_default c =
    let l = c.loop-group in
    let a = c.args in
    walk.walk_end (after a.squares.now a.x a.entries.now a.start) 48 l.score l.rest l.invariant
    (next_done l.rest (sym (ap lowest c.in_default.is) ∙ c.next-n.ensures))
    ∙ from_0 a.squares.now a.x a.entries.now a.start 768

pub group_added-score-requires : goal.group_added-score-requires
group_added-score-requires c =
    let came : (squares c.loop-group.rest ≡ c.in-Some.group ∷ squares c.in-Some.r) × (c.in-Some.group < 64) = next_at c.loop-group.rest c.in-Some.group c.in-Some.r c.loop-group.invariant.fits
    (sym (ap lowest c.in-Some.is) ∙ c.next-n.ensures) in
    let below : c.in-Some.group < 48 = let l = c.loop-group in
    let a = c.args in
    walk.walk_below (after a.squares.now a.x a.entries.now a.start) 48 l.score l.rest c.in-Some.group
    c.in-Some.r l.invariant (came).0 in
    let h = below in search rules

pub loop-group-smaller : goal.loop-group-smaller
loop-group-smaller c =
    let came : (squares c.loop-group.rest ≡ c.in-Some.group ∷ squares c.in-Some.r) × (c.in-Some.group < 64) = next_at c.loop-group.rest c.in-Some.group c.in-Some.r c.loop-group.invariant.fits
    (sym (ap lowest c.in-Some.is) ∙ c.next-n.ensures) in
    omega (arith, ap length (came).0)

pub loop-group-preserved : goal.loop-group-preserved
loop-group-preserved c =
    let came : (squares c.loop-group.rest ≡ c.in-Some.group ∷ squares c.in-Some.r) × (c.in-Some.group < 64) = next_at c.loop-group.rest c.in-Some.group c.in-Some.r c.loop-group.invariant.fits
    (sym (ap lowest c.in-Some.is) ∙ c.next-n.ensures) in
    let l = c.loop-group in
    let a = c.args in
    let w = a.squares.now in
    let e = a.entries.now in
    let s = c.in-Some.group in
    let r = c.in-Some.r in
    walk.walk_on (after w a.x e a.start) 48 l.score l.rest s r l.invariant (came).0 c.group_added-score.result (next_fits c.loop-group.rest c.in-Some.group c.in-Some.r (sym (ap lowest c.in-Some.is) ∙ c.next-n.ensures))
    (c.group_added-score.ensures
    ∙ ap (λ (f : Float). entries_from w a.x e f (16 * s) 16) (walk.walk_at (after w a.x e a.start) 48 l.score l.rest s r l.invariant (came).0)
    ∙ folds.group_more (entry_step w a.x e) a.start s)
