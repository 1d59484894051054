-- `trace_double::group_added` meets its contract. The loop's invariant: the score is that of the entries up to the next 1. Assumes nothing.
use mathlib.Core.Path.{◌≡◌, sym, ap, ◌∙◌}
use mathlib.Core.List.{◌∷◌}
use Prim.Native.Nat.{◌+◌, ◌*◌, ◌<◌}
use native.Mathlib.Omega.{arith}
use borrow.Author.Rules.{rules}
use lib.ListN.{length}
use Rattle.bits.specs.Bitboard.{squares}
use Rattle.bits.specs.Answers.{lowest}
use Rattle.bits.proofs.Each.{next_at, next_fits, next_done}
use Rattle.trace_marks.specs.Marks.{odd_at}
use Rattle.trace_marks.proofs.Tested.{ones_of_holds, odd_small, odd_none}
use Rattle.trace_marks.proofs.Walk as walk
use Rattle.trace_double.specs.PrivateFrom.{entry_step, entries_from}
use Rattle.trace_marks.proofs.Folds as folds
use Rattle.trace_double.proofs.Folds.{one_read, nothing}
use Rattle.trace_double.proofs.group_added.Goals as goal

pub loop-j-init : goal.loop-j-init
loop-j-init c =
    let a = c.args in
    let p = c.requires in
    let e = a.entries.now in
    walk.begun (entries_from a.squares.now a.x e a.start (16 * a.group)) 16 a.start (odd_at e a.group) c.ones-rest.result
    (c.ones-rest.ensures ∙ ones_of_holds e p.1 a.group p.2)
    (folds.none_yet (entry_step a.squares.now a.x e) a.start (16 * a.group)) (omega arith)
    (λ j h. odd_small e a.group j)
    (λ j h z. folds.one_still (entry_step a.squares.now a.x e) a.start (16 * a.group) j
    (nothing a.squares.now a.x e (16 * a.group + j) (odd_none e p.1 p.3 a.group j p.2 h z)))

pub returns-in_default : goal.returns-in_default
returns-in_default c =
    let l = c.loop-j in
    let a = c.args in
    walk.walk_end (entries_from a.squares.now a.x a.entries.now a.start (16 * a.group)) 16 l.score l.rest l.invariant
    (next_done l.rest (sym (ap lowest c.in_default.is) ∙ c.next-n.ensures))

pub bounds-entries-k : goal.bounds-entries-k
bounds-entries-k c =
    let came : (squares c.loop-j.rest ≡ c.in-Some.j ∷ squares c.in-Some.r) × (c.in-Some.j < 64) = next_at c.loop-j.rest c.in-Some.j c.in-Some.r c.loop-j.invariant.fits
    (sym (ap lowest c.in-Some.is) ∙ c.next-n.ensures) in
    let below : c.in-Some.j < 16 = let l = c.loop-j in
    let a = c.args in
    walk.walk_below (entries_from a.squares.now a.x a.entries.now a.start (16 * a.group)) 16 l.score l.rest
    c.in-Some.j c.in-Some.r l.invariant (came).0 in
    let h = below in search rules

pub entry_added-score-requires : goal.entry_added-score-requires
entry_added-score-requires c =
    let came : (squares c.loop-j.rest ≡ c.in-Some.j ∷ squares c.in-Some.r) × (c.in-Some.j < 64) = next_at c.loop-j.rest c.in-Some.j c.in-Some.r c.loop-j.invariant.fits
    (sym (ap lowest c.in-Some.is) ∙ c.next-n.ensures) in
    let below : c.in-Some.j < 16 = let l = c.loop-j in
    let a = c.args in
    walk.walk_below (entries_from a.squares.now a.x a.entries.now a.start (16 * a.group)) 16 l.score l.rest
    c.in-Some.j c.in-Some.r l.invariant (came).0 in
    let h = below in search rules

pub loop-j-smaller : goal.loop-j-smaller
loop-j-smaller c =
    let came : (squares c.loop-j.rest ≡ c.in-Some.j ∷ squares c.in-Some.r) × (c.in-Some.j < 64) = next_at c.loop-j.rest c.in-Some.j c.in-Some.r c.loop-j.invariant.fits
    (sym (ap lowest c.in-Some.is) ∙ c.next-n.ensures) in
    omega (arith, ap length (came).0)

pub loop-j-preserved : goal.loop-j-preserved
loop-j-preserved c =
    let came : (squares c.loop-j.rest ≡ c.in-Some.j ∷ squares c.in-Some.r) × (c.in-Some.j < 64) = next_at c.loop-j.rest c.in-Some.j c.in-Some.r c.loop-j.invariant.fits
    (sym (ap lowest c.in-Some.is) ∙ c.next-n.ensures) in
    let l = c.loop-j in
    let a = c.args in
    let s = c.in-Some.j in
    let r = c.in-Some.r in
    let F = entries_from a.squares.now a.x a.entries.now a.start (16 * a.group) in
    walk.walk_on F 16 l.score l.rest s r l.invariant (came).0 c.entry_added-score.result (next_fits c.loop-j.rest c.in-Some.j c.in-Some.r (sym (ap lowest c.in-Some.is) ∙ c.next-n.ensures))
    (one_read a.squares.now a.x a.entries.now a.start (16 * a.group) s c.entry_added-arg-1.given
    (walk.walk_at F 16 l.score l.rest s r l.invariant (came).0) c.entry_added-score.ensures)
