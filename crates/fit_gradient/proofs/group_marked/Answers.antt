-- `fit_gradient::group_marked` meets its contract. The loop's invariant: the sums are those of the entries up to the next 1. Assumes nothing.
use mathlib.Core.Path.{◌≡◌, sym, ap, ◌∙◌}
use mathlib.Core.List.{◌∷◌}
use Prim.Native.Nat.{◌+◌, ◌*◌, ◌<◌}
use native.Mathlib.Omega.{arith}
use borrow.Author.Rules.{rules}
use lib.IntN.{pos}
use lib.ListN.{length, get_or}
use mir.Syntax.{w32}
use mir.Val.{SFits}
use Rattle.bits.specs.Bitboard.{squares}
use Rattle.bits.specs.Answers.{lowest}
use Rattle.bits.proofs.Each.{next_at, next_fits, next_done}
use Rattle.trace_marks.specs.Marks.{odd_at, fold_from}
use Rattle.trace_marks.proofs.Tested.{ones_of_holds, odd_small, odd_none}
use Rattle.trace_marks.proofs.Walk as walk
use Rattle.trace_marks.proofs.Folds as folds
use Rattle.fit_gradient.specs.Marks.{entry_by}
use Rattle.fit_gradient.proofs.Marks.{one_read, nothing}
use Rattle.fit_gradient.proofs.group_marked.Goals as goal

pub loop-j-init : goal.loop-j-init
loop-j-init c =
    let a = c.args in
    let p = c.requires in
    let e = a.entries.now in
    let g = a.gradient.now in
    let step = entry_by a.parts e in (
      p.0,
      walk.begun (fold_from step g (16 * a.group)) 16 g (odd_at e a.group) c.ones-rest.result (c.ones-rest.ensures ∙ ones_of_holds e p.1 a.group p.2)
          (folds.none_yet step g (16 * a.group)) (omega arith)
          (λ j h. odd_small e a.group j)
          (λ j h z. folds.one_still step g (16 * a.group) j (λ x. nothing a.parts x (16 * a.group + j) e
          (odd_none e p.1 p.3 a.group j p.2 h z))),
    )

pub returns-in_default : goal.returns-in_default
returns-in_default c =
    let l = c.loop-j in
    let a = c.args in (
      walk.walk_end (fold_from (entry_by a.parts a.entries.now) a.gradient.now (16 * a.group)) 16 l.gradient l.rest l.invariant.1
          (next_done l.rest (sym (ap lowest c.in_default.is) ∙ c.next-n.ensures)),
      l.invariant.0,
    )

pub bounds-entries-k : goal.bounds-entries-k
bounds-entries-k c =
    let came : (squares c.loop-j.rest ≡ c.in-Some.j ∷ squares c.in-Some.r) × (c.in-Some.j < 64) = next_at c.loop-j.rest c.in-Some.j c.in-Some.r c.loop-j.invariant.1.fits
    (sym (ap lowest c.in-Some.is) ∙ c.next-n.ensures) in
    let below : c.in-Some.j < 16 = let l = c.loop-j in
    let a = c.args in
    walk.walk_below (fold_from (entry_by a.parts a.entries.now) a.gradient.now (16 * a.group)) 16 l.gradient l.rest
    c.in-Some.j c.in-Some.r l.invariant.1 (came).0 in
    let h = below in search rules

pub mark-requires : goal.mark-requires
mark-requires c =
    let came : (squares c.loop-j.rest ≡ c.in-Some.j ∷ squares c.in-Some.r) × (c.in-Some.j < 64) = next_at c.loop-j.rest c.in-Some.j c.in-Some.r c.loop-j.invariant.1.fits
    (sym (ap lowest c.in-Some.is) ∙ c.next-n.ensures) in
    let below : c.in-Some.j < 16 = let l = c.loop-j in
    let a = c.args in
    walk.walk_below (fold_from (entry_by a.parts a.entries.now) a.gradient.now (16 * a.group)) 16 l.gradient l.rest
    c.in-Some.j c.in-Some.r l.invariant.1 (came).0 in
    let h = below in (c.loop-j.invariant.0, omega arith)

pub loop-j-smaller : goal.loop-j-smaller
loop-j-smaller c =
    let came : (squares c.loop-j.rest ≡ c.in-Some.j ∷ squares c.in-Some.r) × (c.in-Some.j < 64) = next_at c.loop-j.rest c.in-Some.j c.in-Some.r c.loop-j.invariant.1.fits
    (sym (ap lowest c.in-Some.is) ∙ c.next-n.ensures) in
    omega (arith, ap length (came).0)

pub loop-j-preserved : goal.loop-j-preserved
loop-j-preserved c =
    let came : (squares c.loop-j.rest ≡ c.in-Some.j ∷ squares c.in-Some.r) × (c.in-Some.j < 64) = next_at c.loop-j.rest c.in-Some.j c.in-Some.r c.loop-j.invariant.1.fits
    (sym (ap lowest c.in-Some.is) ∙ c.next-n.ensures) in
    let l = c.loop-j in
    let a = c.args in
    let j = c.in-Some.j in
    let r = c.in-Some.r in
    let fits : SFits w32 (get_or a.entries.now (16 * a.group + j) (pos 0)) = search rules in
    let F = fold_from (entry_by a.parts a.entries.now) a.gradient.now (16 * a.group) in (
      c.mark.ensures.1,
      walk.walk_on F 16 l.gradient l.rest j r l.invariant.1 (came).0 c.mark.new.gradient (next_fits c.loop-j.rest c.in-Some.j c.in-Some.r (sym (ap lowest c.in-Some.is) ∙ c.next-n.ensures))
          (one_read a.parts a.entries.now a.gradient.now (16 * a.group) j fits.sfits
          (walk.walk_at F 16 l.gradient l.rest j r l.invariant.1 (came).0) c.mark.ensures.0),
    )
