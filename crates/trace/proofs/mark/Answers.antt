-- `trace::mark` meets its contract. The loop's invariant: to mark the squares of `rest` from here gives what marking all gives. Assumes nothing.
use mathlib.Core.Path.{◌≡◌, sym, ap, ◌∙◌}
use mathlib.Core.List.{[], ◌∷◌}
use Prim.Native.Nat.{ℕ, ◌<◌}
use native.Mathlib.Omega.{arith}
use lib.IntN.{pos}
use lib.ListN.{get_or, set, length-set}
use Rattle.bits.specs.Bitboard.{squares}
use Rattle.bits.specs.Answers.{lowest}
use Rattle.bits.proofs.Each.{next_at, next_fits, next_done}
use Rattle.trace.specs.PrivateMarked.{code_place, place_on, marked}
use Rattle.trace.proofs.Turns.{marked_none, marked_one}
use Rattle.trace.proofs.mark.Goals as goal

pub returns-in_default : goal.returns-in_default
returns-in_default c =
    let l = c.loop-s in
    let a = c.args in
    let over : squares l.rest ≡ [] = next_done l.rest (sym (ap lowest c.in_default.is) ∙ c.next-n.ensures) in
    sym (ap (marked a.board.now l.entries) over ∙ marked_none a.board.now l.entries) ∙ l.invariant.1

pub bounds-board-index : goal.bounds-board-index
bounds-board-index c =
    let first : (squares c.loop-s.rest ≡ c.in-Some.s ∷ squares c.in-Some.r) × (c.in-Some.s < 64) = let l = c.loop-s in
    next_at l.rest c.in-Some.s c.in-Some.r l.invariant.0 (sym (ap lowest c.in-Some.is) ∙ c.next-n.ensures) in
    omega (arith, (first).1, c.index.ensures, c.requires.0)

pub place-i-requires : goal.place-i-requires
place-i-requires c =
    let first : (squares c.loop-s.rest ≡ c.in-Some.s ∷ squares c.in-Some.r) × (c.in-Some.s < 64) = let l = c.loop-s in
    next_at l.rest c.in-Some.s c.in-Some.r l.invariant.0 (sym (ap lowest c.in-Some.is) ∙ c.next-n.ensures) in
    (first).1

pub loop-s-smaller : goal.loop-s-smaller
loop-s-smaller c =
    let first : (squares c.loop-s.rest ≡ c.in-Some.s ∷ squares c.in-Some.r) × (c.in-Some.s < 64) = let l = c.loop-s in
    next_at l.rest c.in-Some.s c.in-Some.r l.invariant.0 (sym (ap lowest c.in-Some.is) ∙ c.next-n.ensures) in
    rw (first).0 (omega arith)

pub loop-s-preserved : goal.loop-s-preserved
loop-s-preserved c =
    let first : (squares c.loop-s.rest ≡ c.in-Some.s ∷ squares c.in-Some.r) × (c.in-Some.s < 64) = let l = c.loop-s in
    next_at l.rest c.in-Some.s c.in-Some.r l.invariant.0 (sym (ap lowest c.in-Some.is) ∙ c.next-n.ensures) in
    let l = c.loop-s in
    let board = c.args.board.now in
    let s : ℕ = c.in-Some.s in
    let r : ℕ = c.in-Some.r in
    let placed : c.place-i.result ≡ place_on board s = c.place-i.ensures.0 ∙ ap (λ (i : ℕ). code_place (get_or board i 0) s) c.index.ensures in (
      next_fits l.rest c.in-Some.s c.in-Some.r (sym (ap lowest c.in-Some.is) ∙ c.next-n.ensures),
      ap (λ (i : ℕ). marked board (set l.entries i (pos 1)) (squares r)) placed ∙ sym (marked_one board l.entries s (squares r))
          ∙ ap (marked board l.entries) (sym (first).0) ∙ l.invariant.1,
      length-set l.entries c.place-i.result (pos 1) ∙ l.invariant.2,
    )
