-- `trace_list_computed::kind_listed` meets its contract. The loop's invariant: the entries are those of the places up to the next square that a
-- piece of either colour has. Assumes nothing.
use mathlib.Core.Path.{◌≡◌, refl, sym, ap, ◌∙◌}
use mathlib.Core.List.{◌∷◌}
use Prim.Native.Nat.{◌+◌, ◌*◌, ◌<◌}
use native.Mathlib.Omega.{arith}
use lib.ListN.{length}
use Rattle.bits.specs.Bitboard.{squares}
use Rattle.bits.specs.Answers.{lowest}
use Rattle.bits.proofs.Each.{next_at, next_fits, next_done}
use Rattle.trace_marks.proofs.Walk as walk
use Rattle.trace_list_computed.specs.PrivateWalk.{ones_before, turned_over}
use Rattle.trace_list_computed.proofs.Squares.{Made, made_to, padded_list, begun, ended, white_room, black_room, square_on}
use Rattle.trace_list_computed.proofs.kind_listed.Goals as goal

pub loop-s-init : goal.loop-s-init
loop-s-init c =
    let w = c.standing-white in
    begun c.args.bitboards.now c.args.kind w.result c.turned-black.result c.args.used c.args.bytes.now c.requires.0 (omega arith)
    w.ensures (omega arith)
    (c.turned-black.ensures ∙ ap turned_over c.standing.ensures) c.requires.2 c.requires.3

pub returns-in_default : goal.returns-in_default
returns-in_default c =
    let l = c.loop-s in
    let a = c.args in
    ended a.bitboards.now a.kind l.n l.bytes
    (walk.walk_end (made_to a.bitboards.now a.kind) 64 (l.n, l.bytes) l.rest l.invariant
    (next_done l.rest (sym (ap lowest c.in_default.is) ∙ c.next-next.ensures)))

pub stands-requires : goal.stands-requires
stands-requires c =
    let came : (squares c.loop-s.rest ≡ c.in-Some.s ∷ squares c.in-Some.r) × (c.in-Some.s < 64) = next_at c.loop-s.rest c.in-Some.s c.in-Some.r c.loop-s.invariant.fits
    (sym (ap lowest c.in-Some.is) ∙ c.next-next.ensures) in
    (came).1

pub stands-requires-in-loop-s : goal.stands-requires-in-loop-s
stands-requires-in-loop-s c =
    let came : (squares c.loop-s.rest ≡ c.in-Some.s ∷ squares c.in-Some.r) × (c.in-Some.s < 64) = next_at c.loop-s.rest c.in-Some.s c.in-Some.r c.loop-s.invariant.fits
    (sym (ap lowest c.in-Some.is) ∙ c.next-next.ensures) in
    (came).1

pub put_both-n-requires : goal.put_both-n-requires
put_both-n-requires c =
    let came : (squares c.loop-s.rest ≡ c.in-Some.s ∷ squares c.in-Some.r) × (c.in-Some.s < 64) = next_at c.loop-s.rest c.in-Some.s c.in-Some.r c.loop-s.invariant.fits
    (sym (ap lowest c.in-Some.is) ∙ c.next-next.ensures) in
    let made : (c.loop-s.n, c.loop-s.bytes) ≡ made_to c.args.bitboards.now c.args.kind c.in-Some.s = let l = c.loop-s in
    let a = c.args in
    walk.walk_at (made_to a.bitboards.now a.kind) 64 (l.n, l.bytes) l.rest c.in-Some.s
    c.in-Some.r l.invariant (came).0 in
    let b = c.args.bitboards.now in
    let q = c.in-Some.s in
    let w = c.standing-white in
    let v = c.turned-black.ensures ∙ ap turned_over c.standing.ensures in (
      white_room b c.args.kind q w.result c.turned-black.result c.requires.0 (came).1 w.ensures v c.requires.1 c.loop-s.n c.loop-s.bytes
          (made) c.stands.result c.stands.ensures,
      black_room b c.args.kind q w.result c.turned-black.result c.requires.0 (came).1 w.ensures v c.requires.1 c.loop-s.n c.loop-s.bytes
          (made) c.stands.result c.stands.ensures _ _ refl refl c.stands-in-loop-s.result c.stands-in-loop-s.ensures,
      padded_list c.loop-s.n c.loop-s.bytes (ones_before b (128 * c.args.kind + 2 * q)) (ap (λ (x : Made). x.0) (made))
          (ap (λ (x : Made). x.1) (made)),
    )

pub loop-s-smaller : goal.loop-s-smaller
loop-s-smaller c =
    let came : (squares c.loop-s.rest ≡ c.in-Some.s ∷ squares c.in-Some.r) × (c.in-Some.s < 64) = next_at c.loop-s.rest c.in-Some.s c.in-Some.r c.loop-s.invariant.fits
    (sym (ap lowest c.in-Some.is) ∙ c.next-next.ensures) in
    omega (arith, ap length (came).0)

pub loop-s-preserved : goal.loop-s-preserved
loop-s-preserved c =
    let came : (squares c.loop-s.rest ≡ c.in-Some.s ∷ squares c.in-Some.r) × (c.in-Some.s < 64) = next_at c.loop-s.rest c.in-Some.s c.in-Some.r c.loop-s.invariant.fits
    (sym (ap lowest c.in-Some.is) ∙ c.next-next.ensures) in
    let made : (c.loop-s.n, c.loop-s.bytes) ≡ made_to c.args.bitboards.now c.args.kind c.in-Some.s = let l = c.loop-s in
    let a = c.args in
    walk.walk_at (made_to a.bitboards.now a.kind) 64 (l.n, l.bytes) l.rest c.in-Some.s
    c.in-Some.r l.invariant (came).0 in
    let b = c.args.bitboards.now in
    let q = c.in-Some.s in
    let w = c.standing-white in
    let v = c.turned-black.ensures ∙ ap turned_over c.standing.ensures in
    walk.walk_on (made_to b c.args.kind) 64 (c.loop-s.n, c.loop-s.bytes) c.loop-s.rest q c.in-Some.r c.loop-s.invariant
    (came).0 _ (next_fits c.loop-s.rest c.in-Some.s c.in-Some.r (sym (ap lowest c.in-Some.is) ∙ c.next-next.ensures))
    (square_on b c.args.kind q w.result c.turned-black.result c.requires.0 (came).1 w.ensures v c.requires.1 c.loop-s.n c.loop-s.bytes
    (made) c.stands.result c.stands.ensures
    _ _ refl refl c.stands-in-loop-s.result c.stands-in-loop-s.ensures c.put_both-n.result _ c.put_both-n.ensures.0 c.put_both-n.ensures.1)
