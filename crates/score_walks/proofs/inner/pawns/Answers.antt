-- `score_walks::inner::pawns` meets its contract. The loop's invariant is `Kept`; the measure is how many squares are left. Assumes nothing.
use mathlib.Core.Path.{◌≡◌, sym, ap, ◌∙◌, subst}
use mathlib.Core.List.{◌∷◌}
use Prim.Native.Nat.{ℕ, ◌<◌, ◌≤◌}
use native.Mathlib.Omega.{arith}
use lib.ListN.{length}
use Rattle.bits.specs.Bitboard.{squares}
use Rattle.bits.specs.Answers.{lowest}
use Rattle.bits.proofs.Each.{next_at, next_fits, next_done}
use Rattle.score_weights.specs.PrivatePacked.{packed_at}
use Rattle.score_weights.proofs.Packed.{packed_le}
use Rattle.score_walks.specs.PrivateWalked.{packed_from}
use Rattle.score_walks.proofs.Kept as kept
use Rattle.score_walks.proofs.inner.pawns.Invariants.{word_of}
use Rattle.score_walks.proofs.inner.pawns.Goals as goal

pub loop-square-init : goal.loop-square-init
loop-square-init c = let a = c.args in kept.begun 1099768529141 (word_of a.color) a.pieces c.ranges.pieces.fits

pub returns-in_default : goal.returns-in_default
unfolding packed_from
returns-in_default c =
    let l = c.loop-square in
    let a = c.args in
    let f : ℕ → ℕ = word_of a.color in
    kept.over 1099768529141 f a.pieces l.words l.rest l.invariant (next_done l.rest (sym (ap lowest c.in_default.is) ∙ c.next-n.ensures))

pub overflow_add-words : goal.overflow_add-words
overflow_add-words c =
    let came : (squares c.loop-square.rest ≡ c.in-Some.square ∷ squares c.in-Some.r) × (c.in-Some.square < 64) = next_at c.loop-square.rest c.in-Some.square c.in-Some.r c.loop-square.invariant.fits
    (sym (ap lowest c.in-Some.is) ∙ c.next-n.ensures) in
    let little : c.pawn_word-words.result ≤ 1099768529141 = subst (λ (n : ℕ). n ≤ 1099768529141) (sym c.pawn_word-words.ensures) (packed_le _ _) in
    let l = c.loop-square in
    let a = c.args in
    let h = kept.has_room 1099768529141 (word_of a.color) a.pieces l.words l.rest l.invariant c.in-Some.square
    c.in-Some.r c.pawn_word-words.result (came).0 (little) in
    record { fits = omega (arith, h) }

pub loop-square-smaller : goal.loop-square-smaller
loop-square-smaller c =
    let came : (squares c.loop-square.rest ≡ c.in-Some.square ∷ squares c.in-Some.r) × (c.in-Some.square < 64) = next_at c.loop-square.rest c.in-Some.square c.in-Some.r c.loop-square.invariant.fits
    (sym (ap lowest c.in-Some.is) ∙ c.next-n.ensures) in
    let e = ap length (came).0 in omega (arith, e)

pub loop-square-preserved : goal.loop-square-preserved
loop-square-preserved c =
    let came : (squares c.loop-square.rest ≡ c.in-Some.square ∷ squares c.in-Some.r) × (c.in-Some.square < 64) = next_at c.loop-square.rest c.in-Some.square c.in-Some.r c.loop-square.invariant.fits
    (sym (ap lowest c.in-Some.is) ∙ c.next-n.ensures) in
    let little : c.pawn_word-words.result ≤ 1099768529141 = subst (λ (n : ℕ). n ≤ 1099768529141) (sym c.pawn_word-words.ensures) (packed_le _ _) in
    let l = c.loop-square in
    let a = c.args in
    kept.more 1099768529141 (word_of a.color) a.pieces l.words l.rest l.invariant c.in-Some.square c.in-Some.r
    c.pawn_word-words.result
    (came).0 (little) (next_fits c.loop-square.rest c.in-Some.square c.in-Some.r (sym (ap lowest c.in-Some.is) ∙ c.next-n.ensures)) (c.pawn_word-words.ensures ∙ ap (packed_at 0) c.flip.ensures)
