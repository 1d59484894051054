-- `score_walks::inner::queens` meets its contract. The loop's invariant: `Kept` for each of the two sums. The measure is how many squares are left.
-- Assumes nothing.
use mathlib.Core.Path.{◌≡◌, refl, sym, ap, ◌∙◌, subst}
use mathlib.Core.List.{[], ◌∷◌}
use Prim.Native.Nat.{ℕ, ◌<◌, ◌≤◌}
use native.Mathlib.Omega.{arith}
use lib.ListN.{length}
use Rattle.bits.specs.Bitboard.{has, how_many, squares}
use Rattle.bits.specs.Answers.{lowest}
use Rattle.bits.proofs.Counts.{many_le}
use Rattle.bits.proofs.Each.{next_at, next_fits, next_done}
use Rattle.attack.proofs.ByKind.{queen}
use Rattle.score_weights.specs.PrivatePacked.{packed_at}
use Rattle.score_weights.proofs.Packed.{packed_le}
use Rattle.score_walks.specs.Attacked.{attacked_from}
use Rattle.score_walks.specs.PrivateWalked.{packed_from}
use Rattle.score_walks.specs.declared.Walked.{Walked}
use Rattle.score_walks.proofs.Kept as kept
use Rattle.score_walks.proofs.inner.queens.Invariants.{reach, word_of}
use Rattle.score_walks.proofs.inner.queens.Goals as goal

walked : (a b v w : ℕ) → a ≡ b → v ≡ w → ◌≡◌ {A = Walked} (record { attacked = a; words = v }) (record { attacked = b; words = w })
walked a b v w h i = cc

pub loop-square-init : goal.loop-square-init
loop-square-init c =
    let a = c.args in
    let h = c.ranges.pieces.fits in
    (kept.begun 64 (reach a.color a.occupied) a.pieces h, kept.begun 1099768529141 (word_of a.color) a.pieces h)

pub returns-in_default : goal.returns-in_default
unfolding attacked_from packed_from
returns-in_default c =
    let l = c.loop-square in
    let a = c.args in
    let f : ℕ → ℕ = reach a.color a.occupied in
    let g : ℕ → ℕ = word_of a.color in
    let none : squares l.rest ≡ [] = next_done l.rest (sym (ap lowest c.in_default.is) ∙ c.next-n.ensures) in
    walked _ _ _ _ (kept.over 64 f a.pieces l.attacked l.rest l.invariant.0 none)
    (kept.over 1099768529141 g a.pieces l.words l.rest l.invariant.1 none)

pub overflow_add-attacked : goal.overflow_add-attacked
overflow_add-attacked c =
    let came : (squares c.loop-square.rest ≡ c.in-Some.square ∷ squares c.in-Some.r) × (c.in-Some.square < 64) = next_at c.loop-square.rest c.in-Some.square c.in-Some.r c.loop-square.invariant.0.fits
    (sym (ap lowest c.in-Some.is) ∙ c.next-n.ensures) in
    let count_le : c.count-attacked.result ≤ 64 = subst (λ (n : ℕ). n ≤ 64) (sym c.count-attacked.ensures) (many_le 64 (has c.queen.result)) in
    let l = c.loop-square in
    let a = c.args in
    let h = kept.has_room 64 (reach a.color a.occupied) a.pieces l.attacked l.rest l.invariant.0 c.in-Some.square
    c.in-Some.r c.count-attacked.result (came).0 (count_le) in
    record { fits = omega (arith, h) }

pub overflow_add-words : goal.overflow_add-words
overflow_add-words c =
    let came : (squares c.loop-square.rest ≡ c.in-Some.square ∷ squares c.in-Some.r) × (c.in-Some.square < 64) = next_at c.loop-square.rest c.in-Some.square c.in-Some.r c.loop-square.invariant.0.fits
    (sym (ap lowest c.in-Some.is) ∙ c.next-n.ensures) in
    let little : c.queen_word-words.result ≤ 1099768529141 = subst (λ (n : ℕ). n ≤ 1099768529141) (sym c.queen_word-words.ensures) (packed_le _ _) in
    let l = c.loop-square in
    let a = c.args in
    let h = kept.has_room 1099768529141 (word_of a.color) a.pieces l.words l.rest l.invariant.1 c.in-Some.square
    c.in-Some.r c.queen_word-words.result (came).0 (little) in
    record { fits = omega (arith, h) }

pub loop-square-smaller : goal.loop-square-smaller
loop-square-smaller c =
    let came : (squares c.loop-square.rest ≡ c.in-Some.square ∷ squares c.in-Some.r) × (c.in-Some.square < 64) = next_at c.loop-square.rest c.in-Some.square c.in-Some.r c.loop-square.invariant.0.fits
    (sym (ap lowest c.in-Some.is) ∙ c.next-n.ensures) in
    let e = ap length (came).0 in omega (arith, e)

pub loop-square-preserved : goal.loop-square-preserved
loop-square-preserved c =
    let came : (squares c.loop-square.rest ≡ c.in-Some.square ∷ squares c.in-Some.r) × (c.in-Some.square < 64) = next_at c.loop-square.rest c.in-Some.square c.in-Some.r c.loop-square.invariant.0.fits
    (sym (ap lowest c.in-Some.is) ∙ c.next-n.ensures) in
    let count_le : c.count-attacked.result ≤ 64 = subst (λ (n : ℕ). n ≤ 64) (sym c.count-attacked.ensures) (many_le 64 (has c.queen.result)) in
    let little : c.queen_word-words.result ≤ 1099768529141 = subst (λ (n : ℕ). n ≤ 1099768529141) (sym c.queen_word-words.ensures) (packed_le _ _) in
    let l = c.loop-square in
    let a = c.args in
    let s = c.in-Some.square in
    let r = c.in-Some.r in (
      kept.more 64 (reach a.color a.occupied) a.pieces l.attacked l.rest l.invariant.0 s r c.count-attacked.result (came).0 (count_le)
          (next_fits c.loop-square.rest c.in-Some.square c.in-Some.r (sym (ap lowest c.in-Some.is) ∙ c.next-n.ensures))
          (c.count-attacked.ensures ∙ ap (λ (b : ℕ). how_many 64 (has b)) (queen 4 a.color s a.occupied _ refl c.queen.ensures)),
      kept.more 1099768529141 (word_of a.color) a.pieces l.words l.rest l.invariant.1 s r c.queen_word-words.result (came).0 (little) (next_fits c.loop-square.rest c.in-Some.square c.in-Some.r (sym (ap lowest c.in-Some.is) ∙ c.next-n.ensures))
          (c.queen_word-words.ensures ∙ ap (packed_at 4) c.flip.ensures),
    )
