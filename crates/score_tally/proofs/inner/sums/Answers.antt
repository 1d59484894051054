-- `score_tally::inner::sums` meets its contract: what each board gives, by `six`. Assumes nothing.
use mathlib.Core.Path.{ap, ◌∙◌}
use Prim.Native.Nat.{ℕ}
use Rattle.score_walks.specs.PrivateWalked.{packed_from, walked_of}
use Rattle.score_tally.proofs.Boards.{small, little, knights_same, six}
use Rattle.score_tally.proofs.inner.sums.Goals as goal

pub together-requires : goal.together-requires
together-requires k = (
  little _ 0 _ _ k.pawns-pawns.ensures,
  small _ 1 _ 0 _ k.knights-knights.ensures,
  small _ 2 _ _ _ k.bishops-bishops.ensures,
  small _ 3 _ _ _ k.rooks-rooks.ensures,
  small _ 4 _ _ _ k.queens-queens.ensures,
  little _ 5 _ _ k.kings-kings.ensures,
)

pub returns : goal.returns
returns c =
    let n = c in
    let p = n in
    let a = p.args in
    let colour = a.color in
    let occ = a.occupied in
    c.together.ensures
    ∙ six a.bitboards.now colour occ _ _ _ _ _ _ (p.pawns-pawns.ensures ∙ ap (packed_from 0 colour) p.standing.ensures)
    (n.knights-knights.ensures ∙ ap (λ (x : ℕ). walked_of x 1 colour 0) n.standing-2.ensures ∙ knights_same a.bitboards.now colour occ)
    (c.bishops-bishops.ensures ∙ ap (λ (x : ℕ). walked_of x 2 colour occ) c.standing-3.ensures)
    (c.rooks-rooks.ensures ∙ ap (λ (x : ℕ). walked_of x 3 colour occ) c.standing-4.ensures)
    (c.queens-queens.ensures ∙ ap (λ (x : ℕ). walked_of x 4 colour occ) c.standing-5.ensures)
    (c.kings-kings.ensures ∙ ap (packed_from 5 colour) c.standing-6.ensures)
