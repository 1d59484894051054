-- `exchange_start::inner::uncrowded` meets its contract. Assumes nothing.
use mathlib.Core.Path.{◌≡◌, ap, ◌∙◌}
use Prim.Native.Nat.{ℕ}
use Rattle.bits.specs.Bitboard.{has, how_many}
use Rattle.exchange_start.proofs.Tested.{many, many_kings, last_kings}
use Rattle.exchange_start.proofs.inner.uncrowded.Goals as goal

-- what a count of what was read gave
counted : (n b x : ℕ) → n ≡ how_many 64 (has b) → b ≡ x → n ≡ how_many 64 (has x)
counted n b x e f = e ∙ ap (λ (y : ℕ). how_many 64 (has y)) f

pub returns-then-count-gt32 : goal.returns-then-count-gt32
returns-then-count-gt32 c =
    let b = c.args.bitboards.now in
    many b c.count.result (counted _ _ _ c.count.ensures c.occupied.ensures) c.if-count-gt32.true

pub returns-then-count-gt1 : goal.returns-then-count-gt1
returns-then-count-gt1 c =
    let b = c.args.bitboards.now in
    many_kings b c.count.result c.count-2.result
    (counted _ _ _ c.count.ensures c.occupied.ensures)
    (counted _ _ _ c.count-2.ensures c.standing.ensures) c.if-count-gt32.false c.if-count-gt1.true

pub returns : goal.returns
returns c =
    let b = c.args.bitboards.now in
    last_kings b c.count.result c.count-2.result c.count-3.result
    (counted _ _ _ c.count.ensures c.occupied.ensures)
    (counted _ _ _ c.count-2.ensures c.standing.ensures)
    (counted _ _ _ c.count-3.ensures c.standing-2.ensures) c.if-count-gt32.false c.if-count-gt1.false
