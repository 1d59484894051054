-- `score_verdict::inner::ending` meets its contract. Assumes nothing.
use mathlib.Core.Path.{◌≡◌, ap, sym, ◌∙◌}
use mathlib.Core.Bool.{true, false}
use Prim.Native.Nat.{ℕ}
use native.Mathlib.Omega.{arith}
use Rattle.bits.specs.Bitboard.{has, how_many}
use Rattle.score_material.specs.Pieces.{count, pieces}
use Rattle.score_verdict.specs.Verdict.{to_move, few_kings}
use Rattle.score_material.proofs.Pieces.{pieces_of, count_le}
use Rattle.score_verdict.proofs.Verdicts as laws
use Rattle.score_verdict.proofs.inner.ending.Goals as goal

pub overflow_add-number : goal.overflow_add-number
overflow_add-number c =
    let l = c.args.bitboards.now in
    record { fits = omega (arith, c.number.ensures, c.number-2.ensures, count_le l 5 0, count_le l 5 1) }

pub returns-then-number-eq0 : goal.returns-then-number-eq0
returns-then-number-eq0 c =
    let few : few_kings c.args.bitboards.now ≡ true = laws.few_kings_holds c.args.bitboards.now _ _ c.number.ensures c.number-2.ensures
    c.if-number-lt2.true in
    let own : c.number-then-number-lt2.result ≡ count c.args.bitboards.now 5 (to_move c.args.side) = let a = c.args in c.number-then-number-lt2.ensures ∙ ap (count a.bitboards.now 5) c.to_move.ensures in
    let a = c.args in
    laws.is_lost a.bitboards.now a.side (few) (sym (own) ∙ c.if-number-eq0.true)

pub returns-then-number-lt2 : goal.returns-then-number-lt2
returns-then-number-lt2 c =
    let few : few_kings c.args.bitboards.now ≡ true = laws.few_kings_holds c.args.bitboards.now _ _ c.number.ensures c.number-2.ensures
    c.if-number-lt2.true in
    let own : c.number-then-number-lt2.result ≡ count c.args.bitboards.now 5 (to_move c.args.side) = let a = c.args in c.number-then-number-lt2.ensures ∙ ap (count a.bitboards.now 5) c.to_move.ensures in
    let a = c.args in
    laws.is_won a.bitboards.now a.side (few) (λ e. c.if-number-eq0.false (own ∙ e))

pub returns-then-x-gt3 : goal.returns-then-x-gt3
returns-then-x-gt3 c =
    let enough : few_kings c.args.bitboards.now ≡ false = laws.two_kings_holds c.args.bitboards.now _ _ c.number.ensures c.number-2.ensures
    c.if-number-lt2.false in
    let x-is : c.count-x.result ≡ pieces c.args.bitboards.now = let a = c.args in
    c.count-x.ensures ∙ ap (λ (o : ℕ). how_many 64 (has o)) c.occupied.ensures ∙ pieces_of a.bitboards.now in
    let a = c.args in
    laws.is_none a.bitboards.now a.side (enough) (laws.many a.bitboards.now c.count-x.result (x-is) c.if-x-gt3.true)

pub returns-then-heavy-ne0 : goal.returns-then-heavy-ne0
returns-then-heavy-ne0 c =
    let enough : few_kings c.args.bitboards.now ≡ false = laws.two_kings_holds c.args.bitboards.now _ _ c.number.ensures c.number-2.ensures
    c.if-number-lt2.false in
    let x-is : c.count-x.result ≡ pieces c.args.bitboards.now = let a = c.args in
    c.count-x.ensures ∙ ap (λ (o : ℕ). how_many 64 (has o)) c.occupied.ensures ∙ pieces_of a.bitboards.now in
    let a = c.args in
    laws.is_none a.bitboards.now a.side (enough)
    (laws.some_heavy a.bitboards.now c.count-x.result c.heavy.result (x-is) (omega (arith, c.if-x-gt3.false)) c.heavy.ensures
    c.if-heavy-ne0.true)

pub returns : goal.returns
returns c =
    let enough : few_kings c.args.bitboards.now ≡ false = laws.two_kings_holds c.args.bitboards.now _ _ c.number.ensures c.number-2.ensures
    c.if-number-lt2.false in
    let x-is : c.count-x.result ≡ pieces c.args.bitboards.now = let a = c.args in
    c.count-x.ensures ∙ ap (λ (o : ℕ). how_many 64 (has o)) c.occupied.ensures ∙ pieces_of a.bitboards.now in
    let a = c.args in
    laws.is_drawn a.bitboards.now a.side (enough)
    (laws.no_heavy a.bitboards.now c.count-x.result c.heavy.result (x-is) (omega (arith, c.if-x-gt3.false)) c.heavy.ensures c.if-heavy-ne0.false)
