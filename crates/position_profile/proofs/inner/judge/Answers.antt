-- `position_profile::inner::judge` meets its contract. Assumes nothing.
use native.Mathlib.Omega.{arith}
use Rattle.refusal.specs.Answer.{given}
use Rattle.position_odds.proofs.Named.{lowest_small}
use Rattle.position_profile.specs.Profile.{one_king, few_pawns, few_pieces, of_both}
use Rattle.position_profile.proofs.Rules.{holds, fails, broken_kings, broken_pawns, broken_pieces, broken_rank, broken_check, none_broken}
use Rattle.position_profile.proofs.inner.judge.Goals as goal

pub returns-then-not-one_king : goal.returns-then-not-one_king
returns-then-not-one_king c =
    let a = c.args in
    broken_kings a.bitboards.now a.state (given tt) (fails c.one_king.result (of_both (one_king a.bitboards.now)) c.one_king.ensures
    c.if-not-one_king.true-raw)

pub returns-then-not-few_pawns : goal.returns-then-not-few_pawns
returns-then-not-few_pawns c =
    let a = c.args in
    broken_pawns a.bitboards.now a.state (given tt) (holds c.one_king.result (of_both (one_king a.bitboards.now)) c.one_king.ensures
    c.if-not-one_king.false-raw) (fails c.few_pawns.result (of_both (few_pawns a.bitboards.now)) c.few_pawns.ensures c.if-not-few_pawns.true-raw)

pub returns-then-not-few_pieces : goal.returns-then-not-few_pieces
returns-then-not-few_pieces c =
    let k1 = c in
    let a = k1.args in
    broken_pieces a.bitboards.now a.state (given tt) (holds k1.one_king.result (of_both (one_king a.bitboards.now))
    k1.one_king.ensures c.if-not-one_king.false-raw) (holds c.few_pawns.result (of_both (few_pawns a.bitboards.now)) c.few_pawns.ensures c.if-not-few_pawns.false-raw)
    (fails c.few_pieces.result (of_both (few_pieces a.bitboards.now)) c.few_pieces.ensures c.if-not-few_pieces.true-raw)

pub overflow_cast-pawn : goal.overflow_cast-pawn
overflow_cast-pawn c = omega (arith, c.scan-pawn.ensures, lowest_small c.at_ends-strays.result)

pub returns-then-strays-ne0 : goal.returns-then-strays-ne0
returns-then-strays-ne0 c =
    let k3 = c in
    let e2 = k3 in
    let k2 = e2 in
    let e1 = k2 in
    let k1 = e1 in
    let a = k1.args in
    broken_rank a.bitboards.now a.state (given tt) (holds k1.one_king.result (of_both (one_king a.bitboards.now)) k1.one_king.ensures
    e1.if-not-one_king.false-raw) (holds k2.few_pawns.result (of_both (few_pawns a.bitboards.now)) k2.few_pawns.ensures e2.if-not-few_pawns.false-raw)
    (holds k3.few_pieces.result (of_both (few_pieces a.bitboards.now)) k3.few_pieces.ensures c.if-not-few_pieces.false-raw)
    c.at_ends-strays.result c.scan-pawn.result c.at_ends-strays.ensures c.if-strays-ne0.true c.scan-pawn.ensures

pub overflow_cast-king : goal.overflow_cast-king
overflow_cast-king c = omega (arith, c.scan-king.ensures, lowest_small c.standing.result)

pub returns-then-is_check : goal.returns-then-is_check
returns-then-is_check c =
    let o = c in
    let e4 = o in
    let r = e4 in
    let e3 = r in
    let k3 = e3 in
    let e2 = k3 in
    let k2 = e2 in
    let e1 = k2 in
    let k1 = e1 in
    let a = k1.args in
    broken_check a.bitboards.now a.state (given tt) (holds k1.one_king.result (of_both (one_king a.bitboards.now)) k1.one_king.ensures
    e1.if-not-one_king.false-raw) (holds k2.few_pawns.result (of_both (few_pawns a.bitboards.now)) k2.few_pawns.ensures e2.if-not-few_pawns.false-raw)
    (holds k3.few_pieces.result (of_both (few_pieces a.bitboards.now)) k3.few_pieces.ensures e3.if-not-few_pieces.false-raw)
    r.at_ends-strays.result r.at_ends-strays.ensures e4.if-strays-ne0.false o.other-moved.result o.other-moved.ensures c.is_check.result c.is_check.ensures
    c.if-is_check.true c.standing.result c.scan-king.result c.standing.ensures c.scan-king.ensures

pub returns : goal.returns
returns c =
    let e3 = c in
    let k3 = e3 in
    let e2 = k3 in
    let k2 = e2 in
    let e1 = k2 in
    let k1 = e1 in
    let a = k1.args in
    none_broken a.bitboards.now a.state (given tt) (holds k1.one_king.result (of_both (one_king a.bitboards.now)) k1.one_king.ensures
    e1.if-not-one_king.false-raw) (holds k2.few_pawns.result (of_both (few_pawns a.bitboards.now)) k2.few_pawns.ensures e2.if-not-few_pawns.false-raw)
    (holds k3.few_pieces.result (of_both (few_pieces a.bitboards.now)) k3.few_pieces.ensures e3.if-not-few_pieces.false-raw)
    c.at_ends-strays.result c.at_ends-strays.ensures c.if-strays-ne0.false c.other-moved.result c.other-moved.ensures c.is_check.result c.is_check.ensures
    c.if-is_check.false
