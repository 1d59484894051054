-- `score_verdict::inner::heavy` meets its contract. Assumes nothing.
use Prim.Native.Nat.{◌+◌, ◌≤◌}
use native.Mathlib.Omega.{arith}
use Rattle.score_material.proofs.Pieces.{count_le}
use Rattle.score_verdict.proofs.Verdicts.{heavy_of}
use Rattle.score_verdict.proofs.inner.heavy.Goals as goal

pub overflow_add-pawns : goal.overflow_add-pawns
overflow_add-pawns c =
    let pawns-le : c.number.result + c.number-2.result ≤ 128 = let l = c.args.bitboards.now in
    omega (arith, c.number.ensures, c.number-2.ensures, count_le l 0 0, count_le l 0 1) in
    record { fits = omega (arith, pawns-le) }

pub overflow_add-rooks : goal.overflow_add-rooks
overflow_add-rooks c =
    let rooks-le : c.number-3.result + c.number-4.result ≤ 128 = let l = c.args.bitboards.now in
    omega (arith, c.number-3.ensures, c.number-4.ensures, count_le l 3 0, count_le l 3 1) in
    record { fits = omega (arith, rooks-le) }

pub overflow_add-queens : goal.overflow_add-queens
overflow_add-queens c =
    let queens-le : c.number-5.result + c.number-6.result ≤ 128 = let l = c.args.bitboards.now in
    omega (arith, c.number-5.ensures, c.number-6.ensures, count_le l 4 0, count_le l 4 1) in
    record { fits = omega (arith, queens-le) }

pub overflow_add-result : goal.overflow_add-result
overflow_add-result c =
    let pawns-le : c.number.result + c.number-2.result ≤ 128 = let l = c.args.bitboards.now in
    omega (arith, c.number.ensures, c.number-2.ensures, count_le l 0 0, count_le l 0 1) in
    let rooks-le : c.number-3.result + c.number-4.result ≤ 128 = let l = c.args.bitboards.now in
    omega (arith, c.number-3.ensures, c.number-4.ensures, count_le l 3 0, count_le l 3 1) in
    record { fits = omega (arith, rooks-le, pawns-le) }

pub overflow_add-result-2 : goal.overflow_add-result-2
overflow_add-result-2 c =
    let pawns-le : c.number.result + c.number-2.result ≤ 128 = let l = c.args.bitboards.now in
    omega (arith, c.number.ensures, c.number-2.ensures, count_le l 0 0, count_le l 0 1) in
    let rooks-le : c.number-3.result + c.number-4.result ≤ 128 = let l = c.args.bitboards.now in
    omega (arith, c.number-3.ensures, c.number-4.ensures, count_le l 3 0, count_le l 3 1) in
    let queens-le : c.number-5.result + c.number-6.result ≤ 128 = let l = c.args.bitboards.now in
    omega (arith, c.number-5.ensures, c.number-6.ensures, count_le l 4 0, count_le l 4 1) in
    record { fits = omega (arith, queens-le, rooks-le, pawns-le) }

pub returns : goal.returns
returns c =
    heavy_of c.args.bitboards.now _ _ _ _ _ _ c.number.ensures c.number-2.ensures c.number-3.ensures
    c.number-4.ensures c.number-5.ensures c.number-6.ensures
