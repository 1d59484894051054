-- `fit_root::settled` meets its contract: what is left of m·2^52 tells whether n, or a neighbour, is the nearest. Assumes nothing.
use Rattle.std.proofs.Common.{◌≡◌, ◌+◌, ◌-◌, ◌*◌, ◌/◌, ◌%◌, ◌^◌, arith}
use Rattle.fit_root.proofs.Whole.{taken_off_holds, near, near_above, near_below}
use Rattle.fit_root.proofs.settled.Goals as goal

pub returns-then-square-rest-2 : goal.returns-then-square-rest-2
returns-then-square-rest-2 c =
    let left : let s = c.args in ((s.m - s.n / 2 ^ 27 * (s.n / 2 ^ 27) * 4) * 2 ^ 24 + 2 ^ 26 - s.n / 2 ^ 27 * (s.n % 2 ^ 27)) * 2 ^ 28 + s.n * s.n ≡ s.n % 2 ^ 27 * (s.n % 2 ^ 27) + 2 ^ 54 + s.m * 2 ^ 52 = let s = c.args in
    taken_off_holds s.m s.n c.if-m-first.false c.if-moved-cross.false in
    λ z. near_below _ _ _ _ (left) (omega arith) (omega arith)

pub returns-then-rest-square : goal.returns-then-rest-square
returns-then-rest-square c =
    let left : let s = c.args in ((s.m - s.n / 2 ^ 27 * (s.n / 2 ^ 27) * 4) * 2 ^ 24 + 2 ^ 26 - s.n / 2 ^ 27 * (s.n % 2 ^ 27)) * 2 ^ 28 + s.n * s.n ≡ s.n % 2 ^ 27 * (s.n % 2 ^ 27) + 2 ^ 54 + s.m * 2 ^ 52 = let s = c.args in
    taken_off_holds s.m s.n c.if-m-first.false c.if-moved-cross.false in
    λ z. near _ _ _ _ (left) (omega arith) (omega arith)

pub returns-then-rest-square-2 : goal.returns-then-rest-square-2
returns-then-rest-square-2 c =
    let left : let s = c.args in ((s.m - s.n / 2 ^ 27 * (s.n / 2 ^ 27) * 4) * 2 ^ 24 + 2 ^ 26 - s.n / 2 ^ 27 * (s.n % 2 ^ 27)) * 2 ^ 28 + s.n * s.n ≡ s.n % 2 ^ 27 * (s.n % 2 ^ 27) + 2 ^ 54 + s.m * 2 ^ 52 = let s = c.args in
    taken_off_holds s.m s.n c.if-m-first.false c.if-moved-cross.false in
    λ z. near_above _ _ _ _ (left) (omega arith) (omega arith)
