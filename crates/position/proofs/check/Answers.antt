-- `position::check` meets its contract. Assumes nothing.
use mathlib.Core.Path.{◌≡◌, sym, ap₂, ◌∙◌}
use mathlib.Core.Bool.{Bool, true, ◌&&◌}
use mathlib.Core.List.{List}
use Prim.Native.Nat.{ℕ}
use native.Mathlib.Omega.{arith}
use lib.ListN.{length}
use borrow.Author.Tests.{eq-eqb, not-true, not-false}
use Rattle.refusal.specs.Answer.{given}
use Rattle.position_consistent.specs.Consistent.{consistent}
use Rattle.position_consistent.specs.Promises.{Fits}
use Rattle.position.specs.Checked.{shaped}
use Rattle.position.proofs.Doors.{in_shape, no_boards, no_bytes, no_side, misshapen, inconsistent, no_right, no_passant, uncounted, in_count}
use Rattle.position.proofs.check.Goals as goal

-- where the shape is right, what `fits` says is consistency alone
decided : (bbs bytes : List ℕ) (r : Bool) → length bbs ≡ 14 → length bytes ≡ 64 → Fits bbs bytes r → consistent bbs bytes ≡ r
decided bbs bytes r l m e = sym (e ∙ ap₂ (λ (a b : Bool). a && b && consistent bbs bytes) (eq-eqb (length bbs) 14 l) (eq-eqb (length bytes) 64 m))

pub returns-then-bitboards-ne-BOARDS : goal.returns-then-bitboards-ne-BOARDS
returns-then-bitboards-ne-BOARDS c =
    let a = c.args in
    misshapen a.bitboards.now a.board.now a.state (given tt) (no_boards a.bitboards.now a.board.now a.state c.if-bitboards-ne-BOARDS.true)

pub returns-then-board-ne-COUNT : goal.returns-then-board-ne-COUNT
returns-then-board-ne-COUNT c =
    let a = c.args in
    misshapen a.bitboards.now a.board.now a.state (given tt) (no_bytes a.bitboards.now a.board.now a.state c.if-board-ne-COUNT.true)

pub returns-then-index-ge-COUNT : goal.returns-then-index-ge-COUNT
returns-then-index-ge-COUNT c =
    let a = c.args in
    misshapen a.bitboards.now a.board.now a.state (given tt) (no_side a.bitboards.now a.board.now a.state (omega arith))

-- ?? c.fits.result
pub returns-then-not-fits : goal.returns-then-not-fits
returns-then-not-fits c =
    let shape : shaped c.args.bitboards.now c.args.board.now c.args.state ≡ true = let a = c.args in
    in_shape a.bitboards.now a.board.now a.state c.if-bitboards-ne-BOARDS.false c.if-board-ne-COUNT.false (omega arith) in
    let fitted : consistent c.args.bitboards.now c.args.board.now ≡ c.fits.result = let a = c.args in
    decided a.bitboards.now a.board.now c.fits.result c.if-bitboards-ne-BOARDS.false c.if-board-ne-COUNT.false c.fits.ensures in
    let a = c.args in
    inconsistent a.bitboards.now a.board.now a.state (given tt) (shape) (fitted ∙ not-true c.fits.result c.if-not-fits.true-raw)
    c.at_odds.result c.at_odds.ensures

-- ?? c.fits.result
pub returns-then-not-at_home : goal.returns-then-not-at_home
returns-then-not-at_home c =
    let shape : shaped c.args.bitboards.now c.args.board.now c.args.state ≡ true = let a = c.args in
    in_shape a.bitboards.now a.board.now a.state c.if-bitboards-ne-BOARDS.false c.if-board-ne-COUNT.false (omega arith) in
    let fitted : consistent c.args.bitboards.now c.args.board.now ≡ c.fits.result = let a = c.args in
    decided a.bitboards.now a.board.now c.fits.result c.if-bitboards-ne-BOARDS.false c.if-board-ne-COUNT.false c.fits.ensures in
    let a = c.args in
    no_right a.bitboards.now a.board.now a.state (given tt) (shape) (fitted ∙ not-false c.fits.result c.if-not-fits.false-raw)
    (sym c.at_home.ensures ∙ not-true c.at_home.result c.if-not-at_home.true-raw)

-- ?? c.fits.result
pub returns-then-not-just_passed : goal.returns-then-not-just_passed
returns-then-not-just_passed c =
    let shape : shaped c.args.bitboards.now c.args.board.now c.args.state ≡ true = let a = c.args in
    in_shape a.bitboards.now a.board.now a.state c.if-bitboards-ne-BOARDS.false c.if-board-ne-COUNT.false (omega arith) in
    let fitted : consistent c.args.bitboards.now c.args.board.now ≡ c.fits.result = let a = c.args in
    decided a.bitboards.now a.board.now c.fits.result c.if-bitboards-ne-BOARDS.false c.if-board-ne-COUNT.false c.fits.ensures in
    let a = c.args in
    no_passant a.bitboards.now a.board.now a.state (given tt) (shape) (fitted ∙ not-false c.fits.result c.if-not-fits.false-raw)
    (sym c.at_home.ensures ∙ not-false c.at_home.result c.if-not-at_home.false-raw)
    (sym c.just_passed.ensures ∙ not-true c.just_passed.result c.if-not-just_passed.true-raw)

-- ?? c.fits.result
pub returns-then-not-counters_fit : goal.returns-then-not-counters_fit
returns-then-not-counters_fit c =
    let shape : shaped c.args.bitboards.now c.args.board.now c.args.state ≡ true = let a = c.args in
    in_shape a.bitboards.now a.board.now a.state c.if-bitboards-ne-BOARDS.false c.if-board-ne-COUNT.false (omega arith) in
    let fitted : consistent c.args.bitboards.now c.args.board.now ≡ c.fits.result = let a = c.args in
    decided a.bitboards.now a.board.now c.fits.result c.if-bitboards-ne-BOARDS.false c.if-board-ne-COUNT.false c.fits.ensures in
    let a = c.args in
    uncounted a.bitboards.now a.board.now a.state (given tt) (shape) (fitted ∙ not-false c.fits.result c.if-not-fits.false-raw)
    (sym c.at_home.ensures ∙ not-false c.at_home.result c.if-not-at_home.false-raw)
    (sym c.just_passed.ensures ∙ not-false c.just_passed.result c.if-not-just_passed.false-raw)
    (sym c.counters_fit.ensures ∙ not-true c.counters_fit.result c.if-not-counters_fit.true-raw)

-- ?? c.fits.result
pub returns : goal.returns
returns c =
    let shape : shaped c.args.bitboards.now c.args.board.now c.args.state ≡ true = let a = c.args in
    in_shape a.bitboards.now a.board.now a.state c.if-bitboards-ne-BOARDS.false c.if-board-ne-COUNT.false (omega arith) in
    let fitted : consistent c.args.bitboards.now c.args.board.now ≡ c.fits.result = let a = c.args in
    decided a.bitboards.now a.board.now c.fits.result c.if-bitboards-ne-BOARDS.false c.if-board-ne-COUNT.false c.fits.ensures in
    let a = c.args in
    in_count a.bitboards.now a.board.now a.state (given tt) (shape) (fitted ∙ not-false c.fits.result c.if-not-fits.false-raw)
    (sym c.at_home.ensures ∙ not-false c.at_home.result c.if-not-at_home.false-raw)
    (sym c.just_passed.ensures ∙ not-false c.just_passed.result c.if-not-just_passed.false-raw)
    (sym c.counters_fit.ensures ∙ not-false c.counters_fit.result c.if-not-counters_fit.false-raw)
