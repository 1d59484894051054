-- `position_consistent::fits` meets its contract: each return is one of the tests of consistency. Assumes nothing.
use mathlib.Core.Path.{◌≡◌, sym, ap₂, ◌∙◌}
use mathlib.Core.Bool.{true}
use mathlib.Core.List.{List}
use Prim.Native.Nat.{ℕ}
use native.Mathlib.Omega.{arith}
use borrow.Author.Tests.{not-true, not-false}
use lib.ListN.{length}
use Rattle.position_boards.specs.Sound.{sound}
use Rattle.position_boards.proofs.Tested.{sound_14}
use Rattle.position_consistent.specs.PrivateTested.{plane_of, files_right}
use Rattle.position_consistent.proofs.Tested.{unsound, bytes_decide}
use Rattle.position_consistent.proofs.fits.Goals as goal

pub returns-then-not-sound : goal.returns-then-not-sound
returns-then-not-sound c =
    let a = c.args in
    unsound a.bitboards.now a.board.now (sym c.sound.ensures ∙ not-true c.sound.result c.if-not-sound.true-raw)

pub plane-ones-requires : goal.plane-ones-requires
plane-ones-requires c =
    let boards : List ℕ = c.args.bitboards.now in
    let stand : sound (boards) ≡ true = sym c.sound.ensures ∙ not-false c.sound.result c.if-not-sound.false-raw in
    let fourteen : length (boards) ≡ 14 = sound_14 (boards) (stand) in
    (fourteen, omega arith)

pub plane-twos-requires : goal.plane-twos-requires
plane-twos-requires c =
    let boards : List ℕ = c.args.bitboards.now in
    let stand : sound (boards) ≡ true = sym c.sound.ensures ∙ not-false c.sound.result c.if-not-sound.false-raw in
    let fourteen : length (boards) ≡ 14 = sound_14 (boards) (stand) in
    (fourteen, omega arith)

pub plane-fours-requires : goal.plane-fours-requires
plane-fours-requires c =
    let boards : List ℕ = c.args.bitboards.now in
    let stand : sound (boards) ≡ true = sym c.sound.ensures ∙ not-false c.sound.result c.if-not-sound.false-raw in
    let fourteen : length (boards) ≡ 14 = sound_14 (boards) (stand) in
    (fourteen, omega arith)

pub plane-eights-requires : goal.plane-eights-requires
plane-eights-requires c =
    let boards : List ℕ = c.args.bitboards.now in
    let stand : sound (boards) ≡ true = sym c.sound.ensures ∙ not-false c.sound.result c.if-not-sound.false-raw in
    let fourteen : length (boards) ≡ 14 = sound_14 (boards) (stand) in
    (fourteen, omega arith)

pub returns : goal.returns
returns c =
    let boards : List ℕ = c.args.bitboards.now in
    let stand : sound (boards) ≡ true = sym c.sound.ensures ∙ not-false c.sound.result c.if-not-sound.false-raw in
    let a = c.args in
    c.bytes_amiss.ensures
    ∙ ap₂ (λ (ones twos : ℕ). files_right a.board.now ones twos c.plane-fours.result c.plane-eights.result) c.plane-ones.ensures c.plane-twos.ensures
    ∙ ap₂ (λ (fours eights : ℕ). files_right a.board.now (plane_of a.bitboards.now 0) (plane_of a.bitboards.now 1) fours eights)
    c.plane-fours.ensures c.plane-eights.ensures
    ∙ bytes_decide a.bitboards.now a.board.now stand c.if-board-ne-COUNT.false
