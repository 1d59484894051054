-- `trace::place` meets its contract. Assumes nothing.
use mathlib.Core.Path.{◌≡◌, ap₂, ◌∙◌}
use Prim.Native.Nat.{ℕ, ◌/◌, ◌%◌}
use native.Mathlib.Omega.{arith}
use Rattle.places.specs.Places.{entry_place}
use Rattle.chess.specs.Codes.{kind_of}
use Rattle.trace.specs.PrivateMarked.{code_place}
use Rattle.trace.proofs.Turns.{kind_lt, place_lt}
use Rattle.trace.proofs.place.Goals as goal

pub returns : goal.returns
returns c =
    let a = c.args in
    let e : c.entry.result ≡ code_place a.code a.square = c.entry.ensures
    ∙ ap₂ (λ (k t : ℕ). entry_place k t (a.code % 2)) c.kind.ensures c.flip.ensures in
    (e, place_lt (kind_of a.code) (a.code % 2) a.square c.entry.result (kind_lt (a.code / 2)) (omega arith) c.requires e)
