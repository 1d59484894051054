-- The pieces of a store as they are found, byte by byte: what is kept of an unfinished piece, and a machine for whatever is done with a piece
-- that ends. Definitions only.
use Rattle.std.specs.Prelude.{Bool, true, false, cond, List, [], ◌∷◌, ℕ, ◌+◌, ltb, set, take}

-- an unfinished piece
pub record OpenPiece : Type 0 where
  -- the piece buffer, whole
  pub piece : List ℕ
  -- how many bytes of the piece it holds
  pub held : ℕ

abbrev pub filled : OpenPiece → ℕ → OpenPiece
filled o byte = record { piece = set o.piece o.held byte; held = o.held + 1 }

abbrev pub piece_emptied : OpenPiece → OpenPiece
piece_emptied o = record { piece = o.piece; held = 0 }

-- ---- up to and with the 34th byte: how many bytes that are, what is then unfinished, and whether a piece ended
pub record FoundPiece : Type 0 where
  pub passed : ℕ
  pub left : OpenPiece
  pub ended : Bool

abbrev pub later_piece : FoundPiece → FoundPiece
later_piece f = record { passed = f.passed + 1; left = f.left; ended = f.ended }

unfoldable pub find_piece : OpenPiece → List ℕ → FoundPiece
find_piece o [] = record { passed = 0; left = o; ended = false }
find_piece o (b ∷ s) =
    let on : FoundPiece = later_piece (find_piece (filled o b) s) in
    cond (ltb o.held 33) on (record { passed = 1; left = piece_emptied (filled o b); ended = true })

-- ---- THE MACHINE, for anything that is kept beside the pieces: `close` says what a piece does to it
pub record PiecesSoFar (S : Type 0) : Type 0 where
  pub left : OpenPiece
  pub kept : S

unfoldable pub run_pieces : {S : Type 0} → (S → List ℕ → S) → OpenPiece → S → List ℕ → PiecesSoFar S
run_pieces close o s [] = record { left = o; kept = s }
run_pieces close o s (b ∷ t) =
    let longer : PiecesSoFar _ = run_pieces close (filled o b) s t in
    let ended : PiecesSoFar _ = run_pieces close (piece_emptied (filled o b)) (close s (filled o b).piece) t in
    cond (ltb o.held 33) longer ended

-- the end of the input: an unfinished piece ends there
abbrev pub end_pieces : {S : Type 0} → (S → List ℕ → S) → PiecesSoFar S → S
end_pieces close r = cond (ltb 0 r.left.held) (close r.kept (take r.left.held r.left.piece)) r.kept
