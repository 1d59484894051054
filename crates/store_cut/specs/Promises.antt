-- What each function promises, for all inputs. Definitions only.
use Rattle.std.specs.Prelude.{◌≡◌, Bool, List, ℕ, ◌+◌, ◌/◌, drop}
use Rattle.store_cut.specs.Cut.{OpenPiece, FoundPiece, find_piece}
use Rattle.store_cut.specs.declared.CutPiece.{CutPiece}

-- how many pieces end in so many bytes more
abbrev pub EndsPieces : ℕ → ℕ → ℕ → Type 0
EndsPieces held more r = r ≡ (held + more) / 34

abbrev pub holding_piece : List ℕ → ℕ → OpenPiece
holding_piece piece held = record { piece = piece; held = held }

-- what was found, as the code says it
abbrev pub cut_piece_of : ℕ → FoundPiece → CutPiece
cut_piece_of from f = record { at = from + f.passed; held = f.left.held; ended = f.ended }

pub record CutsPiece (held : ℕ) (piece chunk : List ℕ) (from : ℕ) (r : CutPiece) (piece' : List ℕ) : Type 0 where
  pub answer : r ≡ cut_piece_of from (find_piece (holding_piece piece held) (drop from chunk))
  pub kept : piece' ≡ (find_piece (holding_piece piece held) (drop from chunk)).left.piece

-- ---- a private function
abbrev pub MakesCut : ℕ → ℕ → Bool → CutPiece → Type 0
MakesCut at held ended r = r ≡ record { at = at; held = held; ended = ended }
