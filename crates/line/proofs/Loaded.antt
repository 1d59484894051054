-- What a line that is not refused writes is a consistent position, with its rights, its square and its counters borne out, and the only one whose bytes
-- its ranks spell. So a call on it meets no refusal of a position. Assumes nothing.
use mathlib.Core.Path.{◌≡◌, sym, ap, ◌∙◌}
use mathlib.Core.Bool.{true}
use mathlib.Core.List.{List}
use Prim.Native.Nat.{ℕ, ◌^◌, ◌<◌}
use lib.Dec.{eqb}
use lib.ListN.{length, get_or}
use Rattle.laws.specs.Tests.{all_below}
use Rattle.laws.proofs.Tests.{all_of}
use Rattle.laws.proofs.Truth.{T_true, or_r}
use Rattle.chess.specs.Codes.{is_piece}
use Rattle.refusal.specs.Answer.{Answer, given}
use Rattle.position_consistent.specs.Consistent.{consistent}
use Rattle.position.specs.Checked.{checked, Fitting}
use Rattle.position_boards.specs.Boards.{is_byte, coded, bitboards_of}
use Rattle.position_consistent.proofs.Only.{made_consistent, made_length, only_made}
use Rattle.position.proofs.Doors.{in_shape, sound}
use Rattle.text_in.proofs.Every.{every_at}
use Rattle.line_ranks.specs.Ranks.{board_of}
use Rattle.line_ranks.proofs.Board.{board_64, board_passes}
use Rattle.line_parse.specs.Line.{Line, ranks_of, position_field, line_of}
use Rattle.line_parse.proofs.Given.{given_spells}

all_coded : (s : List ℕ) → coded (board_of s) ≡ true
unfolding coded
all_coded s =
    T_true (all_below 64 (λ k. is_byte (get_or (board_of s) k 0)))
    (all_of 64 (λ k. is_byte (get_or (board_of s) k 0)) (λ k h. every_at is_byte tt (board_of s)
    (board_passes is_byte tt (λ c p. or_r (eqb c 0) (is_piece c) p) 7 s) k))

module _ (line : List ℕ) (l : Line) (e : line_of line ≡ given l) where
  -- its bytes are those that the ranks spell, 64 of them
  pub loaded_board : l.board ≡ board_of (ranks_of (position_field line))
  loaded_board = (given_spells line l e).board

  pub loaded_64 : length l.board ≡ 64
  loaded_64 = ap length loaded_board ∙ board_64 (ranks_of (position_field line)) (given_spells line l e).ranks

  -- it is consistent
  pub loaded_consistent : consistent (bitboards_of l.board) l.board ≡ true
  loaded_consistent = made_consistent l.board (ap coded loaded_board ∙ all_coded (ranks_of (position_field line)))

  -- and no other 14 bitboards are, with these bytes
  pub loaded_only : (bitboards : List ℕ) → length bitboards ≡ 14 → ((board : ℕ) → get_or bitboards board 0 < 2 ^ 64)
      → consistent bitboards l.board ≡ true → bitboards ≡ bitboards_of l.board
  loaded_only bitboards n small c = only_made bitboards l.board c n small

  -- it passes every test of a position
  pub loaded_fits : Fitting (bitboards_of l.board) l.board l.state
  loaded_fits =
      let s = given_spells line l e in
      record {
        shape = in_shape (bitboards_of l.board) l.board l.state (made_length l.board) loaded_64 s.side;
        pieces = loaded_consistent;
        rights = s.rights;
        passant = s.passant;
        counters = s.counters;
      }

  -- none of its refusals stands before what is asked of it
  pub loaded_checked : {A : Type 0} (rest : Answer A) → checked (bitboards_of l.board) l.board l.state rest ≡ rest
  loaded_checked rest = sym (sound (bitboards_of l.board) l.board l.state rest loaded_fits)
