-- A line that is not refused passed every test, and says what its fields spell. Assumes nothing.
use mathlib.Core.Path.{◌≡◌, sym, ap, subst}
use mathlib.Core.Bool.{true}
use mathlib.Core.List.{List}
use Prim.Native.Nat.{ℕ, ◌<◌}
use lib.Dec.{leb}
use lib.ListN.{length}
use borrow.Author.Tests.{ltb-true}
use Rattle.refusal.specs.Answer.{Answer, given, or_refuse}
use Rattle.refusal.specs.declared.Refusal.TheVariants as R
use Rattle.refusal.proofs.Answers.{passed}
use Rattle.position_further.specs.Rule.{at_home, just_passed, counters_fit}
use Rattle.position.specs.declared.State.{State}
use Rattle.text_in.specs.Text.{space, semicolon, is_text, every, holds, after, place_in}
use Rattle.line_ranks.specs.Ranks.{are_eight_ranks, board_of}
use Rattle.line_tail.specs.Tail.{or_tail, tail_state}
use Rattle.line_tail.proofs.Tails.{Fitted, tail_through, rights_borne, passant_borne, counters_borne, state_side}
use Rattle.line_parse.specs.Line.{Line, sides, results, is_one_of, ranks_of, side_word, position_field, result_field, with_result, fields_say, line_of}

-- what its fields are, and the board bears them out
pub record Spells (field result : List ℕ) (l : Line) : Type 0 where
  pub ranks : are_eight_ranks (ranks_of field) ≡ true
  pub side : l.state.side < 2
  pub rights : at_home l.board l.state.rights ≡ true
  pub passant : just_passed l.board l.state.side l.state.passant ≡ true
  pub counters : counters_fit l.state.halfmoves l.state.moves ≡ true
  pub half : l.half < 3
  pub board : l.board ≡ board_of (ranks_of field)
  pub mover : place_in sides (side_word field) < 2
  pub rest : Fitted (board_of (ranks_of field)) (place_in sides (side_word field)) (after space field)
  pub state : tail_state (place_in sides (side_word field)) (after space field) ≡ l.state
  pub half_place : place_in results result ≡ l.half

spells : (field result : List ℕ) (l : Line) → fields_say field result ≡ given l → Spells field result l
unfolding fields_say
spells field result l e =
    let bytes : List ℕ = board_of (ranks_of field) in
    let side : ℕ = place_in sides (side_word field) in
    let tail : List ℕ = after space field in
    let state : State = tail_state side tail in
    let x : Line = record { state = state; half = place_in results result; board = bytes } in
    let c : Answer Line = or_tail bytes side tail (with_result bytes result state) in
    let b : Answer Line = or_refuse (is_one_of sides (side_word field)) R.Side c in
    let p = passed (are_eight_ranks (ranks_of field)) R.Place l b e in
    let q = passed (is_one_of sides (side_word field)) R.Side l c p.1 in
    let t = tail_through bytes side tail (with_result bytes result state) l q.1 in
    let r = passed (is_one_of results result) R.Result l (given x) t.1 in
    let same : x ≡ l = cc r.1 in
    let mover : side ≡ state.side = sym (state_side side tail) in
    record {
      ranks = p.0;
      side = subst (λ (k : Line). k.state.side < 2) same (subst (λ (n : ℕ). n < 2) mover (ltb-true side 2 q.0));
      rights = subst (λ (k : Line). at_home k.board k.state.rights ≡ true) same (rights_borne bytes side tail t.0);
      passant =
          subst (λ (k : Line). just_passed k.board k.state.side k.state.passant ≡ true) same
          (subst (λ (n : ℕ). just_passed bytes n state.passant ≡ true) mover (passant_borne bytes side tail t.0));
      counters = subst (λ (k : Line). counters_fit k.state.halfmoves k.state.moves ≡ true) same (counters_borne bytes side tail t.0);
      half = subst (λ (k : Line). k.half < 3) same (ltb-true (place_in results result) 3 r.0);
      board = sym (ap (λ (k : Line). k.board) same);
      mover = ltb-true side 2 q.0;
      rest = t.0;
      state = ap (λ (k : Line). k.state) same;
      half_place = ap (λ (k : Line). k.half) same;
    }

pub given_spells : (line : List ℕ) (l : Line) → line_of line ≡ given l → Spells (position_field line) (result_field line) l
unfolding line_of
given_spells line l e =
    let a : Answer Line = fields_say (position_field line) (result_field line) in
    let b : Answer Line = or_refuse (holds semicolon line) R.Field a in
    let c : Answer Line = or_refuse (every is_text line) R.Byte b in
    spells (position_field line) (result_field line) l
    (passed (holds semicolon line) R.Field l a
    (passed (every is_text line) R.Byte l b
    (passed (leb (length line) 256) R.Long l c e).1).1).1
