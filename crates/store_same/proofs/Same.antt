-- What is written is read as the same; what is read is consistent and written as the same; two positions or results have two records.
-- Assumes nothing.
use mathlib.Core.Path.{◌≡◌, refl, sym, ap, ap₂, ◌∙◌}
use mathlib.Core.Bool.{Bool, true, false, ◌&&◌}
use mathlib.Core.List.{List}
use Prim.Native.Nat.{ℕ, ◌/◌, ◌%◌, ◌<◌}
use native.Mathlib.Omega.{arith}
use lib.Dec.{eqb, ltb}
use lib.ListN.{length, get_or}
use lib.Seq.{take_all}
use borrow.Author.Tests.{eq-eqb, lt-ltb, ltb-true}
use Rattle.refusal.specs.Answer.{Answer, given, or_refuse}
use Rattle.refusal.proofs.Paper.{answered_same}
use Rattle.refusal.specs.declared.Refusal.TheVariants as R
use Rattle.refusal.proofs.Answers.{given_not}
use Rattle.position_boards.specs.Boards.{bitboards_of}
use Rattle.position_consistent.specs.Consistent.{consistent}
use Rattle.position_consistent.proofs.Parts.{consistent_coded}
use Rattle.position_consistent.proofs.Only.{made_consistent, only_made}
use Rattle.position.specs.Checked.{of_side, shaped}
use Rattle.position.proofs.Doors.{through, boards_14, bytes_64, side_below_2}
use Rattle.line_parse.specs.Line.{Line}
use Rattle.line_parse.specs.Promises.{by_value, board_after}
use Rattle.line.specs.Promises.{bitboards_after, or_shape}
use Rattle.store_record.specs.Record.{record_of, in_record, piece_says, stored_says}
use Rattle.store_record.specs.Promises.{store_of, is_stored, place_after}
use Rattle.store_record.proofs.Records.{record_34}
use Rattle.store_same.specs.Same.{WroteRecord, ReadBack, Again, Back, TwoHaveTwo}
use Rattle.store_same.proofs.Trips.{says_it, halves_back, read_64, record_back}
use Rattle.std.specs.Prelude.{Ok}

-- a record alone is record 0 of its run
alone : (bytes : List ℕ) → length bytes ≡ 34 → stored_says bytes 0 ≡ piece_says bytes
unfolding stored_says
alone bytes n =
    let a : length bytes % 34 ≡ 0 = omega arith in
    let b : 0 < length bytes / 34 = omega arith in
    rw (eq-eqb (length bytes % 34) 0 a, lt-ltb 0 (length bytes / 34) b) (ap piece_says (take_all 34 bytes (omega arith)))

-- ---- a call that wrote
module _ (w : WroteRecord) where
  abbrev line : Line
  line = record { state = w.state; half = w.half; board = w.board }

  -- the tests held, and the record was written
  record Held : Type 0 where
    shape : shaped w.bitboards w.board w.state ≡ true
    fits : consistent w.bitboards w.board ≡ true
    result : w.half < 3
    bytes : w.place' ≡ record_of line

  -- an answer whose paper is given was given
  was : (a : Answer (List ℕ)) → given tt ≡ is_stored a → (bytes : List ℕ) × (a ≡ given bytes)
  was (given bytes) e = (bytes, refl)
  was (Rattle.refusal.specs.Answer.refused n v) e = given_not e

  held : Held
  unfolding store_of
  held = go (was (store_of w.bitboards w.board w.state w.half w.place) w.writes.answer)
    where
      tests : (x y : Bool) (bytes : List ℕ) → ltb w.half 3 ≡ x → or_refuse x R.Result (or_refuse y R.Length (given (record_of line))) ≡ given bytes
          → (w.half < 3) × (bytes ≡ record_of line)
      tests true true bytes p e = (ltb-true w.half 3 p, cc)
      tests true false bytes p e = given_not (sym e)
      tests false y bytes p e = given_not (sym e)

      go : (bytes : List ℕ) × (store_of w.bitboards w.board w.state w.half w.place ≡ given bytes) → Held
      go b =
          let t = through w.bitboards w.board w.state (or_refuse (ltb w.half 3) R.Result
          (or_refuse (eqb (length w.place) 34) R.Length (given (record_of line)))) b.0 b.1 in
          let u = tests (ltb w.half 3) (eqb (length w.place) 34) b.0 refl t.1 in
          record {
            shape = t.0.shape;
            fits = t.0.pieces;
            result = u.0;
            bytes = w.writes.bytes ∙ ap (λ (a : Answer (List ℕ)). place_after a w.place) b.1 ∙ u.1;
          }

  boards_are : w.bitboards ≡ bitboards_of w.board
  boards_are = only_made w.bitboards w.board held.fits (boards_14 w.bitboards w.board w.state held.shape) w.small

  says : piece_says w.place' ≡ given (in_record line)
  says =
      ap piece_says held.bytes
      ∙ says_it line (bytes_64 w.bitboards w.board w.state held.shape) (consistent_coded w.bitboards w.board held.fits)
      (side_below_2 w.bitboards w.board w.state held.shape) held.result

  -- WRITTEN, THEN READ
  pub again : (r : ReadBack w) → Again w r
  again r =
      let e : or_shape r.bitboards r.board (stored_says w.place' 0) ≡ given (in_record line) =
      ap₂ (λ (s t : Bool). or_refuse (s && t) R.Shape (stored_says w.place' 0)) (eq-eqb (length r.bitboards) 14 r.boards_14)
      (eq-eqb (length r.board) 64 r.bytes_64)
      ∙ alone w.place' (ap length held.bytes ∙ record_34 line) ∙ says in
      record {
        said = answered_same r.answer (Ok (of_side w.state.side, w.half)) (r.reads.answer ∙ ap by_value e);
        boards = r.reads.boards ∙ ap (λ (a : Answer Line). bitboards_after a r.bitboards) e ∙ sym boards_are;
        bytes = r.reads.bytes ∙ ap (λ (a : Answer Line). board_after a r.board) e;
      }

-- ---- READ, THEN WRITTEN
pub back : (bytes : List ℕ) (l : Line) → ((i : ℕ) → get_or bytes i 0 < 256) → piece_says bytes ≡ given l → Back bytes l
back bytes l small e =
    record { boards = read_64 bytes l e; fits = made_consistent l.board (halves_back bytes l e).codes; same = record_back bytes l e small }

-- ---- two have two
pub two_have_two : (w v : WroteRecord) → TwoHaveTwo w v
two_have_two w v e =
    let both : given (in_record (line w)) ≡ given (in_record (line v)) = sym (says w) ∙ ap piece_says e ∙ says v in
    let same : in_record (line w) ≡ in_record (line v) = cc in
    let board = ap (λ (l : Line). l.board) same in
    (ap (λ (l : Line). l.state.side) same, ap (λ (l : Line). l.half) same, boards_are w ∙ ap bitboards_of board ∙ sym (boards_are v), board)
