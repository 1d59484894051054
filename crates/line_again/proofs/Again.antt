-- The claims of specs/Again. Assumes nothing.
use mathlib.Core.Path.{◌≡◌, sym, ap, ap₂, subst, ◌∙◌}
use mathlib.Core.Bool.{Bool, true}
use mathlib.Core.List.{List, [], ◌∷◌, ◌++◌}
use Prim.Native.Nat.{ℕ, suc, ◌≤◌, ◌<◌}
use native.Mathlib.Omega.{arith}
use lib.Dec.{T}
use lib.ListN.{length, get_or}
use borrow.Author.Tests.{le-leb, lt-ltb}
use Rattle.laws.proofs.Tests.{all_at}
use Rattle.laws.proofs.Truth.{T_true, true_T, and_i}
use Rattle.refusal.specs.Answer.{Answer, given}
use Rattle.position_boards.specs.Boards.{is_byte, coded, bitboards_of}
use Rattle.position_consistent.proofs.Parts.{consistent_coded}
use Rattle.position_consistent.proofs.Only.{only_made}
use Rattle.position.specs.Checked.{Fitting}
use Rattle.position.specs.declared.State.{State}
use Rattle.position.proofs.Doors.{boards_14, bytes_64, side_below_2}
use Rattle.text_in.specs.Text.{space, semicolon, is_text, every, holds, after, place_in}
use Rattle.line_ranks.specs.Ranks.{are_eight_ranks, board_of, are_ranks}
use Rattle.line_tail.specs.Tail.{tail_state}
use Rattle.line_tail.proofs.Tails.{Fitted, tail_sound}
use Rattle.line_parse.specs.Line.{Line, sides, results, with_result, line_of, fields_say, position_field, result_field, ranks_of, side_word}
use Rattle.line_parse.proofs.Given.{given_spells}
use Rattle.line_text.specs.Spelt.{placement}
use Rattle.line_text.specs.Words.{rights_text, passant_text, counter_text}
use Rattle.line_text.specs.Lines.{text_at, state_fields, parted, position_text, line_text}
use Rattle.line_text.proofs.Lengths.{position_length, line_text_length}
use Rattle.line_text.proofs.Normal.{ranks_normal, some_ranks}
use Rattle.line_again.specs.Again.{saying, fields_behind, tidied, SoundLine, ReadAgain, NoLonger, ComesBack, OnePosition}
use Rattle.line_again.proofs.Cuts.{holds_mark}
use Rattle.line_again.proofs.Back.{Restored, restored, ranks_pass}
use Rattle.line_again.proofs.Fields.{is_solid, solid_letter, solid_digit, something, AreWords}
use Rattle.line_again.proofs.Fields.{ranks_of_holds, behind_ranks, side_word_holds, position_field_holds, result_field_holds, all_text}
use Rattle.line_again.proofs.Rest.{state_words, taken, state_read, written_so}
use Rattle.line_again.proofs.Words.{side_place, word, given_worded}

-- ---- how long
pub short : (board : List ℕ) (state : State) (half : ℕ) → NoLonger board state half
short board state half = record { position = position_length board state; line = line_text_length board state half }

-- ---- read again
bytes_each : (test : ℕ → Bool) (s : List ℕ) → ((k : ℕ) → k < length s → T (test (get_or s k 0))) → T (every test s)
unfolding every
bytes_each test [] f = tt
bytes_each test (b ∷ s) f = and_i (test b) (every test s) (f 0 (omega arith)) (bytes_each test s (λ k h. f (suc k) (omega arith)))

coded_bytes : (board : List ℕ) → length board ≡ 64 → coded board ≡ true → T (every is_byte board)
unfolding coded
coded_bytes board l e = bytes_each is_byte board (λ k h. all_at 64 (λ j. is_byte (get_or board j 0)) (true_T e) k (omega arith))

-- what the words of a position field and a result say
module _ (board : List ℕ) (state : State) (half : ℕ) (hs : state.side < 2) (hh : half < 3) where
  fields_say_holds : (field r : List ℕ) → are_eight_ranks (ranks_of field) ≡ true → board_of (ranks_of field) ≡ board → place_in sides (side_word field) ≡ state.side
      → Fitted board state.side (after space field) → tail_state state.side (after space field) ≡ state → place_in results r ≡ half
      → fields_say field r ≡ given (saying board state half)
  unfolding fields_say
  fields_say_holds field r a b c f e d =
      rw (a, b, c, lt-ltb state.side 2 hs)
      (sym (tail_sound board state.side (after space field) (with_result board r (tail_state state.side (after space field))) f)
      ∙ rw (d, lt-ltb half 3 hh) (ap (λ (x : State). given (saying board x half)) e))

  passes : (line : List ℕ) (x : Answer Line) → length line ≤ 256 → T (every is_text line) → holds semicolon line ≡ true
      → fields_say (position_field line) (result_field line) ≡ x → line_of line ≡ x
  unfolding line_of
  passes line x a b c d = rw (le-leb (length line) 256 a, T_true (every is_text line) b, c) d

module _ (bitboards board : List ℕ) (state : State) (half : ℕ) (fit : Fitting bitboards board state) (hh : half < 3) where
  hs : state.side < 2
  hs = side_below_2 bitboards board state fit.shape

  size : length board ≡ 64
  size = bytes_64 bitboards board state fit.shape

  bytes : T (every is_byte board)
  bytes = coded_bytes board size (consistent_coded bitboards board fit.pieces)

  there : Restored 7 board (placement board)
  there = restored 7 board (omega (arith, size)) bytes

  -- the placement is a word, and so is each field behind it
  words : AreWords (placement board ∷ state_fields state)
  words = (
    record {
      some = something (placement board) (some_ranks 7 (placement board) there.taken);
      solid = ranks_pass is_solid solid_letter solid_digit tt 7 board bytes;
    },
    state_words board state hs fit.rights fit.passant fit.counters,
  )

  pub read_again : line_of (line_text board state half) ≡ given (saying board state half)
  read_again =
      let p : List ℕ = placement board in
      let x : List ℕ = text_at sides state.side in
      let xs : List (List ℕ) = rights_text state.rights ∷ passant_text state.passant ∷ counter_text state.halfmoves ∷ counter_text state.moves ∷ [] in
      let f : List ℕ = position_text board state in
      let r : List ℕ = text_at results half in
      let w = word half hh in
      let a = ranks_of_holds p x xs words in
      let b = behind_ranks p x xs words in
      passes board state half hs hh (line_text board state half) (given (saying board state half)) (omega (arith, line_text_length board state half))
      (all_text p x xs words r (true_T w.texts))
      (holds_mark semicolon f r)
      (ap₂ fields_say (position_field_holds p x xs words r) (result_field_holds p x xs words r ∙ w.alone)
      ∙ fields_say_holds board state half hs hh f r (ap are_eight_ranks a ∙ T_true (are_ranks 7 p) there.taken) (ap board_of a ∙ there.squares)
      (ap (place_in sides) (side_word_holds p x xs words) ∙ side_place state.side hs)
      (subst (λ (s : List ℕ). Fitted board state.side s) (sym b) (taken board state hs fit.rights fit.passant fit.counters))
      (ap (tail_state state.side) b ∙ state_read board state hs fit.rights fit.passant fit.counters) w.place)

pub again : (bitboards board : List ℕ) (state : State) (half : ℕ) → ReadAgain bitboards board state half
again bitboards board state half =
    record {
      line = λ s h. read_again bitboards board state half s.fits h;
      boards = λ s. sym (only_made bitboards board s.fits.pieces (boards_14 bitboards board state s.fits.shape) s.words);
    }

-- ---- comes back
pub comes_back : (line : List ℕ) (l : Line) → ComesBack line l
comes_back line l =
    record { tidy = λ e. tidy e; same = λ e q. tidy e ∙ sym q }
  where
    tidy : line_of line ≡ given l → line_text l.board l.state l.half ≡ tidied line
    tidy e =
        let field : List ℕ = position_field line in
        let rest : List ℕ = after space field in
        let mover : ℕ = place_in sides (side_word field) in
        let g = given_spells line l e in
        let w = given_worded line l e in
        let ranks : placement l.board ≡ ranks_of field = ap placement g.board ∙ ranks_normal 7 (ranks_of field) (true_T g.ranks) in
        let fields : state_fields l.state ≡ fields_behind (text_at sides mover) rest =
        ap state_fields (sym w.state) ∙ written_so (board_of (ranks_of field)) mover rest w.rest
        in
        ap₂ (λ (x : List ℕ) (xs : List (List ℕ)). parted (x ∷ xs) ++ (semicolon ∷ text_at results l.half)) ranks fields
        ∙ ap₂ (λ (x r : List ℕ). parted (ranks_of field ∷ fields_behind x rest) ++ (semicolon ∷ r)) w.side w.half

-- ---- one position: what reads the two texts reads one line
same_line : (p q : SoundLine) (a b : ℕ) → a < 3 → b < 3 → line_text p.board p.state a ≡ line_text q.board q.state b
    → saying p.board p.state a ≡ saying q.board q.state b
same_line p q a b ha hb e =
    let f : given (saying p.board p.state a) ≡ given (saying q.board q.state b) =
    sym ((again p.bitboards p.board p.state a).line p.sound ha) ∙ ap line_of e ∙ (again q.bitboards q.board q.state b).line q.sound hb
    in
    cc f

one_bitboards : (p q : SoundLine) → p.board ≡ q.board → p.bitboards ≡ q.bitboards
one_bitboards p q e =
    sym ((again p.bitboards p.board p.state 0).boards p.sound) ∙ ap bitboards_of e ∙ (again q.bitboards q.board q.state 0).boards q.sound

pub one_position : (p q : SoundLine) → OnePosition p q
one_position p q =
    record {
      position = λ e.
          let s = same_line p q 0 0 (omega arith) (omega arith) (ap (λ (t : List ℕ). t ++ (semicolon ∷ text_at results 0)) e) in
          let b = ap (λ (l : Line). l.board) s in
          (one_bitboards p q b, b, ap (λ (l : Line). l.state) s);
      line = λ e.
          let s = same_line p q p.half q.half p.known q.known e in
          let b = ap (λ (l : Line). l.board) s in
          (one_bitboards p q b, b, ap (λ (l : Line). l.state) s, ap (λ (l : Line). l.half) s);
    }
