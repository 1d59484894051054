-- The claims of specs/Calls, from the promises of `write_line` and `read_line` alone. Assumes nothing.
use mathlib.Core.Path.{◌≡◌, refl, sym, ap, ap₂, subst, ◌∙◌}
use mathlib.Core.Bool.{Bool, true, false, ◌&&◌}
use mathlib.Core.List.{List, ◌++◌}
use Prim.Native.Nat.{ℕ, ◌^◌, ◌≤◌, ◌<◌}
use native.Mathlib.Omega.{arith}
use lib.Dec.{leb, eqb}
use lib.ListN.{length, take, drop, get_or}
use lib.Seq.{take-append_seam}
use borrow.Author.Tests.{eq-eqb, le-leb, leb-true}
use Rattle.refusal.specs.Answer.{Answer, given, refused, or_refuse}
use Rattle.refusal.proofs.Paper.{answered_same}
use Rattle.refusal.specs.declared.Refusal.TheVariants as R
use Rattle.refusal.proofs.Answers.{given_not, passed}
use Rattle.position_boards.specs.Boards.{bitboards_of}
use Rattle.position.specs.Checked.{Fitting}
use Rattle.position.specs.declared.State.{State}
use Rattle.position.proofs.Doors.{through}
use Rattle.line_parse.specs.Line.{Line, line_of}
use Rattle.line_parse.specs.Promises.{by_value, board_after}
use Rattle.line_parse.proofs.Given.{given_spells}
use Rattle.line.specs.Promises.{Reads, ReadsLine, bitboards_after}
use Rattle.line.proofs.Loaded.{loaded_checked}
use Rattle.line_text.specs.Lines.{line_text}
use Rattle.line_write.specs.Write.{or_room, text_written_of, buffer_after}
use Rattle.line_write.specs.Promises.{WritesLine}
use Rattle.line_again.specs.Again.{saying, tidied}
use Rattle.line_again.specs.Calls.{CallAgain, CallBack}
use Rattle.line_again.proofs.Again.{again, comes_back}
use Rattle.std.specs.Prelude.{Result, Ok, Some}
use Rattle.refusal.specs.declared.Refusal.{Refusal}

-- ---- read again
module _ (bitboards board : List ℕ) (state : State) (half : ℕ) (old new : List ℕ) (n : ℕ)
    (w : WritesLine bitboards board state (Some half) old new (Ok n)) where
  abbrev text : List ℕ
  text = line_text board state half

  -- each test was passed, and the number given is the text's
  tests : Fitting bitboards board state × (leb half 2 ≡ true) × (n ≡ length text)
  tests =
      let p = through bitboards board state (text_written_of board state (Some half) old) n (sym w.answer) in
      let r = passed (leb half 2) R.Result n (or_room text old) p.1 in
      let s = passed (leb (length text) (length old)) R.Room n (given (length text)) r.1 in
      (p.0, r.0, (let e : n ≡ length text = cc s.1 in e))

  front : take n new ≡ text
  front =
      ap (take n) (w.buffer ∙ ap (λ (a : Answer ℕ). buffer_after a text old) (sym w.answer))
      ∙ ap (λ (k : ℕ). take k (text ++ drop n old)) tests.2 ∙ take-append_seam text (drop n old)

  read_so : ((b : ℕ) → get_or bitboards b 0 < 2 ^ 64) → line_of (take n new) ≡ given (saying board state half)
  read_so words =
      let h : half < 3 = omega (arith, leb-true half 2 tests.1) in
      ap line_of front ∙ (again bitboards board state half).line (record { fits = tests.0; words = words }) h

-- lent memory of the right lengths: the call gives what the line says
lent_right : (line bbs bytes : List ℕ) (r : Result (State × ℕ) Refusal) (bbs' bytes' : List ℕ) → length bbs ≡ 14 → length bytes ≡ 64 → ReadsLine line bbs bytes r bbs' bytes'
    → Reads (line_of line) bbs bytes r bbs' bytes'
lent_right line bbs bytes r bbs' bytes' l m p =
    let e : (eqb (length bbs) 14 && eqb (length bytes) 64) ≡ true = ap₂ ◌&&◌ (eq-eqb (length bbs) 14 l) (eq-eqb (length bytes) 64 m) in
    subst (λ (t : Bool). Reads (or_refuse t R.Shape (line_of line)) bbs bytes r bbs' bytes') e p

pub call_again : (bitboards board : List ℕ) (state : State) (half : ℕ) (old new : List ℕ) (n : ℕ) → CallAgain bitboards board state half old new n
call_again bitboards board state half old new n =
    record {
      reads = λ words w bbs bytes r bbs' bytes' l m p.
          let e = read_so bitboards board state half old new n w words in
          let q = lent_right (take n new) bbs bytes r bbs' bytes' l m p in
          let t = tests bitboards board state half old new n w in (
            answered_same r (Ok (state, half)) (q.answer ∙ ap by_value e),
            q.boards ∙ ap (λ (a : Answer Line). bitboards_after a bbs) e
                ∙ (again bitboards board state half).boards (record { fits = t.0; words = words }),
            q.bytes ∙ ap (λ (a : Answer Line). board_after a bytes) e,
          );
    }

-- ---- and back
module _ (line : List ℕ) (l : Line) (old new : List ℕ) (r : Result ℕ Refusal) (e : line_of line ≡ given l) (tidy : line ≡ tidied line)
    (room_for : length line ≤ length old) where
  same : line_text l.board l.state l.half ≡ line
  same = (comes_back line l).same e tidy

  fitted : text_written_of l.board l.state (Some l.half) old ≡ given (length line)
  fitted =
      let h : l.half ≤ 2 = omega (arith, (given_spells line l e).half) in
      ap (λ (t : List ℕ). or_refuse (leb l.half 2) R.Result (or_room t old)) same
      ∙ rw (le-leb l.half 2 h, le-leb (length line) (length old) room_for)

  back : WritesLine (bitboards_of l.board) l.board l.state (Some l.half) old new r → (r ≡ Ok (length line))
      × (new ≡ line ++ drop (length line) old)
  back w =
      let a = loaded_checked line l e (text_written_of l.board l.state (Some l.half) old) ∙ fitted in (
        answered_same r (Ok (length line)) (w.answer ∙ a),
        w.buffer ∙ ap (λ (x : Answer ℕ). buffer_after x (line_text l.board l.state l.half) old) a
            ∙ ap (λ (t : List ℕ). t ++ drop (length line) old) same,
      )

-- what the call read is what the line says
record ReadOf (line : List ℕ) (state : State) (half : ℕ) (bbs' bytes' : List ℕ) : Type 0 where
  pub line_said : Line
  pub is : line_of line ≡ given line_said
  pub state_said_holds : state ≡ line_said.state
  pub half_said : half ≡ line_said.half
  pub boards : bbs' ≡ bitboards_of line_said.board
  pub bytes : bytes' ≡ line_said.board

read_of : (line bbs bytes : List ℕ) (state : State) (half : ℕ) (bbs' bytes' : List ℕ) → ReadsLine line bbs bytes (Ok (state, half)) bbs' bytes'
    → ReadOf line state half bbs' bytes'
read_of line bbs bytes state half bbs' bytes' p = go (eqb (length bbs) 14 && eqb (length bytes) 64) (line_of line) refl p
  where
    go : (t : Bool) (a : Answer Line) → line_of line ≡ a → Reads (or_refuse t R.Shape a) bbs bytes (Ok (state, half)) bbs' bytes'
        → ReadOf line state half bbs' bytes'
    go true (given l) e q =
        let both : ◌≡◌ {A = State × ℕ} (state, half) (l.state, l.half) = cc q.answer in
        record {
          line_said = l;
          is = e;
          state_said_holds = ap (λ (x : State × ℕ). x.0) both;
          half_said = ap (λ (x : State × ℕ). x.1) both;
          boards =
              q.boards;
          bytes = q.bytes;
        }
    go true (refused n v) e q = given_not q.answer
    go false a e q = given_not q.answer

pub call_back : (line : List ℕ) (state : State) (half : ℕ) (bbs bytes bbs' bytes' old new : List ℕ) (r : Result ℕ Refusal)
    → CallBack line state half bbs bytes bbs' bytes' old new r
call_back line state half bbs bytes bbs' bytes' old new r =
    record {
      writes = λ t h p w.
          let g = read_of line bbs bytes state half bbs' bytes' p in
          let l = g.line_said in
          back line l old new r g.is t h
          (subst (λ (k : ℕ). WritesLine (bitboards_of l.board) l.board l.state (Some k) old new r) g.half_said
          (subst (λ (k : State). WritesLine (bitboards_of l.board) l.board k (Some half) old new r) g.state_said_holds
          (subst (λ (k : List ℕ). WritesLine (bitboards_of l.board) k state (Some half) old new r) g.bytes
          (subst (λ (k : List ℕ). WritesLine k bytes' state (Some half) old new r) g.boards w))));
    }
