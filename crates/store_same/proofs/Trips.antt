-- A position's record read is the position, and a record that is read is the record of what it says. Each byte is taken apart and put together
-- again: its halves are below 16. Assumes nothing.
use mathlib.Core.Path.{◌≡◌, refl, sym, ap, ap₂, ◌∙◌}
use mathlib.Core.Logic.{◌⊎◌, inl, inr}
use mathlib.Core.Bool.{Bool, true, false, cond}
use mathlib.Core.List.{List}
use Prim.Native.Nat.{ℕ, ◌+◌, ◌*◌, ◌/◌, ◌%◌, ◌≤◌, ◌<◌}
use native.Mathlib.Omega.{arith}
use lib.Dec.{T, eqb, leb, ltb}
use lib.ListN.{length, get_or}
use lib.Seq.{ext_get_or}
use borrow.Author.Tests.{eq-eqb, eqb-true, eqb-false, leb-true, lt-ltb, ltb-true, ltb-false}
use Rattle.laws.specs.Tests.{all_below}
use Rattle.laws.proofs.Tables.{entry, tabulate_length, tabulate_same}
use Rattle.laws.proofs.Tests.{all_at}
use Rattle.laws.proofs.Truth.{T_true, true_T, or_case, and_r}
use Rattle.refusal.specs.Answer.{Answer, given, or_refuse}
use Rattle.refusal.specs.declared.Refusal.TheVariants as R
use Rattle.refusal.proofs.Answers.{passed}
use Rattle.chess.specs.Codes.{is_piece}
use Rattle.position_boards.specs.Boards.{is_byte, coded}
use Rattle.position_odds.specs.Named.{lowest_wrong}
use Rattle.line_parse.specs.Line.{Line}
use Rattle.store_record.specs.Record.{two_squares, record_of, in_record, half_byte, code_in, board_in, side_in, half_in, is_code, position_in, record_says, piece_says}
use Rattle.store_record.proofs.Records.{its_table, record_34, record_pair, record_side, record_half, even_code, odd_code}

-- a byte that a board may hold is below 16
byte_16 : (b : ℕ) → T (is_byte b) → b < 16
byte_16 b t = go (or_case (eqb b 0) (is_piece b) t)
  where
    go : T (eqb b 0) ⊎ T (is_piece b) → b < 16
    go (inl z) = let e = eqb-true b 0 (T_true (eqb b 0) z) in omega arith
    go (inr p) = let e = leb-true b 13 (T_true (leb b 13) (and_r (leb 2 b) (leb b 13) p)) in omega arith

-- ---- there: the record of a position, read
low : (l h : ℕ) → l < 16 → (l % 16 + 16 * (h % 16)) % 16 ≡ l
low l h m = omega arith

high : (l h : ℕ) → h < 16 → (l % 16 + 16 * (h % 16)) / 16 % 16 ≡ h
high l h m = omega arith

module _ (l : Line) (size : length l.board ≡ 64) (codes : coded l.board ≡ true) where
  small : (k : ℕ) → k < 64 → get_or l.board k 0 < 16
  unfolding coded
  small k h = byte_16 (get_or l.board k 0) (all_at 64 (λ j. is_byte (get_or l.board j 0)) (true_T codes) k h)

  square_there : (k : ℕ) → k < 64 → code_in (record_of l) k ≡ get_or l.board k 0
  square_there k h = ap (λ (p : ℕ). half_byte p k) (record_pair l (k / 2) (omega arith)) ∙ go (eqb (k % 2) 0) refl
    where
      go : (t : Bool) → eqb (k % 2) 0 ≡ t
          → cond t (two_squares (get_or l.board (2 * (k / 2)) 0) (get_or l.board (2 * (k / 2) + 1) 0) % 16)
          (two_squares (get_or l.board (2 * (k / 2)) 0) (get_or l.board (2 * (k / 2) + 1) 0) / 16 % 16) ≡ get_or l.board k 0
      go true e =
          let z = eqb-true (k % 2) 0 e in
          let q : 2 * (k / 2) ≡ k = omega arith in
          low (get_or l.board (2 * (k / 2)) 0) (get_or l.board (2 * (k / 2) + 1) 0) (small (2 * (k / 2)) (omega arith))
          ∙ ap (λ (j : ℕ). get_or l.board j 0) q
      go false e =
          let z = eqb-false (k % 2) 0 e in
          let q : 2 * (k / 2) + 1 ≡ k = omega arith in
          high (get_or l.board (2 * (k / 2)) 0) (get_or l.board (2 * (k / 2) + 1) 0) (small (2 * (k / 2) + 1) (omega arith))
          ∙ ap (λ (j : ℕ). get_or l.board j 0) q

  board_there : board_in (record_of l) ≡ l.board
  unfolding board_in
  board_there = tabulate_same 64 (code_in (record_of l)) (λ k. get_or l.board k 0) square_there ∙ its_table 64 l.board size

  pub says_it : l.state.side < 2 → l.half < 3 → piece_says (record_of l) ≡ given (in_record l)
  unfolding piece_says record_says coded
  says_it s h =
      let b = board_there in
      let x = record_side l in
      let y = record_half l in
      let n = eq-eqb (length (record_of l)) 34 (record_34 l) in
      rw (n, b, codes, x, y, lt-ltb l.state.side 2 s, lt-ltb l.half 3 h)

-- ---- back: a record that is read
pub record Spells (bytes : List ℕ) (l : Line) : Type 0 where
  pub size : length bytes ≡ 34
  pub board : l.board ≡ board_in bytes
  pub side : l.state.side ≡ side_in bytes
  pub half : l.half ≡ half_in bytes
  pub codes : coded l.board ≡ true
  pub side_2 : side_in bytes < 2
  pub half_3 : half_in bytes < 3

pub halves_back : (bytes : List ℕ) (l : Line) → piece_says bytes ≡ given l → Spells bytes l
unfolding piece_says record_says coded
halves_back bytes l e =
    let x : Line = position_in bytes in
    let d : Answer Line = or_refuse (ltb (half_in bytes) 3) R.Result (given x) in
    let c : Answer Line = or_refuse (ltb (side_in bytes) 2) R.Side d in
    let b : Answer Line = or_refuse (all_below 64 (is_code (board_in bytes))) (R.Code (lowest_wrong (is_code (board_in bytes)))) c in
    let p = passed (eqb (length bytes) 34) R.Length l b e in
    let q = passed (all_below 64 (is_code (board_in bytes))) (R.Code (lowest_wrong (is_code (board_in bytes)))) l c p.1 in
    let r = passed (ltb (side_in bytes) 2) R.Side l d q.1 in
    let t = passed (ltb (half_in bytes) 3) R.Result l (given x) r.1 in
    let same : x ≡ l = cc t.1 in
    let board : l.board ≡ board_in bytes = sym (ap (λ (k : Line). k.board) same) in
    record {
      size = eqb-true (length bytes) 34 p.0;
      board = board;
      side = sym (ap (λ (k : Line). k.state.side) same);
      half = sym (ap (λ (k : Line). k.half) same);
      codes = ap coded board ∙ q.0;
      side_2 = ltb-true (side_in bytes) 2 r.0;
      half_3 = ltb-true (half_in bytes) 3 t.0;
    }

module _ (bytes : List ℕ) (l : Line) (e : piece_says bytes ≡ given l) where
  pub read_64 : length l.board ≡ 64
  unfolding board_in
  read_64 = ap length (halves_back bytes l e).board ∙ tabulate_length 64 (code_in bytes)

  -- its record is the one that was read
  pub record_back : ((i : ℕ) → get_or bytes i 0 < 256) → record_of l ≡ bytes
  unfolding board_in
  record_back bound = ext_get_or 0 (record_of l) bytes (record_34 l ∙ sym s.size)
      (λ i h. let g : i < 34 = omega (arith, record_34 l) in each i g (ltb i 32) refl)
    where
      s : Spells bytes l
      s = halves_back bytes l e

      whole : (b : ℕ) → b < 256 → b % 16 % 16 + 16 * (b / 16 % 16 % 16) ≡ b
      whole b h = omega arith

      square : (k : ℕ) → k < 64 → get_or l.board k 0 ≡ code_in bytes k
      square k h = ap (λ (b : List ℕ). get_or b k 0) s.board ∙ entry 64 (code_in bytes) 0 k h

      each : (i : ℕ) → i < 34 → (t : Bool) → ltb i 32 ≡ t → get_or (record_of l) i 0 ≡ get_or bytes i 0
      each i h true q =
          let m = ltb-true i 32 q in
          record_pair l i m
          ∙ ap₂ two_squares (square (2 * i) (omega arith) ∙ sym (even_code bytes i)) (square (2 * i + 1) (omega arith) ∙ sym (odd_code bytes i))
          ∙ whole (get_or bytes i 0) (bound i)
      each i h false q = last i h (ltb-false i 32 q) (eqb i 32) refl
        where
          last : (i : ℕ) → i < 34 → 32 ≤ i → (t : Bool) → eqb i 32 ≡ t → get_or (record_of l) i 0 ≡ get_or bytes i 0
          last i h m true q =
              ap (λ (j : ℕ). get_or (record_of l) j 0) (eqb-true i 32 q) ∙ record_side l ∙ s.side ∙ sym (ap (λ (j : ℕ). get_or bytes j 0) (eqb-true i 32 q))
          last i h m false q =
              let d = eqb-false i 32 q in
              let r : i ≡ 33 = omega arith in
              ap (λ (j : ℕ). get_or (record_of l) j 0) r ∙ record_half l ∙ s.half ∙ sym (ap (λ (j : ℕ). get_or bytes j 0) r)
