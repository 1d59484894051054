-- The bytes of a record, one by one, and its squares, two by two. Assumes nothing.
use mathlib.Core.Path.{◌≡◌, refl, sym, ap, ◌∙◌}
use mathlib.Core.Bool.{Bool, true, false, cond, ◌||◌, ◌&&◌}
use mathlib.Core.List.{List, [], ◌∷◌, ◌++◌}
use Prim.Native.Nat.{ℕ, suc, ◌+◌, ◌*◌, ◌/◌, ◌%◌, ◌≤◌, ◌<◌}
use native.Mathlib.Omega.{arith}
use lib.Dec.{leb}
use lib.ListN.{length, get_or, set, length-append, get_or-append}
use lib.Seq.{ext_get_or, get_or_at, get_or-append-add}
use borrow.Author.Tests.{eq-eqb, ne_eqb, lt-leb, le-leb}
use Rattle.laws.specs.Tables.{tabulate}
use Rattle.laws.proofs.Tables.{entry, tabulate_length}
use Rattle.position_boards.specs.Boards.{is_byte}
use Rattle.position_boards.proofs.Copied.{copied_to, copied_more, copied_all}
use Rattle.line_parse.specs.Line.{Line}
use Rattle.store_record.specs.Record.{two_squares, record_of, code_in, board_in}

-- a list is the table of its entries
pub its_table : (n : ℕ) (l : List ℕ) → length l ≡ n → tabulate n (λ i. get_or l i 0) ≡ l
its_table n l e =
    ext_get_or 0 (tabulate n (λ i. get_or l i 0)) l (tabulate_length n (λ i. get_or l i 0) ∙ sym e)
    (λ i h. entry n (λ j. get_or l j 0) 0 i (omega (arith, tabulate_length n (λ i. get_or l i 0))))

-- ---- the record of a position
module _ (l : Line) where
  abbrev pairs : List ℕ
  pairs = tabulate 32 (λ i. two_squares (get_or l.board (2 * i) 0) (get_or l.board (2 * i + 1) 0))

  pairs_32 : length pairs ≡ 32
  pairs_32 = tabulate_length 32 (λ i. two_squares (get_or l.board (2 * i) 0) (get_or l.board (2 * i + 1) 0))

  pub record_34 : length (record_of l) ≡ 34
  unfolding record_of
  record_34 = length-append pairs (l.state.side ∷ l.half ∷ []) ∙ ap (λ (n : ℕ). n + 2) pairs_32

  pub record_pair : (i : ℕ) → i < 32 → get_or (record_of l) i 0 ≡ two_squares (get_or l.board (2 * i) 0) (get_or l.board (2 * i + 1) 0)
  unfolding record_of
  record_pair i h =
      get_or-append pairs (l.state.side ∷ l.half ∷ []) 0 i (omega (arith, pairs_32))
      ∙ entry 32 (λ j. two_squares (get_or l.board (2 * j) 0) (get_or l.board (2 * j + 1) 0)) 0 i h

  pub record_side : get_or (record_of l) 32 0 ≡ l.state.side
  unfolding record_of
  record_side = get_or_at pairs l.state.side (l.half ∷ []) 0 32 pairs_32

  pub record_half : get_or (record_of l) 33 0 ≡ l.half
  unfolding record_of
  record_half =
      ap (λ (n : ℕ). get_or (pairs ++ (l.state.side ∷ l.half ∷ [])) (n + 1) 0) (sym pairs_32) ∙ get_or-append-add pairs (l.state.side ∷ l.half ∷ []) 1 0

  -- ---- written byte by byte
  abbrev pub bytes_to : ℕ → List ℕ
  bytes_to i = copied_to 34 (λ j. get_or (record_of l) j 0) i

  pub bytes_none : tabulate 34 (λ j. 0) ≡ bytes_to 0
  unfolding tabulate
  bytes_none = refl

  pub bytes_more : (s : List ℕ) (i v : ℕ) → s ≡ bytes_to i → i < 34 → v ≡ get_or (record_of l) i 0 → set s i v ≡ bytes_to (suc i)
  bytes_more s i v e h q = ap (λ (m : List ℕ). set m i v) e ∙ copied_more 34 (λ j. get_or (record_of l) j 0) i v h q

  pub bytes_all : (s : List ℕ) (i : ℕ) → i ≡ 32 → s ≡ bytes_to i → set (set s 32 l.state.side) 33 l.half ≡ record_of l
  bytes_all s i z e =
      bytes_more (set s 32 l.state.side) 33 l.half (bytes_more s 32 l.state.side (e ∙ ap bytes_to z) (omega arith) (sym record_side))
      (omega arith) (sym record_half)
      ∙ copied_all 34 (λ j. get_or (record_of l) j 0) 34 (λ b g h. absurd (omega arith))
      ∙ its_table 34 (record_of l) record_34

-- ---- the board of a record, two squares at a time
module _ (bytes : List ℕ) where
  pub even_code : (i : ℕ) → get_or bytes i 0 % 16 ≡ code_in bytes (2 * i)
  even_code i =
      let q : 2 * i / 2 ≡ i = omega arith in
      sym (ap (λ (t : Bool). cond t (get_or bytes (2 * i / 2) 0 % 16) (get_or bytes (2 * i / 2) 0 / 16 % 16)) (eq-eqb (2 * i % 2) 0 (omega arith))
      ∙ ap (λ (j : ℕ). get_or bytes j 0 % 16) q)

  pub odd_code : (i : ℕ) → get_or bytes i 0 / 16 % 16 ≡ code_in bytes (2 * i + 1)
  odd_code i =
      let q : (2 * i + 1) / 2 ≡ i = omega arith in
      sym (ap (λ (t : Bool). cond t (get_or bytes ((2 * i + 1) / 2) 0 % 16) (get_or bytes ((2 * i + 1) / 2) 0 / 16 % 16))
      (ne_eqb ((2 * i + 1) % 2) 0 (λ z. omega arith))
      ∙ ap (λ (j : ℕ). get_or bytes j 0 / 16 % 16) q)

  abbrev pub squares_to : ℕ → List ℕ
  squares_to k = copied_to 64 (code_in bytes) k

  pub squares_none : tabulate 64 (λ j. 0) ≡ squares_to 0
  unfolding tabulate
  squares_none = refl

  pub squares_more : (l : List ℕ) (i : ℕ) → l ≡ squares_to (2 * i) → i < 32
      → set (set l (2 * i) (get_or bytes i 0 % 16)) (2 * i + 1) (get_or bytes i 0 / 16 % 16) ≡ squares_to (2 * (i + 1))
  squares_more l i e h =
      let n : 2 * i + 1 ≡ suc (2 * i) = omega arith in
      let m : suc (2 * i + 1) ≡ 2 * (i + 1) = omega arith in
      ap (λ (s : List ℕ). set s (2 * i + 1) (get_or bytes i 0 / 16 % 16))
      (ap (λ (s : List ℕ). set s (2 * i) (get_or bytes i 0 % 16)) e ∙ copied_more 64 (code_in bytes) (2 * i) (get_or bytes i 0 % 16) (omega arith)
      (even_code i) ∙ ap squares_to (sym n))
      ∙ copied_more 64 (code_in bytes) (2 * i + 1) (get_or bytes i 0 / 16 % 16) (omega arith) (odd_code i) ∙ ap squares_to m

  pub squares_all : (l : List ℕ) (i : ℕ) → i ≡ 32 → l ≡ squares_to (2 * i) → l ≡ board_in bytes
  unfolding board_in
  squares_all l i z e = e ∙ ap (λ (n : ℕ). squares_to (2 * n)) z ∙ copied_all 64 (code_in bytes) 64 (λ b g h. absurd (omega arith))

-- ---- a byte that a board may hold
pub byte_empty : (b : ℕ) → b ≡ 0 → true ≡ is_byte b
byte_empty b e = sym (ap (λ (t : Bool). t || (leb 2 b && leb b 13)) (eq-eqb b 0 e))

pub byte_low : (b : ℕ) → (b ≡ 0 → ⊥) → b < 2 → false ≡ is_byte b
byte_low b n h = sym (rw (ne_eqb b 0 n, lt-leb 2 b h))

pub byte_piece : (b : ℕ) → (b ≡ 0 → ⊥) → 2 ≤ b → leb b 13 ≡ is_byte b
byte_piece b n h = sym (rw (ne_eqb b 0 n, le-leb 2 b h))
