-- The writer's text of a board is eight ranks, and they spell the board; how long it is, and of which bytes. Assumes nothing.
use mathlib.Core.Path.{◌≡◌, refl, sym, ap, ap₂, ◌∙◌}
use mathlib.Core.Bool.{Bool, true, false, not, ◌&&◌}
use mathlib.Core.List.{List, [], ◌∷◌, ◌++◌, append-nil}
use Prim.Native.Nat.{ℕ, zero, suc, ◌+◌, ◌*◌, ◌≤◌, ◌<◌}
use native.Mathlib.Omega.{arith}
use lib.Dec.{T, eqb}
use lib.ListN.{length, take, drop, replicate, length-drop, length-take, take-append-drop}
use lib.Seq.{take_all}
use borrow.Author.Tests.{eq-eqb, ne_eqb}
use Rattle.laws.proofs.Truth.{T_true, true_T, and_l, and_r, and_i, not_i, or_r, or_l}
use Rattle.chess.specs.Codes.{is_piece}
use Rattle.position_boards.specs.Boards.{is_byte}
use Rattle.position_boards.proofs.Apart.{code_from}
use Rattle.text_in.specs.Text.{slash, every, before, after}
use Rattle.text_in.proofs.Every.{every_both, every_join}
use Rattle.line_ranks.specs.Ranks.{piece_of, run_of, is_digit_rule, is_mark, is_rank, digit_first, whole_runs, squares_of, are_ranks, stacked}
use Rattle.line_text.specs.Spelt.{letter_of, run_digit, spelt, rank_of, rank_text, ranks_text}
use Rattle.line_text.proofs.Marks.{squares_letter, squares_digit}
use Rattle.line_text.proofs.Normal.{rank_above, ranks_below}
use Rattle.line_again.proofs.Marks.{run_of_digit, piece_of_letter, letter_no_digit, squares_join}
use Rattle.line_again.proofs.Cuts.{before_mark, after_mark}

-- ---- a rank's text, of any squares with a run of n before them, eight in all at most
piece_byte : (c : ℕ) → T (is_byte (suc c)) → T (is_piece (suc c))
piece_byte c t = rw (ne_eqb (suc c) 0 (λ e. omega arith)) at t

digit_squares : (n : ℕ) → n ≤ 8 → squares_of (run_digit n) ≡ replicate n 0
unfolding squares_of
digit_squares zero h = refl
digit_squares (suc n) h =
    let r : run_of (48 + suc n) ≡ suc n = run_of_digit (suc n) (omega arith) h in
    squares_digit (48 + suc n) [] (λ e. omega arith) ∙ append-nil (replicate (run_of (48 + suc n)) 0) ∙ ap (λ (k : ℕ). replicate k 0) r

digit_mark : (n : ℕ) → n < 8 → T (is_mark (48 + suc n))
digit_mark n h =
    let r : run_of (48 + suc n) ≡ suc n = run_of_digit (suc n) (omega arith) (omega arith) in
    or_r (not (eqb (piece_of (48 + suc n)) 0)) (is_digit_rule (48 + suc n)) (not_i (eqb (run_of (48 + suc n)) 0) (ne_eqb (run_of (48 + suc n)) 0 (λ e. omega arith)))

letter_mark : (c : ℕ) → T (is_piece c) → T (is_mark (letter_of c))
letter_mark c p =
    or_l (not (eqb (piece_of (letter_of c)) 0)) (is_digit_rule (letter_of c))
    (not_i (eqb (piece_of (letter_of c)) 0) (ne_eqb (piece_of (letter_of c)) 0 (λ e. omega (arith, code_from c p, piece_of_letter c p))))

run_snoc : (n : ℕ) (l : List ℕ) → replicate (suc n) 0 ++ l ≡ replicate n 0 ++ (0 ∷ l)
run_snoc zero l = refl
run_snoc (suc n) l = ap (λ (x : List ℕ). 0 ∷ x) (run_snoc n l)

module _ (b : ℕ) (s : List ℕ) where
  bytes_first : T (every is_byte (b ∷ s)) → T (is_byte b)
  unfolding every
  bytes_first m = and_l (is_byte b) (every is_byte s) m

  bytes_rest : T (every is_byte (b ∷ s)) → T (every is_byte s)
  unfolding every
  bytes_rest m = and_r (is_byte b) (every is_byte s) m

every_from : (test : ℕ → Bool) (s t : List ℕ) → T (every test (s ++ t)) → T (every test s) × T (every test t)
every_from test s t m =
    let both : T (every test s && every test t) = true_T (sym (every_join test s t) ∙ T_true (every test (s ++ t)) m) in
    (and_l (every test s) (every test t) both, and_r (every test s) (every test t) both)

bytes_of_rank : (k : ℕ) (board : List ℕ) → T (every is_byte board) → T (every is_byte (rank_of k board))
bytes_of_rank k board m =
    let rest = (every_from is_byte (take (8 * k) board) (drop (8 * k) board)
    (true_T (ap (every is_byte) (take-append-drop (8 * k) board) ∙ T_true (every is_byte board) m))).1 in
    (every_from is_byte (rank_of k board) (drop 8 (drop (8 * k) board))
    (true_T (ap (every is_byte) (take-append-drop 8 (drop (8 * k) board)) ∙ T_true (every is_byte (drop (8 * k) board)) rest))).0

pub spelt_squares : (squares : List ℕ) (n : ℕ) → n + length squares ≤ 8 → T (every is_byte squares) → squares_of (spelt n squares) ≡ replicate n 0 ++ squares
unfolding spelt
spelt_squares [] n h m = digit_squares n (omega arith) ∙ sym (append-nil (replicate n 0))
spelt_squares (zero ∷ squares) n h m = spelt_squares squares (suc n) (omega arith) (bytes_rest 0 squares m) ∙ run_snoc n squares
spelt_squares (suc c ∷ squares) n h m =
    let p : T (is_piece (suc c)) = piece_byte c (bytes_first (suc c) squares m) in
    squares_join (run_digit n) (letter_of (suc c) ∷ spelt 0 squares)
    ∙ ap₂ (λ (x y : List ℕ). x ++ y) (digit_squares n (omega arith))
    (squares_letter (letter_of (suc c)) (spelt 0 squares) (letter_no_digit (suc c) p)
    ∙ ap₂ (λ (x : ℕ) (l : List ℕ). x ∷ l) (piece_of_letter (suc c) p) (spelt_squares squares 0 (omega arith) (bytes_rest (suc c) squares m)))

-- a test that the letters and the digits 1 to 8 pass is passed by every byte of the text, and with `/` by the ranks together
module _ (test : ℕ → Bool) (letters : (c : ℕ) → T (is_piece c) → T (test (letter_of c))) (digits : (n : ℕ) → n < 8 → T (test (48 + suc n))) where
  digit_passes : (n : ℕ) → n ≤ 8 → T (every test (run_digit n))
  unfolding every
  digit_passes zero h = tt
  digit_passes (suc n) h = and_i (test (48 + suc n)) true (digits n (omega arith)) tt

  pub spelt_passes : (squares : List ℕ) (n : ℕ) → n + length squares ≤ 8 → T (every is_byte squares) → T (every test (spelt n squares))
  unfolding spelt every
  spelt_passes [] n h m = digit_passes n (omega arith)
  spelt_passes (zero ∷ squares) n h m = spelt_passes squares (suc n) (omega arith) (bytes_rest 0 squares m)
  spelt_passes (suc c ∷ squares) n h m =
      let p : T (is_piece (suc c)) = piece_byte c (bytes_first (suc c) squares m) in
      every_both test (run_digit n) (letter_of (suc c) ∷ spelt 0 squares) (digit_passes n (omega arith))
      (and_i (test (letter_of (suc c))) (every test (spelt 0 squares)) (letters (suc c) p) (spelt_passes squares 0 (omega arith) (bytes_rest (suc c) squares m)))

  pub ranks_pass : T (test slash) → (n : ℕ) (board : List ℕ) → T (every is_byte board) → T (every test (ranks_text n board))
  unfolding ranks_text every
  ranks_pass t zero board m = spelt_passes (rank_of 0 board) 0 (omega (arith, length-take 8 (drop (8 * 0) board))) (bytes_of_rank 0 board m)
  ranks_pass t (suc n) board m =
      every_both test (rank_text (suc n) board) (slash ∷ ranks_text n board)
      (spelt_passes (rank_of (suc n) board) 0 (omega (arith, length-take 8 (drop (8 * suc n) board))) (bytes_of_rank (suc n) board m))
      (and_i (test slash) (every test (ranks_text n board)) t (ranks_pass t n board m))

pub spelt_marks : (squares : List ℕ) (n : ℕ) → n + length squares ≤ 8 → T (every is_byte squares) → T (every is_mark (spelt n squares))
spelt_marks = spelt_passes is_mark letter_mark digit_mark

-- a letter stands between two digits
letter_whole : (b : ℕ) (s : List ℕ) → run_of b ≡ 0 → T (whole_runs s) → T (whole_runs (b ∷ s))
unfolding whole_runs
letter_whole b s e w = rw (eq-eqb (run_of b) 0 e) w

digit_whole : (n b : ℕ) (s : List ℕ) → run_of b ≡ 0 → T (whole_runs (b ∷ s)) → T (whole_runs (run_digit n ++ (b ∷ s)))
unfolding whole_runs digit_first
digit_whole zero b s e w = w
digit_whole (suc n) b s e w =
    and_i (not (is_digit_rule (48 + suc n) && is_digit_rule b)) (whole_runs (b ∷ s)) (go (is_digit_rule (48 + suc n)) (is_digit_rule b) (ap not (eq-eqb (run_of b) 0 e))) w
  where
    go : (x y : Bool) → y ≡ false → T (not (x && y))
    go false y q = tt
    go true false q = tt
    go true true q = absurd (let z : ◌≡◌ {A = ℕ} 0 1 = cc in omega arith)

one_digit : (n : ℕ) → T (whole_runs (run_digit n))
unfolding whole_runs digit_first
one_digit zero = tt
one_digit (suc n) = go (is_digit_rule (48 + suc n))
  where
    go : (x : Bool) → T (not (x && false) && true)
    go true = tt
    go false = tt

pub spelt_whole : (squares : List ℕ) (n : ℕ) → T (every is_byte squares) → T (whole_runs (spelt n squares))
unfolding spelt
spelt_whole [] n m = one_digit n
spelt_whole (zero ∷ squares) n m = spelt_whole squares (suc n) (bytes_rest 0 squares m)
spelt_whole (suc c ∷ squares) n m =
    let p : T (is_piece (suc c)) = piece_byte c (bytes_first (suc c) squares m) in
    let e = letter_no_digit (suc c) p in
    digit_whole n (letter_of (suc c)) (spelt 0 squares) e (letter_whole (letter_of (suc c)) (spelt 0 squares) e
    (spelt_whole squares 0 (bytes_rest (suc c) squares m)))

pub eight_rank : (squares : List ℕ) → length squares ≡ 8 → T (every is_byte squares) → T (is_rank (spelt 0 squares))
eight_rank squares h m =
    let s : List ℕ = spelt 0 squares in
    let e : length (squares_of s) ≡ 8 = ap length (spelt_squares squares 0 (omega arith) m) ∙ h in
    and_i (every is_mark s) (whole_runs s && eqb (length (squares_of s)) 8) (spelt_marks squares 0 (omega arith) m)
    (and_i (whole_runs s) (eqb (length (squares_of s)) 8) (spelt_whole squares 0 m) (true_T (eq-eqb (length (squares_of s)) 8 e)))

-- ---- the ranks of a board
slash_no_mark : is_mark slash ≡ false
unfolding piece_of run_of
slash_no_mark = refl

-- eight ranks, or n and one more, and the board that they spell
pub record Restored (n : ℕ) (board s : List ℕ) : Type 0 where
  pub taken : T (are_ranks n s)
  pub squares : stacked n s ≡ board

pub restored : (n : ℕ) (board : List ℕ) → length board ≡ 8 * n + 8 → T (every is_byte board) → Restored n board (ranks_text n board)
unfolding are_ranks stacked ranks_text
restored zero board h m =
    let e : rank_of 0 board ≡ board = take_all 8 board (omega arith) in
    let r : ranks_text 0 board ≡ spelt 0 board = ap (spelt 0) e in
    record { taken = rw r (eight_rank board (omega arith) m); squares = ap squares_of r ∙ spelt_squares board 0 (omega arith) m }
restored (suc n) board h m =
    let low : List ℕ = take (8 * suc n) board in
    let top : List ℕ = drop (8 * suc n) board in
    let both : low ++ top ≡ board = take-append-drop (8 * suc n) board in
    let hl : length low ≡ 8 * suc n = omega (arith, length-take (8 * suc n) board) in
    let ht : length top ≡ 8 = omega (arith, length-drop (8 * suc n) board) in
    let each = every_from is_byte low top (true_T (ap (every is_byte) both ∙ T_true (every is_byte board) m)) in
    let t : List ℕ = spelt 0 top in
    let u : List ℕ = ranks_text n low in
    let is : ranks_text (suc n) board ≡ t ++ (slash ∷ u) =
    ap (ranks_text (suc n)) (sym both)
    ∙ ap₂ (λ (x y : List ℕ). x ++ (slash ∷ y)) (ap (spelt 0) (rank_above (suc n) low top hl ht)) (ranks_below n low top (omega arith))
    in
    let marks = spelt_marks top 0 (omega arith) each.1 in
    let first : before slash (t ++ (slash ∷ u)) ≡ t = before_mark is_mark slash slash_no_mark t u marks in
    let rest : after slash (t ++ (slash ∷ u)) ≡ u = after_mark is_mark slash slash_no_mark t u marks in
    let lower = restored n low (omega arith) each.0 in
    record {
      taken =
          true_T (ap (are_ranks (suc n)) is
          ∙ ap₂ (λ (x y : List ℕ). is_rank x && are_ranks n y) first rest
          ∙ T_true (is_rank t && are_ranks n u) (and_i (is_rank t) (are_ranks n u) (eight_rank top ht each.1) lower.taken));
      squares =
          ap (stacked (suc n)) is
          ∙ ap₂ (λ (x y : List ℕ). stacked n y ++ squares_of x) first rest
          ∙ ap₂ (λ (x y : List ℕ). x ++ y) lower.squares (spelt_squares top 0 (omega arith) each.1)
          ∙ both;
    }
