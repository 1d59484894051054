-- What is left of the ranks, once some squares of this one are passed. Assumes nothing.
use mathlib.Core.Path.{◌≡◌, refl, sym, ap, ◌∙◌}
use mathlib.Core.Bool.{Bool, true, false, not, ◌&&◌, and-false, or-true}
use mathlib.Core.List.{List, [], ◌∷◌, ◌++◌, append_assoc, append-nil}
use Prim.Native.Nat.{ℕ, zero, suc, ◌+◌, ◌≤◌, ◌<◌}
use native.Mathlib.Nat.{zero-add}
use native.Mathlib.Omega.{arith}
use lib.ListN.{length, replicate, length-append, length-replicate}
use lib.Dec.{eqb}
use borrow.Author.Tests.{eq-eqb, ne_eqb}
use Rattle.text_in.specs.Text.{slash, every, before, after}
use Rattle.line_ranks.specs.Ranks.{piece_of, run_of, is_mark, spelled, digit_first, whole_runs, squares_of, are_ranks, stacked}

-- no run is cut: w comes after a digit, or not
abbrev pub whole_after : Bool → List ℕ → Bool
whole_after digit w = not (digit && digit_first w) && whole_runs w

-- `file` squares of this rank are passed, the last of them by a digit or not, and w is the rest of its text
abbrev pub good_row : Bool → ℕ → List ℕ → Bool
good_row digit file w = every is_mark w && (whole_after digit w && eqb (file + length (squares_of w)) 8)

-- the same, with n more ranks below it, where u is all the text that is left
abbrev pub goes_on_rule : ℕ → Bool → ℕ → List ℕ → Bool
goes_on_rule zero digit file u = good_row digit file u
goes_on_rule (suc n) digit file u = good_row digit file (before slash u) && are_ranks n (after slash u)

-- what stands on this rank, of which the row is passed, and on the ranks below
abbrev pub comes : ℕ → List ℕ → List ℕ → List ℕ
comes zero row u = row ++ squares_of u
comes (suc n) row u = stacked n (after slash u) ++ (row ++ squares_of (before slash u))

-- ---- a rank that is just begun
pub begun : (n : ℕ) (u : List ℕ) → are_ranks n u ≡ goes_on_rule n false 0 u
unfolding are_ranks
begun zero u = rw zero-add
begun (suc n) u = rw zero-add

pub begun_board : (n : ℕ) (u : List ℕ) → stacked n u ≡ comes n [] u
unfolding stacked
begun_board zero u = refl
begun_board (suc n) u = refl

-- ---- one byte of a row
module _ (b file : ℕ) (w : List ℕ) where
  -- a letter ends a run
  whole_piece : (digit : Bool) → run_of b ≡ 0 → whole_after digit (b ∷ w) ≡ whole_runs w
  unfolding digit_first whole_runs
  whole_piece digit e = rw (eq-eqb (run_of b) 0 e, and-false digit)

  -- a digit begins one
  whole_empty : (run_of b ≡ 0 → ⊥) → whole_after false (b ∷ w) ≡ whole_after true w
  unfolding whole_runs
  whole_empty n = rw (ne_eqb (run_of b) 0 n)

  whole_twice : (run_of b ≡ 0 → ⊥) → whole_after true (b ∷ w) ≡ false
  unfolding digit_first
  whole_twice n = rw (ne_eqb (run_of b) 0 n)

  -- nothing that follows mends the number of squares
  too_wide : (digit : Bool) → (file + length (squares_of (b ∷ w)) ≡ 8 → ⊥) → good_row digit file (b ∷ w) ≡ false
  too_wide digit n =
      ap (λ (t : Bool). every is_mark (b ∷ w) && (whole_after digit (b ∷ w) && t)) (ne_eqb (file + length (squares_of (b ∷ w))) 8 n)
      ∙ ap (λ (t : Bool). every is_mark (b ∷ w) && t) (and-false (whole_after digit (b ∷ w)))
      ∙ and-false (every is_mark (b ∷ w))

  pub row_piece_holds : (digit : Bool) → run_of b ≡ 0 → (piece_of b ≡ 0 → ⊥) → good_row digit file (b ∷ w) ≡ good_row false (file + 1) w
  unfolding every squares_of
  row_piece_holds digit e n =
      let q : file + suc (length (squares_of w)) ≡ (file + 1) + length (squares_of w) = omega arith in
      ap (λ (t : Bool). every is_mark (b ∷ w) && (t && eqb (file + length (squares_of (b ∷ w))) 8)) (whole_piece digit e)
      ∙ rw (eq-eqb (run_of b) 0 e, ne_eqb (piece_of b) 0 n) (ap (λ (k : ℕ). every is_mark w && (whole_runs w && eqb k 8)) q)

  pub row_empty : (run_of b ≡ 0 → ⊥) → good_row false file (b ∷ w) ≡ good_row true (file + run_of b) w
  unfolding every squares_of
  row_empty n =
      let q : file + length (replicate (run_of b) 0 ++ squares_of w) ≡ (file + run_of b) + length (squares_of w) =
      simp (length-append, length-replicate) (omega arith)
      in
      ap (λ (t : Bool). every is_mark (b ∷ w) && (t && eqb (file + length (squares_of (b ∷ w))) 8)) (whole_empty n)
      ∙ rw (ne_eqb (run_of b) 0 n, or-true) (ap (λ (k : ℕ). every is_mark w && (whole_after true w && eqb k 8)) q)

  -- W-203: "Two digits in a row are refused"
  pub row_twice : (run_of b ≡ 0 → ⊥) → good_row true file (b ∷ w) ≡ false
  row_twice n =
      ap (λ (t : Bool). every is_mark (b ∷ w) && (t && eqb (file + length (squares_of (b ∷ w))) 8)) (whole_twice n)
      ∙ and-false (every is_mark (b ∷ w))

  pub row_wrong : (digit : Bool) → run_of b ≡ 0 → piece_of b ≡ 0 → good_row digit file (b ∷ w) ≡ false
  unfolding every
  row_wrong digit e z =
      ap (λ (t : Bool). t && (whole_after digit (b ∷ w) && eqb (file + length (squares_of (b ∷ w))) 8))
      (let q : every is_mark (b ∷ w) ≡ false = rw (eq-eqb (run_of b) 0 e, eq-eqb (piece_of b) 0 z) in q)

  pub row_full : (digit : Bool) → run_of b ≡ 0 → 8 ≤ file → good_row digit file (b ∷ w) ≡ false
  unfolding squares_of
  row_full digit e l = too_wide digit (rw (eq-eqb (run_of b) 0 e) (λ q. omega arith))

  pub row_too_many : (digit : Bool) → (run_of b ≡ 0 → ⊥) → 8 < file + run_of b → good_row digit file (b ∷ w) ≡ false
  unfolding squares_of
  row_too_many digit n l = too_wide digit (rw (ne_eqb (run_of b) 0 n) (simp (length-append, length-replicate) (λ q. omega arith)))

-- ---- the same byte before the ranks that follow
module _ (b : ℕ) (n : b ≡ 47 → ⊥) where
  pub on_row : (rank : ℕ) (d : Bool) (f : ℕ) (e : Bool) (g : ℕ) (u : List ℕ) → ((w : List ℕ) → good_row d f (b ∷ w) ≡ good_row e g w)
      → goes_on_rule rank d f (b ∷ u) ≡ goes_on_rule rank e g u
  unfolding before after
  on_row zero d f e g u h = h u
  on_row (suc m) d f e g u h = rw (ne_eqb b 47 n) (ap (λ (t : Bool). t && are_ranks m (after slash u)) (h (before slash u)))

  pub on_wrong : (rank : ℕ) (d : Bool) (f : ℕ) (u : List ℕ) → ((w : List ℕ) → good_row d f (b ∷ w) ≡ false) → goes_on_rule rank d f (b ∷ u) ≡ false
  unfolding before after
  on_wrong zero d f u h = h u
  on_wrong (suc m) d f u h = rw (ne_eqb b 47 n) (ap (λ (t : Bool). t && are_ranks m (after slash u)) (h (before slash u)))

  pub comes_row : (rank : ℕ) (row x u : List ℕ) → spelled b ≡ x → comes rank row (b ∷ u) ≡ comes rank (row ++ x) u
  unfolding before after squares_of
  comes_row zero row x u e = ap (λ (l : List ℕ). row ++ (l ++ squares_of u)) e ∙ sym (append_assoc row x (squares_of u))
  comes_row (suc m) row x u e =
      rw (ne_eqb b 47 n)
      (ap (λ (l : List ℕ). stacked m (after slash u) ++ l) (ap (λ (l : List ℕ). row ++ (l ++ squares_of (before slash u))) e
      ∙ sym (append_assoc row x (squares_of (before slash u)))))

-- ---- a `/`
pub slash_lowest : (b : ℕ) (digit : Bool) (f : ℕ) (u : List ℕ) → b ≡ 47 → goes_on_rule 0 digit f (b ∷ u) ≡ false
unfolding every piece_of run_of
slash_lowest b digit f u e = rw e

module _ (b m : ℕ) (digit : Bool) (f : ℕ) (u : List ℕ) (e : b ≡ 47) where
  -- nothing is left of the rank
  ended : before slash (b ∷ u) ≡ []
  unfolding before
  ended = rw e

  pub slash_unfinished : (f ≡ 8 → ⊥) → goes_on_rule (suc m) digit f (b ∷ u) ≡ false
  unfolding every digit_first whole_runs squares_of
  slash_unfinished n =
      ap (λ (w : List ℕ). good_row digit f w && are_ranks m (after slash (b ∷ u))) ended
      ∙ rw (and-false digit, ne_eqb (f + 0) 8 (omega arith))

  pub slash_below : f ≡ 8 → goes_on_rule (suc m) digit f (b ∷ u) ≡ goes_on_rule m false 0 u
  unfolding after every digit_first whole_runs squares_of
  slash_below q =
      ap (λ (w : List ℕ). good_row digit f w && are_ranks m (after slash (b ∷ u))) ended
      ∙ rw (and-false digit, eq-eqb (f + 0) 8 (omega arith), e) (begun m u)

  pub slash_board : (row : List ℕ) → comes (suc m) row (b ∷ u) ≡ comes m [] u ++ row
  unfolding before after squares_of
  slash_board row = rw (e, append-nil) (ap (λ (l : List ℕ). l ++ row) (begun_board m u))
