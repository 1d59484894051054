-- The normal form: a rank that is taken is the text of its squares, and eight ranks that are taken are the text of their board. Assumes nothing.
use mathlib.Core.Path.{◌≡◌, refl, sym, ap, ap₂, ◌∙◌}
use mathlib.Core.Bool.{Bool, true, false, not, ◌&&◌}
use mathlib.Core.List.{List, [], ◌∷◌, ◌++◌, append-nil}
use Prim.Native.Nat.{ℕ, zero, suc, ◌+◌, ◌*◌, ◌≤◌}
use native.Mathlib.Decide.{ℕ_discrete}
use native.Mathlib.Omega.{arith}
use lib.Dec.{T, eqb}
use lib.ListN.{length, take, drop, replicate, length-drop}
use lib.Seq.{take_all, take-append-le, drop-append-le, drop_at}
use borrow.Author.Tests.{eq-eqb, ne_eqb}
use Rattle.laws.proofs.Truth.{T_true, and_l, and_r, not_e}
use Rattle.text_in.specs.Text.{slash, every, before, after}
use Rattle.text_in.proofs.Within.{cut_at}
use Rattle.line_ranks.specs.Ranks.{piece_of, run_of, is_digit_rule, is_mark, is_rank, digit_first, whole_runs, squares_of, are_ranks, stacked}
use Rattle.line_ranks.proofs.Board.{board_many, rank_eight}
use Rattle.line_ranks.proofs.Placing.{none_left}
use Rattle.line_text.specs.Spelt.{run_digit, spelt, rank_of, ranks_text}
use Rattle.line_text.proofs.Marks.{letter_of_piece, digit_of_run, squares_letter, squares_digit, spelt_letter, digit_is}

-- ---- a run of empty squares
pub spelt_run : (k n : ℕ) (squares : List ℕ) → spelt n (replicate k 0 ++ squares) ≡ spelt (k + n) squares
unfolding spelt
spelt_run zero n squares = ap (λ (m : ℕ). spelt m squares) (let q : n ≡ 0 + n = omega arith in q)
spelt_run (suc k) n squares = spelt_run k (suc n) squares ∙ ap (λ (m : ℕ). spelt m squares) (let q : k + suc n ≡ suc k + n = omega arith in q)

-- ---- a rank: where a run of n squares is still to be written, the text begins with no digit
marked : (b : ℕ) → T (is_mark b) → run_of b ≡ 0 → piece_of b ≡ 0 → ⊥
marked b t e z = let no : is_mark b ≡ false = rw (eq-eqb (run_of b) 0 e, eq-eqb (piece_of b) 0 z) in let y = T_true (is_mark b) t in
    let x : ◌≡◌ {A = ℕ} 0 1 = cc in omega arith

module _ (b : ℕ) (s : List ℕ) where
  whole_rest : T (whole_runs (b ∷ s)) → T (whole_runs s)
  unfolding whole_runs
  whole_rest w = and_r (not (is_digit_rule b && digit_first s)) (whole_runs s) w

  whole_next : T (whole_runs (b ∷ s)) → (run_of b ≡ 0 → ⊥) → digit_first s ≡ false
  unfolding whole_runs
  whole_next w n =
      ap (λ (t : Bool). not t && digit_first s) (sym (ne_eqb (run_of b) 0 n))
      ∙ not_e (is_digit_rule b && digit_first s) (and_l (not (is_digit_rule b && digit_first s)) (whole_runs s) w)

  first_is : (run_of b ≡ 0 → ⊥) → digit_first (b ∷ s) ≡ true
  unfolding digit_first
  first_is n = ap not (ne_eqb (run_of b) 0 n)

  marks_first : T (every is_mark (b ∷ s)) → T (is_mark b)
  unfolding every
  marks_first m = and_l (is_mark b) (every is_mark s) m

  marks_rest : T (every is_mark (b ∷ s)) → T (every is_mark s)
  unfolding every
  marks_rest m = and_r (is_mark b) (every is_mark s) m

pub normal : (s : List ℕ) (n : ℕ) → ((n ≡ 0 → ⊥) → digit_first s ≡ false) → T (every is_mark s) → T (whole_runs s) → spelt n (squares_of s) ≡ run_digit n ++ s
unfolding spelt squares_of
normal [] n first m w = sym (append-nil (run_digit n))
normal (b ∷ s) n first m w =
    elim (ℕ_discrete (run_of b) 0) [
      | yes e ↦
          let z = marked b (marks_first b s m) e in
          ap (spelt n) (squares_letter b s e)
          ∙ spelt_letter n (piece_of b) (squares_of s) z
          ∙ ap₂ (λ (x : ℕ) (l : List ℕ). run_digit n ++ (x ∷ l)) (letter_of_piece b z) (normal s 0 (λ y. absurd (y refl)) (marks_rest b s m) (whole_rest b s w))
      | no e ↦
          elim (ℕ_discrete n 0) [
            | yes q ↦
                ap (spelt n) (squares_digit b s e)
                ∙ spelt_run (run_of b) n (squares_of s)
                ∙ ap (λ (k : ℕ). spelt k (squares_of s)) (let k : run_of b + n ≡ run_of b = omega arith in k)
                ∙ normal s (run_of b) (λ y. whole_next b s w e) (marks_rest b s m) (whole_rest b s w)
                ∙ ap (λ (l : List ℕ). l ++ s) (digit_is (run_of b) e ∙ ap (λ (k : ℕ). k ∷ []) (digit_of_run b e))
                ∙ ap (λ (k : ℕ). run_digit k ++ (b ∷ s)) (sym q)
            | no q ↦ absurd (let y = first q in let x = first_is b s e in let z : ◌≡◌ {A = ℕ} 0 1 = cc in omega arith)
          ]
    ]

pub rank_normal : (s : List ℕ) → T (is_rank s) → spelt 0 (squares_of s) ≡ s
rank_normal s t =
    let r = and_r (every is_mark s) (whole_runs s && eqb (length (squares_of s)) 8) t in
    normal s 0 (λ y. absurd (y refl)) (and_l (every is_mark s) (whole_runs s && eqb (length (squares_of s)) 8) t)
    (and_l (whole_runs s) (eqb (length (squares_of s)) 8) r)

-- ---- the ranks of a board whose lower part alone counts
pub rank_below : (k : ℕ) (a b : List ℕ) → 8 * k + 8 ≤ length a → rank_of k (a ++ b) ≡ rank_of k a
rank_below k a b h =
    ap (take 8) (drop-append-le (8 * k) a b (omega arith)) ∙ take-append-le 8 (drop (8 * k) a) b (omega (arith, length-drop (8 * k) a))

pub ranks_below : (n : ℕ) (a b : List ℕ) → 8 * n + 8 ≤ length a → ranks_text n (a ++ b) ≡ ranks_text n a
unfolding ranks_text
ranks_below zero a b h = ap (spelt 0) (rank_below 0 a b h)
ranks_below (suc n) a b h =
    ap₂ (λ (x y : List ℕ). x ++ (slash ∷ y)) (ap (spelt 0) (rank_below (suc n) a b h)) (ranks_below n a b (omega arith))

pub rank_above : (k : ℕ) (a b : List ℕ) → length a ≡ 8 * k → length b ≡ 8 → rank_of k (a ++ b) ≡ b
rank_above k a b h l = ap (take 8) (drop_at a b (8 * k) h) ∙ take_all 8 b (omega arith)

-- ---- no ranks are spelled by nothing
pub some_ranks : (n : ℕ) (s : List ℕ) → T (are_ranks n s) → s ≡ [] → ⊥
some_ranks n s t e =
    let y = T_true (are_ranks n s) t in let x = ap (are_ranks n) e ∙ none_left n in let z : ◌≡◌ {A = ℕ} 0 1 = cc in omega arith

-- THE NORMAL FORM: ranks that are taken are the text of what stands on their squares
pub ranks_normal : (n : ℕ) (s : List ℕ) → T (are_ranks n s) → ranks_text n (stacked n s) ≡ s
unfolding are_ranks stacked ranks_text
ranks_normal zero s t = ap (spelt 0) (take_all 8 (squares_of s) (omega (arith, rank_eight s t))) ∙ rank_normal s t
ranks_normal (suc n) s t =
    let top : List ℕ = before slash s in
    let low : List ℕ = after slash s in
    let p = and_l (is_rank top) (are_ranks n low) t in
    let q = and_r (is_rank top) (are_ranks n low) t in
    let many = board_many n low q in
    ap₂ (λ (x y : List ℕ). x ++ (slash ∷ y))
    (ap (spelt 0) (rank_above (suc n) (stacked n low) (squares_of top) (omega arith) (rank_eight top p)) ∙ rank_normal top p)
    (ranks_below n (stacked n low) (squares_of top) (omega arith) ∙ ranks_normal n low q)
    ∙ cut_at slash s (some_ranks n low q)
