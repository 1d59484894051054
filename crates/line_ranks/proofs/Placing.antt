-- The invariant of `place`: what is passed stands on the board, and the rest of the text decides. Assumes nothing.
use mathlib.Core.Path.{◌≡◌, refl, sym, ap, subst, ◌∙◌}
use mathlib.Core.Bool.{Bool, true, false, ◌&&◌, and-false}
use mathlib.Core.List.{List, [], ◌∷◌, ◌++◌, append_assoc, append-nil}
use Prim.Native.Nat.{ℕ, zero, suc, ◌+◌, ◌-◌, ◌*◌, ◌≤◌, ◌<◌}
use native.Mathlib.Decide.{ℕ_discrete, dec_le, dec_lt}
use native.Mathlib.Numerals.{add-one}
use native.Mathlib.Omega.{arith}
use lib.ListN.{length, drop, get_or, set, replicate, length-set, length-append, length-replicate, replicate-append-replicate, drop_of_length-le}
use lib.Seq.{drop-cons, set_at}
use borrow.Author.Tests.{eq-eqb, ne_eqb}
use Rattle.text_in.specs.Text.{every, before, after}
use Rattle.line_ranks.specs.Ranks.{piece_of, run_of, digit_first, whole_runs, are_ranks, stacked, squares_of}
use Rattle.line_ranks.specs.PrivateSteps.{step_of}
use Rattle.line_ranks.specs.Promises.{Places, Nothing, empty_board}
use Rattle.line_ranks.specs.declared.inner.Placed.{Placed}
use Rattle.line_ranks.specs.declared.inner.Next.{Next}
use Rattle.line_ranks.specs.declared.inner.Next.TheVariants.{Below, Piece, Empty, Wrong}
use Rattle.line_ranks.proofs.Steps.{lowest, unfinished, below, twice, too_many, empties, no_mark, full, piece}
use Rattle.line_ranks.proofs.Rows

abbrev zeros : ℕ → List ℕ
zeros n = replicate n 0

zeros_length : (n : ℕ) → length (zeros n) ≡ n
zeros_length n = length-replicate n 0

-- the squares of this rank that are passed are the row, and the ranks above it are done
pub record Turn (s board : List ℕ) (rank file : ℕ) (digit : Bool) (i : ℕ) : Type 0 where
  pub row : List ℕ
  pub done : List ℕ
  pub most : i ≤ length s
  pub low : rank ≤ 7
  pub passed : length row ≡ file
  pub within : file ≤ 8
  pub size : length board ≡ 64
  pub stands : board ≡ zeros (8 * rank) ++ (row ++ (zeros (8 - file) ++ done))
  pub decides : are_ranks 7 s ≡ Rows.goes_on_rule rank digit file (drop i s)
  pub spells : stacked 7 s ≡ Rows.comes rank row (drop i s) ++ done

pub turn_first : (s : List ℕ) → Turn s empty_board 7 0 false 0
turn_first s =
    record {
      row = [];
      done = [];
      most = omega arith;
      low = omega arith;
      passed = refl;
      within = omega arith;
      size = refl;
      stands = refl;
      decides = Rows.begun 7 s;
      spells = Rows.begun_board 7 s ∙ sym (append-nil (Rows.comes 7 [] s));
    }

-- ---- the board after one byte
module _ (rank file : ℕ) (row done : List ℕ) where
  put : (code : ℕ) → length row ≡ file → file < 8
      → set (zeros (8 * rank) ++ (row ++ (zeros (8 - file) ++ done))) (8 * rank + file) code ≡ zeros (8 * rank)
      ++ ((row ++ (code ∷ [])) ++ (zeros (8 - (file + 1)) ++ done))
  put code p h =
      let q : 8 - file ≡ suc (8 - (file + 1)) = omega arith in
      ap (λ (l : List ℕ). set l (8 * rank + file) code)
      (ap (λ (k : ℕ). zeros (8 * rank) ++ (row ++ (zeros k ++ done))) q ∙ sym (append_assoc (zeros (8 * rank)) row (0 ∷ (zeros (8 - (file + 1)) ++ done))))
      ∙ set_at (zeros (8 * rank) ++ row) 0 (zeros (8 - (file + 1)) ++ done) code (8 * rank + file)
      (length-append (zeros (8 * rank)) row ∙ omega (arith, zeros_length (8 * rank)))
      ∙ append_assoc (zeros (8 * rank)) row (code ∷ (zeros (8 - (file + 1)) ++ done))
      ∙ ap (λ (l : List ℕ). zeros (8 * rank) ++ l) (sym (append_assoc row (code ∷ []) (zeros (8 - (file + 1)) ++ done)))

  rest : (n : ℕ) → file + n ≤ 8 → row ++ (zeros (8 - file) ++ done) ≡ (row ++ zeros n) ++ (zeros (8 - (file + n)) ++ done)
  rest n h =
      let q : 8 - file ≡ n + (8 - (file + n)) = omega arith in
      ap (λ (l : List ℕ). row ++ (l ++ done)) (ap zeros q ∙ sym (replicate-append-replicate n (8 - (file + n)) 0))
      ∙ ap (λ (l : List ℕ). row ++ l) (append_assoc (zeros n) (zeros (8 - (file + n))) done)
      ∙ sym (append_assoc row (zeros n) (zeros (8 - (file + n)) ++ done))

  skip : (n : ℕ) → file + n ≤ 8 → zeros (8 * rank) ++ (row ++ (zeros (8 - file) ++ done)) ≡ zeros (8 * rank)
      ++ ((row ++ zeros n) ++ (zeros (8 - (file + n)) ++ done))
  skip n h = ap (λ (l : List ℕ). zeros (8 * rank) ++ l) (rest n h)

down : (m file : ℕ) (row done : List ℕ) → file ≡ 8
    → zeros (8 * suc m) ++ (row ++ (zeros (8 - file) ++ done)) ≡ zeros (8 * m) ++ ([] ++ (zeros (8 - 0) ++ (row ++ done)))
down m file row done e =
    let q : 8 * suc m ≡ 8 * m + 8 = omega arith in
    let z : 8 - file ≡ 0 = omega arith in
    ap (λ (k : ℕ). zeros (8 * suc m) ++ (row ++ (zeros k ++ done))) z
    ∙ ap (λ (l : List ℕ). l ++ (row ++ done)) (ap zeros q ∙ sym (replicate-append-replicate (8 * m) 8 0))
    ∙ append_assoc (zeros (8 * m)) (zeros 8) (row ++ done)

-- ---- one turn
-- what the answer of `step` leaves to be true
abbrev pub After : List ℕ → List ℕ → ℕ → ℕ → ℕ → Next → Type 0
After s board i rank file Below = (0 < rank) × Turn s board (rank - 1) 0 false (i + 1)
After s board i rank file (Piece code) = (file < 8) × Turn s (set board (8 * rank + file) code) rank (file + 1) false (i + 1)
After s board i rank file (Empty n) = Turn s board rank (file + n) true (i + 1)
After s board i rank file Wrong = are_ranks 7 s ≡ false

module _ (s board : List ℕ) (i : ℕ) (h : i < length s) where
  cut : drop i s ≡ get_or s i 0 ∷ drop (i + 1) s
  cut = rw (drop-cons s i 0, add-one i)

  module _ (rank file : ℕ) (digit : Bool) (t : Turn s board rank file digit i) where
    decided : are_ranks 7 s ≡ Rows.goes_on_rule rank digit file (get_or s i 0 ∷ drop (i + 1) s)
    decided = t.decides ∙ ap (Rows.goes_on_rule rank digit file) cut

    spelt : stacked 7 s ≡ Rows.comes rank t.row (get_or s i 0 ∷ drop (i + 1) s) ++ t.done
    spelt = t.spells ∙ ap (λ (l : List ℕ). Rows.comes rank t.row l ++ t.done) cut

    at_wrong : (get_or s i 0 ≡ 47 → ⊥) → ((w : List ℕ) → Rows.good_row digit file (get_or s i 0 ∷ w) ≡ false) → are_ranks 7 s ≡ false
    at_wrong n g = decided ∙ Rows.on_wrong (get_or s i 0) n rank digit file (drop (i + 1) s) g

    at_piece : (get_or s i 0 ≡ 47 → ⊥) → run_of (get_or s i 0) ≡ 0 → (piece_of (get_or s i 0) ≡ 0 → ⊥) → file < 8
        → Turn s (set board (8 * rank + file) (piece_of (get_or s i 0))) rank (file + 1) false (i + 1)
    at_piece n e z l =
        let b : ℕ = get_or s i 0 in
        record {
          row = t.row ++ (piece_of b ∷ []);
          done = t.done;
          most = omega arith;
          low = t.low;
          passed = length-append t.row (piece_of b ∷ []) ∙ ap (λ (k : ℕ). k + 1) t.passed;
          within = omega arith;
          size = length-set board (8 * rank + file) (piece_of b) ∙ t.size;
          stands = ap (λ (l : List ℕ). set l (8 * rank + file) (piece_of b)) t.stands ∙ put rank file t.row t.done (piece_of b) t.passed l;
          decides = decided ∙ Rows.on_row b n rank digit file false (file + 1) (drop (i + 1) s) (λ w. Rows.row_piece_holds b file w digit e z);
          spells = spelt ∙ ap (λ (l : List ℕ). l ++ t.done) (Rows.comes_row b n rank t.row (piece_of b ∷ []) (drop (i + 1) s) (rw (eq-eqb (run_of b) 0 e)));
        }

    at_empty : (get_or s i 0 ≡ 47 → ⊥) → (run_of (get_or s i 0) ≡ 0 → ⊥) → digit ≡ false → file + run_of (get_or s i 0) ≤ 8
        → Turn s board rank (file + run_of (get_or s i 0)) true (i + 1)
    at_empty n e d l =
        let b : ℕ = get_or s i 0 in
        record {
          row = t.row ++ zeros (run_of b);
          done = t.done;
          most = omega arith;
          low = t.low;
          passed = length-append t.row (zeros (run_of b)) ∙ omega (arith, t.passed, zeros_length (run_of b));
          within = l;
          size = t.size;
          stands = t.stands ∙ skip rank file t.row t.done (run_of b) l;
          decides =
              decided ∙ ap (λ (x : Bool). Rows.goes_on_rule rank x file (b ∷ drop (i + 1) s)) d
              ∙ Rows.on_row b n rank false file true (file + run_of b) (drop (i + 1) s) (λ w. Rows.row_empty b file w e);
          spells = spelt ∙ ap (λ (l : List ℕ). l ++ t.done) (Rows.comes_row b n rank t.row (zeros (run_of b)) (drop (i + 1) s) (rw (ne_eqb (run_of b) 0 e)));
        }

  at_below : (m file : ℕ) (digit : Bool) → Turn s board (suc m) file digit i → get_or s i 0 ≡ 47 → file ≡ 8 → Turn s board m 0 false (i + 1)
  at_below m file digit t e q =
      record {
        row = [];
        done = t.row ++ t.done;
        most = omega arith;
        low = omega (arith, t.low);
        passed = refl;
        within = omega arith;
        size = t.size;
        stands = t.stands ∙ down m file t.row t.done q;
        decides = decided (suc m) file digit t ∙ Rows.slash_below (get_or s i 0) m digit file (drop (i + 1) s) e q;
        spells = spelt (suc m) file digit t ∙ ap (λ (l : List ℕ). l ++ t.done)
            (Rows.slash_board (get_or s i 0) m digit file (drop (i + 1) s) e t.row) ∙ append_assoc (Rows.comes m [] (drop (i + 1) s)) t.row t.done;
      }

  at_slash : (rank file : ℕ) (digit : Bool) → Turn s board rank file digit i → get_or s i 0 ≡ 47 → After s board i rank file (step_of rank file digit (get_or s i 0))
  at_slash zero file digit t e =
      subst (After s board i zero file) (lowest zero file digit (get_or s i 0) e refl)
      (decided zero file digit t ∙ Rows.slash_lowest (get_or s i 0) digit file (drop (i + 1) s) e)
  at_slash (suc m) file digit t e =
      elim (ℕ_discrete file 8) [
        | yes q ↦
            let k : m ≡ suc m - 1 = omega arith in
            subst (After s board i (suc m) file) (below (suc m) file digit (get_or s i 0) e (λ z. omega arith) q)
            (omega arith, subst (λ (x : ℕ). Turn s board x 0 false (i + 1)) k (at_below m file digit t e q))
        | no q ↦
            subst (After s board i (suc m) file) (unfinished (suc m) file digit (get_or s i 0) e (λ z. omega arith) q)
            (decided (suc m) file digit t ∙ Rows.slash_unfinished (get_or s i 0) m digit file (drop (i + 1) s) e q)
      ]

  -- a digit: the first of its run, or one too many
  at_digit : (rank file : ℕ) (digit : Bool) → Turn s board rank file digit i → (get_or s i 0 ≡ 47 → ⊥) → (run_of (get_or s i 0) ≡ 0 → ⊥)
      → After s board i rank file (step_of rank file digit (get_or s i 0))
  at_digit rank file true t n e =
      subst (After s board i rank file) (twice rank file true (get_or s i 0) n (run_of (get_or s i 0)) refl (omega arith) refl)
      (at_wrong rank file true t n (λ w. Rows.row_twice (get_or s i 0) file w e))
  at_digit rank file false t n e =
      elim (dec_le (file + run_of (get_or s i 0)) 8) [
        | yes l ↦
            subst (After s board i rank file) (empties rank file false (get_or s i 0) n (run_of (get_or s i 0)) refl (omega arith) refl l)
            (at_empty rank file false t n e refl l)
        | no l ↦
            subst (After s board i rank file) (too_many rank file false (get_or s i 0) n (run_of (get_or s i 0)) refl (omega arith) refl (omega arith))
            (at_wrong rank file false t n (λ w. Rows.row_too_many (get_or s i 0) file w false e (omega arith)))
      ]

  at_mark : (rank file : ℕ) (digit : Bool) → Turn s board rank file digit i → (get_or s i 0 ≡ 47 → ⊥)
      → After s board i rank file (step_of rank file digit (get_or s i 0))
  at_mark rank file digit t n =
      elim (ℕ_discrete (run_of b) 0) [
        | yes e ↦
            elim (ℕ_discrete (piece_of b) 0) [
              | yes z ↦
                  subst (After s board i rank file) (no_mark rank file digit b n (run_of b) refl (omega arith) (piece_of b) refl z)
                  (at_wrong rank file digit t n (λ w. Rows.row_wrong b file w digit e z))
              | no z ↦
                  elim (dec_lt file 8) [
                    | yes l ↦ subst (After s board i rank file) (piece rank file digit b n (run_of b) refl (omega arith) (piece_of b) refl z l)
                        (l, at_piece rank file digit t n e z l)
                    | no l ↦
                        subst (After s board i rank file) (full rank file digit b n (run_of b) refl (omega arith) (piece_of b) refl z (omega arith))
                        (at_wrong rank file digit t n (λ w. Rows.row_full b file w digit e (omega arith)))
                  ]
            ]
        | no e ↦ at_digit rank file digit t n e
      ]
    where
      b : ℕ
      b = get_or s i 0

  pub turn : (rank file : ℕ) (digit : Bool) → Turn s board rank file digit i → {r n : Next} → r ≡ step_of rank file digit (get_or s i 0) → r ≡ n
      → After s board i rank file n
  turn rank file digit t e told =
      subst (After s board i rank file) (sym e ∙ told) (elim (ℕ_discrete (get_or s i 0) 47)
      [ yes q ↦ at_slash rank file digit t q | no q ↦ at_mark rank file digit t q ])

-- ---- the end of the text
pub none_left : (n : ℕ) → are_ranks n [] ≡ false
unfolding are_ranks
none_left zero = refl
none_left (suc n) = refl

pub refused : (s : List ℕ) (r : Placed) → Nothing r → are_ranks 7 s ≡ false → Places s r
refused s r n e = record { ok = n.ok ∙ sym e; board = n.board ∙ rw e }

module _ (s board : List ℕ) (file : ℕ) (digit : Bool) (i : ℕ) (h : length s ≤ i) where
  ended : (rank : ℕ) → Turn s board rank file digit i → are_ranks 7 s ≡ Rows.goes_on_rule rank digit file []
  ended rank t = t.decides ∙ ap (Rows.goes_on_rule rank digit file) (drop_of_length-le s h)

  pub too_few : (rank : ℕ) → Turn s board rank file digit i → (rank ≡ 0 → ⊥) → are_ranks 7 s ≡ false
  unfolding before after
  too_few zero t n = absurd (n refl)
  too_few (suc m) t n = ended (suc m) t ∙ ap (λ (x : Bool). Rows.good_row digit file [] && x) (none_left m) ∙ and-false (Rows.good_row digit file [])

  pub too_short : (rank : ℕ) → Turn s board rank file digit i → rank ≡ 0 → file < 8 → are_ranks 7 s ≡ false
  unfolding every digit_first whole_runs squares_of
  too_short zero t e n = ended zero t ∙ rw (and-false digit, ne_eqb (file + 0) 8 (omega arith))
  too_short (suc m) t e n = absurd (omega arith)

  pub complete : (rank : ℕ) → Turn s board rank file digit i → rank ≡ 0 → 8 ≤ file → Places s (record { ok = true; board = board })
  unfolding every digit_first whole_runs squares_of
  complete (suc m) t e q = absurd (omega arith)
  complete zero t e q =
      let good : are_ranks 7 s ≡ true = ended zero t ∙ rw (and-false digit, eq-eqb (file + 0) 8 (omega (arith, t.within))) in
      let z : 8 - file ≡ 0 = omega arith in
      let spelt : stacked 7 s ≡ t.row ++ t.done =
      t.spells ∙ ap (λ (l : List ℕ). Rows.comes 0 t.row l ++ t.done) (drop_of_length-le s h) ∙ ap (λ (l : List ℕ). l ++ t.done) (append-nil t.row)
      in
      record { ok = sym good; board = t.stands ∙ ap (λ (k : ℕ). t.row ++ (zeros k ++ t.done)) z ∙ sym spelt ∙ rw good }
