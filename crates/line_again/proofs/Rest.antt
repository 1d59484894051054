-- The fields behind the placement: what is written of a state that fits is read as it, and what is read is written by the fields as they stood.
-- Assumes nothing.
use mathlib.Core.Path.{◌≡◌, sym, ap, ap₂, subst, ◌∙◌}
use mathlib.Core.Bool.{Bool, true, false, cond, not, ◌&&◌, ◌||◌, or-true, true≢false}
use mathlib.Core.List.{List, [], ◌∷◌}
use Prim.Native.Nat.{ℕ, zero, suc, ◌+◌, ◌-◌, ◌/◌, ◌≤◌, ◌<◌}
use native.Mathlib.Omega.{arith}
use lib.Dec.{T, eqb, leb}
use lib.ListN.{length}
use borrow.Author.Tests.{eqb-true, ne_eqb, leb-true}
use Rattle.laws.specs.Tests.{all_below}
use Rattle.laws.proofs.Tests.{all_at}
use Rattle.laws.proofs.Truth.{T_true, true_T, and_l, and_r, not_i, not_e}
use Rattle.chess.specs.Codes.{code_of}
use Rattle.chess.specs.Named.{white, black, pawn}
use Rattle.position_further.specs.Rule.{stands, on_rank, empty_square, at_home, just_passed, counters_fit}
use Rattle.position.specs.declared.State.{State}
use Rattle.text_in.specs.Text.{text, every}
use Rattle.text_out.specs.Text.{digits_up_to, decimal_of}
use Rattle.line_tail.specs.Words.{nth_word, missing, are_rights, rights_of, passant_of, is_figure, counter_of, counter_or}
use Rattle.line_tail.specs.Tail.{both_given, rights_fit, passant_fits, counters_fit_fields, state_said, tail_state}
use Rattle.line_tail.proofs.Tails.{Fitted, passant_borne, counters_borne}
use Rattle.line_parse.specs.Line.{sides}
use Rattle.line_text.specs.Words.{or_else, rights_text, square_text, passant_text, counter_text}
use Rattle.line_text.specs.Lines.{text_at, state_fields, parted}
use Rattle.line_text.proofs.Counters.{counter_digits}
use Rattle.line_again.specs.Again.{fields_behind}
use Rattle.line_again.proofs.Fields.{is_solid, weaken, not_missing, IsWord, AreWords, word_at}
use Rattle.line_again.proofs.Decimals.{digits_of, counter_back, counter_own}
use Rattle.line_again.proofs.Rights.{rights_back, rights_own}
use Rattle.line_again.proofs.Squares.{on_board, passant_back, passant_own}
use Rattle.std.specs.Prelude.{Option, None, Some}

-- ---- each field is a word
side_word_holds : (side : ℕ) → side < 2 → IsWord (text_at sides side)
unfolding every
side_word_holds zero h = record { some = tt; solid = tt }
side_word_holds (suc zero) h = record { some = tt; solid = tt }
side_word_holds (suc (suc k)) h = absurd (omega arith)

-- an en passant square is on the board
on_rank_holds : (rank s : ℕ) → on_rank rank s ≡ true → rank ≤ 8 → s < 64
on_rank_holds rank s e h = let q = eqb-true (s / 8 + 1) rank e in omega arith

passed_on_board : (bytes : List ℕ) (side : ℕ) (p : Option ℕ) → just_passed bytes side p ≡ true → on_board p
unfolding just_passed
passed_on_board bytes side None e = tt
passed_on_board bytes side (Some s) e =
    go (eqb side white) (and_r (stands bytes s empty_square) _ (true_T e))
  where
    go : (t : Bool) → T (cond t (on_rank 6 s && stands bytes (s - 8) (code_of pawn black)) (on_rank 3 s && stands bytes (s + 8) (code_of pawn white))) → s < 64
    go true h = on_rank_holds 6 s (T_true (on_rank 6 s) (and_l (on_rank 6 s) (stands bytes (s - 8) (code_of pawn black)) h)) (omega arith)
    go false h = on_rank_holds 3 s (T_true (on_rank 3 s) (and_l (on_rank 3 s) (stands bytes (s + 8) (code_of pawn white)) h)) (omega arith)

squares_tried : T (all_below 64 (λ s. every is_solid (square_text s)))
unfolding all_below every
squares_tried = tt

passant_word : (p : Option ℕ) → on_board p → IsWord (passant_text p)
unfolding every
passant_word None h = record { some = tt; solid = tt }
passant_word (Some s) h = record { some = tt; solid = all_at 64 (λ k. every is_solid (square_text k)) squares_tried s h }

figures_tried : T (all_below 58 (λ b. not (is_figure b) || is_solid b))
unfolding all_below
figures_tried = tt

figure_solid : (b : ℕ) → T (is_figure b) → T (is_solid b)
figure_solid b t =
    let most = leb-true b 57 (T_true (leb b 57) (and_r (leb 48 b) (leb b 57) t)) in
    go (is_figure b) (T_true (is_figure b) t) (all_at 58 (λ k. not (is_figure k) || is_solid k) figures_tried b (omega arith))
  where
    go : (s : Bool) → s ≡ true → T (not s || is_solid b) → T (is_solid b)
    go true e h = h
    go false e h = absurd (true≢false (sym e))

counter_word : (n : ℕ) → n ≤ 9999 → IsWord (counter_text n)
counter_word n h =
    let d = digits_of 19 n (omega arith) in
    let there = not_i (missing (decimal_of n)) (ne_eqb (length (decimal_of n)) 0 (λ e. omega (arith, d.some))) in
    subst IsWord (sym (counter_digits n h)) (record { some = there; solid = weaken is_figure is_solid figure_solid (decimal_of n) d.each })

-- ---- a counter, not given or given
counter_read : (otherwise n : ℕ) → n ≤ 9999 → counter_or otherwise (counter_text n) ≡ n
counter_read otherwise n h =
    ap (λ (t : Bool). cond t otherwise (counter_of (counter_text n))) (not_e (missing (counter_text n)) (counter_word n h).some)
    ∙ ap counter_of (counter_digits n h) ∙ counter_back n h

counter_written : (otherwise : ℕ) (s : List ℕ) → counter_or otherwise s ≤ 9999 → counter_text (counter_or otherwise s) ≡ or_else (decimal_of otherwise) s
counter_written otherwise [] h = counter_digits otherwise h
counter_written otherwise (b ∷ s) h =
    let e : counter_or otherwise (b ∷ s) ≡ counter_of (b ∷ s) =
    ap (λ (t : Bool). cond t otherwise (counter_of (b ∷ s))) (not_e (missing (b ∷ s)) (not_missing b s))
    in
    let k : counter_of (b ∷ s) ≤ 9999 = omega arith in
    ap counter_text e ∙ counter_digits (counter_of (b ∷ s)) k ∙ counter_own (b ∷ s) k

few_counters : (halfmoves moves : ℕ) → counters_fit halfmoves moves ≡ true → (halfmoves ≤ 9999) × (moves ≤ 9999)
few_counters halfmoves moves e =
    let h : Bool = leb halfmoves 9999 in
    let m : Bool = leb moves 9999 in
    let rest = and_r h (leb 1 moves && m) (true_T e) in
    (leb-true halfmoves 9999 (T_true h (and_l h (leb 1 moves && m) (true_T e))), leb-true moves 9999 (T_true m (and_r (leb 1 moves) m rest)))

-- ---- a state that fits
module _ (board : List ℕ) (state : State) (hs : state.side < 2) (hr : at_home board state.rights ≡ true)
    (hp : just_passed board state.side state.passant ≡ true) (hc : counters_fit state.halfmoves state.moves ≡ true) where
  few : (state.halfmoves ≤ 9999) × (state.moves ≤ 9999)
  few = few_counters state.halfmoves state.moves hc

  on_board_holds : on_board state.passant
  on_board_holds = passed_on_board board state.side state.passant hp

  pub state_words : AreWords (state_fields state)
  state_words = (
    side_word_holds state.side hs,
    (
      (rights_back state.rights).word,
      (
        passant_word state.passant on_board_holds,
        (counter_word state.halfmoves few.0, (counter_word state.moves few.1, tt)),
      ),
    ),
  )

  abbrev rest : List ℕ
  rest = parted (state_fields state)

  -- what each field reads as
  rights_read : rights_of (rights_text state.rights) ≡ state.rights
  rights_read = (rights_back state.rights).same

  passant_read : passant_of (passant_text state.passant) ≡ state.passant
  passant_read = passant_back state.passant on_board_holds

  given_too : (s t : List ℕ) → IsWord t → both_given s t ≡ true
  given_too s t w = ap (λ (x : Bool). missing s || not x) (not_e (missing t) w.some) ∙ or-true (missing s)

  rights_taken : rights_fit board (nth_word 1 rest) ≡ true
  unfolding rights_fit
  rights_taken =
      ap (rights_fit board) (word_at (state_fields state) state_words 1)
      ∙ ap₂ ◌&&◌ (rights_back state.rights).taken (ap (at_home board) rights_read ∙ hr)

  passant_taken : passant_fits board state.side (nth_word 1 rest) (nth_word 2 rest) ≡ true
  unfolding passant_fits
  passant_taken =
      ap₂ (passant_fits board state.side) (word_at (state_fields state) state_words 1) (word_at (state_fields state) state_words 2)
      ∙ ap₂ ◌&&◌ (given_too (rights_text state.rights) (passant_text state.passant) (passant_word state.passant on_board_holds))
      (ap (just_passed board state.side) passant_read ∙ hp)

  counters_taken : counters_fit_fields (nth_word 3 rest) (nth_word 4 rest) (nth_word 5 rest) ≡ true
  unfolding counters_fit_fields
  counters_taken =
      ap₂ (λ (h m : List ℕ). counters_fit_fields h m (nth_word 5 rest)) (word_at (state_fields state) state_words 3) (word_at (state_fields state) state_words 4)
      ∙ ap (counters_fit_fields (counter_text state.halfmoves) (counter_text state.moves)) (word_at (state_fields state) state_words 5)
      ∙ ap₂ (λ (x y : Bool). x && true && y) (given_too (counter_text state.halfmoves) (counter_text state.moves) (counter_word state.moves few.1))
      (ap₂ counters_fit (counter_read 0 state.halfmoves few.0) (counter_read 1 state.moves few.1) ∙ hc)

  pub taken : Fitted board state.side rest
  taken = record { rights = rights_taken; passant = passant_taken; counters = counters_taken }

  pub state_read : tail_state state.side rest ≡ state
  unfolding state_said
  state_read =
      let r : rights_of (nth_word 1 rest) ≡ state.rights = ap rights_of (word_at (state_fields state) state_words 1) ∙ rights_read in
      let p : passant_of (nth_word 2 rest) ≡ state.passant = ap passant_of (word_at (state_fields state) state_words 2) ∙ passant_read in
      let h : counter_or 0 (nth_word 3 rest) ≡ state.halfmoves =
      ap (counter_or 0) (word_at (state_fields state) state_words 3) ∙ counter_read 0 state.halfmoves few.0
      in
      let m : counter_or 1 (nth_word 4 rest) ≡ state.moves =
      ap (counter_or 1) (word_at (state_fields state) state_words 4) ∙ counter_read 1 state.moves few.1
      in
      λ i. record { side = state.side; rights = r i; passant = p i; halfmoves = h i; moves = m i }

-- ---- what was read
module _ (board : List ℕ) (side : ℕ) (s : List ℕ) (f : Fitted board side s) where
  rights_so : rights_text (rights_of (nth_word 1 s)) ≡ or_else (text "-") (nth_word 1 s)
  unfolding rights_fit
  rights_so =
      rights_own (nth_word 1 s) (T_true (are_rights (nth_word 1 s)) (and_l (are_rights (nth_word 1 s)) (at_home board (rights_of (nth_word 1 s))) (true_T f.rights)))

  passant_so : passant_text (passant_of (nth_word 2 s)) ≡ or_else (text "-") (nth_word 2 s)
  unfolding state_said
  passant_so = passant_own (nth_word 2 s) (passed_on_board board side (passant_of (nth_word 2 s)) (passant_borne board side s f))

  few_read : (counter_or 0 (nth_word 3 s) ≤ 9999) × (counter_or 1 (nth_word 4 s) ≤ 9999)
  unfolding state_said
  few_read = few_counters (counter_or 0 (nth_word 3 s)) (counter_or 1 (nth_word 4 s)) (counters_borne board side s f)

  halfmoves_so : counter_text (counter_or 0 (nth_word 3 s)) ≡ or_else (text "0") (nth_word 3 s)
  unfolding digits_up_to
  halfmoves_so = counter_written 0 (nth_word 3 s) few_read.0

  moves_so : counter_text (counter_or 1 (nth_word 4 s)) ≡ or_else (text "1") (nth_word 4 s)
  unfolding digits_up_to
  moves_so = counter_written 1 (nth_word 4 s) few_read.1

  pub written_so : state_fields (tail_state side s) ≡ fields_behind (text_at sides side) s
  unfolding state_said
  written_so = λ i. text_at sides side ∷ rights_so i ∷ passant_so i ∷ halfmoves_so i ∷ moves_so i ∷ []
