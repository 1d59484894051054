-- A row of a part is taken as the one that its line has in the whole, and the totals are taken as such. Assumes nothing.
use mathlib.Core.Path.{◌≡◌, refl, sym, ap, ap₂, subst, ◌∙◌}
use mathlib.Core.Bool.{Bool, true, false, cond, not, ◌&&◌, ◌||◌, false≢true}
use mathlib.Core.List.{List, [], ◌∷◌, ◌++◌, append_assoc}
use Prim.Native.Nat.{ℕ, zero, suc, ◌+◌, ◌/◌, ◌%◌, ◌<◌, ◌≤◌}
use native.Mathlib.Omega.{arith}
use lib.Dec.{ltb, leb}
use lib.ListN.{length, drop}
use borrow.Author.Tests.{ne_eqb, lt-ltb, ltb-true}
use lib.IntN.{ℤ, pos, negsuc}
use Rattle.refusal.specs.Answer.{Answer, given, refused}
use Rattle.position_boards.specs.Boards.{bitboards_of}
use Rattle.position.specs.declared.State.{State}
use Rattle.text_in.specs.Text.{text}
use Rattle.line_parse.specs.Line.{Line, line_of}
use Rattle.line_parse.proofs.Given.{given_spells}
use Rattle.line.proofs.Field.{refused_by}
use Rattle.score_taper.specs.Parts.{in16}
use Rattle.score_verdict.specs.Verdict.{Verdict, lost, won, drawn, none, verdict_of}
use Rattle.score.specs.Score.{Outcome, verdict, score, verdict_first, points_for, score_of}
use Rattle.text_out.specs.Text.{digits_up_to, decimal_of, signed_of}
use Rattle.ledger_row.proofs.Lengths.{answer_32}
use Rattle.ledger_row.proofs.Rows.{score_short}
use Rattle.ledger_row.specs.Row.{shown_of, spaced, loaded_row, refused_row, row_of, is_loaded}
use Rattle.ledger_totals.specs.Totals.{last_row}
use Rattle.ledger_feed.specs.Machine.{tally}
use Rattle.ledger_whole.specs.Whole.{ends_in_lf}
use Rattle.ledger_joined_row.specs.Rows.{begins_with, behind_number, is_score, is_word, is_shown, says_refused, says_loaded, after_number, is_row}
use Rattle.ledger_joined_row.proofs.Numbers.{same_self, number_own}
use Rattle.ledger_joined_row.proofs.Own.{plus_own, minus_own, half_kind, ends_after, ends_end, behind_own, said_own, row_own}
use Rattle.ledger_join.specs.Join.{Checked, no_ledger, checked, JoinedPart, with_row, part_from}

-- ---- what follows the number in a row, up to the LF
tail_of : Answer Line → List ℕ
tail_of (given l) = spaced l.half ++ shown_of (score_of (bitboards_of l.board) l.state)
tail_of (refused n v) = text "refused " ++ decimal_of n

row_is : (number : ℕ) (a : Answer Line) → row_of number a ≡ spaced number ++ (tail_of a ++ text "\n")
unfolding loaded_row refused_row tail_of
row_is number (given l) = ap (λ (x : List ℕ). spaced number ++ x) (sym
    (append_assoc (spaced l.half) (shown_of (score_of (bitboards_of l.board) l.state)) (text "\n")))
row_is number (refused n v) = ap (λ (x : List ℕ). spaced number ++ x) (sym (append_assoc (text "refused ") (decimal_of n) (text "\n")))

-- ---- a score is shown as one
score_own : (z : ℤ) → in16 z ≡ true → is_score (signed_of z) ≡ true
score_own (pos n) e = let h = ltb-true n 32768 e in plus_own n (omega arith)
score_own (negsuc n) e = let h = ltb-true n 32768 e in minus_own (suc n) (omega arith) (omega arith)

or_right : (a b : Bool) → b ≡ true → (a || b) ≡ true
or_right true b e = refl
or_right false b e = e

shown_own : (a : Answer Outcome) → ((z : ℤ) → given (score z) ≡ a → in16 z ≡ true) → (a ≡ given (verdict none) → ⊥) → is_shown (shown_of a) ≡ true
shown_own (given (verdict lost)) h k = refl
shown_own (given (verdict won)) h k = refl
shown_own (given (verdict drawn)) h k = refl
shown_own (given (verdict none)) h k = absurd (k refl)
shown_own (given (score z)) h k = or_right (is_word (signed_of z)) (is_score (signed_of z)) (score_own z (h z refl))
shown_own (refused n v) h k = refl

-- no verdict is shown where there is none
first_none : (v : Verdict) (a : Answer ℤ) → verdict_first v a ≡ given (verdict none) → ⊥
first_none lost a e = let k : ◌≡◌ {A = ℕ} 0 1 = cc in omega arith
first_none won a e = let k : ◌≡◌ {A = ℕ} 0 1 = cc in omega arith
first_none drawn a e = let k : ◌≡◌ {A = ℕ} 0 1 = cc in omega arith
first_none none (refused n l) e = let k : ◌≡◌ {A = ℕ} 0 1 = cc in omega arith
first_none none (given z) e = let k : ◌≡◌ {A = ℕ} 0 1 = cc in omega arith

never_none : (bbs : List ℕ) (state : State) → score_of bbs state ≡ given (verdict none) → ⊥
unfolding score_of
never_none bbs state e = first_none (verdict_of bbs state.side) (points_for bbs state.side) e

-- ---- a line's refusals are numbers of one digit or two, from 1
refused_own : (n : ℕ) → 1 ≤ n → n < 100 → says_refused (text "refused " ++ decimal_of n) ≡ true
refused_own n l u = number_own 1 99 n l (omega arith) (omega arith)

-- ---- what is said of a line or a record: half points below 3, or a refusal's number
pub record ForRow (a : Answer Line) : Type 0 where
  pub half : (l : Line) → a ≡ given l → l.half < 3
  pub from_1 : (n : ℕ) (v : List ℕ) → a ≡ refused n v → 1 ≤ n
  pub two_digits : (n : ℕ) (v : List ℕ) → a ≡ refused n v → n < 100

pub line_for_row : (l : List ℕ) → ForRow (line_of l)
line_for_row l = record {
  half = λ x e. (given_spells l x e).half;
  from_1 = λ n v e. let h = refused_by l n v e in omega (arith, h.1);
  two_digits = λ n v e. let h = refused_by l n v e in omega (arith, h.2);
}

kind : (a : Answer Line) → ForRow a → (says_refused (tail_of a) ≡ not (is_loaded a)) × ((says_refused (tail_of a) || says_loaded (tail_of a)) ≡ true)
unfolding tail_of
kind (given x) s =
    let p = half_kind x.half (shown_of (score_of (bitboards_of x.board) x.state)) (s.half x refl)
    (shown_own (score_of (bitboards_of x.board) x.state) (score_short (bitboards_of x.board) x.state)
    (never_none (bitboards_of x.board) x.state)) in
    (p.0, ap₂ ◌||◌ p.0 p.1)
kind (refused n v) s =
    let p = refused_own n (s.from_1 n v refl) (s.two_digits n v refl) in
    (p, ap (λ (b : Bool). b || says_loaded (text "refused " ++ decimal_of n)) p)

-- ---- one row more
-- what comes of a row, by whether it is one, what is behind its number, and whether that says `refused`
unfoldable step : ℕ → ℕ → ℕ → ℕ → List (List ℕ) → Bool → List ℕ → Bool → Checked JoinedPart
step part before loaded others rows fits rest turned =
    cond fits (with_row (spaced (before + (loaded + others + 1)) ++ rest) (part_from part before (tally loaded (not turned)) (tally others turned) rows))
    (no_ledger part (loaded + others + 1))

step_is : (part before loaded others : ℕ) (row : List ℕ) (rows : List (List ℕ)) → is_row (loaded + others + 1) row ≡ true
    → part_from part before loaded others (row ∷ rows)
    ≡ step part before loaded others rows (is_row (loaded + others + 1) row) (behind_number (loaded + others + 1) row)
    (says_refused (after_number (loaded + others + 1) row))
unfolding part_from step
step_is part before loaded others row rows e = rw e

not_twice : (t : Bool) → not (not t) ≡ t
not_twice true = refl
not_twice false = refl

fits_own : (number : ℕ) (a : Answer Line) → ForRow a → is_row number (row_of number a) ≡ true
fits_own number a s =
    let short = answer_32 number a (λ n v e. s.two_digits n v (sym e)) (λ l e. let h = s.half l (sym e) in omega arith) in
    ap (is_row number) (row_is number a) ∙ row_own number (tail_of a) (subst (λ (x : List ℕ). length x ≤ 32) (row_is number a) short) (kind a s).1

turned_own : (number : ℕ) (a : Answer Line) → ForRow a → says_refused (after_number number (row_of number a)) ≡ not (is_loaded a)
turned_own number a s = ap says_refused (ap (after_number number) (row_is number a) ∙ said_own number (tail_of a)) ∙ (kind a s).0

step_own : (part before loaded others : ℕ) (rows : List (List ℕ)) (rest : List ℕ) (t : Bool)
    → step part before loaded others rows true rest (not t)
    ≡ with_row (spaced (before + (loaded + others + 1)) ++ rest) (part_from part before (tally loaded t) (tally others (not t)) rows)
unfolding step
step_own part before loaded others rows rest t =
    ap (λ (u : Bool). with_row (spaced (before + (loaded + others + 1)) ++ rest) (part_from part before (tally loaded u) (tally others (not t)) rows))
    (not_twice t)

pub row_taken : (part before loaded others : ℕ) (a : Answer Line) (rows : List (List ℕ)) → ForRow a
    → part_from part before loaded others (row_of (loaded + others + 1) a ∷ rows)
    ≡ with_row (row_of (before + (loaded + others + 1)) a) (part_from part before (tally loaded (is_loaded a)) (tally others (not (is_loaded a))) rows)
row_taken part before loaded others a rows s =
    let number : ℕ = loaded + others + 1 in
    let row : List ℕ = row_of number a in
    step_is part before loaded others row rows (fits_own number a s)
    ∙ ap (λ (b : Bool). step part before loaded others rows b (behind_number number row) (says_refused (after_number number row))) (fits_own number a s)
    ∙ ap (λ (b : Bool). step part before loaded others rows true (behind_number number row) b) (turned_own number a s)
    ∙ ap (λ (x : List ℕ). step part before loaded others rows true x (not (is_loaded a)))
    (ap (behind_number number) (row_is number a) ∙ behind_own number (tail_of a))
    ∙ step_own part before loaded others rows (tail_of a ++ text "\n") (is_loaded a)
    ∙ ap (λ (x : List ℕ). with_row x (part_from part before (tally loaded (is_loaded a)) (tally others (not (is_loaded a))) rows))
    (sym (row_is (before + number) a))

-- ---- the totals
-- a number begins with a digit, and the totals with an `l`
low : List ℕ → Bool
low [] = false
low (d ∷ s) = ltb d 58

low_both : (s t : List ℕ) → low s ≡ true → low (s ++ t) ≡ true
unfolding low
low_both [] t e = absurd (false≢true e)
low_both (d ∷ s) t e = e

low_digit : (n : ℕ) → n < 10 → low ((48 + n) ∷ []) ≡ true
unfolding low
low_digit n h = lt-ltb (48 + n) 58 (omega arith)

low_digits : (f n : ℕ) → low (digits_up_to (suc f) n) ≡ true
unfolding digits_up_to
low_digits zero n = go (ltb n 10) refl
  where
    go : (t : Bool) → ltb n 10 ≡ t → low (cond t ((48 + n) ∷ []) ((48 + n % 10) ∷ [])) ≡ true
    go true e = low_digit n (ltb-true n 10 e)
    go false e = low_digit (n % 10) (omega arith)
low_digits (suc f) n = go (ltb n 10) refl (low_digits f (n / 10))
  where
    go : (t : Bool) → ltb n 10 ≡ t → low (digits_up_to (suc f) (n / 10)) ≡ true
        → low (cond t ((48 + n) ∷ []) (digits_up_to (suc f) (n / 10) ++ ((48 + n % 10) ∷ []))) ≡ true
    go true e rec = low_digit n (ltb-true n 10 e)
    go false e rec = low_both (digits_up_to (suc f) (n / 10)) ((48 + n % 10) ∷ []) rec

begins_not : (front rest : List ℕ) → low front ≡ true → begins_with front (108 ∷ rest) ≡ false
unfolding low
begins_not [] rest e = absurd (false≢true e)
begins_not (d ∷ front) rest e = rw (ne_eqb 108 d (λ q. no q (ltb-true d 58 e)))
  where
    no : 108 ≡ d → d < 58 → ⊥
    no q h = omega arith

and_no : (a b : Bool) → (a && (b && false)) ≡ false
and_no true true = refl
and_no true false = refl
and_no false b = refl

last_no : (number lines loaded others : ℕ) → is_row number (last_row lines loaded others) ≡ false
unfolding last_row
last_no number lines loaded others =
    let row : List ℕ = last_row lines loaded others in
    let more : Bool = says_refused (after_number number row) || says_loaded (after_number number row) in
    ap (λ (b : Bool). leb (length row) 32 && (ends_in_lf row && (b && more)))
    (begins_not (spaced number) (drop 1 row) (low_both (decimal_of number) (text " ") (low_digits 19 number)))
    ∙ and_no (leb (length row) 32) (ends_in_lf row)

pub last_taken : (part before loaded others : ℕ)
    → part_from part before loaded others (last_row (loaded + others) loaded others ∷ []) ≡ checked (record { rows = []; loaded = loaded; refused = others })
unfolding part_from
last_taken part before loaded others =
    rw (last_no (loaded + others + 1) (loaded + others) loaded others, same_self (last_row (loaded + others) loaded others))

-- the totals end in LF
pub last_ends : (lines loaded others : ℕ) → ends_in_lf (last_row lines loaded others) ≡ true
unfolding last_row
last_ends lines loaded others =
    ends_after (text "lines " ++ decimal_of lines) ((text " loaded " ++ decimal_of loaded) ++ ((text " refused " ++ decimal_of others) ++ text "\n"))
    (ends_after (text " loaded " ++ decimal_of loaded) ((text " refused " ++ decimal_of others) ++ text "\n")
    (ends_after (text " refused " ++ decimal_of others) (text "\n") ends_end))
