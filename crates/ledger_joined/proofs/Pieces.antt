-- Each row of a ledger, and its totals, is one piece where the ledger is cut after each LF. Assumes nothing.
use mathlib.Core.Path.{◌≡◌, refl, sym, ap, ◌∙◌}
use mathlib.Core.Bool.{Bool, true, false, cond, true≢false, ◌||◌}
use mathlib.Core.List.{List, [], ◌∷◌, ◌++◌, append_assoc, append-nil}
use Prim.Native.Nat.{ℕ, zero, suc, ◌+◌, ◌/◌, ◌%◌, ◌<◌}
use native.Mathlib.Omega.{arith}
use lib.Dec.{eqb, ltb}
use lib.IntN.{ℤ, pos, negsuc}
use borrow.Author.Tests.{eqb-true, ltb-true}
use Rattle.refusal.specs.Answer.{Answer, given, refused}
use Rattle.position_boards.specs.Boards.{bitboards_of}
use Rattle.text_in.specs.Text.{text, holds}
use Rattle.line_parse.specs.Line.{Line}
use Rattle.score_verdict.specs.Verdict.{lost, won, drawn, none}
use Rattle.score.specs.Score.{Outcome, verdict, score, score_of}
use Rattle.text_out.specs.Text.{digits_up_to, decimal_of, signed_of}
use Rattle.ledger_row.specs.Row.{shown_of, spaced, loaded_row, refused_row, row_of}
use Rattle.ledger_totals.specs.Totals.{last_row}
use Rattle.line_cut.specs.Lines.{lf}
use Rattle.ledger_whole.specs.Whole.{pieces_from}

-- ---- texts with no LF
abbrev pub Plain : List ℕ → Type 0
Plain t = holds lf t ≡ false

plain_both : (s t : List ℕ) → Plain s → Plain t → Plain (s ++ t)
unfolding holds
plain_both [] t p q = q
plain_both (b ∷ s) t p q = go (eqb b lf) p (plain_both s t)
  where
    go : (u : Bool) → (u || holds lf s) ≡ false → (Plain s → Plain t → Plain (s ++ t)) → (u || holds lf (s ++ t)) ≡ false
    go true e rec = e
    go false e rec = rec e q

digit_plain : (n : ℕ) → n < 10 → Plain ((48 + n) ∷ [])
unfolding holds
digit_plain n h = go (eqb (48 + n) lf) refl
  where
    no : 48 + n ≡ 10 → ⊥
    no q = omega arith

    go : (u : Bool) → eqb (48 + n) lf ≡ u → (u || false) ≡ false
    go true e = absurd (no (eqb-true (48 + n) lf e))
    go false e = refl

nil_plain : Plain []
unfolding holds
nil_plain = refl

space_plain : Plain (text " ")
unfolding holds
space_plain = refl

minus_plain : Plain (45 ∷ [])
unfolding holds
minus_plain = refl

digits_plain : (f n : ℕ) → Plain (digits_up_to f n)
unfolding digits_up_to
digits_plain zero n = nil_plain
digits_plain (suc f) n = go (ltb n 10) refl (digits_plain f (n / 10))
  where
    go : (t : Bool) → ltb n 10 ≡ t → Plain (digits_up_to f (n / 10)) → Plain (cond t ((48 + n) ∷ []) (digits_up_to f (n / 10) ++ ((48 + n % 10) ∷ [])))
    go true e rec = digit_plain n (ltb-true n 10 e)
    go false e rec = plain_both (digits_up_to f (n / 10)) ((48 + n % 10) ∷ []) rec (digit_plain (n % 10) (omega arith))

decimal_plain : (n : ℕ) → Plain (decimal_of n)
decimal_plain n = digits_plain 20 n

spaced_plain : (n : ℕ) → Plain (spaced n)
spaced_plain n = plain_both (decimal_of n) (text " ") (decimal_plain n) space_plain

signed_plain : (z : ℤ) → Plain (signed_of z)
signed_plain (pos n) = decimal_plain n
signed_plain (negsuc n) = plain_both (45 ∷ []) (decimal_of (suc n)) minus_plain (decimal_plain (suc n))

shown_plain : (a : Answer Outcome) → Plain (shown_of a)
unfolding holds
shown_plain (given (verdict lost)) = refl
shown_plain (given (verdict won)) = refl
shown_plain (given (verdict drawn)) = refl
shown_plain (given (verdict none)) = refl
shown_plain (given (score z)) = signed_plain z
shown_plain (refused n v) = refl

-- ---- texts that are one piece, whatever follows
abbrev pub OnePiece : List ℕ → Type 0
OnePiece r = (l s : List ℕ) → pieces_from l (r ++ s) ≡ (l ++ r) ∷ pieces_from [] s

ended : OnePiece (text "\n")
unfolding pieces_from
ended l s = refl

after : (t r : List ℕ) → Plain t → OnePiece r → OnePiece (t ++ r)
unfolding pieces_from holds
after [] r e p l s = p l s
after (b ∷ t) r e p l s = go (eqb b lf) e (after t r)
  where
    go : (u : Bool) → (u || holds lf t) ≡ false → (Plain t → OnePiece r → OnePiece (t ++ r))
        → cond u ((l ++ (lf ∷ [])) ∷ pieces_from [] ((t ++ r) ++ s)) (pieces_from (l ++ (b ∷ [])) ((t ++ r) ++ s)) ≡ (l ++ (b ∷ (t ++ r))) ∷ pieces_from [] s
    go true q rec = absurd (true≢false q)
    go false q rec = rec q p (l ++ (b ∷ [])) s ∙ ap (λ (x : List ℕ). x ∷ pieces_from [] s) (append_assoc l (b ∷ []) (t ++ r))

word_plain : Plain (text "refused ")
unfolding holds
word_plain = refl

pub row_piece_holds : (number : ℕ) (a : Answer Line) → OnePiece (row_of number a)
unfolding loaded_row refused_row
row_piece_holds number (given l) =
    let shown : Answer Outcome = score_of (bitboards_of l.board) l.state in
    after (spaced number) (spaced l.half ++ (shown_of shown ++ text "\n")) (spaced_plain number)
    (after (spaced l.half) (shown_of shown ++ text "\n") (spaced_plain l.half)
    (after (shown_of shown) (text "\n") (shown_plain shown) ended))
row_piece_holds number (refused n v) =
    after (spaced number) (text "refused " ++ (decimal_of n ++ text "\n")) (spaced_plain number)
    (after (text "refused ") (decimal_of n ++ text "\n") word_plain (after (decimal_of n) (text "\n") (decimal_plain n) ended))

named : (word : List ℕ) (n : ℕ) → Plain word → Plain (word ++ decimal_of n)
named word n p = plain_both word (decimal_of n) p (decimal_plain n)

lines_plain : Plain (text "lines ")
unfolding holds
lines_plain = refl

loaded_plain : Plain (text " loaded ")
unfolding holds
loaded_plain = refl

refused_plain : Plain (text " refused ")
unfolding holds
refused_plain = refl

pub last_piece_holds : (lines loaded others : ℕ) → OnePiece (last_row lines loaded others)
unfolding last_row
last_piece_holds lines loaded others =
    after (text "lines " ++ decimal_of lines) ((text " loaded " ++ decimal_of loaded) ++ ((text " refused " ++ decimal_of others) ++ text "\n"))
    (named (text "lines ") lines lines_plain)
    (after (text " loaded " ++ decimal_of loaded) ((text " refused " ++ decimal_of others) ++ text "\n") (named (text " loaded ") loaded loaded_plain)
    (after (text " refused " ++ decimal_of others) (text "\n") (named (text " refused ") others refused_plain) ended))

-- ---- the last of a text
pub pieces_end : (t : List ℕ) → OnePiece t → pieces_from [] t ≡ t ∷ []
unfolding pieces_from
pieces_end t p = ap (pieces_from []) (sym (append-nil t)) ∙ p [] []
