-- The words of a line: its result there and back, and what the fields of a line that is taken are. Assumes nothing.
use mathlib.Core.Path.{◌≡◌, refl, sym, ap, subst, ◌∙◌}
use mathlib.Core.Bool.{Bool, true, false, cond}
use mathlib.Core.List.{List, [], ◌∷◌}
use Prim.Native.Nat.{ℕ, zero, suc, ◌<◌}
use native.Mathlib.Omega.{arith}
use lib.ListN.{length}
use Rattle.laws.specs.Tests.{same}
use Rattle.laws.proofs.Tests.{is_same}
use Rattle.laws.proofs.Truth.{true_T}
use Rattle.refusal.specs.Answer.{given}
use Rattle.text_in.specs.Text.{space, semicolon, is_text, every, before, after, trim, place_in}
use Rattle.line_ranks.specs.Ranks.{board_of}
use Rattle.line_tail.specs.Tail.{tail_state}
use Rattle.line_tail.proofs.Tails.{Fitted}
use Rattle.line_parse.specs.Line.{Line, sides, results, ranks_of, side_word, position_field, result_field, line_of}
use Rattle.line_parse.proofs.Given.{given_spells}
use Rattle.line_text.specs.Lines.{text_at}

-- ---- the text at the place of a text that is among them is that text
pub found : (xs : List (List ℕ)) (t : List ℕ) → place_in xs t < length xs → text_at xs (place_in xs t) ≡ t
unfolding place_in
found [] t h = absurd (omega arith)
found (x ∷ xs) t h = go (λ k. found xs t k) (same t x) refl h
  where
    go : (place_in xs t < length xs → text_at xs (place_in xs t) ≡ t)
        → (b : Bool) → same t x ≡ b → cond b zero (suc (place_in xs t)) < suc (length xs) → text_at (x ∷ xs) (cond b zero (suc (place_in xs t))) ≡ t
    go f true e k = sym (is_same t x (true_T e))
    go f false e k = f (omega arith)

-- ---- a side's place, and a result: a word with no blank and no `;` in it
pub side_place : (side : ℕ) → side < 2 → place_in sides (text_at sides side) ≡ side
unfolding place_in
side_place zero h = refl
side_place (suc zero) h = refl
side_place (suc (suc k)) h = absurd (omega arith)

pub record Word (half : ℕ) : Type 0 where
  pub texts : every is_text (text_at results half) ≡ true
  pub alone : trim (before semicolon (text_at results half)) ≡ text_at results half
  pub place : place_in results (text_at results half) ≡ half

pub word : (half : ℕ) → half < 3 → Word half
unfolding place_in before trim every
word zero h = record { texts = refl; alone = refl; place = refl }
word (suc zero) h = record { texts = refl; alone = refl; place = refl }
word (suc (suc zero)) h = record { texts = refl; alone = refl; place = refl }
word (suc (suc (suc k))) h = absurd (omega arith)

-- ---- what a line that is not refused worded is what its words are
pub record Worded (field result : List ℕ) (l : Line) : Type 0 where
  pub side : text_at sides (place_in sides (side_word field)) ≡ side_word field
  pub rest : Fitted (board_of (ranks_of field)) (place_in sides (side_word field)) (after space field)
  pub state : tail_state (place_in sides (side_word field)) (after space field) ≡ l.state
  pub half : text_at results l.half ≡ result

pub given_worded : (line : List ℕ) (l : Line) → line_of line ≡ given l → Worded (position_field line) (result_field line) l
given_worded line l e =
    let s = given_spells line l e in
    record {
      side = found sides (side_word (position_field line)) s.mover;
      rest = s.rest;
      state = s.state;
      half = ap (text_at results) (sym s.half_place) ∙ found results (result_field line) (subst (λ (n : ℕ). n < 3) (sym s.half_place) s.half);
    }
