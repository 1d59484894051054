-- What is put is the row of what the line says. Assumes nothing.
use mathlib.Core.Path.{◌≡◌, refl, sym, ap, ap₂, subst, ◌∙◌}
use mathlib.Core.Bool.{true, false}
use mathlib.Core.List.{List}
use Prim.Native.Nat.{ℕ}
use native.Mathlib.Omega.{arith}
use lib.IntN.{ℤ}
use Rattle.refusal.specs.Answer.{Answer, given, refused, answered}
use Rattle.refusal.specs.Refusals.{number_of}
use Rattle.refusal.specs.declared.Refusal.{Refusal}
use Rattle.refusal.proofs.Answers.{given_not}
use Rattle.position_boards.specs.Boards.{bitboards_of}
use Rattle.position.specs.declared.State.{State}
use Rattle.line_ranks.specs.Promises.{empty_board}
use Rattle.line_parse.specs.Line.{Line, line_of}
use Rattle.line_parse.specs.Promises.{by_value}
use Rattle.line.specs.Promises.{bitboards_after}
use Rattle.line.proofs.Loaded.{loaded_checked}
use Rattle.score_taper.specs.Parts.{in16, points_of}
use Rattle.score_taper.specs.declared.Side.{Side}
use Rattle.score_taper.proofs.Sides.{given_short}
use Rattle.score_verdict.specs.Verdict.{Verdict, lost, won, drawn, none, verdict_of, to_move}
use Rattle.score_tally.specs.Sides.{side_of}
use Rattle.score.specs.Score.{Outcome, score, verdict_first, score_of, eval_of}
use Rattle.score_material.specs.Pieces.{pieces}
use Rattle.attack.specs.Attacks.{other}
use Rattle.score.specs.Answers.{scored}
use Rattle.score.specs.declared.Scored.{Scored}
use Rattle.text_out.specs.Text.{Puts}
use Rattle.ledger_row.specs.Row.{said_row, row_of, loaded_row, refused_row, is_loaded}
use Rattle.ledger_row.specs.Promises.{PutsRow, Short}
use Rattle.ledger_row.specs.declared.Row.{Row}
use Rattle.std.specs.Prelude.{Result, Ok, Err, Option}

-- ---- a score is short

settled_short : (v : Verdict) (a : Answer ℤ) (z : ℤ) → ((y : ℤ) → given y ≡ a → in16 y ≡ true) → given (score z) ≡ verdict_first v a → in16 z ≡ true
settled_short lost a z h e = absurd (let k : ◌≡◌ {A = ℕ} 0 1 = cc in omega arith)
settled_short won a z h e = absurd (let k : ◌≡◌ {A = ℕ} 0 1 = cc in omega arith)
settled_short drawn a z h e = absurd (let k : ◌≡◌ {A = ℕ} 0 1 = cc in omega arith)
settled_short none (refused n l) z h e = given_not e
settled_short none (given y) z h e = let k : z ≡ y = cc in h z (ap given k)

pub score_short : (bbs : List ℕ) (state : State) (z : ℤ) → given (score z) ≡ score_of bbs state → in16 z ≡ true
unfolding score_of
score_short bbs state z e =
    let own : Side = side_of bbs (to_move state.side) in
    let them : Side = side_of bbs (other state.side) in
    settled_short (verdict_of bbs state.side) (points_of own them (pieces bbs)) z (λ y. given_short own them (pieces bbs) y) e

pub scored_short : (bbs : List ℕ) (state : State) (r : Result Scored Refusal) → scored r ≡ score_of bbs state → Short r
scored_short bbs state r e z q = score_short bbs state z (sym (ap scored q) ∙ e)

-- ---- the row of what was refused, and of what was loaded
module _ (number : ℕ) (bitboards old new : List ℕ) (at : ℕ) (read : Result (State × ℕ) Refusal) where
  abbrev PutsIt : Result (State × ℕ) Refusal → Row → Type 0
  PutsIt said r = PutsRow old new at (answered said) (said_row number bitboards (answered said)) r

  pub row_refused : (q : Refusal) → read ≡ Err q → (p : Option ℕ) → Puts old new at (refused_row number (number_of q)) p
      → PutsIt read (record { placed = p; loaded = false })
  row_refused q told p h = subst (λ (x : Result (State × ℕ) Refusal). PutsIt x (record { placed = p; loaded = false })) (sym told) (record { puts = h; loaded = refl })

  pub row_loaded : (state : State) (half : ℕ) → read ≡ Ok (state, half) → (a : Answer Outcome) → a ≡ score_of bitboards state
      → (p : Option ℕ) → Puts old new at (loaded_row number half a) p → PutsIt read (record { placed = p; loaded = true })
  row_loaded state half told a s p h =
      subst (λ (x : Result (State × ℕ) Refusal). PutsIt x (record { placed = p; loaded = true })) (sym told)
      (record { puts = subst (λ (b : Answer Outcome). Puts old new at (loaded_row number half b) p) s h; loaded = refl })

-- ---- what was read of a line: its row is the line's
pub row_read : (number : ℕ) (a : Answer Line) (old new : List ℕ) (at : ℕ) (read : Result (State × ℕ) Refusal) (bitboards : List ℕ) (r : Row)
    → answered read ≡ by_value a → bitboards ≡ bitboards_after a (bitboards_of empty_board)
    → PutsRow old new at (answered read) (said_row number bitboards (answered read)) r → PutsRow old new at a (row_of number a) r
row_read number (given l) old new at read bitboards r e f h =
    let t : said_row number bitboards (answered read) ≡ row_of number (given l) = ap₂ (said_row number) f e in
    record { puts = subst (λ (u : List ℕ). Puts old new at u r.placed) t h.puts; loaded = h.loaded ∙ ap is_loaded e }
row_read number (refused n v) old new at read bitboards r e f h =
    let t : said_row number bitboards (answered read) ≡ row_of number (refused n v) = ap (said_row number bitboards) e in
    record { puts = subst (λ (u : List ℕ). Puts old new at u r.placed) t h.puts; loaded = h.loaded ∙ ap is_loaded e }

-- neither SHAPE nor anything at odds comes before a row's score
pub shown_eval : (line : List ℕ) (l : Line) → line_of line ≡ given l → eval_of (bitboards_of l.board) l.board l.state
    ≡ score_of (bitboards_of l.board) l.state
unfolding eval_of
shown_eval line l e = loaded_checked line l e (score_of (bitboards_of l.board) l.state)
