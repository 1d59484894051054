-- The row of what the buffer holds: put, and no longer than 32 bytes. Assumes nothing.
use mathlib.Core.Path.{◌≡◌, refl, sym, ap, subst, ◌∙◌}
use mathlib.Core.Bool.{Bool, true, false, cond}
use mathlib.Core.List.{List}
use Prim.Native.Nat.{ℕ, ◌≤◌}
use lib.Dec.{ltb}
use lib.ListN.{length, take}
use Rattle.refusal.specs.Answer.{Answer, given, refused, refusal_of, answered}
use Rattle.refusal.specs.Refusals.{number_of}
use Rattle.refusal.specs.declared.Refusal.{Refusal}
use Rattle.refusal.specs.declared.Refusal.TheVariants as R
use Rattle.refusal.proofs.Paper.{number_small}
use Rattle.position_boards.specs.Boards.{bitboards_of}
use Rattle.position_profile.proofs.Exactly.{either}
use Rattle.line_ranks.specs.Promises.{empty_board}
use Rattle.line_parse.specs.Line.{Line, line_of}
use Rattle.line_parse.specs.Promises.{by_value}
use Rattle.line.specs.Promises.{bitboards_after}
use Rattle.text_out.specs.Text.{Puts, Adds}
use Rattle.text_out.proofs.Added.{adds_or}
use Rattle.line_held.specs.Held.{said_of}
use Rattle.line_profile.specs.Under.{under, said_under}
use Rattle.line_profile.specs.declared.Profile.{Profile}
use Rattle.line_profile.specs.declared.Profile.TheVariants as P
use Rattle.line_profile.proofs.Judged.{same_under}
use Rattle.ledger_row.specs.Row.{said_row, row_of, is_loaded}
use Rattle.ledger_row.specs.Promises.{PutsRow}
use Rattle.ledger_row.specs.declared.Row.{Row}
use Rattle.ledger_row.proofs.Lengths.{refused_32, row_32}
use Rattle.ledger_row.proofs.Rows.{row_read}
use Rattle.std.specs.Prelude.{Result}
use Rattle.position.specs.declared.State.{State}
use Rattle.std.specs.Option.{unwrap_or}

-- ---- no longer than 32 bytes
held_32 : (number : ℕ) (line : List ℕ) (size : ℕ) → length (row_of number (said_of line size)) ≤ 32
held_32 number line size = go (ltb (length line) size)
  where
    go : (t : Bool) → length (row_of number (cond t (refusal_of R.Long) (line_of (take size line)))) ≤ 32
    go true = refused_32 number (number_of R.Long) (number_small R.Long)
    go false = row_32 number (take size line)

under_32 : (profile : Profile) (number : ℕ) (said : Answer Line) → length (row_of number said) ≤ 32 → length (row_of number (under profile said)) ≤ 32
under_32 P.Any number said h = h
under_32 P.RealPlay number (given l) h =
    either (bitboards_of l.board) l.state (given l) (λ (a : Answer Line). length (row_of number a) ≤ 32)
    (λ (r : Refusal). refused_32 number (number_of r) (number_small r)) h
under_32 P.RealPlay number (refused n v) h = h

pub said_32 : (profile : Profile) (number : ℕ) (line : List ℕ) (size : ℕ) → length (row_of number (said_under profile line size)) ≤ 32
said_32 profile number line size = under_32 profile number (said_of line size) (held_32 number line size)

-- ---- what was read and judged: its row is the line's under the profile
pub row_judged : (profile : Profile) (number : ℕ) (said : Answer Line) (old new : List ℕ) (at : ℕ) (read : Result (State × ℕ) Refusal) (bitboards : List ℕ) (r : Row)
    → answered read ≡ by_value (under profile said) → bitboards ≡ bitboards_after said (bitboards_of empty_board)
    → PutsRow old new at (answered read) (said_row number bitboards (answered read)) r → PutsRow old new at (under profile said) (row_of number (under profile said)) r
row_judged profile number said old new at read bitboards r e f h = go (under profile said) refl
  where
    go : (a : Answer Line) → under profile said ≡ a → PutsRow old new at a (row_of number a) r
    go (given l) q =
        let same : said ≡ given l = sym (same_under profile said (l.state, l.half) (ap by_value q)) ∙ q in
        row_read number (given l) old new at read bitboards r (e ∙ ap by_value q)
        (f ∙ ap (λ (a : Answer Line). bitboards_after a (bitboards_of empty_board)) same) h
    go (refused n v) q =
        let out : answered read ≡ refused n v = e ∙ ap by_value q in
        record {
          puts = subst (λ (u : List ℕ). Puts old new at u r.placed) (ap (said_row number bitboards) out) h.puts;
          loaded = h.loaded
              ∙ ap is_loaded out;
        }

-- ---- as a text that is added
pub closed_adds : (number : ℕ) (old new : List ℕ) (at : ℕ) (said : Answer Line) (r : Row)
    → PutsRow old new at said (row_of number said) r → (next : ℕ) → next ≡ unwrap_or r.placed at
    → Adds old at (row_of number said) new next
closed_adds number old new at said r h next q =
    adds_or old at (row_of number said) new r.placed next h.puts q
