-- The machine over a whole input writes the ledger of its lines, and counts them: the ledger is one consumer of lines (line_cut/proofs/Folded).
-- Assumes nothing.
use mathlib.Core.Path.{◌≡◌, refl, sym, ap, ◌∙◌}
use mathlib.Core.Bool.{Bool, true, false, cond, not}
use mathlib.Core.List.{List, [], ◌∷◌, ◌++◌, append_assoc}
use Prim.Native.Nat.{ℕ, suc, ◌+◌}
use native.Mathlib.Nat.{add-zero, zero-add}
use native.Mathlib.Omega.{arith}
use lib.Dec.{ltb}
use lib.ListN.{length}
use Rattle.refusal.specs.Answer.{Answer}
use Rattle.line_parse.specs.Line.{Line}
use Rattle.ledger_row.specs.Row.{row_of, is_loaded}
use Rattle.ledger_totals.specs.Totals.{last_row}
use Rattle.line_cut.specs.Lines.{lines_of, fold_lines}
use Rattle.line_cut.specs.Cut.{CutSoFar, run_by, end_by}
use Rattle.line_cut.specs.Promises.{fresh_line}
use Rattle.line_cut.proofs.Folded.{folded}
use Rattle.line_held.proofs.Said.{follows}
use Rattle.line_profile.specs.Under.{under, line_under, said_under}
use Rattle.line_profile.specs.declared.Profile.{Profile}
use Rattle.ledger_feed.specs.Machine.{Machine, Kept, no_rows, with_totals, machine_of, row_more, close_row, run, close, tally}
use Rattle.ledger_whole.specs.Ledger.{rows_from, loaded_in, refused_in, ledger_of}
use Rattle.ledger_finish.specs.Last.{totals, finished}
use Rattle.ledger_finish.specs.Promises.{unfinished}
use Rattle.ledger_feed.proofs.Counted.{tally_both, loaded_more, refused_more_holds}

-- the rows and the totals that lines make, after so many loaded and refused
abbrev rest : Profile → List ℕ → ℕ → ℕ → List (List ℕ) → List ℕ
rest profile text loaded refused ls =
    text ++ (rows_from profile (loaded + refused + 1) ls ++ last_row (loaded + refused + length ls) (loaded + loaded_in profile ls)
    (refused + refused_in profile ls))

-- a line more, of which it is known what it says
rest_cons : (profile : Profile) (text : List ℕ) (loaded refused : ℕ) (a : Answer Line) (l : List ℕ) (ls : List (List ℕ)) → a ≡ line_under profile l
    → rest profile (text ++ row_of (loaded + refused + 1) a) (tally loaded (is_loaded a)) (tally refused (not (is_loaded a))) ls
    ≡ rest profile text loaded refused (l ∷ ls)
unfolding rows_from loaded_in refused_in
rest_cons profile text loaded refused a l ls e =
    let t : Bool = is_loaded (line_under profile l) in
    let both : tally loaded t + tally refused (not t) ≡ loaded + refused + 1 = tally_both t loaded refused in
    let many : loaded + refused + 1 + length ls ≡ loaded + refused + suc (length ls) = omega arith in
    let row : List ℕ = row_of (loaded + refused + 1) (line_under profile l) in
    let rows : List ℕ = rows_from profile (loaded + refused + 1 + 1) ls in
    let last : List ℕ = last_row (loaded + refused + suc (length ls)) (loaded + (cond t 1 0 + loaded_in profile ls))
    (refused + (cond t 0 1 + refused_in profile ls)) in
    rw (e, both, many, loaded_more t loaded (loaded_in profile ls), refused_more_holds t refused (refused_in profile ls))
    (append_assoc text row (rows ++ last) ∙ ap (λ (x : List ℕ). text ++ x) (sym (append_assoc row rows last)))

rest_nil : (profile : Profile) (text : List ℕ) (loaded refused : ℕ) → text ++ last_row (loaded + refused) loaded refused ≡ rest profile text loaded refused []
unfolding rows_from loaded_in refused_in
rest_nil profile text loaded refused = rw (add-zero (loaded + refused), add-zero loaded, add-zero refused)

-- ---- what a line does to what is kept, by the line itself
abbrev row_line : Profile → Kept → List ℕ → Kept
row_line profile r l = row_more r (line_under profile l)

fold_rest : (profile : Profile) (r : Kept) (ls : List (List ℕ)) → with_totals (fold_lines (row_line profile) r ls)
    ≡ rest profile r.text r.loaded r.refused ls
unfolding fold_lines
fold_rest profile r [] = rest_nil profile r.text r.loaded r.refused
fold_rest profile r (l ∷ ls) = fold_rest profile (row_line profile r l) ls ∙ rest_cons profile r.text r.loaded r.refused (line_under profile l) l ls refl

-- an unfinished line gets its row at the end
pub finished_end : (profile : Profile) (r : CutSoFar Kept) → finished profile (machine_of r) ≡ with_totals (end_by (close_row profile) r)
unfolding finished
finished_end profile r = go (ltb 0 r.left.held)
  where
    m : Machine
    m = machine_of r

    go : (t : Bool) → (cond t (close profile m m.held) m).text ++ totals (cond t (close profile m m.held) m)
        ≡ with_totals (cond t (close_row profile r.kept r.left.line r.left.held) r.kept)
    go true = refl
    go false = refl

-- THE MACHINE: from nothing, whatever the buffer held
abbrev pub begun : List ℕ → Machine
begun line = record { line = line; held = 0; cr = false; loaded = 0; refused = 0; text = [] }

pub machine_ledger : (profile : Profile) (line s : List ℕ) → length line ≡ 256 → finished profile (run profile (begun line) s) ≡ ledger_of profile s
unfolding ledger_of
machine_ledger profile line s h =
    finished_end profile (run_by (close_row profile) (fresh_line line) no_rows s)
    ∙ ap with_totals (folded (close_row profile) (row_line profile) (follows (λ (s : Kept) (said : Answer Line). row_more s (under profile said))) line
    no_rows s h) ∙ fold_rest profile no_rows (lines_of s)
    ∙ rw (zero-add (length (lines_of s)), zero-add (loaded_in profile (lines_of s)), zero-add (refused_in profile (lines_of s)))

-- ---- how many lines there are
abbrev pub lines_in : Machine → ℕ
lines_in m = m.loaded + m.refused + unfinished m.held

abbrev pub all_counted : Kept → ℕ
all_counted r = r.loaded + r.refused

lines_end : (profile : Profile) (r : CutSoFar Kept) → lines_in (machine_of r) ≡ all_counted (end_by (close_row profile) r)
lines_end profile r = go (ltb 0 r.left.held)
  where
    a : Answer Line
    a = said_under profile r.left.line r.left.held

    go : (t : Bool) → r.kept.loaded + r.kept.refused + cond t 1 0 ≡ all_counted (cond t (row_more r.kept a) r.kept)
    go true = sym (tally_both (is_loaded a) r.kept.loaded r.kept.refused)
    go false = add-zero (r.kept.loaded + r.kept.refused)

fold_count : (profile : Profile) (r : Kept) (ls : List (List ℕ)) → all_counted (fold_lines (row_line profile) r ls) ≡ all_counted r + length ls
unfolding fold_lines
fold_count profile r [] = sym (add-zero (all_counted r))
fold_count profile r (l ∷ ls) =
    fold_count profile (row_line profile r l) ls ∙ (let both = tally_both (is_loaded (line_under profile l)) r.loaded r.refused in omega arith)

pub machine_lines : (profile : Profile) (line s : List ℕ) → length line ≡ 256 → lines_in (run profile (begun line) s) ≡ length (lines_of s)
machine_lines profile line s h =
    lines_end profile (run_by (close_row profile) (fresh_line line) no_rows s)
    ∙ ap all_counted (folded (close_row profile) (row_line profile) (follows (λ (s : Kept) (said : Answer Line). row_more s (under profile said))) line
    no_rows s h) ∙ fold_count profile no_rows (lines_of s)
    ∙ zero-add (length (lines_of s))
