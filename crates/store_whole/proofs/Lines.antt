-- A store made of loaded lines gives the ledger of the lines: its pieces are their records, and each says what its line says. Assumes nothing.
use mathlib.Core.Path.{◌≡◌, refl, sym, ap, ap₂, ◌∙◌}
use mathlib.Core.List.{List, [], ◌∷◌, map}
use Prim.Native.Nat.{ℕ}
use native.Mathlib.Omega.{arith}
use lib.ListN.{replicate}
use Rattle.refusal.specs.Answer.{Answer, given, refused}
use Rattle.position_boards.specs.Boards.{bitboards_of}
use Rattle.position_consistent.proofs.Parts.{consistent_coded}
use Rattle.line_parse.specs.Line.{Line, line_of}
use Rattle.line_parse.proofs.Given.{given_spells}
use Rattle.line.proofs.Loaded.{loaded_64, loaded_consistent}
use Rattle.line_cut.specs.Lines.{lines_of, fold_lines}
use Rattle.line_cut.specs.Cut.{run_by}
use Rattle.line_cut.specs.Promises.{fresh_line}
use Rattle.line_cut.proofs.Folded.{folded}
use Rattle.line_held.proofs.Said.{follows}
use Rattle.line_profile.specs.declared.Profile.TheVariants as P
use Rattle.ledger_feed.specs.Machine.{Kept, no_rows, with_totals, row_more, close_row}
use Rattle.ledger_whole.specs.Ledger.{ledger_of}
use Rattle.ledger_whole.proofs.Machines.{finished_end, machine_ledger}
use Rattle.score.specs.Score.{score_of}
use Rattle.store_record.specs.Record.{record_of, in_record, piece_says}
use Rattle.store_record.proofs.Records.{record_34}
use Rattle.store_same.proofs.Trips.{says_it}
use Rattle.store_cut.specs.Pieces.{records_from, pieces_of}
use Rattle.store_cut.proofs.Folded.{filled_up}
use Rattle.store_rows.specs.Rows.{ledger_by}
use Rattle.store_whole.specs.Whole.{store_from, SameRows}

-- ---- the ledger of a collection is by what its lines say
ledger_by_holds : (s : List ℕ) → ledger_of P.Any s ≡ ledger_by line_of (lines_of s)
unfolding ledger_by
ledger_by_holds s =
    sym (machine_ledger P.Any (replicate 256 0) s refl) ∙ finished_end P.Any (run_by (close_row P.Any) (fresh_line (replicate 256 0)) no_rows s)
    ∙ ap with_totals (folded (close_row P.Any) (λ (k : Kept) (l : List ℕ). row_more k (line_of l)) (follows row_more) (replicate 256 0) no_rows s refl)

-- ---- and so is every other, by what its pieces say: the same answers give the same rows
by_said : (f g : List ℕ → Answer Line) (ps qs : List (List ℕ)) → map f ps ≡ map g qs → (k : Kept)
    → fold_lines (λ (x : Kept) (p : List ℕ). row_more x (f p)) k ps ≡ fold_lines (λ (x : Kept) (p : List ℕ). row_more x (g p)) k qs
unfolding fold_lines
by_said f g [] [] e k = refl
by_said f g [] (q ∷ qs) e k = absurd (let z : ◌≡◌ {A = ℕ} 0 1 = cc in omega arith)
by_said f g (p ∷ ps) [] e k = absurd (let z : ◌≡◌ {A = ℕ} 0 1 = cc in omega arith)
by_said f g (p ∷ ps) (q ∷ qs) e k =
    let h : f p ≡ g q = cc in
    let t : map f ps ≡ map g qs = cc in
    ap (λ (a : Answer Line). fold_lines (λ (x : Kept) (r : List ℕ). row_more x (f r)) (row_more k a) ps) h ∙ by_said f g ps qs t (row_more k (g q))

-- ---- the pieces of a store
pieces_store : (ls : List Line) → pieces_of (store_from ls) ≡ map record_of ls
unfolding records_from store_from
pieces_store [] = refl
pieces_store (l ∷ ls) =
    let n = record_34 l in
    filled_up [] (record_of l) (store_from ls) (omega arith) (omega arith) ∙ ap (λ (x : List (List ℕ)). record_of l ∷ x) (pieces_store ls)

-- ---- what a record holds of a line, which has the line's row: a score uses the side alone
only_record : Answer Line → Answer Line
only_record (given l) = given (in_record l)
only_record (refused n v) = refused n v

row_kept : (k : Kept) (a : Answer Line) → row_more k (only_record a) ≡ row_more k a
unfolding only_record score_of
row_kept k (given l) = refl
row_kept k (refused n v) = refl

rows_kept : (ps : List (List ℕ)) (k : Kept)
    → fold_lines (λ (x : Kept) (p : List ℕ). row_more x (only_record (line_of p))) k ps ≡ fold_lines (λ (x : Kept) (p : List ℕ). row_more x (line_of p)) k ps
unfolding fold_lines
rows_kept [] k = refl
rows_kept (p ∷ ps) k =
    ap (λ (y : Kept). fold_lines (λ (x : Kept) (r : List ℕ). row_more x (only_record (line_of r))) y ps) (row_kept k (line_of p))
    ∙ rows_kept ps (row_more k (line_of p))

-- ---- each says that of its line
record_says_holds : (line : List ℕ) (l : Line) → line_of line ≡ given l → piece_says (record_of l) ≡ only_record (given l)
unfolding only_record
record_says_holds line l e =
    let s = given_spells line l e in
    says_it l (loaded_64 line l e) (consistent_coded (bitboards_of l.board) l.board (loaded_consistent line l e)) s.side (omega (arith, s.half))

all_say : (lines : List (List ℕ)) (ls : List Line) → map line_of lines ≡ map (λ (l : Line). given l) ls
    → map piece_says (map record_of ls) ≡ map (λ x. only_record (line_of x)) lines
all_say [] [] e = refl
all_say [] (l ∷ ls) e = absurd (let z : ◌≡◌ {A = ℕ} 0 1 = cc in omega arith)
all_say (x ∷ lines) [] e = absurd (let z : ◌≡◌ {A = ℕ} 0 1 = cc in omega arith)
all_say (x ∷ lines) (l ∷ ls) e =
    let h : line_of x ≡ given l = cc in
    let t : map line_of lines ≡ map (λ (l : Line). given l) ls = cc in
    ap₂ ◌∷◌ (record_says_holds x l h ∙ ap only_record (sym h)) (all_say lines ls t)

pub same_rows : (input : List ℕ) (ls : List Line) → SameRows input ls
unfolding ledger_by
same_rows input ls = record {
  rows = λ e.
      ap (ledger_by piece_says) (pieces_store ls) ∙ ap with_totals
      (by_said piece_says (λ x. only_record (line_of x)) (map record_of ls) (lines_of input) (all_say (lines_of input) ls e) no_rows
      ∙ rows_kept (lines_of input) no_rows)
      ∙ sym (ledger_by_holds input);
}
