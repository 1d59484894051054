-- The rows of stores, joined, are the rows of their bytes one after another: by what is said of each piece. Assumes nothing.
use mathlib.Core.Path.{◌≡◌, refl, sym, ap, ◌∙◌}
use mathlib.Core.Bool.{Bool, true, false, not, ◌&&◌, false≢true}
use mathlib.Core.List.{List, [], ◌∷◌, ◌++◌, append_assoc, append-nil, map, map-append}
use Prim.Native.Nat.{ℕ, ◌+◌, ◌/◌, ◌%◌, ◌<◌, ◌≤◌}
use native.Mathlib.Omega.{arith}
use lib.Dec.{eqb, ltb}
use lib.ListN.{length}
use borrow.Author.Tests.{eqb-true}
use Rattle.laws.specs.Tests.{all_below}
use Rattle.refusal.specs.Answer.{Answer, given, refused, or_refuse}
use Rattle.refusal.specs.declared.Refusal.{Refusal}
use Rattle.refusal.specs.declared.Refusal.TheVariants as R
use Rattle.refusal.specs.Refusals.{number_of}
use Rattle.refusal.proofs.Answers.{given_not}
use Rattle.line_parse.specs.Line.{Line}
use Rattle.line_cut.specs.Lines.{fold_lines}
use Rattle.ledger_row.specs.Row.{row_of, is_loaded}
use Rattle.ledger_feed.specs.Machine.{Kept, no_rows, with_totals, row_more, tally}
use Rattle.ledger_whole.specs.Whole.{joined}
use Rattle.ledger_joined.proofs.Parts.{ForRow}
use Rattle.ledger_joined.proofs.Said.{said_from, all_for_rows, join_said}
use Rattle.position_odds.specs.Named.{lowest_wrong}
use Rattle.store_record.specs.Record.{board_in, side_in, half_in, is_code, position_in, record_says, piece_says}
use Rattle.store_same.proofs.Trips.{halves_back}
use Rattle.store_cut.specs.Pieces.{records_from, pieces_of}
use Rattle.store_rows.specs.Rows.{ledger_by, store_ledger_of}
use Rattle.store_joined.specs.Parts.{at_record_ends}
use Rattle.store_joined.proofs.Pieces.{pieces_both}
use Rattle.store_parts.specs.Parts.{RowsOfParts}

-- ---- what a piece says is shown in a row: it is refused as 18, 19, 12 or 13
abbrev Numbered : Answer Line → Type 0
Numbered a = (n : ℕ) (v : List ℕ) → a ≡ refused n v → (1 ≤ n) × (n < 100)

numbered : (t : Bool) (r : Refusal) → 1 ≤ number_of r → number_of r < 100 → (a : Answer Line) → Numbered a → Numbered (or_refuse t r a)
numbered true r l u a h n v e = h n v e
numbered false r l u a h n v e = let k : number_of r ≡ n = cc in (omega arith, omega arith)

piece_numbered : (piece : List ℕ) → Numbered (piece_says piece)
unfolding piece_says record_says
piece_numbered piece =
    numbered (eqb (length piece) 34) R.Length (omega arith) (omega arith) (record_says piece)
    (numbered (all_below 64 (is_code (board_in piece))) (R.Code (lowest_wrong (is_code (board_in piece)))) (omega arith) (omega arith) _
    (numbered (ltb (side_in piece) 2) R.Side (omega arith) (omega arith) _
    (numbered (ltb (half_in piece) 3) R.Result (omega arith) (omega arith) (given (position_in piece)) (λ n v e. given_not e))))

piece_for_row : (piece : List ℕ) → ForRow (piece_says piece)
piece_for_row piece = record {
  half = λ l e. let s = halves_back piece l e in omega (arith, s.half, s.half_3);
  from_1 = λ n v e. (piece_numbered piece n v e).0;
  two_digits = λ n v e. (piece_numbered piece n v e).1;
}

-- ---- the rows of a store are by what is said of its pieces
rows_said_holds : (k : Kept) (ps : List (List ℕ))
    → with_totals (fold_lines (λ (x : Kept) (p : List ℕ). row_more x (piece_says p)) k ps) ≡ k.text ++ said_from k.loaded k.refused (map piece_says ps)
unfolding fold_lines said_from
rows_said_holds k [] = refl
rows_said_holds k (p ∷ ps) =
    let a : Answer Line = piece_says p in
    rows_said_holds (row_more k a) ps
    ∙ append_assoc k.text (row_of (k.loaded + k.refused + 1) a) (said_from (tally k.loaded (is_loaded a)) (tally k.refused (not (is_loaded a)))
    (map piece_says ps))

store_said : (t : List ℕ) → store_ledger_of t ≡ said_from 0 0 (map piece_says (pieces_of t))
unfolding ledger_by
store_said t = rows_said_holds no_rows (pieces_of t)

-- ---- the pieces of the parts
pieces_joined : (p : List ℕ) (ps : List (List ℕ)) → at_record_ends (p ∷ ps) ≡ true
    → (pieces_of (joined (p ∷ ps)) ≡ pieces_of p ++ pieces_of (joined ps)) × (at_record_ends ps ≡ true)
unfolding at_record_ends joined records_from
pieces_joined p [] e = (ap pieces_of (append-nil p) ∙ sym (append-nil (pieces_of p)), refl)
pieces_joined p (q ∷ qs) e = go (eqb (length p % 34) 0) refl e
  where
    go : (t : Bool) → eqb (length p % 34) 0 ≡ t → (t && at_record_ends (q ∷ qs)) ≡ true
        → (pieces_of (p ++ joined (q ∷ qs)) ≡ pieces_of p ++ pieces_of (joined (q ∷ qs))) × (at_record_ends (q ∷ qs) ≡ true)
    go true h y = let z : length p % 34 ≡ 0 = eqb-true (length p % 34) 0 h in ((pieces_both (length p / 34) p (joined (q ∷ qs)) (omega arith)).0, y)
    go false h y = absurd (false≢true y)

said_joined : (p : List ℕ) (ps : List (List ℕ)) → at_record_ends (p ∷ ps) ≡ true
    → (map piece_says (pieces_of (joined (p ∷ ps))) ≡ map piece_says (pieces_of p) ++ map piece_says (pieces_of (joined ps))) × (at_record_ends ps ≡ true)
said_joined p ps e = let c = pieces_joined p ps e in (ap (map piece_says) c.0 ∙ map-append piece_says (pieces_of p) (pieces_of (joined ps)), c.1)

said_none : map piece_says (pieces_of []) ≡ []
unfolding records_from
said_none = refl

pub rows_of_parts : (parts : List (List ℕ)) → RowsOfParts parts
rows_of_parts parts = record {
  whole = λ e.
      join_said (λ (t : List ℕ). map piece_says (pieces_of t)) (λ (t : List ℕ). all_for_rows piece_says piece_for_row (pieces_of t)) said_none at_record_ends
      said_joined
      store_ledger_of store_said parts e;
}
