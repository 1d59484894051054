-- Whatever chunks a store is cut into, the calls write the rows of the whole store. Assumes nothing.
use mathlib.Core.Path.{◌≡◌, refl, sym, ap, ap₂, subst, ◌∙◌}
use mathlib.Core.Bool.{Bool, true, false, cond, not}
use mathlib.Core.List.{List, [], ◌∷◌, ◌++◌, append_assoc, append-nil}
use Prim.Native.Nat.{ℕ, ◌+◌, ◌*◌, ◌/◌, ◌^◌, ◌≤◌, ◌<◌}
use native.Mathlib.Nat.{add-zero, zero-add}
use native.Mathlib.Omega.{arith}
use lib.Dec.{leb, ltb}
use lib.ListN.{length, take, length-take, length-append}
use borrow.Author.Tests.{lt-ltb, le-leb, ltb-true, ltb-false, ne_eqb}
use Rattle.refusal.specs.Answer.{Answer, refusal_of, or_refuse}
use Rattle.refusal.specs.declared.Refusal.TheVariants as R
use Rattle.text_out.specs.Text.{written_of}
use Rattle.line_parse.specs.Line.{Line}
use Rattle.line_cut.specs.Lines.{fold_lines}
use Rattle.ledger_row.specs.Row.{row_of, is_loaded}
use Rattle.ledger_totals.specs.Totals.{last_row}
use Rattle.ledger_feed.specs.Machine.{Kept, no_rows, with_totals, row_more, tally}
use Rattle.ledger_feed.specs.Promises.{Came, came, came_as}
use Rattle.ledger_feed.proofs.Counted.{tally_both}
use Rattle.ledger_finish.specs.Promises.{unfinished, length_of, last_text}
use Rattle.ledger_whole.specs.Calls.{Last, last_rows_of}
use Rattle.ledger_whole.proofs.Cut.{shift, taken, last_of_holds}
use Rattle.store_record.specs.Record.{record_says, piece_says}
use Rattle.store_cut.specs.Pieces.{pieces_of}
use Rattle.store_cut.specs.Cut.{OpenPiece, filled, piece_emptied, PiecesSoFar, run_pieces, end_pieces}
use Rattle.store_cut.specs.Promises.{holding_piece}
use Rattle.store_cut.proofs.Machine.{pieces_append, left_piece, told_beside, pieces_told}
use Rattle.store_cut.proofs.Folded.{folded_pieces}
use Rattle.store_rows.specs.Rows.{ledger_by}
use Rattle.store_rows.specs.Promises.{row_piece, store_counts, run_store, ends_store, store_feed_of, so_far_of, store_by_value, piece_after}
use Rattle.store_rows.specs.Promises.{store_text, store_wrote, FeedsStore}
use Rattle.store_rows.specs.declared.StoreSoFar.{StoreSoFar}
use Rattle.store_rows.proofs.Doors.{fit_came}
use Rattle.store_finish.specs.Promises.{store_finished, last_pieces, store_finish_of, FinishesStore}
use Rattle.store_finish.proofs.Doors.{finished_116, by_tests}
use Rattle.store_whole.specs.Calls.{StoreCall, store_next, store_rows_of, StoreCallsMade, all_stored, store_input, RoomyStore, fresh_store}
use Rattle.store_whole.specs.Whole.{WholeStore}
use Rattle.std.specs.Prelude.{Result, Ok, Err}
use Rattle.ledger_feed.specs.declared.Unwritten.TheVariants as U
use Rattle.ledger_feed.specs.declared.Unwritten.{Unwritten}

-- what the machine writes at the end of the input
abbrev finished_of : PiecesSoFar Kept → List ℕ
finished_of r = with_totals (end_pieces row_piece r)

-- ---- rows that were written before stand before all others
row_shifted : (t : List ℕ) (k : Kept) (piece : List ℕ) → row_piece (shift t k) piece ≡ shift t (row_piece k piece)
row_shifted t k piece =
    ap (λ (x : List ℕ). record {
      loaded = tally k.loaded (is_loaded (piece_says piece));
      refused =
          tally k.refused (not (is_loaded (piece_says piece)));
      text = x;
    })
    (append_assoc t k.text (row_of (k.loaded + k.refused + 1) (piece_says piece)))

totals_shifted : (t : List ℕ) (k : Kept) → with_totals (shift t k) ≡ t ++ with_totals k
totals_shifted t k = append_assoc t k.text (last_row (k.loaded + k.refused) k.loaded k.refused)

finished_shifted : (t : List ℕ) (r : PiecesSoFar Kept) → finished_of (told_beside (shift t) r) ≡ t ++ finished_of r
finished_shifted t r = go (ltb 0 r.left.held)
  where
    piece : List ℕ
    piece = take r.left.held r.left.piece

    go : (x : Bool) → with_totals (cond x (row_piece (shift t r.kept) piece) (shift t r.kept)) ≡ t
        ++ with_totals (cond x (row_piece r.kept piece) r.kept)
    go true = ap with_totals (row_shifted t r.kept piece) ∙ totals_shifted t (row_piece r.kept piece)
    go false = totals_shifted t r.kept

-- one chunk after another: the rows of the first, and those that the rest writes from there
then : (state : StoreSoFar) (piece s t : List ℕ)
    → run_store state piece (s ++ t) ≡ told_beside (shift (run_store state piece s).kept.text)
    (run_store (so_far_of (run_store state piece s)) (run_store state piece s).left.piece t)
then state piece s t =
    let m : PiecesSoFar Kept = run_store state piece s in
    pieces_append row_piece (holding_piece piece state.held) (store_counts state) s t
    ∙ ap (λ (x : List ℕ). run_pieces row_piece m.left (record { loaded = m.kept.loaded; refused = m.kept.refused; text = x }) t)
    (sym (append-nil m.kept.text))
    ∙ pieces_told (shift m.kept.text) row_piece row_piece (row_shifted m.kept.text) m.left (store_counts (so_far_of m)) t

-- ---- how many pieces were counted
run_counts : (o : OpenPiece) (k : Kept) (s : List ℕ) → o.held < 34
    → (run_pieces row_piece o k s).kept.loaded + (run_pieces row_piece o k s).kept.refused ≡ k.loaded + k.refused + (o.held + length s) / 34
unfolding run_pieces
run_counts o k [] h = let z : (o.held + 0) / 34 ≡ 0 = omega arith in omega arith
run_counts o k (b ∷ s) h =
    go (ltb o.held 33) refl (λ l. run_counts (filled o b) k s (omega arith))
    (run_counts (piece_emptied (filled o b)) (row_piece k (filled o b).piece) s (omega arith))
  where
    a : Answer Line
    a = piece_says (filled o b).piece

    f : PiecesSoFar Kept
    f = run_pieces row_piece (filled o b) k s

    e : PiecesSoFar Kept
    e = run_pieces row_piece (piece_emptied (filled o b)) (row_piece k (filled o b).piece) s

    go : (x : Bool) → ltb o.held 33 ≡ x
        → (o.held < 33 → f.kept.loaded + f.kept.refused ≡ k.loaded + k.refused + (o.held + 1 + length s) / 34)
        → e.kept.loaded + e.kept.refused ≡ tally k.loaded (is_loaded a) + tally k.refused (not (is_loaded a)) + (0 + length s) / 34
        → (cond x f e).kept.loaded + (cond x f e).kept.refused ≡ k.loaded + k.refused + (o.held + length (b ∷ s)) / 34
    go true q p r = p (ltb-true o.held 33 q) ∙ (let n : o.held + 1 + length s ≡ o.held + length (b ∷ s) = omega arith in
        ap (λ (z : ℕ). k.loaded + k.refused + z / 34) n)
    go false q p r =
        let l = ltb-false o.held 33 q in
        let both = tally_both (is_loaded a) k.loaded k.refused in
        let n : (o.held + length (b ∷ s)) / 34 ≡ (0 + length s) / 34 + 1 = omega arith in
        r ∙ (let z : (c : ℕ) → tally k.loaded (is_loaded a) + tally k.refused (not (is_loaded a)) + c ≡ k.loaded + k.refused + (c + 1) =
        λ c. omega arith in z ((0 + length s) / 34)) ∙ ap (λ (z : ℕ). k.loaded + k.refused + z) (sym n)

-- with an unfinished one
abbrev pieces_in : PiecesSoFar Kept → ℕ
pieces_in r = r.kept.loaded + r.kept.refused + unfinished r.left.held

pieces_end : (r : PiecesSoFar Kept) → pieces_in r ≡ (end_pieces row_piece r).loaded + (end_pieces row_piece r).refused
pieces_end r = go (ltb 0 r.left.held)
  where
    a : Answer Line
    a = piece_says (take r.left.held r.left.piece)

    go : (t : Bool) → r.kept.loaded + r.kept.refused + cond t 1 0 ≡ (cond t (row_more r.kept a) r.kept).loaded
        + (cond t (row_more r.kept a) r.kept).refused
    go true = sym (tally_both (is_loaded a) r.kept.loaded r.kept.refused)
    go false = add-zero (r.kept.loaded + r.kept.refused)

fold_count : (k : Kept) (ps : List (List ℕ)) → (fold_lines row_piece k ps).loaded + (fold_lines row_piece k ps).refused ≡ k.loaded + k.refused + length ps
unfolding fold_lines
fold_count k [] = sym (add-zero (k.loaded + k.refused))
fold_count k (p ∷ ps) =
    fold_count (row_piece k p) ps ∙ (let both = tally_both (is_loaded (piece_says p)) k.loaded k.refused in omega arith)

-- ---- a short piece is refused as LENGTH
pub short_piece : (piece : List ℕ) (held : ℕ) → held < 34 → piece_says (take held piece) ≡ refusal_of R.Length
unfolding piece_says
short_piece piece held h =
    ap (λ (t : Bool). or_refuse t R.Length (record_says (take held piece)))
    (ne_eqb (length (take held piece)) 34 (λ e. let n = length-take held piece in omega arith))

at_end_holds : (state : StoreSoFar) (piece : List ℕ) → state.held < 34 → store_finished state
    ≡ finished_of (record { left = holding_piece piece state.held; kept = store_counts state })
unfolding store_finished
at_end_holds state piece h =
    sym (ap (λ (a : Answer Line). with_totals (cond (ltb 0 state.held) (row_more (store_counts state) a) (store_counts state)))
    (short_piece piece state.held h))

-- ---- a call with room
rows_of_holds : (r : Result (StoreSoFar × ℕ) Unwritten) (state : StoreSoFar) (n : ℕ) → came_as r ≡ came (state, n) → r ≡ Ok (state, n)
rows_of_holds (Ok (s, k)) state n e =
    let both : ◌≡◌ {A = StoreSoFar × ℕ} (s, k) (state, n) = cc in
    ap₂ (λ x n. Ok (x, n)) (ap (λ (p : StoreSoFar × ℕ). p.0) both) (ap (λ (p : StoreSoFar × ℕ). p.1) both)
rows_of_holds (Err U.Full) state n e = absurd (let z : ◌≡◌ {A = ℕ} 0 1 = cc in omega arith)
rows_of_holds (Err U.Many) state n e = absurd (let z : ◌≡◌ {A = ℕ} 0 1 = cc in omega arith)
rows_of_holds (Err (U.Refused q)) state n e = absurd (let z : ◌≡◌ {A = ℕ} 0 1 = cc in omega arith)

-- what a call hands on
record Given (m : PiecesSoFar Kept) (r : Result (StoreSoFar × ℕ) Unwritten) (piece' out' : List ℕ) : Type 0 where
  answer : r ≡ Ok (so_far_of m, (length m.kept.text))
  kept : piece' ≡ m.left.piece
  rows : store_rows_of r out' ≡ m.kept.text

feed_given : (state : StoreSoFar) (piece chunk out : List ℕ) (r : Result (StoreSoFar × ℕ) Unwritten) (piece' out' : List ℕ) → FeedsStore state piece chunk out r piece' out'
    → length piece ≡ 34 → state.held < 34 → state.loaded + state.refused + ends_store state chunk < 2 ^ 64 → 32 * ends_store state chunk ≤ length out
    → Given (run_store state piece chunk) r piece' out'
feed_given state piece chunk out r piece' out' f size short counts room =
    let m : PiecesSoFar Kept = run_store state piece chunk in
    let e : store_feed_of state piece chunk out ≡ came m =
    fit_came piece state.held (state.loaded + state.refused + ends_store state chunk) (leb (32 * ends_store state chunk) (length out)) m size short
    (lt-ltb (state.loaded + state.refused + ends_store state chunk) (2 ^ 64) counts) (le-leb (32 * ends_store state chunk) (length out) room) in
    let a : r ≡ Ok (so_far_of m, (length m.kept.text)) = rows_of_holds r (so_far_of m) (length m.kept.text) (f.answer ∙ ap store_by_value e) in
    let h : length m.kept.text ≤ length out = subst (λ (q : Result (StoreSoFar × ℕ) Unwritten). store_wrote (came_as q) ≤ length out) a f.within in
    record {
      answer = a;
      kept = f.kept ∙ ap (λ (x : Came (PiecesSoFar Kept)). piece_after x piece) e;
      rows =
          ap (λ (q : Result (StoreSoFar × ℕ) Unwritten). store_rows_of q out') a
          ∙ taken out out' m.kept.text (f.rows ∙ ap (λ (x : Came (PiecesSoFar Kept)). written_of out 0 (store_text x)) e) h;
    }

finish_given : (state : StoreSoFar) (out : List ℕ) (r : Result ℕ Unwritten) (out' : List ℕ) → FinishesStore state out r out' → state.held < 34
    → last_pieces state < 2 ^ 64 → 116 ≤ length out
    → last_rows_of r out' ≡ store_finished state
finish_given state out r out' f short counts room =
    let t : List ℕ = store_finished state in
    let h : 0 + length t ≤ 116 = finished_116 state in
    let e : store_finish_of state out ≡ came t =
    by_tests state out true true true (lt-ltb state.held 34 short) (lt-ltb (last_pieces state) (2 ^ 64) counts)
    (le-leb (0 + length t) (length out) (omega arith)) in
    ap (λ (q : Result ℕ Unwritten). last_rows_of q out') (last_of_holds r (length t) (f.answer ∙ ap length_of e))
    ∙ taken out out' t (f.rows ∙ ap (λ (x : Came (List ℕ)). written_of out 0 (last_text x)) e) (omega arith)

-- ---- all calls
-- the counts of the whole bound those of its first chunk
less : (a b c d n : ℕ) → a ≡ b + d → c ≤ d → a + n < 2 ^ 64 → b + c < 2 ^ 64
less a b c d n e l h = omega arith

more : (held n m : ℕ) → (held + n) / 34 ≤ (held + (n + m)) / 34
more held n m = omega arith

enough : (held n room : ℕ) → held < 34 → 32 * (1 + n / 34) ≤ room → 32 * ((held + n) / 34) ≤ room
enough held n room h r = omega arith

all : (state : StoreSoFar) (piece : List ℕ) (calls : List StoreCall) (last : Last) → length piece ≡ 34 → state.held < 34 → RoomyStore calls last
    → pieces_in (run_store state piece (store_input calls)) < 2 ^ 64 → StoreCallsMade state piece calls last
    → all_stored calls last ≡ finished_of (run_store state piece (store_input calls))
unfolding run_pieces store_input RoomyStore StoreCallsMade all_stored
all state piece [] last size short room counts made =
    finish_given state last.out last.finished last.out' made short counts room ∙ at_end_holds state piece short
all state piece (c ∷ cs) last size short room counts made =
    let m : PiecesSoFar Kept = run_store state piece c.chunk in
    let s : List ℕ = store_input cs in
    let o : OpenPiece = holding_piece piece state.held in
    let cut = then state piece c.chunk s in
    let l = left_piece row_piece o (store_counts state) c.chunk short in
    let total = run_counts o (store_counts state) (c.chunk ++ s) short
    ∙ ap (λ (n : ℕ). state.loaded + state.refused + (state.held + n) / 34) (length-append c.chunk s) in
    let g = feed_given state piece c.chunk c.out c.fed c.piece' c.out' made.0 size short
    (less _ (state.loaded + state.refused) (ends_store state c.chunk) ((state.held + (length c.chunk + length s)) / 34) _ total
    (more state.held (length c.chunk) (length s)) counts)
    (enough state.held (length c.chunk) (length c.out) short room.0) in
    let rest : StoreCallsMade (so_far_of m) m.left.piece cs last =
    subst (λ (p : List ℕ). StoreCallsMade (so_far_of m) p cs last) g.kept
    (subst (λ (r : Result (StoreSoFar × ℕ) Unwritten). StoreCallsMade (store_next r state) c.piece' cs last) g.answer made.1) in
    ap₂ ◌++◌ g.rows
    (all (so_far_of m) m.left.piece cs last (l.size ∙ size) l.short room.1 (subst (λ (n : ℕ). n < 2 ^ 64) (ap pieces_in cut) counts) rest)
    ∙ sym (finished_shifted m.kept.text (run_store (so_far_of m) m.left.piece s)) ∙ sym (ap finished_of cut)

-- the claim, for every piece buffer and all calls
pub store : (piece : List ℕ) (calls : List StoreCall) (last : Last) → WholeStore piece calls last
unfolding ledger_by
store piece calls last = record {
  rows = λ size room few made.
      let r : PiecesSoFar Kept = run_store fresh_store piece (store_input calls) in
      let e : end_pieces row_piece r ≡ fold_lines row_piece no_rows (pieces_of (store_input calls)) = folded_pieces row_piece piece no_rows (store_input calls) size in
      let n : pieces_in r ≡ length (pieces_of (store_input calls)) =
      pieces_end r ∙ ap (λ (k : Kept). k.loaded + k.refused) e ∙ fold_count no_rows (pieces_of (store_input calls))
      ∙ zero-add (length (pieces_of (store_input calls))) in
      all fresh_store piece calls last size (omega arith) room (subst (λ (x : ℕ). x < 2 ^ 64) (sym n) few) made ∙ ap with_totals e;
}
