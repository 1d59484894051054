-- One turn of the loop over a chunk's pieces: that of every consumer of pieces (store_cut's `Turn`), with room for the rows. Assumes nothing.
use mathlib.Core.Path.{◌≡◌, refl, sym, ap, ap₂, subst, ◌∙◌}
use mathlib.Core.Bool.{Bool, true, false, cond, not}
use mathlib.Core.List.{List, ◌++◌}
use Prim.Native.Nat.{ℕ, ◌+◌, ◌*◌, ◌-◌, ◌/◌, ◌^◌, ◌≤◌, ◌<◌}
use native.Mathlib.Omega.{arith}
use lib.ListN.{length, take, drop, take-append-drop}
use lib.Seq.{drop-drop, length-take-le}
use Rattle.text_out.proofs.Added.{adds_to, adds_length, adds_front, adds_back}
use Rattle.text_out.specs.Text.{written_of, Adds}
use Rattle.text_out.proofs.Wrote.{written_is}
use Rattle.ledger_row.specs.Row.{row_of, is_loaded}
use Rattle.ledger_feed.specs.Machine.{Kept, tally}
use Rattle.ledger_feed.proofs.Counted.{tally_both}
use Rattle.ledger_feed.proofs.Turn.{rows, rows_same}
use Rattle.store_record.specs.Record.{piece_says}
use Rattle.store_cut.specs.Cut.{PiecesSoFar}
use Rattle.store_cut.specs.Promises.{holding_piece, CutsPiece}
use Rattle.store_cut.specs.declared.CutPiece.{CutPiece}
use Rattle.store_cut.proofs.Loop as Pieces
use Rattle.store_rows.specs.Promises.{row_piece, run_store, so_far_of, store_counts, MakesStore, ReadyStore, TakesStore}
use Rattle.store_rows.specs.declared.StoreSoFar.{StoreSoFar}
use Rattle.store_rows.proofs.Lengths.{piece_32}
use Rattle.std.specs.Prelude.{Ok}

abbrev pub store_in : ℕ → ℕ → ℕ → StoreSoFar
store_in held loaded refused = record { held = held; loaded = loaded; refused = refused }

pub record Turn (whole : PiecesSoFar Kept) (chunk out₀ piece out : List ℕ) (held loaded refused w i : ℕ) : Type 0 where
  pub pieces : Pieces.PiecesTurn row_piece whole 34 chunk piece held (rows loaded refused (take w out)) i
  pub kept : length out ≡ length out₀
  pub room : w + 32 * ((held + (length chunk - i)) / 34) ≤ length out₀
  pub counts : loaded + refused + (held + (length chunk - i)) / 34 < 2 ^ 64
  pub rest : drop w out ≡ drop w out₀

module _ (whole : PiecesSoFar Kept) (chunk out₀ piece out : List ℕ) (held loaded refused w i : ℕ) (h : i < length chunk)
    (t : Turn whole chunk out₀ piece out held loaded refused w i) (r : CutPiece) (piece' : List ℕ) (p : CutsPiece held piece chunk i r piece') where
  -- it goes on by a byte at least
  pub turn_less : i < r.at
  turn_less = Pieces.turn_less row_piece whole 34 chunk piece held (rows loaded refused (take w out)) i t.pieces h r piece' p

  -- how many end from here on
  pub turn_one : r.ended ≡ true → (held + (length chunk - i)) / 34 ≡ (r.held + (length chunk - r.at)) / 34 + 1
  turn_one e = Pieces.next_piece held piece chunk i t.pieces.short r piece' p t.pieces.most e

  -- the chunk ended before the piece did
  pub turn_on : r.ended ≡ false → Turn whole chunk out₀ piece' out r.held loaded refused w r.at
  turn_on e =
      let b = Pieces.next_none held piece chunk i t.pieces.short r piece' p t.pieces.most e in
      let s : Kept = rows loaded refused (take w out) in
      record {
        pieces = Pieces.turn_next row_piece whole 34 chunk piece held s i t.pieces r piece' p s (sym (ap (λ (x : Bool). cond x (row_piece s piece') s) e));
        kept = t.kept;
        room = omega (arith, t.room);
        counts = omega (arith, t.counts);
        rest = t.rest;
      }

  -- the piece ended
  pub turn_close : r.ended ≡ true → (out' : List ℕ) (w' : ℕ) → Adds out w (row_of (loaded + refused + 1) (piece_says piece')) out' w'
      → (is : Bool) → is ≡ is_loaded (piece_says piece') → (loaded' refused' : ℕ) → loaded' ≡ tally loaded is → refused' ≡ tally refused (not is)
      → Turn whole chunk out₀ piece' out' r.held loaded' refused' w' r.at
  turn_close e out' w' a is il loaded' refused' l q =
      let b = turn_one e in
      let row : List ℕ = row_of (loaded + refused + 1) (piece_says piece') in
      let short : length row ≤ 32 = piece_32 (loaded + refused + 1) piece' in
      let fits : w + length row ≤ length out = omega (arith, t.room, t.kept) in
      let to : w' ≡ w + length row = adds_to a fits in
      let both = tally_both is loaded refused in
      let s : Kept = rows loaded refused (take w out) in
      let s' : Kept = rows loaded' refused' (take w' out') in
      let now : s' ≡ row_piece s piece' = rows_same (l ∙ ap (tally loaded) il) (q ∙ ap (λ (x : Bool). tally refused (not x)) il) (adds_front a fits) in
      record {
        pieces = Pieces.turn_next row_piece whole 34 chunk piece held s i t.pieces r piece' p s'
            (now ∙ sym (ap (λ (x : Bool). cond x (row_piece s piece') s) e));
        kept = adds_length a fits ∙ t.kept;
        room = omega (arith, t.room);
        counts = omega (arith, t.counts);
        rest = adds_back a fits ∙ later (length row) to;
      }
    where
      later : (k : ℕ) → w' ≡ w + k → drop w' out ≡ drop w' out₀
      later k e = rw e (sym (drop-drop k w out) ∙ ap (drop k) t.rest ∙ drop-drop k w out₀)

-- before the first byte
pub turn_none : (state : StoreSoFar) (piece chunk out : List ℕ) → ReadyStore state piece chunk out
    → Turn (run_store state piece chunk) chunk out piece out state.held state.loaded state.refused 0 0
turn_none state piece chunk out r = record {
  pieces = subst (λ (n : ℕ). Pieces.PiecesTurn row_piece (run_store state piece chunk) n chunk piece state.held (store_counts state) 0) r.size
      (Pieces.pieces_begin row_piece chunk piece state.held (store_counts state) r.short);
  kept = refl;
  room = omega (arith, r.room);
  counts = omega (arith, r.counts);
  rest = refl;
}

-- after the last
pub turn_end : (state : StoreSoFar) (piece₀ chunk out₀ piece out : List ℕ) (held loaded refused w i : ℕ) → length chunk ≤ i
    → Turn (run_store state piece₀ chunk) chunk out₀ piece out held loaded refused w i
    → (next : StoreSoFar) → MakesStore held loaded refused next → TakesStore state piece₀ chunk out₀ (Ok (next, w)) piece out
turn_end state piece₀ chunk out₀ piece out held loaded refused w i h t next made =
    let m : run_store state piece₀ chunk ≡ record { left = holding_piece piece held; kept = rows loaded refused (take w out) } =
    Pieces.turn_end row_piece (run_store state piece₀ chunk) 34 chunk piece held (rows loaded refused (take w out)) i t.pieces h in
    let within : w ≤ length out₀ = omega (arith, t.room) in
    let size : length (take w out) ≡ w = length-take-le w out (omega (arith, t.kept)) in
    let fits : 0 + length (take w out) ≤ length out₀ = omega arith in
    record {
      answer = ap₂ (λ x n. Ok (x, n)) (made ∙ sym (ap so_far_of m)) (sym (ap (λ (x : PiecesSoFar Kept). length x.kept.text) m ∙ size));
      kept = sym (ap (λ (x : PiecesSoFar Kept). x.left.piece) m);
      rows =
          sym (take-append-drop w out) ∙ ap (λ (l : List ℕ). take w out ++ l)
          (t.rest ∙ ap (λ (k : ℕ). drop k out₀) (let z : w ≡ 0 + length (take w out) = omega arith in z))
          ∙ sym (written_is out₀ 0 (take w out) fits) ∙ sym (ap (λ (x : PiecesSoFar Kept). written_of out₀ 0 x.kept.text) m);
      within = subst (λ (x : PiecesSoFar Kept). length x.kept.text ≤ length out₀) (sym m) (omega arith);
    }
