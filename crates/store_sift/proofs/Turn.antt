-- One turn of the loop over a chunk's pieces: that of every consumer of pieces (store_cut's `PiecesTurn`), with room in two buffers. Assumes nothing.
use mathlib.Core.Path.{◌≡◌, sym, ap, ap₂, subst, ◌∙◌}
use mathlib.Core.Bool.{Bool, true, false, cond}
use mathlib.Core.List.{List}
use Prim.Native.Nat.{ℕ, ◌+◌, ◌-◌, ◌/◌, ◌^◌, ◌≤◌, ◌<◌}
use native.Mathlib.Omega.{arith}
use lib.ListN.{length, take}
use Rattle.refusal.specs.Answer.{Answer}
use Rattle.text_out.specs.Text.{written_of}
use Rattle.line_parse.specs.Line.{Line}
use Rattle.ledger_row.specs.Row.{is_loaded}
use Rattle.store_record.specs.Record.{piece_says}
use Rattle.store_cut.specs.Cut.{PiecesSoFar}
use Rattle.store_cut.specs.Promises.{holding_piece, CutsPiece}
use Rattle.store_cut.specs.declared.CutPiece.{CutPiece}
use Rattle.store_cut.proofs.Loop as Pieces
use Rattle.store_rows.specs.Promises.{ends_store}
use Rattle.store_rows.specs.declared.StoreSoFar.{StoreSoFar}
use Rattle.store_rows.proofs.Lengths.{piece_32}
use Rattle.sift_form.specs.Forms.{room_of, made_of}
use Rattle.sift_form.specs.declared.Form.{Form}
use Rattle.sift_close.specs.Ended.{made_by_rule, refused_row_of, ClosesSaid}
use Rattle.sift_close.specs.declared.Closed.{Closed}
use Rattle.sift_close.proofs.Said.{made_most, row_most}
use Rattle.sift_feed.specs.Sifting.{Sifting}
use Rattle.sift_feed.proofs.Turn.{Filling, fill_none, fill_same, fill_front, fill_more, fill_within, fill_size, fill_written, tally_loaded}
use Rattle.sift_feed.proofs.Turn.{tally_refused, tally_either, sifting, sifting_same}
use Rattle.store_sift.specs.Promises.{sift_piece, sifting_of, sift_store, store_so_far_in, ReadyToSiftStore, TakesSiftedStore}
use Rattle.std.specs.Prelude.{Ok}

-- how many pieces end from here on
abbrev pub more : List ℕ → ℕ → ℕ → ℕ
more chunk held i = (held + (length chunk - i)) / 34

pub record Turn (form : Form) (whole : PiecesSoFar Sifting) (chunk made₀ rows₀ piece made rows : List ℕ) (held loaded refused w v i : ℕ) : Type 0 where
  pub pieces : Pieces.PiecesTurn (sift_piece (made_of form)) whole 34 chunk piece held (sifting loaded refused (take w made) (take v rows)) i
  pub making : Filling (room_of form) (more chunk held i) made₀ made w
  pub rowing : Filling 32 (more chunk held i) rows₀ rows v
  pub counts : loaded + refused + more chunk held i < 2 ^ 64

module _ (form : Form) (whole : PiecesSoFar Sifting) (chunk made₀ rows₀ piece made rows : List ℕ) (held loaded refused w v i : ℕ) (h : i < length chunk)
    (t : Turn form whole chunk made₀ rows₀ piece made rows held loaded refused w v i) (r : CutPiece) (piece' : List ℕ)
    (p : CutsPiece held piece chunk i r piece') where
  abbrev close : Sifting → List ℕ → Sifting
  close = sift_piece (made_of form)

  abbrev so_far : Sifting
  so_far = sifting loaded refused (take w made) (take v rows)

  -- it goes on by a byte at least
  pub turn_less : i < r.at
  turn_less = Pieces.turn_less close whole 34 chunk piece held so_far i t.pieces h r piece' p

  one_fewer : r.ended ≡ true → more chunk held i ≡ more chunk r.held r.at + 1
  one_fewer e = Pieces.next_piece held piece chunk i t.pieces.short r piece' p t.pieces.most e

  -- a piece that ends may be counted
  pub turn_counts : r.ended ≡ true → loaded + refused + 1 < 2 ^ 64
  turn_counts e = let b = one_fewer e in omega (arith, t.counts)

  -- the chunk ended before the piece did
  pub turn_on : r.ended ≡ false → Turn form whole chunk made₀ rows₀ piece' made rows r.held loaded refused w v r.at
  turn_on e =
      let b : more chunk held i ≡ more chunk r.held r.at = Pieces.next_none held piece chunk i t.pieces.short r piece' p t.pieces.most e in
      record {
        pieces = Pieces.turn_next close whole 34 chunk piece held so_far i t.pieces r piece' p so_far
            (sym (ap (λ (x : Bool). cond x (close so_far piece') so_far) e));
        making = fill_same (room_of form) (more chunk held i) (more chunk r.held r.at) made₀ made w b t.making;
        rowing = fill_same 32 (more chunk held i) (more chunk r.held r.at) rows₀ rows v b t.rowing;
        counts = omega (arith, t.counts);
      }

  -- the piece ended
  pub turn_close : r.ended ≡ true → (made' rows' : List ℕ) (c : Closed) → ClosesSaid form (piece_says piece') (loaded + refused + 1) made w rows v c made' rows'
      → Turn form whole chunk made₀ rows₀ piece' made' rows' r.held (loaded + c.loaded) (refused + c.refused) c.made c.rows r.at
  turn_close e made' rows' c k =
      let b = one_fewer e in
      let said : Answer Line = piece_says piece' in
      let a : List ℕ = made_by_rule (made_of form) said in
      let d : List ℕ = refused_row_of (loaded + refused + 1) said in
      let many = more chunk held i in
      let fewer = more chunk r.held r.at in
      let short = made_most form said in
      let low = row_most (loaded + refused + 1) said (piece_32 (loaded + refused + 1) piece') in
      let s' : Sifting = sifting (loaded + c.loaded) (refused + c.refused) (take c.made made') (take c.rows rows') in
      let next : s' ≡ close so_far piece' =
      sifting_same
      (ap (λ (n : ℕ). loaded + n) k.loaded ∙ tally_loaded (is_loaded said) loaded)
      (ap (λ (n : ℕ). refused + n) k.refused ∙ tally_refused (is_loaded said) refused)
      (fill_front (room_of form) many fewer made₀ made w t.making b a made' c.made k.making short)
      (fill_front 32 many fewer rows₀ rows v t.rowing b d rows' c.rows k.rowing low) in
      let both = tally_either (is_loaded said) c.loaded c.refused loaded refused k.loaded k.refused in
      record {
        pieces = Pieces.turn_next close whole 34 chunk piece held so_far i t.pieces r piece' p s'
            (next ∙ sym (ap (λ (x : Bool). cond x (close so_far piece') so_far) e));
        making = fill_more (room_of form) many fewer made₀ made w t.making b a made' c.made k.making short;
        rowing = fill_more 32 many fewer rows₀ rows v t.rowing b d rows' c.rows k.rowing low;
        counts = omega (arith, t.counts);
      }

  -- and the counts stay in 64 bits
  pub turn_fits : r.ended ≡ true → (made' rows' : List ℕ) (c : Closed) → ClosesSaid form (piece_says piece') (loaded + refused + 1) made w rows v c made' rows'
      → (loaded + c.loaded < 2 ^ 64) × (refused + c.refused < 2 ^ 64)
  turn_fits e made' rows' c k =
      let b = one_fewer e in
      let both = tally_either (is_loaded (piece_says piece')) c.loaded c.refused loaded refused k.loaded k.refused in
      (omega (arith, t.counts), omega (arith, t.counts))

-- before the first byte
pub turn_none : (state : StoreSoFar) (form : Form) (piece chunk made rows : List ℕ) → ReadyToSiftStore state form piece chunk made rows
    → Turn form (sift_store (made_of form) state piece chunk) chunk made rows piece made rows state.held state.loaded state.refused 0 0 0
turn_none state form piece chunk made rows r =
    let all : ends_store state chunk ≡ more chunk state.held 0 = ap (λ (n : ℕ). (state.held + n) / 34)
    (let z : length chunk ≡ length chunk - 0 = omega arith in z) in
    record {
      pieces = subst (λ (n : ℕ). Pieces.PiecesTurn (sift_piece (made_of form)) (sift_store (made_of form) state piece chunk) n chunk piece state.held
          (sifting_of state) 0) r.size
          (Pieces.pieces_begin (sift_piece (made_of form)) chunk piece state.held (sifting_of state) r.short);
      making = fill_same (room_of form) (ends_store state chunk) (more chunk state.held 0) made made 0 all
          (fill_none (room_of form) (ends_store state chunk) made r.making);
      rowing = fill_same 32 (ends_store state chunk) (more chunk state.held 0) rows rows 0 all (fill_none 32 (ends_store state chunk) rows r.rowing);
      counts = subst (λ (n : ℕ). state.loaded + state.refused + n < 2 ^ 64) all r.counts;
    }

-- after the last
pub turn_end : (state : StoreSoFar) (form : Form) (piece₀ chunk made₀ rows₀ piece made rows : List ℕ) (held loaded refused w v i : ℕ) → length chunk ≤ i
    → Turn form (sift_store (made_of form) state piece₀ chunk) chunk made₀ rows₀ piece made rows held loaded refused w v i
    → TakesSiftedStore state form piece₀ chunk made₀ rows₀ (Ok (record { held = held; loaded = loaded; refused = refused }, w, v)) piece made rows
turn_end state form piece₀ chunk made₀ rows₀ piece made rows held loaded refused w v i h t =
    let run : PiecesSoFar Sifting = sift_store (made_of form) state piece₀ chunk in
    let m : run ≡ record { left = holding_piece piece held; kept = sifting loaded refused (take w made) (take v rows) } =
    Pieces.turn_end (sift_piece (made_of form)) run 34 chunk piece held (sifting loaded refused (take w made) (take v rows)) i t.pieces h in
    let many = more chunk held i in
    let a = fill_size (room_of form) many made₀ made w t.making in
    let b = fill_size 32 many rows₀ rows v t.rowing in
    let am : length run.kept.made ≡ w = ap (λ (x : PiecesSoFar Sifting). length x.kept.made) m ∙ a in
    let bm : length run.kept.rows ≡ v = ap (λ (x : PiecesSoFar Sifting). length x.kept.rows) m ∙ b in
    record {
      answer = ap (λ (x : StoreSoFar). Ok (x, w, v)) (sym (ap store_so_far_in m)) ∙ sym (ap₂ (λ x y. Ok (store_so_far_in run, x, y)) am bm);
      kept = sym (ap (λ (x : PiecesSoFar Sifting). x.left.piece) m);
      making = fill_written (room_of form) many made₀ made w t.making ∙ sym (ap (λ (x : PiecesSoFar Sifting). written_of made₀ 0 x.kept.made) m);
      rowing = fill_written 32 many rows₀ rows v t.rowing ∙ sym (ap (λ (x : PiecesSoFar Sifting). written_of rows₀ 0 x.kept.rows) m);
      made_within = subst (λ (n : ℕ). n ≤ length made₀) (sym am) (fill_within (room_of form) many made₀ made w t.making);
      rows_within = subst (λ (n : ℕ). n ≤ length rows₀) (sym bm) (fill_within 32 many rows₀ rows v t.rowing);
    }
