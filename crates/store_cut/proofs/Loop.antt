-- A loop over the pieces of a chunk, whatever it does with a piece: the invariant of whoever calls `next` until the chunk is read. Assumes nothing.
use mathlib.Core.Path.{◌≡◌, refl, sym, ap, ap₂, ◌∙◌}
use mathlib.Core.Bool.{Bool, true, false, cond}
use mathlib.Core.List.{List}
use Prim.Native.Nat.{ℕ, ◌+◌, ◌-◌, ◌/◌, ◌≤◌, ◌<◌}
use native.Mathlib.Omega.{arith}
use lib.ListN.{length, drop, length-drop, drop_of_length-le}
use lib.Seq.{drop-drop}
use Rattle.store_cut.specs.Cut.{OpenPiece, FoundPiece, find_piece, PiecesSoFar, run_pieces}
use Rattle.store_cut.specs.Promises.{holding_piece, cut_piece_of, CutsPiece}
use Rattle.store_cut.specs.declared.CutPiece.{CutPiece}
use Rattle.store_cut.proofs.Machine.{closed_piece, pieces_find, Told, told_piece}

-- the machine's run from here on the rest is its run on the whole chunk
pub record PiecesTurn {S : Type 0} (close : S → List ℕ → S) (whole : PiecesSoFar S) (size : ℕ) (chunk piece : List ℕ) (held : ℕ) (s : S) (at : ℕ) : Type 0 where
  pub most : at ≤ length chunk
  pub long : length piece ≡ size
  pub short : held < 34
  pub runs : whole ≡ run_pieces close (holding_piece piece held) s (drop at chunk)

pub pieces_begin : {S : Type 0} (close : S → List ℕ → S) (chunk piece : List ℕ) (held : ℕ) (s : S) → held < 34
    → PiecesTurn close (run_pieces close (holding_piece piece held) s chunk) (length piece) chunk piece held s 0
pieces_begin close chunk piece held s h = record { most = omega arith; long = refl; short = h; runs = refl }

-- ---- a call of `next`
module _ (held : ℕ) (piece chunk : List ℕ) (at : ℕ) (few : held < 34) (r : CutPiece) (piece' : List ℕ) (p : CutsPiece held piece chunk at r piece') where
  told : Told (holding_piece piece held) (drop at chunk) (find_piece (holding_piece piece held) (drop at chunk))
  told = told_piece (holding_piece piece held) (drop at chunk) few

  passes : r.at ≡ at + (find_piece (holding_piece piece held) (drop at chunk)).passed
  passes = ap (λ (x : CutPiece). x.at) p.answer

  holds : r.held ≡ (find_piece (holding_piece piece held) (drop at chunk)).left.held
  holds = ap (λ (x : CutPiece). x.held) p.answer

  -- how many pieces end from here on
  count : at ≤ length chunk → (t : Bool) → (find_piece (holding_piece piece held) (drop at chunk)).ended ≡ t
      → held + (length chunk - at) ≡ r.held + (length chunk - r.at) + cond t 34 0
  count h t e =
      let k = told.bytes ∙ ap (λ (x : Bool). (find_piece (holding_piece piece held) (drop at chunk)).left.held + cond x 34 0) e in
      let m = told.most in
      omega (arith, length-drop at chunk, passes, holds)

  pub next_piece : at ≤ length chunk → r.ended ≡ true → (held + (length chunk - at)) / 34 ≡ (r.held + (length chunk - r.at)) / 34 + 1
  next_piece h e =
      let k : held + (length chunk - at) ≡ r.held + (length chunk - r.at) + 34 = count h true (sym (ap (λ (x : CutPiece). x.ended) p.answer) ∙ e) in
      omega arith

  pub next_none : at ≤ length chunk → r.ended ≡ false → (held + (length chunk - at)) / 34 ≡ (r.held + (length chunk - r.at)) / 34
  next_none h e =
      let k : held + (length chunk - at) ≡ r.held + (length chunk - r.at) + 0 = count h false (sym (ap (λ (x : CutPiece). x.ended) p.answer) ∙ e) in
      omega arith

module _ {S : Type 0} (close : S → List ℕ → S) (whole : PiecesSoFar S) (n : ℕ) (chunk piece : List ℕ) (held : ℕ) (s : S) (at : ℕ)
    (t : PiecesTurn close whole n chunk piece held s at) where
  found : FoundPiece
  found = find_piece (holding_piece piece held) (drop at chunk)

  pub turn_next : (r : CutPiece) (piece' : List ℕ) → CutsPiece held piece chunk at r piece' → (s' : S) → s' ≡ cond r.ended (close s piece') s
      → PiecesTurn close whole n chunk piece' r.held s' r.at
  unfolding found
  turn_next r piece' p s' q =
      let e : r ≡ cut_piece_of at found = p.answer in
      let a : r.at ≡ at + found.passed = ap (λ (x : CutPiece). x.at) e in
      let z : r.held ≡ found.left.held = ap (λ (x : CutPiece). x.held) e in
      let k = told_piece (holding_piece piece held) (drop at chunk) t.short in
      let o : holding_piece piece' r.held ≡ found.left = ap₂ holding_piece p.kept z in
      let c : s' ≡ closed_piece close s found =
      q ∙ ap (λ (x : CutPiece). cond x.ended (close s piece') s) e ∙ ap (λ (l : List ℕ). cond found.ended (close s l) s) p.kept in
      record {
        most = omega (arith, k.most, length-drop at chunk, t.most);
        long = ap length p.kept ∙ k.size ∙ t.long;
        short = omega (arith, k.short);
        runs =
            t.runs ∙ pieces_find close (holding_piece piece held) s (drop at chunk)
            ∙ ap (run_pieces close found.left (closed_piece close s found)) (drop-drop found.passed at chunk)
            ∙ sym (ap₂ (λ (x : OpenPiece) (y : S). run_pieces close x y (drop r.at chunk)) o c
            ∙ ap (λ (k : ℕ). run_pieces close found.left (closed_piece close s found) (drop k chunk)) a);
      }

  -- it goes on by a byte at least
  pub turn_less : at < length chunk → (r : CutPiece) (piece' : List ℕ) → CutsPiece held piece chunk at r piece' → at < r.at
  unfolding found
  turn_less h r piece' p =
      let a : r.at ≡ at + found.passed = ap (λ (x : CutPiece). x.at) p.answer in
      let k : 0 < length (drop at chunk) = omega (arith, length-drop at chunk) in
      let o = (told_piece (holding_piece piece held) (drop at chunk) t.short).some k in
      omega arith

  -- the chunk is read
  pub turn_end : length chunk ≤ at → whole ≡ record { left = holding_piece piece held; kept = s }
  unfolding run_pieces
  turn_end h = t.runs ∙ rw (drop_of_length-le chunk h)
