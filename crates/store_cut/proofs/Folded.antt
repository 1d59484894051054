-- THE PIECES, however the input is cut: the machine over a whole input does with each of its pieces, in order, what its consumer does with a piece.
-- Assumes nothing.
use mathlib.Core.Path.{◌≡◌, refl, sym, ap, ◌∙◌}
use mathlib.Core.Bool.{Bool, true, false, cond}
use mathlib.Core.List.{List, [], ◌∷◌, ◌++◌, append_assoc}
use Prim.Native.Nat.{ℕ, suc, ◌+◌, ◌≤◌, ◌<◌}
use native.Mathlib.Omega.{arith}
use lib.Dec.{ltb}
use lib.ListN.{length, take, set, length-append, length-set}
use lib.Seq.{take-suc-set, take_all}
use borrow.Author.Tests.{lt-ltb, le-ltb, ltb-true, ltb-false}
use Rattle.line_cut.specs.Lines.{at_end, fold_lines}
use Rattle.store_cut.specs.Pieces.{records_from, pieces_of}
use Rattle.store_cut.specs.Cut.{OpenPiece, filled, piece_emptied, run_pieces, end_pieces}
use Rattle.store_cut.specs.Promises.{holding_piece}

-- what the buffer holds of a piece that is begun
record Holds (o : OpenPiece) (begun : List ℕ) : Type 0 where
  count : o.held ≡ length begun
  short : o.held < 34
  size : length o.piece ≡ 34
  front : take o.held o.piece ≡ begun

none_held : (piece : List ℕ) → length piece ≡ 34 → Holds (holding_piece piece 0) []
none_held piece h = record { count = refl; short = omega arith; size = h; front = refl }

module _ (o : OpenPiece) (l : List ℕ) (b : ℕ) (v : Holds o l) where
  -- one byte more stands after those that the buffer held
  longer : take (o.held + 1) (set o.piece o.held b) ≡ l ++ (b ∷ [])
  longer =
      let s = v.short in
      let z = v.size in
      let n : o.held + 1 ≡ suc o.held = omega arith in
      ap (λ (k : ℕ). take k (set o.piece o.held b)) n
      ∙ take-suc-set o.piece o.held b (omega arith) ∙ ap (λ (x : List ℕ). x ++ (b ∷ [])) v.front

  held_more : o.held < 33 → Holds (filled o b) (l ++ (b ∷ []))
  held_more h =
      record {
        count = ap (λ (n : ℕ). n + 1) v.count ∙ sym (length-append l (b ∷ []));
        short = omega arith;
        size = length-set o.piece o.held b
            ∙ v.size;
        front = longer;
      }

  -- the 34th byte: the buffer is the piece
  held_all : 33 ≤ o.held → (filled o b).piece ≡ l ++ (b ∷ [])
  held_all h =
      let s = v.short in
      let n : length (set o.piece o.held b) ≤ o.held + 1 = omega (arith, length-set o.piece o.held b, v.size) in
      sym (take_all (o.held + 1) (set o.piece o.held b) n) ∙ longer

module _ {S : Type 0} (close : S → List ℕ → S) where
  at_end_holds : (o : OpenPiece) (l : List ℕ) (s : S) → Holds o l → end_pieces close (record { left = o; kept = s }) ≡ fold_lines close s (at_end l)
  unfolding fold_lines
  at_end_holds o [] s v = rw (le-ltb 0 o.held (omega (arith, v.count)))
  at_end_holds o (x ∷ l) s v =
      let some : 0 < o.held = omega (arith, v.count) in
      ap (λ (t : Bool). cond t (close s (take o.held o.piece)) s) (lt-ltb 0 o.held some) ∙ ap (close s) v.front

  folds : (o : OpenPiece) (l : List ℕ) (s : S) (t : List ℕ) → Holds o l → end_pieces close (run_pieces close o s t) ≡ fold_lines close s (records_from l t)
  unfolding run_pieces records_from fold_lines
  folds o l s [] v = at_end_holds o l s v
  folds o l s (b ∷ t) v =
      go (ltb o.held 33) refl (λ h. folds (filled o b) (l ++ (b ∷ [])) s t (held_more o l b v h))
      (folds (piece_emptied (filled o b)) [] (close s (filled o b).piece) t (none_held (filled o b).piece (length-set o.piece o.held b ∙ v.size)))
      ∙ ap (λ (n : ℕ). fold_lines close s (cond (ltb n 33) (records_from (l ++ (b ∷ [])) t) ((l ++ (b ∷ [])) ∷ records_from [] t))) v.count
    where
      go : (x : Bool) → ltb o.held 33 ≡ x
          → (o.held < 33 → end_pieces close (run_pieces close (filled o b) s t) ≡ fold_lines close s (records_from (l ++ (b ∷ [])) t))
          → end_pieces close (run_pieces close (piece_emptied (filled o b)) (close s (filled o b).piece) t)
          ≡ fold_lines close (close s (filled o b).piece) (records_from [] t)
          → end_pieces close (cond x (run_pieces close (filled o b) s t) (run_pieces close (piece_emptied (filled o b)) (close s (filled o b).piece) t))
          ≡ fold_lines close s (cond x (records_from (l ++ (b ∷ [])) t) ((l ++ (b ∷ [])) ∷ records_from [] t))
      go true q p r = p (ltb-true o.held 33 q)
      go false q p r = r ∙ ap (λ (z : List ℕ). fold_lines close (close s z) (records_from [] t)) (held_all o l b v (ltb-false o.held 33 q))

  -- from nothing, whatever the buffer held
  pub folded_pieces : (piece : List ℕ) (s : S) (t : List ℕ) → length piece ≡ 34
      → end_pieces close (run_pieces close (holding_piece piece 0) s t) ≡ fold_lines close s (pieces_of t)
  folded_pieces piece s t h = folds (holding_piece piece 0) [] s t (none_held piece h)

-- ---- the pieces of records put one after another are the records
-- a piece that is begun is filled up to its 34th byte
pub filled_up : (begun t s : List ℕ) → 0 < length t → length begun + length t ≡ 34 → records_from begun (t ++ s) ≡ (begun ++ t) ∷ records_from [] s
unfolding records_from
filled_up begun [] s h e = absurd (omega arith)
filled_up begun (b ∷ []) s h e =
    ap (λ (x : Bool). cond x (records_from (begun ++ (b ∷ [])) s) ((begun ++ (b ∷ [])) ∷ records_from [] s)) (le-ltb (length begun) 33 (omega arith))
filled_up begun (b ∷ (c ∷ t)) s h e =
    ap (λ (x : Bool). cond x (records_from (begun ++ (b ∷ [])) (c ∷ (t ++ s))) ((begun ++ (b ∷ [])) ∷ records_from [] (c ∷ (t ++ s))))
    (lt-ltb (length begun) 33 (omega arith))
    ∙ filled_up (begun ++ (b ∷ [])) (c ∷ t) s (omega arith) (let n = length-append begun (b ∷ []) in omega arith)
    ∙ ap (λ (l : List ℕ). l ∷ records_from [] s) (append_assoc begun (b ∷ []) (c ∷ t))
