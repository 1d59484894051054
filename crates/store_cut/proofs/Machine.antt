-- The machine goes on from piece's end to piece's end, and chunk after chunk, whatever is done with a piece. Assumes nothing.
use mathlib.Core.Path.{◌≡◌, refl, sym, ap, ◌∙◌}
use mathlib.Core.Bool.{Bool, true, false, cond}
use mathlib.Core.List.{List, [], ◌∷◌, ◌++◌}
use Prim.Native.Nat.{ℕ, ◌+◌, ◌≤◌, ◌<◌}
use native.Mathlib.Numerals.{add-one}
use native.Mathlib.Omega.{arith}
use lib.Dec.{ltb}
use lib.ListN.{length, drop, length-set}
use borrow.Author.Tests.{ltb-true, ltb-false}
use Rattle.store_cut.specs.Cut.{OpenPiece, filled, piece_emptied, FoundPiece, later_piece, find_piece, PiecesSoFar, run_pieces}

-- ---- one chunk after another
pub pieces_append : {S : Type 0} (close : S → List ℕ → S) (o : OpenPiece) (s : S) (a b : List ℕ)
    → run_pieces close o s (a ++ b) ≡ run_pieces close (run_pieces close o s a).left (run_pieces close o s a).kept b
unfolding run_pieces
pieces_append close o s [] b = refl
pieces_append {S} close o s (x ∷ a) b =
    go (ltb o.held 33) (pieces_append close (filled o x) s a b) (pieces_append close (piece_emptied (filled o x)) (close s (filled o x).piece) a b)
  where
    f : PiecesSoFar S
    f = run_pieces close (filled o x) s a

    e : PiecesSoFar S
    e = run_pieces close (piece_emptied (filled o x)) (close s (filled o x).piece) a

    go : (t : Bool)
        → run_pieces close (filled o x) s (a ++ b) ≡ run_pieces close f.left f.kept b
        → run_pieces close (piece_emptied (filled o x)) (close s (filled o x).piece) (a ++ b) ≡ run_pieces close e.left e.kept b
        → cond t (run_pieces close (filled o x) s (a ++ b)) (run_pieces close (piece_emptied (filled o x)) (close s (filled o x).piece) (a ++ b))
        ≡ run_pieces close (cond t f e).left (cond t f e).kept b
    go true p q = p
    go false p q = q

-- ---- from here to the next piece's end: the piece that ended is closed, and the machine goes on behind it
abbrev pub closed_piece : {S : Type 0} → (S → List ℕ → S) → S → FoundPiece → S
closed_piece close s f = cond f.ended (close s f.left.piece) s

pub pieces_find : {S : Type 0} (close : S → List ℕ → S) (o : OpenPiece) (s : S) (t : List ℕ)
    → run_pieces close o s t ≡ run_pieces close (find_piece o t).left (closed_piece close s (find_piece o t)) (drop (find_piece o t).passed t)
unfolding run_pieces find_piece
pieces_find close o s [] = refl
pieces_find close o s (b ∷ t) = go (ltb o.held 33) (pieces_find close (filled o b) s t)
  where
    f : FoundPiece
    f = find_piece (filled o b) t

    g : FoundPiece
    g = record { passed = 1; left = piece_emptied (filled o b); ended = true }

    go : (x : Bool)
        → run_pieces close (filled o b) s t ≡ run_pieces close f.left (closed_piece close s f) (drop f.passed t)
        → cond x (run_pieces close (filled o b) s t) (run_pieces close (piece_emptied (filled o b)) (close s (filled o b).piece) t)
        ≡ run_pieces close (cond x (later_piece f) g).left (closed_piece close s (cond x (later_piece f) g)) (drop (cond x (later_piece f) g).passed (b ∷ t))
    go true p = p ∙ ap (λ (k : ℕ). run_pieces close f.left (closed_piece close s f) (drop k (b ∷ t))) (sym (add-one f.passed))
    go false p = refl

-- ---- what is found: some bytes, no more than there are; the buffer keeps its length; what is left is shorter than a piece, and all bytes are told
pub record Told (o : OpenPiece) (t : List ℕ) (f : FoundPiece) : Type 0 where
  pub most : f.passed ≤ length t
  pub size : length f.left.piece ≡ length o.piece
  pub short : f.left.held < 34
  pub some : 0 < length t → 1 ≤ f.passed
  pub bytes : o.held + f.passed ≡ f.left.held + cond f.ended 34 0

pub told_piece : (o : OpenPiece) (t : List ℕ) → o.held < 34 → Told o t (find_piece o t)
unfolding find_piece
told_piece o [] h = record { most = omega arith; size = refl; short = h; some = λ z. z; bytes = refl }
told_piece o (b ∷ t) h = go (ltb o.held 33) refl (λ l. told_piece (filled o b) t (omega arith))
  where
    f : FoundPiece
    f = find_piece (filled o b) t

    g : FoundPiece
    g = record { passed = 1; left = piece_emptied (filled o b); ended = true }

    go : (x : Bool) → ltb o.held 33 ≡ x → (o.held < 33 → Told (filled o b) t f) → Told o (b ∷ t) (cond x (later_piece f) g)
    go true e r =
        let k = r (ltb-true o.held 33 e) in
        record {
          most = omega (arith, k.most);
          size = k.size ∙ length-set o.piece o.held b;
          short = k.short;
          some = λ z. omega arith;
          bytes = omega (arith, k.bytes);
        }
    go false e r =
        let n = ltb-false o.held 33 e in
        record { most = omega arith; size = length-set o.piece o.held b; short = omega arith; some = λ z. omega arith; bytes = omega arith }

-- the machine's buffer keeps its length, and what it leaves is shorter than a piece
pub record Left (o l : OpenPiece) : Type 0 where
  pub size : length l.piece ≡ length o.piece
  pub short : l.held < 34

pub left_piece : {S : Type 0} (close : S → List ℕ → S) (o : OpenPiece) (s : S) (t : List ℕ) → o.held < 34 → Left o (run_pieces close o s t).left
unfolding run_pieces
left_piece close o s [] h = record { size = refl; short = h }
left_piece {S} close o s (b ∷ t) h =
    go (ltb o.held 33) refl (λ l. left_piece close (filled o b) s t (omega arith))
    (left_piece close (piece_emptied (filled o b)) (close s (filled o b).piece) t (omega arith))
  where
    f : PiecesSoFar S
    f = run_pieces close (filled o b) s t

    e : PiecesSoFar S
    e = run_pieces close (piece_emptied (filled o b)) (close s (filled o b).piece) t

    go : (x : Bool) → ltb o.held 33 ≡ x → (o.held < 33 → Left (filled o b) f.left) → Left (piece_emptied (filled o b)) e.left
        → Left o (cond x f e).left
    go true q p r =
        let k = p (ltb-true o.held 33 q) in
        record { size = k.size ∙ length-set o.piece o.held b; short = k.short }
    go false q p r = record { size = r.size ∙ length-set o.piece o.held b; short = r.short }

-- two machines of which one follows the other
abbrev pub told_beside : {S R : Type 0} → (S → R) → PiecesSoFar S → PiecesSoFar R
told_beside h r = record { left = r.left; kept = h r.kept }

pub pieces_told : {S R : Type 0} (h : S → R) (c : S → List ℕ → S) (d : R → List ℕ → R) → ((s : S) (piece : List ℕ) → d (h s) piece ≡ h (c s piece))
    → (o : OpenPiece) (s : S) (t : List ℕ) → run_pieces d o (h s) t ≡ told_beside h (run_pieces c o s t)
unfolding run_pieces
pieces_told h c d e o s [] = refl
pieces_told {S} {R} h c d e o s (b ∷ t) =
    go (ltb o.held 33) (pieces_told h c d e (filled o b) s t)
    (ap (λ (x : R). run_pieces d (piece_emptied (filled o b)) x t) (e s (filled o b).piece)
    ∙ pieces_told h c d e (piece_emptied (filled o b)) (c s (filled o b).piece) t)
  where
    p : PiecesSoFar S
    p = run_pieces c (filled o b) s t

    q : PiecesSoFar S
    q = run_pieces c (piece_emptied (filled o b)) (c s (filled o b).piece) t

    go : (x : Bool) → run_pieces d (filled o b) (h s) t ≡ told_beside h p
        → run_pieces d (piece_emptied (filled o b)) (d (h s) (filled o b).piece) t ≡ told_beside h q
        → cond x (run_pieces d (filled o b) (h s) t) (run_pieces d (piece_emptied (filled o b)) (d (h s) (filled o b).piece) t) ≡ told_beside h (cond x p q)
    go true x y = x
    go false x y = y
