-- One turn of the loop over a chunk's bytes: what is found from here on is what is found from the start. Assumes nothing.
use mathlib.Core.Path.{◌≡◌, refl, sym, ap, ◌∙◌}
use mathlib.Core.Bool.{Bool, true, false, cond}
use mathlib.Core.List.{List}
use Prim.Native.Nat.{ℕ, ◌+◌, ◌-◌, ◌≤◌, ◌<◌}
use native.Mathlib.Numerals.{add-one}
use native.Mathlib.Omega.{arith}
use lib.Dec.{ltb}
use lib.ListN.{length, drop, get_or, set, length-set, drop_of_length-le}
use lib.Seq.{drop-cons}
use borrow.Author.Tests.{lt-ltb, le-ltb}
use Rattle.store_cut.specs.Cut.{OpenPiece, FoundPiece, later_piece, filled, piece_emptied, find_piece}
use Rattle.store_cut.specs.Promises.{holding_piece, cut_piece_of, MakesCut}
use Rattle.store_cut.specs.declared.CutPiece.{CutPiece}

-- the same, found so many bytes later
abbrev pub ahead_piece : ℕ → FoundPiece → FoundPiece
ahead_piece k f = record { passed = f.passed + k; left = f.left; ended = f.ended }

pub record Turn (start : FoundPiece) (from size : ℕ) (chunk piece : List ℕ) (held i : ℕ) : Type 0 where
  pub least : from ≤ i
  pub long : length piece ≡ size
  pub finds : start ≡ ahead_piece (i - from) (find_piece (holding_piece piece held) (drop i chunk))

find_at : (o : OpenPiece) (s : List ℕ) (i : ℕ) → i < length s
    → find_piece o (drop i s) ≡ cond (ltb o.held 33) (later_piece (find_piece (filled o (get_or s i 0)) (drop (i + 1) s)))
    (record { passed = 1; left = piece_emptied (filled o (get_or s i 0)); ended = true })
unfolding find_piece
find_at o s i h = rw (drop-cons s i 0, add-one i)

find_end : (o : OpenPiece) (s : List ℕ) (i : ℕ) → length s ≤ i → find_piece o (drop i s) ≡ record { passed = 0; left = o; ended = false }
unfolding find_piece
find_end o s i h = rw (drop_of_length-le s h)

same : (p q : ℕ) (o : OpenPiece) (ended : Bool) → p ≡ q → ◌≡◌ {A = FoundPiece} (record { passed = p; left = o; ended = ended })
    (record { passed = q; left = o; ended = ended })
same p q o ended e = cc

pub turn_none : (from : ℕ) (chunk piece : List ℕ) (held : ℕ) → Turn (find_piece (holding_piece piece held) (drop from chunk)) from (length piece) chunk
    piece held from
turn_none from chunk piece held =
    let f : FoundPiece = find_piece (holding_piece piece held) (drop from chunk) in
    record { least = omega arith; long = refl; finds = same f.passed (f.passed + (from - from)) f.left f.ended (omega arith) }

module _ (start : FoundPiece) (from n : ℕ) (chunk piece : List ℕ) (held i : ℕ) (t : Turn start from n chunk piece held i) where
  module _ (h : i < length chunk) (piece' : List ℕ) (p : piece' ≡ set piece held (get_or chunk i 0)) where
    pub turn_fill : held < 33 → Turn start from n chunk piece' (held + 1) (i + 1)
    turn_fill l =
        let f : FoundPiece = find_piece (filled (holding_piece piece held) (get_or chunk i 0)) (drop (i + 1) chunk) in
        let m : from ≤ i = t.least in
        record {
          least = omega arith;
          long = ap length p ∙ length-set piece held (get_or chunk i 0) ∙ t.long;
          finds =
              t.finds
              ∙ ap (ahead_piece (i - from))
              (find_at (holding_piece piece held) chunk i h
              ∙ ap (λ (x : Bool). cond x (later_piece f) (record {
                passed = 1;
                left =
                    piece_emptied (filled (holding_piece piece held) (get_or chunk i 0));
                ended = true;
              })) (lt-ltb held 33 l))
              ∙ same (f.passed + 1 + (i - from)) (f.passed + (i + 1 - from)) f.left f.ended (omega arith)
              ∙ rw (← p);
        }

    pub turn_close : 33 ≤ held → (r : CutPiece) → MakesCut (i + 1) 0 true r → (r ≡ cut_piece_of from start) × (piece' ≡ start.left.piece)
    turn_close l r a =
        let f : FoundPiece = find_piece (filled (holding_piece piece held) (get_or chunk i 0)) (drop (i + 1) chunk) in
        let m : from ≤ i = t.least in
        let z : start ≡ record { passed = i + 1 - from; left = piece_emptied (filled (holding_piece piece held) (get_or chunk i 0)); ended = true } =
        t.finds
        ∙ ap (ahead_piece (i - from))
        (find_at (holding_piece piece held) chunk i h
        ∙ ap (λ (x : Bool). cond x (later_piece f) (record {
          passed = 1;
          left =
              piece_emptied (filled (holding_piece piece held) (get_or chunk i 0));
          ended = true;
        })) (le-ltb held 33 l))
        ∙ same (1 + (i - from)) (i + 1 - from) (piece_emptied (filled (holding_piece piece held) (get_or chunk i 0))) true (omega arith) in
        let q : from + (i + 1 - from) ≡ i + 1 = omega arith in
        (a ∙ sym (ap (cut_piece_of from) z ∙ rw q), p ∙ sym (ap (λ (x : FoundPiece). x.left.piece) z))

  pub turn_end : length chunk ≤ i → (r : CutPiece) → MakesCut i held false r → (r ≡ cut_piece_of from start) × (piece ≡ start.left.piece)
  turn_end h r a =
      let m : from ≤ i = t.least in
      let z : start ≡ record { passed = i - from; left = holding_piece piece held; ended = false } =
      t.finds ∙ ap (ahead_piece (i - from)) (find_end (holding_piece piece held) chunk i h)
      ∙ same (0 + (i - from)) (i - from) (holding_piece piece held) false (omega arith) in
      let q : from + (i - from) ≡ i = omega arith in
      (a ∙ sym (ap (cut_piece_of from) z ∙ rw q), sym (ap (λ (x : FoundPiece). x.left.piece) z))
