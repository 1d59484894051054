-- A piece that ended, test by test, and the loop over the pieces of a chunk. Assumes nothing.
use mathlib.Core.Path.{◌≡◌, refl, sym, ap, ap₂, subst, ◌∙◌}
use mathlib.Core.Bool.{Bool, true, false, cond, ◌&&◌}
use mathlib.Core.List.{List}
use Prim.Native.Nat.{ℕ, ◌+◌, ◌≤◌, ◌<◌}
use lib.Dec.{eqb, ltb}
use lib.ListN.{length}
use borrow.Author.Tests.{eq-eqb, ne_eqb, lt-ltb, le-ltb}
use Rattle.refusal.specs.Answer.{Answer, given, refused, refusal_of, answered}
use Rattle.refusal.specs.Refusals.{number_of}
use Rattle.refusal.specs.declared.Refusal.{Refusal}
use Rattle.refusal.proofs.Answers.{given_not}
use Rattle.position.specs.declared.State.{State}
use Rattle.line_parse.specs.Line.{Line}
use Rattle.line_parse.specs.Promises.{by_value}
use Rattle.line.specs.declared.inner.Loaded.{Loaded}
use Rattle.store_record.specs.Record.{half_in, piece_says}
use Rattle.store_record.specs.Promises.{SaysPiece}
use Rattle.store_counts.specs.Summary.{summary_more}
use Rattle.store_counts.specs.Promises.{if_sized, CountsRecord}
use Rattle.store_counts.proofs.Sizes.{moved_770}
use Rattle.store_cut.specs.Cut.{PiecesSoFar}
use Rattle.store_cut.specs.Promises.{CutsPiece}
use Rattle.store_cut.specs.declared.CutPiece.{CutPiece}
use Rattle.store_cut.proofs.Loop as Loop
use Rattle.store_summary.specs.Promises.{records_in}
use Rattle.store_gather.specs.Gather.{Gathered, gathered, or_first, count_piece}
use Rattle.store_gather.specs.Promises.{CountsPiece, run_gather, so_far, TakesPieces, ReadyToGather}
use Rattle.store_gather.specs.declared.First.{First}
use Rattle.store_gather.specs.declared.GatheredSoFar.{GatheredSoFar}
use Rattle.std.specs.Prelude.{Ok, Err}

-- ---- a piece
abbrev first_of : Gathered → First
first_of g = record { number = g.number; refusal = g.refusal }

counts_by : (number refusal : ℕ) (piece summary : List ℕ) (g : Gathered) → g ≡ count_piece (gathered summary number refusal) piece
    → (r : First) (summary' : List ℕ)
    → r ≡ first_of g → summary' ≡ g.summary → CountsPiece number refusal piece summary r summary'
counts_by number refusal piece summary g e r summary' p q = record { answer = p ∙ ap first_of e; counts = q ∙ ap (λ (x : Gathered). x.summary) e }

module _ (number refusal : ℕ) (piece summary : List ℕ) where
  pub no_more : (number ≡ 0 → ⊥) → (r : First) → r ≡ record { number = number; refusal = refusal } → CountsPiece number refusal piece summary r summary
  no_more n r e =
      counts_by number refusal piece summary (gathered summary number refusal)
      (sym (ap (λ (t : Bool). cond t (cond (ltb (records_in summary) 10000000) (or_first summary piece (piece_says piece)) (gathered summary 10000001 22))
      (gathered summary number refusal)) (ne_eqb number 0 n)))
      r summary e refl

  module _ (z : number ≡ 0) where
    none_yet : cond (ltb (records_in summary) 10000000) (or_first summary piece (piece_says piece)) (gathered summary 10000001 22)
        ≡ count_piece (gathered summary number refusal) piece
    none_yet =
        sym (ap (λ (t : Bool). cond t (cond (ltb (records_in summary) 10000000) (or_first summary piece (piece_says piece))
        (gathered summary 10000001 22)) (gathered summary number refusal)) (eq-eqb number 0 z))

    pub too_many : 10000000 ≤ records_in summary → (r : First) → r ≡ record { number = 10000001; refusal = 22 }
        → CountsPiece number refusal piece summary r summary
    too_many h r e =
        counts_by number refusal piece summary (gathered summary 10000001 22)
        (sym (ap (λ (t : Bool). cond t (or_first summary piece (piece_says piece)) (gathered summary 10000001 22))
        (le-ltb (records_in summary) 10000000 h)) ∙ none_yet) r summary e refl

    module _ (h : records_in summary < 10000000) (read : Loaded) (says : SaysPiece piece read) where
      by_piece : or_first summary piece (piece_says piece) ≡ count_piece (gathered summary number refusal) piece
      by_piece = sym (ap (λ (t : Bool). cond t (or_first summary piece (piece_says piece)) (gathered summary 10000001 22))
          (lt-ltb (records_in summary) 10000000 h)) ∙ none_yet

      pub turned_away : (q : Refusal) → read.answer ≡ Err q → (n : ℕ) → n ≡ number_of q → (r : First)
          → r ≡ record { number = records_in summary + 1; refusal = n }
          → CountsPiece number refusal piece summary r summary
      turned_away q t n m r e = go (piece_says piece) refl (sym (ap answered t) ∙ says.answer)
        where
          go : (a : Answer Line) → piece_says piece ≡ a → refusal_of q ≡ by_value a → CountsPiece number refusal piece summary r summary
          go (given l) x p = given_not (sym p)
          go (refused k v) x p =
              let same : number_of q ≡ k = cc in
              counts_by number refusal piece summary (gathered summary (records_in summary + 1) k) (sym (ap (or_first summary piece) x) ∙ by_piece) r summary
              (e ∙ ap (λ (j : ℕ). first_of (gathered summary (records_in summary + 1) j)) (m ∙ same)) refl

      pub read_too : (s : State) (half : ℕ) → read.answer ≡ Ok (s, half) → (summary' : List ℕ) → CountsRecord summary piece summary'
          → (r : First) → r ≡ record { number = 0; refusal = 0 }
          → CountsPiece number refusal piece summary r summary'
      read_too s half t summary' c r e = go (piece_says piece) refl (sym (ap answered t) ∙ says.answer)
        where
          go : (a : Answer Line) → piece_says piece ≡ a → given (s, half) ≡ by_value a → CountsPiece number refusal piece summary r summary'
          go (given l) x p = counts_by number refusal piece summary (gathered (if_sized summary piece (summary_more summary piece)) 0 0)
              (sym (ap (or_first summary piece) x) ∙ by_piece) r summary' e c
          go (refused k v) x p = given_not p

-- a summary stays one, whatever the piece says
pub still_770 : (number refusal : ℕ) (piece summary : List ℕ) → length summary ≡ 770
    → length (count_piece (gathered summary number refusal) piece).summary ≡ 770
still_770 number refusal piece summary n = go (eqb number 0) (ltb (records_in summary) 10000000) (piece_says piece)
  where
    sizes : (t : Bool) → length (cond t (summary_more summary piece) summary) ≡ 770
    sizes true = moved_770 summary 1 (half_in piece) piece
    sizes false = n

    by : (a : Answer Line) → length (or_first summary piece a).summary ≡ 770
    by (given l) = sizes (eqb (length summary) 770 && eqb (length piece) 34)
    by (refused k v) = n

    go : (t u : Bool) (a : Answer Line) → length (cond t (cond u (or_first summary piece a) (gathered summary 10000001 22))
        (gathered summary number refusal)).summary ≡ 770
    go true true a = by a
    go true false a = n
    go false u a = n

-- ---- the loop
pub record Turn (whole : PiecesSoFar Gathered) (chunk piece summary : List ℕ) (held number refusal i : ℕ) : Type 0 where
  pub pieces : Loop.PiecesTurn count_piece whole 34 chunk piece held (gathered summary number refusal) i
  pub numbers : length summary ≡ 770

pub turn_none : (state : GatheredSoFar) (piece chunk summary : List ℕ) → ReadyToGather state piece summary
    → Turn (run_gather state piece chunk summary) chunk piece summary state.held state.number state.refusal 0
turn_none state piece chunk summary r = record {
  pieces = subst (λ (n : ℕ). Loop.PiecesTurn count_piece (run_gather state piece chunk summary) n chunk piece state.held
      (gathered summary state.number state.refusal) 0) r.size
      (Loop.pieces_begin count_piece chunk piece state.held (gathered summary state.number state.refusal) r.short);
  numbers = r.numbers;
}

module _ (whole : PiecesSoFar Gathered) (chunk piece summary : List ℕ) (held number refusal i : ℕ) (t : Turn whole chunk piece summary held number refusal i)
    (r : CutPiece) (piece' : List ℕ) (p : CutsPiece held piece chunk i r piece') where
  pub turn_less : i < length chunk → i < r.at
  turn_less h = Loop.turn_less count_piece whole 34 chunk piece held (gathered summary number refusal) i t.pieces h r piece' p

  pub turn_on : r.ended ≡ false → Turn whole chunk piece' summary r.held number refusal r.at
  turn_on e =
      let s : Gathered = gathered summary number refusal in
      record {
        pieces = Loop.turn_next count_piece whole 34 chunk piece held s i t.pieces r piece' p s
            (sym (ap (λ (x : Bool). cond x (count_piece s piece') s) e));
        numbers = t.numbers;
      }

  pub turn_close : r.ended ≡ true → (f : First) (summary' : List ℕ) → CountsPiece number refusal piece' summary f summary'
      → Turn whole chunk piece' summary' r.held f.number f.refusal r.at
  turn_close e f summary' c =
      let s : Gathered = gathered summary number refusal in
      let a : gathered summary' f.number f.refusal ≡ count_piece s piece' =
      ap₂ (λ (x : List ℕ) (y : First). gathered x y.number y.refusal) c.counts c.answer in
      record {
        pieces = Loop.turn_next count_piece whole 34 chunk piece held s i t.pieces r piece' p (gathered summary' f.number f.refusal)
            (a ∙ sym (ap (λ (x : Bool). cond x (count_piece s piece') s) e));
        numbers = ap length c.counts ∙ still_770 number refusal piece' summary t.numbers;
      }

pub turn_end : (state : GatheredSoFar) (piece₀ chunk summary₀ piece summary : List ℕ) (held number refusal i : ℕ) → length chunk ≤ i
    → Turn (run_gather state piece₀ chunk summary₀) chunk piece summary held number refusal i
    → TakesPieces state piece₀ chunk summary₀ (record { held = held; number = number; refusal = refusal }) piece summary
turn_end state piece₀ chunk summary₀ piece summary held number refusal i h t =
    let m = Loop.turn_end count_piece (run_gather state piece₀ chunk summary₀) 34 chunk piece held (gathered summary number refusal) i t.pieces h in
    record {
      answer = sym (ap so_far m);
      kept = sym (ap (λ (x : PiecesSoFar Gathered). x.left.piece) m);
      counts =
          sym (ap (λ (x : PiecesSoFar Gathered). x.kept.summary) m);
    }
