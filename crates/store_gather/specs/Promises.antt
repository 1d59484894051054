-- What each function promises, for all inputs. Definitions only.
use Rattle.std.specs.Prelude.{◌≡◌, cond, ◌&&◌, List, ℕ, ◌+◌, ◌<◌, eqb, ltb, length, Result}
use Rattle.refusal.specs.Answer.{Answer, given, refused, or_refuse, answered}
use Rattle.refusal.specs.declared.Refusal.TheVariants as R
use Rattle.store_cut.specs.Cut.{PiecesSoFar, run_pieces}
use Rattle.store_cut.specs.Promises.{holding_piece}
use Rattle.store_gather.specs.Gather.{Gathered, gathered, count_piece}
use Rattle.store_gather.specs.declared.First.{First}
use Rattle.store_gather.specs.declared.GatheredSoFar.{GatheredSoFar}
use Rattle.refusal.specs.declared.Refusal.{Refusal}

-- before anything was read
abbrev pub BeginsSummary : GatheredSoFar → Type 0
BeginsSummary r = r ≡ record { held = 0; number = 0; refusal = 0 }

-- a piece, by the code's words
pub record CountsPiece (number refusal : ℕ) (piece summary : List ℕ) (r : First) (summary' : List ℕ) : Type 0 where
  pub answer : r ≡ record {
    number = (count_piece (gathered summary number refusal) piece).number;
    refusal =
        (count_piece (gathered summary number refusal) piece).refusal;
  }
  pub counts : summary' ≡ (count_piece (gathered summary number refusal) piece).summary

-- the machine's run over a chunk
abbrev pub run_gather : GatheredSoFar → List ℕ → List ℕ → List ℕ → PiecesSoFar Gathered
run_gather state piece chunk summary = run_pieces count_piece (holding_piece piece state.held) (gathered summary state.number state.refusal) chunk

abbrev pub so_far : PiecesSoFar Gathered → GatheredSoFar
so_far r = record { held = r.left.held; number = r.kept.number; refusal = r.kept.refusal }

pub record TakesPieces (state : GatheredSoFar) (piece chunk summary : List ℕ) (r : GatheredSoFar) (piece' summary' : List ℕ) : Type 0 where
  pub answer : r ≡ so_far (run_gather state piece chunk summary)
  pub kept : piece' ≡ (run_gather state piece chunk summary).left.piece
  pub counts : summary' ≡ (run_gather state piece chunk summary).kept.summary

pub record ReadyToGather (state : GatheredSoFar) (piece summary : List ℕ) : Type 0 where
  pub short : state.held < 34
  pub size : length piece ≡ 34
  pub numbers : length summary ≡ 770

-- ---- a chunk: SHAPE, or the machine's run
abbrev pub pieces_gathered : GatheredSoFar → List ℕ → List ℕ → List ℕ → Answer (PiecesSoFar Gathered)
pieces_gathered state piece chunk summary =
    or_refuse (eqb (length piece) 34 && eqb (length summary) 770 && ltb state.held 34) R.Shape (given (run_gather state piece chunk summary))

abbrev pub state_in : Answer (PiecesSoFar Gathered) → Answer GatheredSoFar
state_in (given r) = given (so_far r)
state_in (refused n v) = refused n v

abbrev pub gathered_piece : Answer (PiecesSoFar Gathered) → List ℕ → List ℕ
gathered_piece (given r) old = r.left.piece
gathered_piece (refused n v) old = old

abbrev pub summary_after : Answer (PiecesSoFar Gathered) → List ℕ → List ℕ
summary_after (given r) old = r.kept.summary
summary_after (refused n v) old = old

pub record FeedsSummary (state : GatheredSoFar) (piece chunk summary : List ℕ) (r : Result GatheredSoFar Refusal) (piece' summary' : List ℕ) : Type 0 where
  pub answer : answered r ≡ state_in (pieces_gathered state piece chunk summary)
  pub kept : piece' ≡ gathered_piece (pieces_gathered state piece chunk summary) piece
  pub counts : summary' ≡ summary_after (pieces_gathered state piece chunk summary) summary

-- ---- the end: "a short last piece", 18
abbrev pub end_first : GatheredSoFar → ℕ → First
end_first state records =
    cond (eqb state.number 0)
    (cond (eqb state.held 0) (record { number = 0; refusal = 0 })
    (cond (ltb records 10000000) (record { number = records + 1; refusal = 18 }) (record { number = 10000001; refusal = 22 })))
    (record { number = state.number; refusal = state.refusal })

abbrev pub EndsSummary : GatheredSoFar → ℕ → First → Type 0
EndsSummary state records r = r ≡ end_first state records
