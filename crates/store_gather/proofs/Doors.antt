-- What `feed` and `finish` answer, test by test. Assumes nothing.
use mathlib.Core.Path.{◌≡◌, refl, sym, ap, ap₂, ◌∙◌}
use mathlib.Core.Bool.{Bool, true, false, cond, ◌&&◌, and-false}
use mathlib.Core.List.{List}
use Prim.Native.Nat.{ℕ, ◌+◌, ◌≤◌, ◌<◌}
use lib.Dec.{eqb, ltb}
use lib.ListN.{length}
use borrow.Author.Tests.{eq-eqb, ne_eqb, lt-ltb, le-ltb}
use Rattle.refusal.specs.Answer.{Answer, given, refusal_of, or_refuse}
use Rattle.refusal.specs.declared.Refusal.TheVariants as R
use Rattle.store_cut.specs.Cut.{PiecesSoFar}
use Rattle.store_gather.specs.Gather.{Gathered}
use Rattle.store_gather.specs.Promises.{run_gather, pieces_gathered, state_in, gathered_piece, summary_after, FeedsSummary, TakesPieces, end_first, EndsSummary}
use Rattle.store_gather.specs.declared.First.{First}
use Rattle.store_gather.specs.declared.GatheredSoFar.{GatheredSoFar}
use Rattle.std.specs.Prelude.{Ok, Err}

module _ (state : GatheredSoFar) (piece chunk summary : List ℕ) where
  refuses : (eqb (length piece) 34 && eqb (length summary) 770) && ltb state.held 34 ≡ false
      → FeedsSummary state piece chunk summary (Err R.Shape) piece summary
  refuses e =
      let a : refusal_of R.Shape ≡ pieces_gathered state piece chunk summary =
      sym (ap (λ (t : Bool). or_refuse t R.Shape (given (run_gather state piece chunk summary))) e) in
      record {
        answer = ap state_in a;
        kept = ap (λ (x : Answer (PiecesSoFar Gathered)). gathered_piece x piece) a;
        counts =
            ap (λ (x : Answer (PiecesSoFar Gathered)). summary_after x summary) a;
      }

  pub no_buffer : (length piece ≡ 34 → ⊥) → FeedsSummary state piece chunk summary (Err R.Shape) piece summary
  no_buffer n = refuses (ap (λ (t : Bool). (t && eqb (length summary) 770) && ltb state.held 34) (ne_eqb (length piece) 34 n))

  pub no_summary : (length summary ≡ 770 → ⊥) → FeedsSummary state piece chunk summary (Err R.Shape) piece summary
  no_summary n =
      refuses (ap (λ (t : Bool). (eqb (length piece) 34 && t) && ltb state.held 34) (ne_eqb (length summary) 770 n)
      ∙ ap (λ (t : Bool). t && ltb state.held 34) (and-false (eqb (length piece) 34)))

  pub holds_all : 34 ≤ state.held → FeedsSummary state piece chunk summary (Err R.Shape) piece summary
  holds_all n =
      refuses (ap (λ (t : Bool). (eqb (length piece) 34 && eqb (length summary) 770) && t) (le-ltb state.held 34 n)
      ∙ and-false (eqb (length piece) 34 && eqb (length summary) 770))

  pub fed : length piece ≡ 34 → length summary ≡ 770 → state.held < 34 → (next : GatheredSoFar) (piece' summary' : List ℕ)
      → TakesPieces state piece chunk summary next piece' summary'
      → FeedsSummary state piece chunk summary (Ok next) piece' summary'
  fed p s h next piece' summary' t =
      let held : (eqb (length piece) 34 && eqb (length summary) 770) && ltb state.held 34 ≡ true =
      ap₂ ◌&&◌ (ap₂ ◌&&◌ (eq-eqb (length piece) 34 p) (eq-eqb (length summary) 770 s)) (lt-ltb state.held 34 h) in
      let a : given (run_gather state piece chunk summary) ≡ pieces_gathered state piece chunk summary =
      sym (ap (λ (t : Bool). or_refuse t R.Shape (given (run_gather state piece chunk summary))) held) in
      record {
        answer = ap given t.answer ∙ ap state_in a;
        kept = t.kept ∙ ap (λ (x : Answer (PiecesSoFar Gathered)). gathered_piece x piece) a;
        counts = t.counts ∙ ap (λ (x : Answer (PiecesSoFar Gathered)). summary_after x summary) a;
      }

-- ---- the end, by how its tests came out
module _ (state : GatheredSoFar) (records : ℕ) where
  end_by : Bool → Bool → Bool → First
  end_by none empty few =
      cond none
      (cond empty (record { number = 0; refusal = 0 }) (cond few (record { number = records + 1; refusal = 18 }) (record { number = 10000001; refusal = 22 })))
      (record { number = state.number; refusal = state.refusal })

  tests : (x y z : Bool) → eqb state.number 0 ≡ x → eqb state.held 0 ≡ y → ltb records 10000000 ≡ z → end_by x y z ≡ end_first state records
  unfolding end_by
  tests x y z p q r = sym (ap₂ (λ (s t : Bool). end_by s t (ltb records 10000000)) p q ∙ ap (end_by x y) r)

  pub had_one : (state.number ≡ 0 → ⊥) → (r : First) → r ≡ record { number = state.number; refusal = state.refusal } → EndsSummary state records r
  unfolding end_by
  had_one n r e = e ∙ tests false _ _ (ne_eqb state.number 0 n) refl refl

  module _ (z : state.number ≡ 0) where
    pub whole : state.held ≡ 0 → (r : First) → r ≡ record { number = 0; refusal = 0 } → EndsSummary state records r
    unfolding end_by
    whole h r e = e ∙ tests true true _ (eq-eqb state.number 0 z) (eq-eqb state.held 0 h) refl

    module _ (h : state.held ≡ 0 → ⊥) where
      pub past_most : 10000000 ≤ records → (n : ℕ) → n ≡ 22 → (r : First) → r ≡ record { number = 10000001; refusal = n } → EndsSummary state records r
      unfolding end_by
      past_most m n q r e =
          e ∙ ap (λ (j : ℕ). record { number = 10000001; refusal = j }) q
          ∙ tests true false false (eq-eqb state.number 0 z) (ne_eqb state.held 0 h) (le-ltb records 10000000 m)

      pub short_piece : records < 10000000 → (n : ℕ) → n ≡ 18 → (r : First) → r ≡ record { number = records + 1; refusal = n } → EndsSummary state records r
      unfolding end_by
      short_piece m n q r e =
          e ∙ ap (λ (j : ℕ). record { number = records + 1; refusal = j }) q
          ∙ tests true false true (eq-eqb state.number 0 z) (ne_eqb state.held 0 h) (lt-ltb records 10000000 m)
