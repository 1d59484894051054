-- What `add` answers on each way: SHAPE, RESULT, a line apart, a line with a score. Assumes nothing.
use mathlib.Core.Path.{◌≡◌, refl, sym, ap, ◌∙◌}
use mathlib.Core.List.{List, [], ◌∷◌}
use Prim.Native.Nat.{ℕ, ◌<◌, ◌≤◌}
use borrow.Author.Tests.{lt-ltb, le-ltb}
use denote.Enum.Declared.{tag_of}
use lib.IntN.{ℤ}
use types.Run.{OneOf, miss}
use Rattle.refusal.specs.Answer.{Answer, refused}
use Rattle.score.specs.Score.{Outcome}
use Rattle.score.specs.Answers.{scored}
use Rattle.score.specs.declared.Scored.{Scored}
use Rattle.score.specs.declared.Scored.TheVariants as S
use Rattle.score.specs.contracts.Scored.{the_type}
use Rattle.score_errors.specs.Errors.{scored_of, apart_of, square_with, counted_with, added_with}
use Rattle.score_errors.specs.declared.Totals.{Totals}
use Rattle.std.specs.Prelude.{Result, Ok, Err}
use Rattle.refusal.specs.declared.Refusal.{Refusal}

module _ (t : List ℕ) (totals : Totals) (side half : ℕ) where
  pub no_side : (a : Answer Outcome) → 2 ≤ side → refused 1 [] ≡ added_with t totals side a half
  no_side a h = simp (le-ltb side 2 h)

  pub no_result : (a : Answer Outcome) → side < 2 → 3 ≤ half → refused 13 [] ≡ added_with t totals side a half
  no_result a h k = simp (lt-ltb side 2 h, le-ltb half 3 k)

  pub both : (a : Answer Outcome) → side < 2 → half < 3 → counted_with t totals side a half ≡ added_with t totals side a half
  both a h k = simp (lt-ltb side 2 h, lt-ltb half 3 k)

  -- no score: a refusal, or a verdict; `Score` is the fourth of the four variants
  pub not_scored : (a : Result Scored Refusal) → ((o : Scored) → a ≡ Ok o → OneOf (0 ∷ 1 ∷ 2 ∷ []) (tag_of the_type o)) → apart_of totals ≡ counted_with t totals side (scored a) half
  not_scored (Err q) n = refl
  not_scored (Ok o) n = by o (n o refl)
    where
      by : (o : Scored) → OneOf (0 ∷ 1 ∷ 2 ∷ []) (tag_of the_type o) → apart_of totals ≡ counted_with t totals side (scored (Ok o)) half
      by S.Lost o = refl
      by S.Won o = refl
      by S.Drawn o = refl
      by (S.Score z) o = absurd (miss (0 ∷ 1 ∷ 2 ∷ []) 3 tt o)

  pub with_score : (a : Result Scored Refusal) (z : ℤ) (q : ℕ) → a ≡ Ok (S.Score z) → q ≡ square_with t side z half → scored_of totals q ≡ counted_with t totals side (scored a) half
  with_score a z q e p = ap (scored_of totals) p ∙ ap (λ (x : Result Scored Refusal). counted_with t totals side (scored x) half) (sym e)
