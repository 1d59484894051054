-- Two summaries: SHAPE, MANY, or joined. Assumes nothing.
use Rattle.std.proofs.Common.{◌≡◌, ℕ, ◌+◌, ◌<◌, ◌≤◌, Bool, ◌&&◌, eqb, leb, List, length, sym, refl, ap, ◌∙◌, ap₂, eq-eqb, ne_eqb, le-leb}
use mathlib.Core.Bool.{and-false}
use borrow.Author.Tests.{lt-leb}
use Rattle.refusal.specs.Answer.{Answer, given, refusal_of, or_refuse, answered}
use Rattle.refusal.specs.declared.Refusal.TheVariants as R
use Rattle.store_record.specs.Promises.{is_stored, place_after}
use Rattle.store_summary.specs.Promises.{records_in}
use Rattle.store_joined.specs.Summaries.{summary_of_both, summaries_joined}
use Rattle.store_joined.specs.Promises.{JoinsSummaries}
use Rattle.std.specs.Prelude.{Result}
use Rattle.refusal.specs.declared.Refusal.{Refusal}

module _ (a b : List ℕ) where
  abbrev rest : Answer (List ℕ)
  rest = or_refuse (leb (records_in a + records_in b) 10000000) R.Many (given (summary_of_both a b))

  -- what is answered and what is left, by the definition
  joins_by : (x : Answer (List ℕ)) → summaries_joined a b ≡ x → (r : Result Unit Refusal) → answered r ≡ is_stored x → (s : List ℕ) → s ≡ place_after x a
      → JoinsSummaries a b r s
  joins_by x e r p s q = record { answer = p ∙ sym (ap is_stored e); counts = q ∙ sym (ap (λ (y : Answer (List ℕ)). place_after y a) e) }

  pub first_shape : (length a ≡ 770 → ⊥) → (r : Result Unit Refusal) → answered r ≡ refusal_of R.Shape → JoinsSummaries a b r a
  first_shape n r p = joins_by (refusal_of R.Shape) (ap (λ (t : Bool). or_refuse (t && eqb (length b) 770) R.Shape rest) (ne_eqb (length a) 770 n)) r p a refl

  pub second_shape : (length b ≡ 770 → ⊥) → (r : Result Unit Refusal) → answered r ≡ refusal_of R.Shape → JoinsSummaries a b r a
  second_shape n r p =
      joins_by (refusal_of R.Shape)
      (ap (λ (t : Bool). or_refuse (eqb (length a) 770 && t) R.Shape rest) (ne_eqb (length b) 770 n)
      ∙ ap (λ (t : Bool). or_refuse t R.Shape rest) (and-false (eqb (length a) 770))) r p a refl

  module _ (m : length a ≡ 770) (n : length b ≡ 770) where
    shaped : summaries_joined a b ≡ rest
    shaped = ap₂ (λ (s t : Bool). or_refuse (s && t) R.Shape rest) (eq-eqb (length a) 770 m) (eq-eqb (length b) 770 n)

    pub too_many : 10000000 < records_in a + records_in b → (r : Result Unit Refusal) → answered r ≡ refusal_of R.Many → JoinsSummaries a b r a
    too_many h r p =
        joins_by (refusal_of R.Many) (shaped ∙ ap (λ (t : Bool). or_refuse t R.Many (given (summary_of_both a b)))
        (lt-leb (records_in a + records_in b) 10000000 h)) r p a refl

    pub joined : records_in a + records_in b ≤ 10000000 → (r : Result Unit Refusal) → answered r ≡ given tt → (s : List ℕ) → s ≡ summary_of_both a b → JoinsSummaries a b r s
    joined h r p s q =
        joins_by (given (summary_of_both a b)) (shaped ∙ ap (λ (t : Bool). or_refuse t R.Many (given (summary_of_both a b)))
        (le-leb (records_in a + records_in b) 10000000 h)) r p s q
