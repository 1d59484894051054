-- What each return of `at_odds` gives. Assumes nothing.
use mathlib.Core.Path.{◌≡◌, sym, ap, ap₂, ◌∙◌}
use mathlib.Core.Bool.{Bool, ◌&&◌, and-false}
use mathlib.Core.List.{List}
use Prim.Native.Nat.{ℕ}
use lib.Dec.{eqb}
use lib.ListN.{length}
use borrow.Author.Tests.{eq-eqb, ne_eqb}
use Rattle.refusal.specs.Answer.{Answer, or_refuse}
use Rattle.refusal.specs.declared.Refusal.TheVariants as R
use Rattle.bits.specs.Bitboard.{lowest_of}
use Rattle.position_boards.specs.Sound.{apart, united}
use Rattle.position_boards.specs.Wrong.{overlap_of, split_of}
use Rattle.position_boards.proofs.Wrong.{overlap_of_14, split_of_14}
use Rattle.position_consistent.specs.Consistent.{agrees}
use Rattle.position_odds.specs.Named.{lowest_wrong, or_named}
use Rattle.position_odds.specs.Odds.{or_odds}
use Rattle.position_odds.specs.Promises.{sized, refused_as, Tells}
use Rattle.position_odds.proofs.Named.{named, passed, last}

module _ (bbs bytes : List ℕ) where
  abbrev found : Answer Unit
  found = or_odds bbs bytes (refused_as (R.Byteboard 64))

  pub no_boards : (length bbs ≡ 14 → ⊥) → Tells bbs bytes R.Shape
  no_boards n = sym (ap (λ (t : Bool). or_refuse (t && eqb (length bytes) 64) R.Shape found) (ne_eqb (length bbs) 14 n))

  pub no_bytes : (length bytes ≡ 64 → ⊥) → Tells bbs bytes R.Shape
  no_bytes n =
      sym (ap (λ (t : Bool). or_refuse t R.Shape found) (ap (λ (t : Bool). eqb (length bbs) 14 && t) (ne_eqb (length bytes) 64 n)
      ∙ and-false (eqb (length bbs) 14)))

  module _ (l : length bbs ≡ 14) (m : length bytes ≡ 64) where
    in_size : (x : Answer Unit) → x ≡ found → x ≡ or_refuse (sized bbs bytes) R.Shape found
    in_size x e = e ∙ sym (ap (λ (t : Bool). or_refuse t R.Shape found) (ap₂ ◌&&◌ (eq-eqb (length bbs) 14 l) (eq-eqb (length bytes) 64 m)))

    abbrev after_unions : Answer Unit
    after_unions = or_named (agrees bbs bytes) (λ s. R.Byteboard s) (refused_as (R.Byteboard 64))

    abbrev after_overlap : Answer Unit
    after_overlap = or_named (united bbs) (λ s. R.Union s) after_unions

    pub overlap_told : (t s : ℕ) → t ≡ overlap_of bbs → (t ≡ 0 → ⊥) → s ≡ lowest_of t → Tells bbs bytes (R.Overlap s)
    unfolding or_odds
    overlap_told t s e n q = in_size (refused_as (R.Overlap s)) (named (apart bbs) (λ x. R.Overlap x) after_overlap t s (e ∙ sym (overlap_of_14 bbs l)) n q)

    module _ (t : ℕ) (et : t ≡ overlap_of bbs) (zt : t ≡ 0) where
      past_overlap : after_overlap ≡ found
      unfolding or_odds
      past_overlap = passed (apart bbs) (λ x. R.Overlap x) after_overlap t (et ∙ sym (overlap_of_14 bbs l)) zt

      pub union_told : (b s : ℕ) → b ≡ split_of bbs → (b ≡ 0 → ⊥) → s ≡ lowest_of b → Tells bbs bytes (R.Union s)
      union_told b s e n q =
          in_size (refused_as (R.Union s)) (named (united bbs) (λ x. R.Union x) after_unions b s (e ∙ sym (split_of_14 bbs l)) n q ∙ past_overlap)

      pub byteboard_told : (b s : ℕ) → b ≡ split_of bbs → b ≡ 0 → s ≡ lowest_wrong (agrees bbs bytes) → Tells bbs bytes (R.Byteboard s)
      byteboard_told b s e z q =
          in_size (refused_as (R.Byteboard s))
          (last (agrees bbs bytes) (λ x. R.Byteboard x) s q ∙ passed (united bbs) (λ x. R.Union x) after_unions b (e ∙ sym (split_of_14 bbs l)) z
          ∙ past_overlap)
