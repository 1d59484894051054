-- "One of them comes exactly where BOARD did", with what each means. Assumes nothing.
use mathlib.Core.Path.{◌≡◌, refl, sym, ap, ap₂, ◌∙◌}
use mathlib.Core.Logic.{◌⊎◌, inl, inr}
use mathlib.Core.Bool.{Bool, true, false, ◌&&◌, false≢true}
use mathlib.Core.List.{List}
use Prim.Native.Nat.{ℕ}
use Rattle.laws.specs.Tests.{all_below}
use Rattle.laws.proofs.Tests.{all_at}
use Rattle.laws.proofs.Truth.{true_T, T_true}
use Rattle.refusal.specs.Answer.{Answer, or_refuse}
use Rattle.refusal.specs.declared.Refusal.TheVariants as R
use Rattle.position_boards.specs.Sound.{apart, united}
use Rattle.position_consistent.specs.Consistent.{agrees, consistent}
use Rattle.position_odds.specs.Named.{lowest_wrong}
use Rattle.position_odds.specs.Odds.{or_odds}
use Rattle.position_odds.specs.Exactly.{Everywhere, GoesOn, AtOdds, WhereBoardWas}
use Rattle.position_odds.proofs.Named.{lowest_there}

everywhere : (f : ℕ → Bool) → all_below 64 f ≡ true → Everywhere f
everywhere f e = record { holds = λ k h. T_true (f k) (all_at 64 f (true_T e) k h) }

module _ (bbs bytes : List ℕ) where
  -- the order with the outcomes of the three tests put in
  abbrev by : {A : Type 0} → Answer A → Bool → Bool → Bool → Answer A
  by rest o u b =
      or_refuse o (R.Overlap (lowest_wrong (apart bbs))) (or_refuse u (R.Union (lowest_wrong (united bbs)))
      (or_refuse b (R.Byteboard (lowest_wrong (agrees bbs bytes))) rest))

  either : GoesOn bbs bytes ⊎ AtOdds bbs bytes
  unfolding or_odds consistent
  either = go (all_below 64 (apart bbs)) refl (all_below 64 (united bbs)) refl (all_below 64 (agrees bbs bytes)) refl
    where
      go : (o : Bool) → all_below 64 (apart bbs) ≡ o → (u : Bool) → all_below 64 (united bbs) ≡ u → (b : Bool) → all_below 64 (agrees bbs bytes) ≡ b
          → GoesOn bbs bytes ⊎ AtOdds bbs bytes
      go false eo u eu b eb = inr (record {
        consistency = ap (λ (o : Bool). o && all_below 64 (united bbs) && all_below 64 (agrees bbs bytes)) eo;
        refusal = R.Overlap (lowest_wrong (apart bbs));
        one_of = inl (record { square = lowest_wrong (apart bbs); named = refl; lowest = lowest_there (apart bbs) eo });
        refuses = λ rest. ap (λ (o : Bool). by rest o (all_below 64 (united bbs)) (all_below 64 (agrees bbs bytes))) eo;
      })
      go true eo false eu b eb = inr (record {
        consistency = ap₂ (λ (o u : Bool). o && u && all_below 64 (agrees bbs bytes)) eo eu;
        refusal = R.Union (lowest_wrong (united bbs));
        one_of = inr (inl (record {
          square = lowest_wrong (united bbs);
          named = refl;
          alone = everywhere (apart bbs) eo;
          lowest =
              lowest_there (united bbs) eu;
        }));
        refuses = λ rest. ap₂ (λ (o u : Bool). by rest o u (all_below 64 (agrees bbs bytes))) eo eu;
      })
      go true eo true eu false eb = inr (record {
        consistency = ap₂ ◌&&◌ (ap₂ ◌&&◌ eo eu) eb;
        refusal = R.Byteboard (lowest_wrong (agrees bbs bytes));
        one_of = inr (inr (record {
          square = lowest_wrong (agrees bbs bytes);
          named = refl;
          alone = everywhere (apart bbs) eo;
          joined = everywhere (united bbs) eu;
          lowest = lowest_there (agrees bbs bytes) eb;
        }));
        refuses = λ rest. ap₂ (λ (o u : Bool). by rest o u (all_below 64 (agrees bbs bytes))) eo eu ∙ ap (by rest true true) eb;
      })
      go true eo true eu true eb = inl (record {
        consistency = ap₂ ◌&&◌ (ap₂ ◌&&◌ eo eu) eb;
        goes_on = λ rest. ap₂ (λ (o u : Bool). by rest o u (all_below 64 (agrees bbs bytes))) eo eu ∙ ap (by rest true true) eb;
      })

pub exactly : WhereBoardWas
exactly bbs bytes = either bbs bytes

-- ---- what a call needs of it
pub goes_on : {A : Type 0} (bbs bytes : List ℕ) (rest : Answer A) → consistent bbs bytes ≡ true → or_odds bbs bytes rest ≡ rest
goes_on bbs bytes rest e = go (exactly bbs bytes)
  where
    go : GoesOn bbs bytes ⊎ AtOdds bbs bytes → or_odds bbs bytes rest ≡ rest
    go (inl g) = g.goes_on rest
    go (inr o) = absurd (false≢true (sym o.consistency ∙ e))

pub at_odds : (bbs bytes : List ℕ) → consistent bbs bytes ≡ false → AtOdds bbs bytes
at_odds bbs bytes e = go (exactly bbs bytes)
  where
    go : GoesOn bbs bytes ⊎ AtOdds bbs bytes → AtOdds bbs bytes
    go (inl g) = absurd (false≢true (sym e ∙ g.consistency))
    go (inr o) = o
