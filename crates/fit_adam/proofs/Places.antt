-- A list that a step goes through: its places up to i are by the rule, the pawn's as it was, and those from i on as they were. One law for
-- moments and weights. Assumes nothing.
use mathlib.Core.Path.{◌≡◌, refl, sym, ◌∙◌}
use mathlib.Core.List.{List}
use Prim.Native.Nat.{ℕ, zero, suc, ◌+◌, ◌<◌, ◌≤◌}
use native.Mathlib.Nat.{le_refl}
use native.Mathlib.Omega.{arith}
use borrow.Author.Tests.{ne_eqb}
use lib.Ieee.{Float, nan}
use lib.ListN.{length, get_or, set, length-set}
use lib.Seq.{get_or-set_other, ext_get_or}
use Rattle.laws.specs.Tables.{tabulate}
use Rattle.laws.proofs.Tables.{entry, tabulate_length, set_more}
use Rattle.fit_adam.specs.Adam.{ruled, but_pawn}

pub record Turned (rule : ℕ → Float) (i : ℕ) (old new : List Float) : Type 0 where
  pub long : length new ≡ 779
  pub done : (j : ℕ) → j < i → get_or new j nan ≡ ruled old rule j
  pub rest : (j : ℕ) → i ≤ j → get_or new j nan ≡ get_or old j nan

pub none : {rule : ℕ → Float} (old : List Float) → length old ≡ 779 → Turned rule 1 old old
none {rule} old h = record { long = h; done = pawn; rest = λ j l. refl }
  where
    pawn : (j : ℕ) → j < 1 → get_or old j nan ≡ ruled old rule j
    pawn zero l = refl
    pawn (suc j) l = absurd (omega arith)

module _ {rule : ℕ → Float} {i : ℕ} {old new : List Float} (t : Turned rule i old new) where
  pub one_more : {x : Float} → 0 < i → i < 779 → x ≡ rule i → Turned rule (i + 1) old (set new i x)
  one_more {x} P l e = record {
    long = length-set new i x ∙ t.long;
    done = set_more nan (ruled old rule) new i x (omega (arith, t.long)) at t.done;
    rest = λ j h. get_or-set_other new i j x nan (λ q. omega arith) ∙ t.rest j (omega arith);
  }
    where
      some : i ≡ 0 → ⊥
      some q = omega arith

      at : x ≡ ruled old rule i
      at = rw (ne_eqb i 0 some) e

  -- the place that comes next is still as it was
  pub here : get_or new i nan ≡ get_or old i nan
  here = t.rest i (le_refl i)

pub all : {rule : ℕ → Float} {i : ℕ} {old new : List Float} → Turned rule i old new → i ≡ 779 → new ≡ but_pawn old rule
unfolding but_pawn
all {rule} {i} {old} {new} t e =
    ext_get_or nan new (tabulate 779 (ruled old rule)) (t.long ∙ sym (tabulate_length 779 (ruled old rule)))
    (λ j h. t.done j (reach j h) ∙ sym (entry 779 (ruled old rule) nan j (within j h)))
  where
    within : (j : ℕ) → j < length new → j < 779
    within j h = omega (arith, t.long)

    reach : (j : ℕ) → j < length new → j < i
    reach j h = omega (arith, t.long)
