-- An entry of the four tables is what the rule gives for its row's steps. Assumes nothing.
use mathlib.Core.Path.{◌≡◌, refl, sym, ap, ◌∙◌}
use mathlib.Core.Bool.{Bool, true, false, cond, ◌&&◌, and-false}
use mathlib.Core.List.{List, [], ◌∷◌}
use Prim.Native.Nat.{ℕ, zero, suc, ◌^◌, ◌≤◌, ◌<◌}
use native.Mathlib.Omega.{arith}
use lib.Dec.{ltb, lit<}
use lib.ListN.{get_or, get_or-eq_default}
use borrow.Author.Tests.{lt-ltb, le-ltb, ltb-true, ltb-false}
use Rattle.laws.proofs.Tables.{entry}
use Rattle.bits.specs.Bitboard.{has, those}
use Rattle.bits.proofs.Those.{those_lt, has_those}
use Rattle.attack_steps.specs.Steps.{Step, one_leads, reached, step_table, step_tables, step_in, steps_of, white_pawn_steps, black_pawn_steps}
use Rattle.attack_steps.specs.Steps.{knight_steps, king_steps}

-- ---- the rule
pub reached_on : (ds : List Step) (s : ℕ) → s < 64 → reached ds s ≡ those 64 (λ t. one_leads ds s t)
unfolding reached
reached_on ds s h = ap (λ (b : Bool). cond b (those 64 (λ t. one_leads ds s t)) 0) (lt-ltb s 64 h)

pub reached_off : (ds : List Step) (s : ℕ) → 64 ≤ s → reached ds s ≡ 0
unfolding reached
reached_off ds s h = ap (λ (b : Bool). cond b (those 64 (λ t. one_leads ds s t)) 0) (le-ltb s 64 h)

pub reached_lt : (ds : List Step) (s : ℕ) → reached ds s < 2 ^ 64
unfolding reached
reached_lt ds s = go (ltb s 64)
  where
    go : (b : Bool) → cond b (those 64 (λ t. one_leads ds s t)) 0 < 2 ^ 64
    go true = those_lt 64 (λ t. one_leads ds s t)
    go false = lit< tt

pub has_reached : (ds : List Step) (s k : ℕ) → s < 64 → k < 64 → has (reached ds s) k ≡ one_leads ds s k
has_reached ds s k hs hk = ap (λ (x : ℕ). has x k) (reached_on ds s hs) ∙ has_those 64 (λ t. one_leads ds s t) k hk

-- no step leads nowhere
pub reached_none : (s : ℕ) → reached [] s ≡ 0
unfolding reached
reached_none s = go (ltb s 64)
  where
    go : (b : Bool) → cond b (those 64 (λ t. one_leads [] s t)) 0 ≡ 0
    go true = refl
    go false = refl

-- ---- the tables
row : (ds : List Step) (s : ℕ) → cond (ltb s 64 && true) (get_or (step_table ds) s 0) 0 ≡ reached ds s
unfolding step_table
row ds s = go (ltb s 64) refl
  where
    go : (b : Bool) → ltb s 64 ≡ b → cond (b && true) (get_or (step_table ds) s 0) 0 ≡ reached ds s
    go true e = entry 64 (reached ds) 0 s (ltb-true s 64 e)
    go false e = sym (reached_off ds s (ltb-false s 64 e))

pub step_is : (r s : ℕ) → step_in step_tables r s ≡ reached (steps_of r) s
step_is zero s = row white_pawn_steps s
step_is (suc zero) s = row black_pawn_steps s
step_is (suc (suc zero)) s = row knight_steps s
step_is (suc (suc (suc zero))) s = row king_steps s
step_is (suc (suc (suc (suc r)))) s =
    ap (λ (b : Bool). cond (ltb s 64 && b) (get_or (get_or step_tables (suc (suc (suc (suc r)))) []) s 0) 0) (le-ltb (suc (suc (suc (suc r)))) 4 (omega arith))
    ∙ ap (λ (b : Bool). cond b (get_or (get_or step_tables (suc (suc (suc (suc r)))) []) s 0) 0) (and-false (ltb s 64)) ∙ sym (reached_none s)

-- ---- as the code has them
pub at_row : (l : List ℕ) (r k : ℕ) → r ≡ k → l ≡ step_table (steps_of k) → l ≡ step_table (steps_of r)
at_row l r k e h = h ∙ sym (ap (λ (x : ℕ). step_table (steps_of x)) e)

pub past_rows : (r : ℕ) → 4 ≤ r → step_table [] ≡ step_table (steps_of r)
past_rows r h = sym (ap step_table (get_or-eq_default (white_pawn_steps ∷ black_pawn_steps ∷ knight_steps ∷ king_steps ∷ []) [] h))

pub table_entry : (l : List ℕ) (r s : ℕ) → s < 64 → l ≡ step_table (steps_of r) → get_or l s 0 ≡ reached (steps_of r) s
unfolding step_table
table_entry l r s h e = ap (λ (x : List ℕ). get_or x s 0) e ∙ entry 64 (reached (steps_of r)) 0 s h
