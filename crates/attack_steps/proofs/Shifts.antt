-- The steps of a row from a square as shifts of its bit, with what goes round an edge masked off: one test over the squares for each row.
-- Assumes nothing.
use mathlib.Core.Path.{◌≡◌, sym, ap, ◌∙◌}
use mathlib.Core.List.{List, [], ◌∷◌}
use Prim.Native.Nat.{ℕ, ◌*◌, ◌/◌, ◌%◌, ◌^◌, ◌<◌, ◌≤◌}
use lib.Bits.{bit_and, bit_or}
use lib.Dec.{T, eqb, eqb→eq}
use lib.ListN.{get_or-eq_default}
use Rattle.laws.specs.Tests.{all_below}
use Rattle.laws.proofs.Tests.{all_at}
use Rattle.attack_steps.specs.Steps.{Step, reached, steps_of, white_pawn_steps, black_pawn_steps, knight_steps, king_steps}
use Rattle.attack_steps.proofs.Tables.{reached_none}

-- ---- shifts
abbrev raised : ℕ → ℕ → ℕ
raised b n = b * n % 2 ^ 64

abbrev own : ℕ → ℕ
own s = raised 1 (2 ^ s)

abbrev beside : ℕ → ℕ
beside s = bit_or (bit_and (raised (own s) 2) 0xfefefefefefefefe) (bit_and (own s / 2) 0x7f7f7f7f7f7f7f7f)

abbrev two_beside : ℕ → ℕ
two_beside s = bit_or (bit_and (raised (own s) 4) 0xfcfcfcfcfcfcfcfc) (bit_and (own s / 4) 0x3f3f3f3f3f3f3f3f)

abbrev knights : ℕ → ℕ
knights s = bit_or (bit_or (raised (beside s) 65536) (beside s / 65536)) (bit_or (raised (two_beside s) 256) (two_beside s / 256))

abbrev kings : ℕ → ℕ
kings s = bit_or (beside s) (bit_or (raised (bit_or (own s) (beside s)) 256) (bit_or (own s) (beside s) / 256))

-- ---- each is its row's
module _ (row s : ℕ) (h : s < 64) where
  of_row : (f : ℕ → ℕ) (k : ℕ) → row ≡ k → T (all_below 64 (λ t. eqb (f t) (reached (steps_of k) t))) → f s ≡ reached (steps_of row) s
  of_row f k e t =
      eqb→eq (f s) (reached (steps_of k) s) (all_at 64 (λ t. eqb (f t) (reached (steps_of k) t)) t s h)
      ∙ sym (ap (λ (x : ℕ). reached (steps_of x) s) e)

  pub white_pawn : row ≡ 0 → raised (beside s) 256 ≡ reached (steps_of row) s
  unfolding all_below reached
  white_pawn e = of_row (λ t. raised (beside t) 256) 0 e tt

  pub black_pawn : row ≡ 1 → beside s / 256 ≡ reached (steps_of row) s
  unfolding all_below reached
  black_pawn e = of_row (λ t. beside t / 256) 1 e tt

  pub knight : row ≡ 2 → knights s ≡ reached (steps_of row) s
  unfolding all_below reached
  knight e = of_row knights 2 e tt

  pub king : row ≡ 3 → kings s ≡ reached (steps_of row) s
  unfolding all_below reached
  king e = of_row kings 3 e tt

pub no_row : (row s : ℕ) → 4 ≤ row → 0 ≡ reached (steps_of row) s
no_row row s h =
    sym (ap (λ (ds : List Step). reached ds s) (get_or-eq_default (white_pawn_steps ∷ black_pawn_steps ∷ knight_steps ∷ king_steps ∷ []) [] h) ∙ reached_none s)
