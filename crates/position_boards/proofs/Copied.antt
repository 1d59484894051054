-- A table filled by a loop, one entry a turn: it has the entries below a bound, and 0 from there on. Assumes nothing.
use mathlib.Core.Path.{◌≡◌, refl, sym, ap, ◌∙◌}
use mathlib.Core.Bool.{Bool, true, false, cond}
use mathlib.Core.List.{List}
use Prim.Native.Nat.{ℕ, suc, ◌≤◌, ◌<◌}
use native.Mathlib.Omega.{arith}
use lib.Dec.{ltb}
use lib.ListN.{get_or, set}
use borrow.Author.Tests.{lt-ltb, le-ltb, ltb-true, ltb-false}
use Rattle.laws.specs.Tables.{tabulate}
use Rattle.laws.proofs.Tables.{tabulate_same, tabulate_set}
use Rattle.position_boards.specs.PrivateTested.{colour_squares, boards_by}

abbrev pub copied_to : ℕ → (ℕ → ℕ) → ℕ → List ℕ
copied_to size f bound = tabulate size (λ b. cond (ltb b bound) (f b) 0)

module _ (size : ℕ) (f : ℕ → ℕ) where
  pub copied_more : (bound value : ℕ) → bound < size → value ≡ f bound → set (copied_to size f bound) bound value ≡ copied_to size f (suc bound)
  copied_more bound value h e =
      tabulate_set size (λ b. cond (ltb b bound) (f b) 0) (λ b. cond (ltb b (suc bound)) (f b) 0) bound value h
      (e ∙ sym (ap (λ (t : Bool). cond t (f bound) 0) (lt-ltb bound (suc bound) (omega arith))))
      (λ b l other. ap (λ (t : Bool). cond t (f b) 0) (same b other))
    where
      same : (b : ℕ) → (b ≡ bound → ⊥) → ltb b bound ≡ ltb b (suc bound)
      same b other = go (ltb b bound) refl
        where
          go : (t : Bool) → ltb b bound ≡ t → t ≡ ltb b (suc bound)
          go true q = sym (lt-ltb b (suc bound) (omega (arith, ltb-true b bound q)))
          go false q = sym (le-ltb b (suc bound) (omega (arith, ltb-false b bound q)))

  pub copied_all : (bound : ℕ) → ((b : ℕ) → bound ≤ b → b < size → 0 ≡ f b) → copied_to size f bound ≡ tabulate size f
  copied_all bound rest = tabulate_same size (λ b. cond (ltb b bound) (f b) 0) f (λ b h. go b h (ltb b bound) refl)
    where
      go : (b : ℕ) → b < size → (t : Bool) → ltb b bound ≡ t → cond t (f b) 0 ≡ f b
      go b h true q = refl
      go b h false q = rest b (ltb-false b bound q) h

-- ---- the boards of the sorted bytes
module _ (squares : List ℕ) where
  abbrev pub board_by : ℕ → ℕ
  board_by board = cond (ltb board 2) (colour_squares squares board) (get_or squares board 0)

  pub boards_more : (code : ℕ) → 2 ≤ code → code < 14 → set (copied_to 14 board_by code) code (get_or squares code 0) ≡ copied_to 14 board_by (suc code)
  boards_more code l h =
      copied_more 14 board_by code (get_or squares code 0) h (sym (ap (λ (t : Bool). cond t (colour_squares squares code) (get_or squares code 0)) (le-ltb code 2 l)))

  pub boards_all : (code : ℕ) → code ≡ 14 → copied_to 14 board_by code ≡ boards_by squares
  unfolding boards_by
  boards_all code e = ap (copied_to 14 board_by) e ∙ copied_all 14 board_by 14 (λ b l h. absurd (omega arith))
