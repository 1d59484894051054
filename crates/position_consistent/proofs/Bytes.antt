-- "Each board byte is the code whose bit is set there, or 0": the byte is a piece's code and that board has the square, or it is 0 and no piece
-- board has it. Assumes nothing.
use mathlib.Core.Path.{◌≡◌, refl, sym, ap, ap₂, ◌∙◌}
use mathlib.Core.Logic.{◌⊎◌, inl, inr, ⊎_elim}
use mathlib.Core.Bool.{Bool, true, false, cond, ◌&&◌}
use mathlib.Core.List.{List}
use Prim.Native.Nat.{ℕ, ◌+◌, ◌-◌, ◌<◌}
use native.Mathlib.Omega.{arith}
use lib.Dec.{T, eqb}
use lib.ListN.{get_or}
use borrow.Author.Tests.{eqb-true, eq-eqb, ne_eqb}
use Rattle.laws.specs.Tests.{all_below}
use Rattle.laws.proofs.Tests.{all_at, all_of}
use Rattle.laws.proofs.Truth.{true_T, T_true, and_l, and_r}
use Rattle.chess.specs.Codes.{is_piece}
use Rattle.bits.proofs.Counts.{none_many, many_none}
use Rattle.position_boards.specs.Sound.{on, boards_with}
use Rattle.position_consistent.specs.Consistent.{agrees}
use Rattle.position_boards.proofs.Apart.{code_from, code_to, code_is}

-- ---- an empty square
pub record Empty (bbs : List ℕ) (k : ℕ) : Type 0 where
  pub none : (c : ℕ) → T (is_piece c) → on bbs c k ≡ false

pub boards_with_empty : (bbs : List ℕ) (k : ℕ) → boards_with bbs k ≡ 0 → Empty bbs k
unfolding boards_with
boards_with_empty bbs k e = record {
  none = λ c p.
      let from = code_from c p in
      let to = code_to c p in
      let q : 2 + (c - 2) ≡ c = omega arith in
      ap (λ (b : ℕ). on bbs b k) (sym q) ∙ none_many 12 (λ n. on bbs (2 + n) k) e (c - 2) (omega arith);
}

pub empty_boards_with : (bbs : List ℕ) (k : ℕ) → Empty bbs k → boards_with bbs k ≡ 0
unfolding boards_with
empty_boards_with bbs k e = many_none 12 (λ n. on bbs (2 + n) k) (λ n h. e.none (2 + n) (code_is (2 + n) (omega arith) (omega arith)))

-- ---- at a square
module _ (bbs bytes : List ℕ) (k : ℕ) where
  -- the byte is 0 on an empty square
  pub record Vacant : Type 0 where
    pub zero : get_or bytes k 0 ≡ 0
    pub empty : Empty bbs k

  -- the byte is the code whose bit is set there
  pub record Occupied : Type 0 where
    pub piece : T (is_piece (get_or bytes k 0))
    pub there : on bbs (get_or bytes k 0) k ≡ true

  pub agrees_either : T (agrees bbs bytes k) → Vacant ⊎ Occupied
  agrees_either t = go (eqb (get_or bytes k 0) 0) refl t
    where
      go : (z : Bool) → eqb (get_or bytes k 0) 0 ≡ z → T (cond z (eqb (boards_with bbs k) 0) (is_piece (get_or bytes k 0) && on bbs (get_or bytes k 0) k))
          → Vacant ⊎ Occupied
      go true e u = inl (record {
        zero = eqb-true (get_or bytes k 0) 0 e;
        empty =
            boards_with_empty bbs k (eqb-true (boards_with bbs k) 0 (T_true (eqb (boards_with bbs k) 0) u));
      })
      go false e u =
          inr (record {
            piece = and_l (is_piece (get_or bytes k 0)) (on bbs (get_or bytes k 0) k) u;
            there = T_true (on bbs (get_or bytes k 0) k) (and_r (is_piece (get_or bytes k 0)) (on bbs (get_or bytes k 0) k) u);
          })

  pub vacant_agrees : Vacant → T (agrees bbs bytes k)
  vacant_agrees v =
      true_T
      (ap (λ (z : Bool). cond z (eqb (boards_with bbs k) 0) (is_piece (get_or bytes k 0) && on bbs (get_or bytes k 0) k)) (eq-eqb (get_or bytes k 0) 0 v.zero)
      ∙ eq-eqb (boards_with bbs k) 0 (empty_boards_with bbs k v.empty))

  pub occupied_agrees : Occupied → T (agrees bbs bytes k)
  occupied_agrees o =
      true_T
      (ap (λ (z : Bool). cond z (eqb (boards_with bbs k) 0) (is_piece (get_or bytes k 0) && on bbs (get_or bytes k 0) k))
      (ne_eqb (get_or bytes k 0) 0 (λ e. omega (arith, code_from (get_or bytes k 0) o.piece)))
      ∙ ap₂ ◌&&◌ (T_true (is_piece (get_or bytes k 0)) o.piece) o.there)

-- ---- over the board, both ways
pub agrees_everywhere : (bbs bytes : List ℕ) → T (all_below 64 (agrees bbs bytes)) → (k : ℕ) → k < 64 → Vacant bbs bytes k ⊎ Occupied bbs bytes k
agrees_everywhere bbs bytes t k h = agrees_either bbs bytes k (all_at 64 (agrees bbs bytes) t k h)

pub everywhere_agrees : (bbs bytes : List ℕ) → ((k : ℕ) → k < 64 → Vacant bbs bytes k ⊎ Occupied bbs bytes k) → T (all_below 64 (agrees bbs bytes))
everywhere_agrees bbs bytes e =
    all_of 64 (agrees bbs bytes) (λ k h. ⊎_elim (λ v. vacant_agrees bbs bytes k v) (λ o. occupied_agrees bbs bytes k o) (e k h))
