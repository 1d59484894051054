-- Consistency is its three parts, and what each says at a square. Assumes nothing.
use mathlib.Core.Path.{◌≡◌, refl, sym, ap, ap₂, ◌∙◌}
use mathlib.Core.Logic.{◌⊎◌, ⊎_elim}
use mathlib.Core.Bool.{Bool, true, false, ◌&&◌}
use mathlib.Core.List.{List}
use Prim.Native.Nat.{ℕ, ◌<◌}
use native.Mathlib.Omega.{arith}
use lib.Dec.{T, eqb}
use lib.ListN.{get_or}
use borrow.Author.Tests.{eqb-true, eqb-false, ne_eqb}
use Rattle.laws.specs.Tests.{all_below}
use Rattle.laws.proofs.Tests.{all_of}
use Rattle.laws.proofs.Truth.{true_T, T_true, and_l, and_r, or_l, or_r}
use Rattle.chess.specs.Codes.{is_piece}
use Rattle.position_boards.specs.Sound.{on, apart, united}
use Rattle.position_consistent.specs.Consistent.{agrees, consistent}
use Rattle.position_boards.specs.Boards.{is_byte, coded}
use Rattle.position_boards.proofs.Apart.{code_from, apart_everywhere}
use Rattle.position_consistent.proofs.Bytes.{Vacant, Occupied, agrees_everywhere}

pub three_consistent : (bbs bytes : List ℕ) → T (all_below 64 (apart bbs)) → T (all_below 64 (united bbs)) → T (all_below 64 (agrees bbs bytes))
    → consistent bbs bytes ≡ true
unfolding consistent
three_consistent bbs bytes a u b =
    ap₂ ◌&&◌ (ap₂ ◌&&◌ (T_true (all_below 64 (apart bbs)) a) (T_true (all_below 64 (united bbs)) u)) (T_true (all_below 64 (agrees bbs bytes)) b)

module _ (bbs bytes : List ℕ) (e : consistent bbs bytes ≡ true) where
  pub consistent_apart : T (all_below 64 (apart bbs))
  unfolding consistent
  consistent_apart = and_l (all_below 64 (apart bbs)) (all_below 64 (united bbs))
      (and_l (all_below 64 (apart bbs) && all_below 64 (united bbs)) (all_below 64 (agrees bbs bytes)) (true_T e))

  pub consistent_united : T (all_below 64 (united bbs))
  unfolding consistent
  consistent_united = and_r (all_below 64 (apart bbs)) (all_below 64 (united bbs))
      (and_l (all_below 64 (apart bbs) && all_below 64 (united bbs)) (all_below 64 (agrees bbs bytes)) (true_T e))

  pub consistent_agrees : T (all_below 64 (agrees bbs bytes))
  unfolding consistent
  consistent_agrees = and_r (all_below 64 (apart bbs) && all_below 64 (united bbs)) (all_below 64 (agrees bbs bytes)) (true_T e)

  either : (k : ℕ) → k < 64 → Vacant bbs bytes k ⊎ Occupied bbs bytes k
  either = agrees_everywhere bbs bytes consistent_agrees

  -- a piece's board has a square exactly where the byte is its code
  pub board_by_byte : (k : ℕ) → k < 64 → (c : ℕ) → T (is_piece c) → on bbs c k ≡ eqb (get_or bytes k 0) c
  board_by_byte k h c p = ⊎_elim vacant occupied (either k h)
    where
      vacant : Vacant bbs bytes k → on bbs c k ≡ eqb (get_or bytes k 0) c
      vacant v = v.empty.none c p ∙ sym (ap (λ (b : ℕ). eqb b c) v.zero ∙ ne_eqb 0 c (λ q. omega (arith, code_from c p)))

      occupied : Occupied bbs bytes k → on bbs c k ≡ eqb (get_or bytes k 0) c
      occupied o = go (eqb (get_or bytes k 0) c) refl (on bbs c k) refl
        where
          go : (t : Bool) → eqb (get_or bytes k 0) c ≡ t → (u : Bool) → on bbs c k ≡ u → u ≡ t
          go true q u r = sym r ∙ ap (λ (b : ℕ). on bbs b k) (sym (eqb-true (get_or bytes k 0) c q)) ∙ o.there
          go false q true r = absurd (eqb-false (get_or bytes k 0) c q ((apart_everywhere bbs consistent_apart k h).same (get_or bytes k 0) c o.piece p
              o.there r))
          go false q false r = refl

  -- and each byte is 0 or a piece's code
  pub consistent_coded : coded bytes ≡ true
  unfolding coded
  consistent_coded =
      T_true (all_below 64 (λ k. is_byte (get_or bytes k 0)))
      (all_of 64 (λ k. is_byte (get_or bytes k 0))
      (λ k h.
      ⊎_elim (λ v. or_l (eqb (get_or bytes k 0) 0) (is_piece (get_or bytes k 0)) (true_T (ap (λ (b : ℕ). eqb b 0) v.zero)))
      (λ o. or_r (eqb (get_or bytes k 0) 0) (is_piece (get_or bytes k 0)) o.piece) (either k h)))
