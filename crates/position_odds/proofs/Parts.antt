-- The test of a byte as the code makes it, a byte at a time. Assumes nothing.
use mathlib.Core.Path.{◌≡◌, refl, sym, ap, ap₂, ◌∙◌}
use mathlib.Core.Bool.{Bool, false, not, cond, ◌&&◌, and-false, not-not}
use mathlib.Core.List.{List}
use Prim.Native.Nat.{ℕ, zero, suc, ◌/◌, ◌^◌, ◌≤◌, ◌<◌}
use native.Mathlib.Omega.{arith}
use lib.Bits.{bit_and}
use lib.Dec.{eqb, leb}
use lib.ListN.{get_or}
use borrow.Author.Tests.{eq-eqb, ne_eqb, le-leb, lt-leb}
use Rattle.chess.specs.Codes.{is_piece}
use Rattle.bits.specs.Bitboard.{has}
use Rattle.bits.proofs.Machine.{asked}
use Rattle.bits.proofs.Those.{has_those}
use Rattle.position_boards.specs.Sound.{on, boards_with}
use Rattle.position_boards.specs.PrivateTested.{shared_by}
use Rattle.position_consistent.specs.Consistent.{agrees}
use Rattle.position_odds.specs.PrivateTested.{byte_right}

none_or_more : (x : ℕ) → not (leb 1 x) ≡ eqb x 0
none_or_more zero = refl
none_or_more (suc x) = ap not (le-leb 1 (suc x) (omega arith)) ∙ sym (ne_eqb (suc x) 0 (λ e. omega arith))

pub byte_agrees : (bbs bytes : List ℕ) (pieces k : ℕ) → k < 64 → pieces ≡ shared_by bbs 1 → byte_right bbs pieces (get_or bytes k 0) k ≡ agrees bbs bytes k
byte_agrees bbs bytes pieces k h e =
    ap (λ (t : Bool). cond (eqb (get_or bytes k 0) 0) t (is_piece (get_or bytes k 0) && on bbs (get_or bytes k 0) k))
    (ap (λ (x : ℕ). not (has x k)) e ∙ ap not (has_those 64 (λ j. leb 1 (boards_with bbs j)) k h) ∙ none_or_more (boards_with bbs k))

-- ---- in the code's order: what each of its returns gives
module _ (bbs : List ℕ) (pieces byte k : ℕ) where
  abbrev by : Bool → Bool → Bool
  by t u = cond t (not (has pieces k)) (u && on bbs byte k)

  pub right_empty : byte ≡ 0 → eqb (bit_and (pieces / 2 ^ k) 1) 0 ≡ byte_right bbs pieces byte k
  right_empty e =
      sym (not-not (eqb (bit_and (pieces / 2 ^ k) 1) 0)) ∙ ap not (asked pieces k)
      ∙ sym (ap (λ (t : Bool). by t (is_piece byte)) (eq-eqb byte 0 e))

  pub right_low : (byte ≡ 0 → ⊥) → byte < 2 → false ≡ byte_right bbs pieces byte k
  right_low n l = sym (ap₂ by (ne_eqb byte 0 n) (ap (λ (t : Bool). t && leb byte 13) (lt-leb 2 byte l)))

  pub right_high : (byte ≡ 0 → ⊥) → 13 < byte → false ≡ byte_right bbs pieces byte k
  right_high n l = sym (ap₂ by (ne_eqb byte 0 n) (ap (λ (t : Bool). leb 2 byte && t) (lt-leb byte 13 l) ∙ and-false (leb 2 byte)))

  pub right_piece : (i : ℕ) → (byte ≡ 0 → ⊥) → 2 ≤ byte → byte ≤ 13 → i ≡ byte → not (eqb (bit_and (get_or bbs i 0 / 2 ^ k) 1) 0) ≡ byte_right bbs pieces byte k
  right_piece i n l m e =
      asked (get_or bbs i 0) k ∙ ap (λ (c : ℕ). on bbs c k) e
      ∙ sym (ap₂ by (ne_eqb byte 0 n) (ap₂ ◌&&◌ (le-leb 2 byte l) (le-leb byte 13 m)))
