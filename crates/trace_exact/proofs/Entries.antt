-- The sum over the trace's square entries is White's square weights in thirtieths less Black's: the score's own sums. Each entry is read
-- back from its place; a black piece's weight is the white one's on the turned square; and a sum over all squares does not change when
-- each is turned. Assumes nothing.
use mathlib.Core.Path.{◌≡◌, sym, ap, ap₂, ◌∙◌}
use mathlib.Core.Bool.{Bool, true, cond}
use mathlib.Core.List.{List, []}
use Prim.Native.Nat.{ℕ, ◌/◌, ◌%◌, ◌<◌}
use native.Mathlib.Omega.{arith}
use lib.Bits.{bit_xor}
use lib.IntN.{ℤ, pos, ◌+ℤ◌, ◌-ℤ◌, ◌*ℤ◌, +ℤ_idl}
use lib.ListN.{get_or}
use Rattle.laws.specs.Tests.{all_below, all_below2}
use Rattle.laws.specs.Sums.{sum_z, added}
use Rattle.laws.proofs.Truth.{T_true}
use Rattle.laws.proofs.Tests.{all2_at}
use Rattle.laws.proofs.Sums.{whole_same}
use Rattle.laws.proofs.Whole.{gated, gate_plus}
use Rattle.laws.proofs.Terms.{sum_plus, sum_minus, sum_times}
use Rattle.chess.specs.Codes.{code_of, kind_of, colour_of, is_piece}
use Rattle.places.specs.Places.{entry_place, weight_place}
use Rattle.chess.specs.Squares.{flip_of}
use Rattle.chess.proofs.Codes.{kind_back, colour_back}
use Rattle.bits.specs.Bitboard.{has, digit, squares}
use Rattle.bits.proofs.Turned.{gate, sum_turned, added_is}
use Rattle.attack.specs.Attacks.{standing}
use Rattle.score_pst.specs.Pst.{pst_of, grids, grid_entry}
use Rattle.score_material.specs.Pieces.{pieces}
use Rattle.score_tally.specs.Weights.{weighed_from, weight_sum}
use Rattle.trace.specs.Trace.{entry_at}
use Rattle.trace_shipped.specs.Weights.{square_weight}
use Rattle.trace_exact.specs.Exact.{shipped_whole, term, square_sum}

-- ---- the score's square weights, over all squares
-- the square weight of what stands on s, by kind, colour and phase
abbrev weight_on : List ℕ → ℕ → ℕ → ℕ → ℕ → ℤ
weight_on bbs kind colour phase s = gated (has (standing bbs kind colour) s) (pst_of (code_of kind colour) s phase)

weighed_is : (bbs : List ℕ) (colour phase : ℕ) → weight_sum bbs colour phase ≡ sum_z 6 (λ kind. sum_z 64 (weight_on bbs kind colour phase))
unfolding weight_sum weighed_from
weighed_is bbs colour phase =
    whole_same 6 (λ kind. added (λ s. pst_of (code_of kind colour) s phase) (pos 0) (squares (standing bbs kind colour)))
    (λ kind. sum_z 64 (weight_on bbs kind colour phase))
    (λ kind h. added_is (standing bbs kind colour) (λ s. pst_of (code_of kind colour) s phase) (pos 0) ∙ +ℤ_idl (sum_z 64 (weight_on bbs kind colour phase)))

-- y0·(x−2) + y1·(32−x)
abbrev pub thirtieths : List ℕ → ℕ → ℤ
thirtieths bbs colour = weight_sum bbs colour 0 *ℤ (pos (pieces bbs) -ℤ pos 2) +ℤ weight_sum bbs colour 1 *ℤ (pos 32 -ℤ pos (pieces bbs))

-- ---- what stands at a place
pub entry_at_holds : (bbs : List ℕ) (kind s colour : ℕ) → s < 64 → colour < 2
    → entry_at bbs (entry_place kind s colour) ≡ digit (has (standing bbs kind colour) (flip_of s colour))
unfolding entry_at
entry_at_holds bbs kind s colour hs hc =
    let i : ℕ = entry_place kind s colour in
    let ek : i / 128 ≡ kind = omega arith in
    let ec : i % 2 ≡ colour = omega arith in
    let es : i % 128 / 2 ≡ s = omega arith in
    ap₂ (λ (k t : ℕ). digit (has (standing bbs k (i % 2)) (flip_of t (i % 2)))) ek es
    ∙ ap (λ (c : ℕ). digit (has (standing bbs kind c) (flip_of s c))) ec

pub weight_at_holds : (kind phase s : ℕ) → phase < 2 → s < 64 → square_weight (weight_place kind phase s) ≡ pst_of (code_of kind 0) s phase
unfolding square_weight
weight_at_holds kind phase s hp hs =
    let i : ℕ = weight_place kind phase s in
    let ek : i / 128 ≡ kind = omega arith in
    let es : i % 64 ≡ s = omega arith in
    let ep : i % 128 / 64 ≡ phase = omega arith in
    ap₂ (λ (k t : ℕ). pst_of (code_of k 0) t (i % 128 / 64)) ek es ∙ ap (λ (h : ℕ). pst_of (code_of kind 0) s h) ep

-- ---- a white piece's weight is a black one's on the turned square
a_piece : (kind colour : ℕ) → kind < 6 → colour < 2 → is_piece (code_of kind colour) ≡ true
unfolding all_below2 all_below
a_piece kind colour hk hc = T_true (is_piece (code_of kind colour)) (all2_at 6 2 (λ k c. is_piece (code_of k c)) tt kind colour hk hc)

pst_is : (kind colour s phase : ℕ) → kind < 6 → colour < 2
    → pst_of (code_of kind colour) s phase ≡ get_or (get_or (get_or grids phase []) kind []) (grid_entry colour s) (pos 0)
unfolding pst_of
pst_is kind colour s phase hk hc = go (code_of kind colour) (a_piece kind colour hk hc) (kind_back kind colour hk hc) (colour_back kind colour hk hc)
  where
    go : (c : ℕ) → is_piece c ≡ true → kind_of c ≡ kind → colour_of c ≡ colour
        → cond (is_piece c) (get_or (get_or (get_or grids phase []) (kind_of c) []) (grid_entry (colour_of c) s) (pos 0)) (pos 0)
        ≡ get_or (get_or (get_or grids phase []) kind []) (grid_entry colour s) (pos 0)
    go c e k d =
        ap (λ (t : Bool). cond t (get_or (get_or (get_or grids phase []) (kind_of c) []) (grid_entry (colour_of c) s) (pos 0)) (pos 0)) e
        ∙ ap₂ (λ (x y : ℕ). get_or (get_or (get_or grids phase []) x []) (grid_entry y s) (pos 0)) k d

pst_turned : (kind s phase : ℕ) → kind < 6 → pst_of (code_of kind 0) s phase ≡ pst_of (code_of kind 1) (bit_xor s 56) phase
pst_turned kind s phase h = pst_is kind 0 s phase h (omega arith) ∙ sym (pst_is kind 1 (bit_xor s 56) phase h (omega arith))

-- ---- the sum
module _ (bbs : List ℕ) where
  abbrev entry_of : ℕ → ℤ
  entry_of i = pos (entry_at bbs i)

  abbrev X : ℤ
  X = pos (pieces bbs) -ℤ pos 2

  abbrev Y : ℤ
  Y = pos 32 -ℤ pos (pieces bbs)

  abbrev term_of : ℕ → ℕ → ℕ → ℤ
  term_of kind s colour = term shipped_whole entry_of (pos (pieces bbs)) kind s colour

  -- what a piece of a kind and a colour on s adds
  abbrev adds : ℕ → ℕ → ℕ → ℤ
  adds kind colour s = weight_on bbs kind colour 0 s *ℤ X +ℤ weight_on bbs kind colour 1 s *ℤ Y

  term_is : (kind s colour : ℕ) → s < 64 → colour < 2
      → term_of kind s colour
      ≡ gated (has (standing bbs kind colour) (flip_of s colour)) (pst_of (code_of kind 0) s 0) *ℤ X
      +ℤ gated (has (standing bbs kind colour) (flip_of s colour)) (pst_of (code_of kind 0) s 1) *ℤ Y
  term_is kind s colour hs hc =
      let t : Bool = has (standing bbs kind colour) (flip_of s colour) in
      let a : ℤ = pst_of (code_of kind 0) s 0 in
      let b : ℤ = pst_of (code_of kind 0) s 1 in
      ap₂ (λ (e : ℕ) (z : ℤ). pos e *ℤ z) (entry_at_holds bbs kind s colour hs hc)
      (ap₂ (λ (v w : ℤ). v *ℤ X +ℤ w *ℤ Y) (weight_at_holds kind 0 s (omega arith) hs) (weight_at_holds kind 1 s (omega arith) hs))
      ∙ gate t (a *ℤ X +ℤ b *ℤ Y)
      ∙ gate_plus t a b X Y

  white : (kind : ℕ) → kind < 6 → sum_z 64 (λ s. term_of kind s 0) ≡ sum_z 64 (adds kind 0)
  white kind h = whole_same 64 (λ s. term_of kind s 0) (adds kind 0) (λ s l. term_is kind s 0 l (omega arith))

  black : (kind : ℕ) → kind < 6 → sum_z 64 (λ s. term_of kind s 1) ≡ sum_z 64 (adds kind 1)
  black kind h =
      whole_same 64 (λ s. term_of kind s 1) (λ s. adds kind 1 (bit_xor s 56))
      (λ s l. term_is kind s 1 l (omega arith)
      ∙ ap₂ (λ (v w : ℤ). gated (has (standing bbs kind 1) (bit_xor s 56)) v *ℤ X +ℤ gated (has (standing bbs kind 1) (bit_xor s 56)) w *ℤ Y)
      (pst_turned kind s 0 h) (pst_turned kind s 1 h))
      ∙ sum_turned (adds kind 1)

  -- all squares of a kind, and all kinds of a colour
  kind_is : (kind colour : ℕ) → sum_z 64 (adds kind colour) ≡ sum_z 64 (weight_on bbs kind colour 0) *ℤ X +ℤ sum_z 64 (weight_on bbs kind colour 1) *ℤ Y
  kind_is kind colour =
      sum_plus 64 (λ s. weight_on bbs kind colour 0 s *ℤ X) (λ s. weight_on bbs kind colour 1 s *ℤ Y)
      ∙ ap₂ ◌+ℤ◌ (sum_times 64 (weight_on bbs kind colour 0) X) (sum_times 64 (weight_on bbs kind colour 1) Y)

  colour_is : (colour : ℕ) → sum_z 6 (λ kind. sum_z 64 (adds kind colour)) ≡ thirtieths bbs colour
  colour_is colour =
      whole_same 6 (λ kind. sum_z 64 (adds kind colour))
      (λ kind. sum_z 64 (weight_on bbs kind colour 0) *ℤ X +ℤ sum_z 64 (weight_on bbs kind colour 1) *ℤ Y) (λ kind l. kind_is kind colour)
      ∙ sum_plus 6 (λ kind. sum_z 64 (weight_on bbs kind colour 0) *ℤ X) (λ kind. sum_z 64 (weight_on bbs kind colour 1) *ℤ Y)
      ∙ ap₂ ◌+ℤ◌ (sum_times 6 (λ kind. sum_z 64 (weight_on bbs kind colour 0)) X) (sum_times 6 (λ kind. sum_z 64 (weight_on bbs kind colour 1)) Y)
      ∙ sym (ap₂ (λ (v w : ℤ). v *ℤ X +ℤ w *ℤ Y) (weighed_is bbs colour 0) (weighed_is bbs colour 1))

  pub square_sum_holds : square_sum shipped_whole entry_of (pos (pieces bbs)) ≡ thirtieths bbs 0 -ℤ thirtieths bbs 1
  unfolding square_sum
  square_sum_holds =
      whole_same 6 (λ kind. sum_z 64 (λ s. term_of kind s 0 -ℤ term_of kind s 1))
      (λ kind. sum_z 64 (adds kind 0) -ℤ sum_z 64 (adds kind 1))
      (λ kind l. sum_minus 64 (λ s. term_of kind s 0) (λ s. term_of kind s 1) ∙ ap₂ ◌-ℤ◌ (white kind l) (black kind l))
      ∙ sum_minus 6 (λ kind. sum_z 64 (adds kind 0)) (λ kind. sum_z 64 (adds kind 1))
      ∙ ap₂ ◌-ℤ◌ (colour_is 0) (colour_is 1)
