-- Words added are both phases' weights added: each weight is lifted by 128 and is then at most 245, so those of 4,096 pieces stay within their fields.
-- Assumes nothing.
use mathlib.Core.Path.{◌≡◌, refl, sym, ap, ◌∙◌, subst}
use mathlib.Core.Bool.{Bool, true, false}
use Prim.Native.Nat.{ℕ, ◌+◌, ◌*◌, ◌-◌, ◌/◌, ◌%◌, ◌<◌, ◌≤◌}
use native.Mathlib.Omega.{arith}
use lib.Dec.{eqb, leb, ltb, eqb→eq, leb→le}
use lib.IntN.{ℤ, pos, nat_abs, ◌+ℤ◌, ◌-ℤ◌}
use borrow.Author.Tests.{ltb-true, ltb-false}
use Rattle.laws.specs.Tests.{all_below, all_below2}
use Rattle.laws.proofs.Tests.{all_at, all2_at}
use Rattle.laws.proofs.Diff.{Diff, above_zero_rule, below_zero, diff_of, diff_pos, diff_add, diff_minus, diff_eq, diff_swap, abs_diff}
use Rattle.chess.specs.Codes.{code_of}
use Rattle.chess.specs.Squares.{flip_of}
use Rattle.chess.proofs.Codes.{white_le}
use Rattle.score_pst.specs.Pst.{pst_of}
use Rattle.score_pst.proofs.Table.{small}
use Rattle.score_weights.specs.PrivatePacked.{lifted, fields, packed_at, opening_in, ending_in}
use Rattle.score_weights.proofs.Past.{off_board, no_kind}

-- ---- one weight
lifted_diff : (z : ℤ) → nat_abs z ≤ 117 → Diff z (lifted z) 128 × (lifted z ≤ 245)
lifted_diff z h =
    let near = abs_diff z (above_zero_rule z) (below_zero z) 117 (diff_of z) h in
    let m : ℕ = above_zero_rule z + 128 - below_zero z in
    let low : below_zero z ≤ above_zero_rule z + 117 = near.1 in
    let high : above_zero_rule z ≤ below_zero z + 117 = near.0 in
    let w : z +ℤ pos 128 ≡ pos m =
    diff_eq (z +ℤ pos 128) (pos m) (above_zero_rule z + 128) (below_zero z + 0) m 0
    (diff_add z (pos 128) (above_zero_rule z) (below_zero z) 128 0 (diff_of z) (diff_pos 128)) (diff_pos m) (omega arith) in
    let e : lifted z ≡ m = ap nat_abs w in
    (subst (λ (x : ℕ). Diff z x 128) (sym e) (diff_swap z (above_zero_rule z) (below_zero z) m 128 (diff_of z) (omega arith)), omega (arith, e))

-- the word that a piece takes, its square as its colour sees it, has its own weights: tried for every piece and square
own : (kind colour s : ℕ) → kind < 6 → colour < 2 → s < 64
    → packed_at kind (flip_of s colour) ≡ fields (lifted (pst_of (code_of kind colour) s 0)) (lifted (pst_of (code_of kind colour) s 1)) 1
unfolding packed_at all_below all_below2 pst_of
own kind colour s hk hc hs =
    eqb→eq (packed_at kind (flip_of s colour)) (fields (lifted (pst_of (code_of kind colour) s 0)) (lifted (pst_of (code_of kind colour) s 1)) 1)
    (all2_at 6 64 (λ k t. eqb (packed_at k (flip_of t colour)) (fields (lifted (pst_of (code_of k colour) t 0)) (lifted (pst_of (code_of k colour) t 1)) 1))
    (all_at 2 (λ c. all_below2 6 64 (λ k t. eqb (packed_at k (flip_of t c))
    (fields (lifted (pst_of (code_of k c) t 0)) (lifted (pst_of (code_of k c) t 1)) 1))) tt colour hc) kind s hk hs)

-- no word is more than 245 in both fields
pub packed_le : (kind s : ℕ) → packed_at kind s ≤ 1099768529141
unfolding packed_at all_below2
packed_le kind s = by_kind (ltb kind 6) refl
  where
    none : 0 ≡ packed_at kind s → packed_at kind s ≤ 1099768529141
    none e = omega (arith, e)

    by_square : kind < 6 → (b : Bool) → ltb s 64 ≡ b → packed_at kind s ≤ 1099768529141
    by_square hk true e = leb→le (packed_at kind s) 1099768529141 (all2_at 6 64 (λ k t. leb (packed_at k t) 1099768529141) tt kind s hk (ltb-true s 64 e))
    by_square hk false e = none (off_board kind s (ltb-false s 64 e))

    by_kind : (b : Bool) → ltb kind 6 ≡ b → packed_at kind s ≤ 1099768529141
    by_kind true e = by_square (ltb-true kind 6 e) (ltb s 64) refl
    by_kind false e = none (no_kind kind s (ltb-false kind 6 e))

-- ---- a sum of words, and both phases' sums
pub record Unpacked (sum count : ℕ) (opening ending : ℤ) : Type 0 where
  pub low : ℕ
  pub high : ℕ
  pub is : sum ≡ fields low high count
  pub first : Diff opening low (128 * count)
  pub last : Diff ending high (128 * count)
  pub low_le : low ≤ 245 * count
  pub high_le : high ≤ 245 * count

pub none_added : Unpacked 0 0 (pos 0) (pos 0)
none_added = record { low = 0; high = 0; is = omega arith; first = diff_pos 0; last = diff_pos 0; low_le = omega arith; high_le = omega arith }

pub one_piece : (kind colour s : ℕ) → kind < 6 → colour < 2 → s < 64
    → Unpacked (packed_at kind (flip_of s colour)) 1 (pst_of (code_of kind colour) s 0) (pst_of (code_of kind colour) s 1)
one_piece kind colour s hk hc hs =
    let code : code_of kind colour < 14 = (let l = white_le kind in omega arith) in
    let o = lifted_diff (pst_of (code_of kind colour) s 0) (small (code_of kind colour) s 0 code hs (omega arith)) in
    let e = lifted_diff (pst_of (code_of kind colour) s 1) (small (code_of kind colour) s 1 code hs (omega arith)) in
    record {
      low = lifted (pst_of (code_of kind colour) s 0);
      high = lifted (pst_of (code_of kind colour) s 1);
      is = own kind colour s hk hc hs;
      first = o.0;
      last = e.0;
      low_le = o.1;
      high_le = e.1;
    }

pub more_pieces : (v m w n : ℕ) (x y z u : ℤ) → Unpacked v m x y → Unpacked w n z u → Unpacked (v + w) (m + n) (x +ℤ z) (y +ℤ u)
more_pieces v m w n x y z u p q =
    let k : 128 * m + 128 * n ≡ 128 * (m + n) = omega arith in
    let i = p.is in
    let j = q.is in
    let a = p.low_le in
    let b = q.low_le in
    let c = p.high_le in
    let d = q.high_le in
    record {
      low = p.low + q.low;
      high = p.high + q.high;
      is = omega (arith, i, j);
      first = subst (λ (t : ℕ). Diff (x +ℤ z) (p.low + q.low) t) k (diff_add x z p.low (128 * m) q.low (128 * n) p.first q.first);
      last = subst (λ (t : ℕ). Diff (y +ℤ u) (p.high + q.high) t) k (diff_add y u p.high (128 * m) q.high (128 * n) p.last q.last);
      low_le = omega (arith, a, b);
      high_le = omega (arith, c, d);
    }

-- the sums are taken out again
module _ (sum count : ℕ) (opening ending : ℤ) (u : Unpacked sum count opening ending) (few : count ≤ 4096) where
  counted : sum / 1048576 / 1048576 ≡ count
  counted = let i = u.is in let a = u.low_le in let b = u.high_le in omega (arith, i, a, b)

  less : (field : ℕ) (z : ℤ) → Diff z field (128 * count) → pos field -ℤ pos (128 * (sum / 1048576 / 1048576)) ≡ z
  less field z d =
      ap (λ (n : ℕ). pos field -ℤ pos (128 * n)) counted
      ∙ diff_eq (pos field -ℤ pos (128 * count)) z (field + 0) (0 + 128 * count) field (128 * count)
      (diff_minus (pos field) (pos (128 * count)) field 0 (128 * count) 0 (diff_pos field) (diff_pos (128 * count))) d (omega arith)

  pub opening_is : opening_in sum ≡ opening
  opening_is =
      let i = u.is in
      let a = u.low_le in
      let e : sum % 1048576 ≡ u.low = omega (arith, i, a) in
      less (sum % 1048576) opening (subst (λ (f : ℕ). Diff opening f (128 * count)) (sym e) u.first)

  pub ending_is : ending_in sum ≡ ending
  ending_is =
      let i = u.is in
      let a = u.low_le in
      let b = u.high_le in
      let e : sum / 1048576 % 1048576 ≡ u.high = omega (arith, i, a, b) in
      less (sum / 1048576 % 1048576) ending (subst (λ (f : ℕ). Diff ending f (128 * count)) (sym e) u.last)
