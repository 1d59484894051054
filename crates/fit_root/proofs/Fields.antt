-- The cases of `sqrt`, and what a double's fields say of its size. Assumes nothing.
use Rattle.std.proofs.Common.{◌≡◌, ℕ, zero, suc, ◌+◌, ◌*◌, ◌/◌, ◌%◌, ◌^◌, ◌<◌, ◌≤◌, Bool, true, false, cond, ◌&&◌, T, eqb, leb, ℤ, sym, refl, ap, ◌∙◌, subst, inl, inr, true≢false, lt_irrefl, zero-lt-suc, eq-zero-or-pos, add_comm, mul-pos, zero-mul, mul-div_cancel, arith, pow_pos, ltb-false, ltb-true, eq-eqb, ne_eqb, eqb-true, leb-false}
use lib.Ieee.{Float, nan, inf, fin, Format, binary64, prec, low, hid, ones, up, down, of_fields, of_bits, to_bits, fits, eq, lt, ne, div}
use lib.Ieee.Fits.{up_pos, down_pos}
use lib.Ieee.Exact.{HasValue, odd_sign}
use lib.Ieee.Bits.{of_bits-to_bits}
use lib.Ieee.Compare.{differs_from_itself, nan_differs}
use borrow.Author.Tests.{lt-leb}
use Rattle.doubles.specs.Doubles.{d0}
use Rattle.fit_root.specs.Root.{nearest_root, root_of}

pub both_l : (a b : Bool) → a && b ≡ true → a ≡ true
both_l true b e = refl
both_l false b e = e

size_pos : (m : ℕ) (e : ℤ) → 0 < suc m * up e * 1
size_pos m e = mul-pos (mul-pos (zero-lt-suc m) (up_pos e)) (zero-lt-suc 0)

nought : (d : ℕ) → 0 * 1 * d ≡ 0
nought d = zero-mul d

none : (a b : ℕ) → 0 * a * 1 + 0 * 1 * b ≡ 0
none a b = rw (zero-mul a, zero-mul b)

never : (a : ℕ) → a < 0 → ⊥
never a h = omega arith

low_clash : (a b : ℕ) → 0 < a → a + b ≤ 0 → ⊥
low_clash a b h k = omega arith

-- ---- 1. the cases
pub at_nan : (x : Float) → ne x x ≡ true → x ≡ root_of x
unfolding root_of
at_nan x h = subst (λ (y : Float). y ≡ root_of y) (sym (differs_from_itself x (subst T (sym h) tt))) refl

pub at_zero : (x : Float) → eq x d0 ≡ true → x ≡ root_of x
unfolding root_of eq of_bits
at_zero nan h = absurd (true≢false (sym h))
at_zero (inf s) h = absurd (true≢false (sym h))
at_zero (fin s zero e) h = refl
at_zero (fin s (suc m) e) h = absurd (lt_irrefl 0 (subst (λ (z : ℕ). 0 < z)
    (eqb-true (suc m * up e * 1) (0 * 1 * down e) (both_l (eqb (suc m * up e * 1) (0 * 1 * down e)) _ h) ∙ nought (down e)) (size_pos m e)))

pub at_negative : (x : Float) → lt x d0 ≡ true → div binary64 d0 d0 ≡ root_of x
unfolding root_of lt of_bits div
at_negative nan h = absurd (true≢false (sym h))
at_negative (inf true) h = refl
at_negative (inf false) h = absurd (true≢false (sym h))
at_negative (fin true zero e) h = absurd (lt_irrefl 0 (subst (λ (z : ℕ). 0 < z) (none (up e) (down e)) (ltb-true 0 (0 * up e * 1 + 0 * 1 * down e) h)))
at_negative (fin true (suc m) e) h = refl
at_negative (fin false m e) h = absurd (never (m * up e * 1) (subst (λ (z : ℕ). m * up e * 1 < z) (nought (down e))
    (ltb-true (m * up e * 1) (0 * 1 * down e) h)))

-- ---- 2. what is left is above zero
pub data Above : Float → Type 0 where
  endless : Above (inf false)
  some : {m : ℕ} {e : ℤ} → Above (fin false (suc m) e)

pub above : (x : Float) → ne x x ≡ false → eq x d0 ≡ false → lt x d0 ≡ false → Above x
unfolding eq lt of_bits
above nan a b c = absurd (true≢false (sym nan_differs ∙ a))
above (inf true) a b c = absurd (true≢false c)
above (inf false) a b c = endless
above (fin false zero e) a b c = absurd (true≢false (simp zero-mul at b))
above (fin true zero e) a b c = absurd (true≢false (simp zero-mul at b))
above (fin true (suc m) e) a b c = absurd (low_clash (suc m * up e * 1) (0 * 1 * down e) (size_pos m e) (ltb-false 0 (suc m * up e * 1 + 0 * 1 * down e) c))
above (fin false (suc m) e) a b c = some

-- ---- 3. the fields
pub field_value : (f : Format) (s : Bool) (t : ℕ) → HasValue (of_fields f s 0 t) s (t * 1) (2 ^ low f)
unfolding of_fields
field_value f s t = odd_sign (prec f) s t 0 (low f)

pub field_value_suc : (f : Format) (s : Bool) (y t : ℕ) → suc y < ones f → HasValue (of_fields f s (suc y) t) s ((hid f + t) * 2 ^ y) (2 ^ low f)
unfolding of_fields
field_value_suc f s y t h = rw (ne_eqb (suc y) (ones f) (λ e. lt_irrefl (ones f) (subst (λ (z : ℕ). z < ones f) e h)))
    (odd_sign (prec f) s (hid f + t) y (low f))

-- the root of a float by a value that it has
pub root_of_value : (x r : Float) (s : Bool) (a : ℕ) → Above x → HasValue x s a (2 ^ 1074) → r ≡ nearest_root a → r ≡ root_of x
unfolding root_of
root_of_value nan r s a x4 v h = elim x4 [ ]
root_of_value (inf true) r s a x9 v h = elim x9 [ ]
root_of_value (fin false zero e) r s a x15 v h = elim x15 [ ]
root_of_value (fin true _ e) r s a x13 v h = elim x13 [ ]
root_of_value (inf false) r s a endless v h = absurd v
root_of_value (fin false (suc m) e) r s a some v h = h ∙ ap nearest_root (sym (ap (λ (z : ℕ). z / down e) v.1 ∙ mul-div_cancel a (down_pos e)))

-- ---- 4. a finite number above zero has neither a sign bit nor the field of an infinity
abbrev Fin : Float → Type 0
Fin nan = ⊥
Fin (inf s) = ⊥
Fin (fin s m e) = Unit {0}

real : (s : Bool) (X t : ℕ) → X ≡ 2047 → Fin (of_fields binary64 s X t) → ⊥
unfolding of_fields
real s zero t h = absurd (omega arith)
real s (suc y) t h = rw (eq-eqb (suc y) 2047 h) (go (eqb t 0))
  where
    go : (b : Bool) → Fin (cond b (inf s) nan) → ⊥
    go true v = v
    go false v = v

pub sized : (s : Bool) (X t : ℕ) (x : Float) → X < 2048 → x ≡ of_fields binary64 s X t → Above x → Fin x → (X < 2047) × (s ≡ false)
sized s X t nan h e x5 v = elim x5 [ ]
sized s X t (inf true) h e x11 v = elim x11 [ ]
sized s X t (fin false zero d) h e x18 v = elim x18 [ ]
sized s X t (fin true _ d) h e x15 v = elim x15 [ ]
sized s X t (inf false) h e endless v = absurd v
sized s X t (fin false (suc m) d) h e some v = (under, sign X refl)
  where
    not_2047 : X ≡ 2047 → ⊥
    not_2047 z = real s X t z (subst Fin e tt)

    under : X < 2047
    under = omega (arith, not_2047)

    sign : (Y : ℕ) → X ≡ Y → s ≡ false
    sign zero z = sym (subst (λ (y : Float). HasValue y s (t * 1) (2 ^ 1074)) (sym (e ∙ ap (λ (w : ℕ). of_fields binary64 s w t) z))
        (field_value binary64 s t)).0
    sign (suc y) z = sym (subst (λ (w : Float). HasValue w s ((2 ^ 52 + t) * 2 ^ y) (2 ^ 1074)) (sym (e ∙ ap (λ (w : ℕ). of_fields binary64 s w t) z))
        (field_value_suc binary64 s y t (omega (arith, under)))).0

clear : (b : ℕ) → leb (2 ^ 63) b ≡ false → b < 2 ^ 63
clear b h = leb-false (2 ^ 63) b h

-- ---- 5. the bits b of an x above zero
module _ (x : Float) (A : Above x) (F : T (fits binary64 x)) where
  back : x ≡ of_fields binary64 (leb (2 ^ 63) (to_bits binary64 x)) (to_bits binary64 x % 2 ^ 63 / 2 ^ 52) (to_bits binary64 x % 2 ^ 52)
  back = sym (unfold of_bits in of_bits-to_bits binary64 x F)

  short : (b : ℕ) → b % 2 ^ 63 / 2 ^ 52 < 2048
  short b = omega arith

  finite_fields : Fin x → to_bits binary64 x / 2 ^ 52 < 2047
  finite_fields v =
      let b = to_bits binary64 x in
      let z = sized (leb (2 ^ 63) b) (b % 2 ^ 63 / 2 ^ 52) (b % 2 ^ 52) x (short b) back A v in
      low_field b (clear b z.1) z.0
    where
      low_field : (b : ℕ) → b < 2 ^ 63 → b % 2 ^ 63 / 2 ^ 52 < 2047 → b / 2 ^ 52 < 2047
      low_field b h k = omega arith

-- an infinity's field
pub endless_root : (x : Float) (A : Above x) → T (fits binary64 x) → to_bits binary64 x / 2 ^ 52 ≡ 2047 → x ≡ root_of x
unfolding root_of
endless_root nan A F h = elim A [ ]
endless_root (inf true) A F h = elim A [ ]
endless_root (fin false zero e) A F h = elim A [ ]
endless_root (fin true _ e) A F h = elim A [ ]
endless_root (inf false) endless F h = refl
endless_root (fin false (suc m) e) some F h = absurd (lt_irrefl 2047 (subst (λ (z : ℕ). z < 2047) h (finite_fields (fin false (suc m) e) some F tt)))

endless_field : to_bits binary64 (inf false) / 2 ^ 52 ≡ 2047
unfolding to_bits
endless_field = refl

pub field_below : (x : Float) (A : Above x) → T (fits binary64 x) → (to_bits binary64 x / 2 ^ 52 ≡ 2047 → ⊥) → to_bits binary64 x / 2 ^ 52 < 2047
field_below nan A F h = elim A [ ]
field_below (inf true) A F h = elim A [ ]
field_below (fin false zero e) A F h = elim A [ ]
field_below (fin true _ e) A F h = elim A [ ]
field_below (inf false) endless F h = absurd (h endless_field)
field_below (fin false (suc m) e) some F h = finite_fields (fin false (suc m) e) some F tt

-- by the field
module _ (x : Float) (A : Above x) (F : T (fits binary64 x)) where
  value : (b : ℕ) → b ≡ to_bits binary64 x → b < 2 ^ 63 → x ≡ of_fields binary64 false (b / 2 ^ 52) (b % 2 ^ 52)
  value b q h =
      let e : b % 2 ^ 63 / 2 ^ 52 ≡ b / 2 ^ 52 = omega arith in
      let k : leb (2 ^ 63) b ≡ false = lt-leb (2 ^ 63) b h in
      subst (λ (z : ℕ). x ≡ of_fields binary64 (leb (2 ^ 63) z) (z % 2 ^ 63 / 2 ^ 52) (z % 2 ^ 52)) (sym q) (back x A F) ∙ rw (e, k)

  value_zero : (b : ℕ) → b ≡ to_bits binary64 x → b / 2 ^ 52 ≡ 0 → HasValue x false (b % 2 ^ 52 * 1) (2 ^ 1074)
  value_zero b q h = subst (λ (y : Float). HasValue y false (b % 2 ^ 52 * 1) (2 ^ 1074))
      (sym (value b q (omega arith) ∙ ap (λ (z : ℕ). of_fields binary64 false z (b % 2 ^ 52)) h)) (field_value binary64 false (b % 2 ^ 52))

  pub root_small : (b : ℕ) (r : Float) → b ≡ to_bits binary64 x → b / 2 ^ 52 ≡ 0 → r ≡ nearest_root (b % 2 ^ 52 * 1) → r ≡ root_of x
  root_small b r q h k = root_of_value x r false (b % 2 ^ 52 * 1) A (value_zero b q h) k

  pub root_large : (b y : ℕ) (r : Float) → b ≡ to_bits binary64 x → b / 2 ^ 52 ≡ suc y → suc y < 2047 → r ≡ nearest_root ((b % 2 ^ 52 + 2 ^ 52) * 2 ^ y)
      → r ≡ root_of x
  root_large b y r q h l k =
      root_of_value x r false ((2 ^ 52 + b % 2 ^ 52) * 2 ^ y) A
      (subst (λ (w : Float). HasValue w false ((2 ^ 52 + b % 2 ^ 52) * 2 ^ y) (2 ^ 1074))
      (sym (value b q (omega arith) ∙ ap (λ (z : ℕ). of_fields binary64 false z (b % 2 ^ 52)) h)) (field_value_suc binary64 false y (b % 2 ^ 52) l))
      (rw (add_comm (2 ^ 52) (b % 2 ^ 52)) k)

-- a field of 0 has digits above 0
pub digits_above : (x : Float) (A : Above x) (F : T (fits binary64 x)) (b : ℕ) → b ≡ to_bits binary64 x → b / 2 ^ 52 ≡ 0 → 0 < b % 2 ^ 52
digits_above nan A F b q h = elim A [ ]
digits_above (inf true) A F b q h = elim A [ ]
digits_above (fin false zero e) A F b q h = elim A [ ]
digits_above (fin true _ e) A F b q h = elim A [ ]
digits_above (inf false) endless F b q h = absurd (omega (arith, endless_field))
digits_above (fin false (suc m) e) some F b q h =
    elim (eq-zero-or-pos (b % 2 ^ 52)) [
      | inl z ↦ absurd (lt_irrefl 0 (subst (λ (w : ℕ). 0 < w) ((value_zero (fin false (suc m) e) some F b q h).1 ∙ rw (z) (zero-mul (down e)))
          (mul-pos (mul-pos (zero-lt-suc m) (up_pos e)) (pow_pos 1074))))
      | inr p ↦ p
    ]
