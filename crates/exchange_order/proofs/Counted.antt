-- Six kinds counted in one number: its hexadecimal digits are how often each kind stands there, so it is 111111 exactly if each stands there once. No digit
-- carries into the next, since none is above six. Assumes nothing.
use mathlib.Core.Path.{◌≡◌, refl, sym, subst, ◌∙◌}
use mathlib.Core.Bool.{Bool, true, false, ◌&&◌}
use mathlib.Core.List.{List}
use Prim.Native.Nat.{ℕ, zero, suc, ◌+◌, ◌*◌, ◌≤◌}
use native.Mathlib.Omega.{arith}
use lib.Dec.{T, eqb}
use lib.ListN.{get_or, get_or-eq_default}
use borrow.Author.Tests.{ne_eqb, eqb-true, eqb-false}
use Rattle.laws.proofs.Truth.{T_false}
use Rattle.laws.proofs.Tests.{entry_le}
use Rattle.bits.specs.Bitboard.{digit, how_many}
use Rattle.exchange_order.specs.Orders.{times_in, is_once, each_once, order}
use Rattle.exchange_order.specs.PrivateUnits.{units, unit_of}

-- a number with six digits
abbrev six : ℕ → ℕ → ℕ → ℕ → ℕ → ℕ → ℕ
six a b c d e f = a + 16 * b + 256 * c + 4096 * d + 65536 * e + 1048576 * f

abbrev is : ℕ → ℕ → ℕ
is k j = digit (eqb k j)

pub no_unit : (k : ℕ) → 6 ≤ k → unit_of k ≡ 0
no_unit k h = get_or-eq_default units 0 h

pub unit_le : (k : ℕ) → unit_of k ≤ 1048576
unit_le k = entry_le 1048576 units tt k

unit_is : (k : ℕ) → unit_of k ≡ six (is k 0) (is k 1) (is k 2) (is k 3) (is k 4) (is k 5)
unit_is zero = refl
unit_is (suc zero) = refl
unit_is (suc (suc zero)) = refl
unit_is (suc (suc (suc zero))) = refl
unit_is (suc (suc (suc (suc zero)))) = refl
unit_is (suc (suc (suc (suc (suc zero))))) = refl
unit_is (suc (suc (suc (suc (suc (suc m)))))) = past (suc (suc (suc (suc (suc (suc m)))))) (omega arith)
  where
    past : (k : ℕ) → 6 ≤ k → unit_of k ≡ six (is k 0) (is k 1) (is k 2) (is k 3) (is k 4) (is k 5)
    past k h =
        rw (
          no_unit k h,
          ne_eqb k 0 (λ e. omega arith),
          ne_eqb k 1 (λ e. omega arith),
          ne_eqb k 2 (λ e. omega arith),
          ne_eqb k 3 (λ e. omega arith),
          ne_eqb k 4 (λ e. omega arith),
          ne_eqb k 5 (λ e. omega arith),
        ) refl

-- the units of the first n
unfoldable pub packed : ℕ → List ℕ → ℕ
packed zero kinds = 0
packed (suc n) kinds = unit_of (get_or kinds n 0) + packed n kinds

pub packed_none : (kinds : List ℕ) → 0 ≡ packed 0 kinds
unfolding packed
packed_none kinds = refl

pub packed_one : (n : ℕ) (kinds : List ℕ) → packed n kinds + unit_of (get_or kinds n 0) ≡ packed (suc n) kinds
unfolding packed
packed_one n kinds = omega arith

pub packed_le : (n : ℕ) (kinds : List ℕ) → packed n kinds ≤ 1048576 * n
unfolding packed
packed_le zero kinds = omega arith
packed_le (suc n) kinds = omega (arith, unit_le (get_or kinds n 0), packed_le n kinds)

packed_is : (n : ℕ) (kinds : List ℕ)
    → packed n kinds ≡ six (times_in n kinds 0) (times_in n kinds 1) (times_in n kinds 2) (times_in n kinds 3) (times_in n kinds 4) (times_in n kinds 5)
unfolding packed how_many
packed_is zero kinds = refl
packed_is (suc n) kinds = omega (arith, unit_is (get_or kinds n 0), packed_is n kinds)

digit_le : (t : Bool) → digit t ≤ 1
digit_le true = omega arith
digit_le false = omega arith

times_le : (n : ℕ) (kinds : List ℕ) (k : ℕ) → times_in n kinds k ≤ n
unfolding how_many
times_le zero kinds k = omega arith
times_le (suc n) kinds k = omega (arith, digit_le (eqb (get_or kinds n 0) k), times_le n kinds k)

-- no digit carries
module _ (a b c d e f : ℕ) (ha : a ≤ 6) (hb : b ≤ 6) (hc : c ≤ 6) (hd : d ≤ 6) (he : e ≤ 6) (hf : f ≤ 6) (q : six a b c d e f ≡ 1118481) where
  ones : (a ≡ 1) × (b ≡ 1) × (c ≡ 1) × (d ≡ 1) × (e ≡ 1) × (f ≡ 1)
  ones = (omega arith, omega arith, omega arith, omega arith, omega arith, omega arith)

module _ (kinds : List ℕ) where
  abbrev t : ℕ → ℕ
  t k = times_in 6 kinds k

  once_is : each_once kinds ≡ (is_once kinds 0 && is_once kinds 1 && is_once kinds 2 && is_once kinds 3 && is_once kinds 4 && is_once kinds 5)
  unfolding each_once
  once_is = refl

  all_once : packed 6 kinds ≡ 1118481 → each_once kinds ≡ true
  all_once q =
      let w = ones (t 0) (t 1) (t 2) (t 3) (t 4) (t 5)
      (times_le 6 kinds 0) (times_le 6 kinds 1) (times_le 6 kinds 2) (times_le 6 kinds 3) (times_le 6 kinds 4) (times_le 6 kinds 5)
      (sym (packed_is 6 kinds) ∙ q) in
      rw (once_is, w.0, w.1, w.2, w.3, w.4, w.5) refl

  -- and back
  back : (a b c d e f : Bool) → T (a && b && c && d && e && f) → (a ≡ true) × (b ≡ true) × (c ≡ true) × (d ≡ true) × (e ≡ true) × (f ≡ true)
  back true true true true true true h = (refl, refl, refl, refl, refl, refl)
  back false b c d e f h = elim h [ ]
  back true false c d e f h = elim h [ ]
  back true true false d e f h = elim h [ ]
  back true true true false e f h = elim h [ ]
  back true true true true false f h = elim h [ ]
  back true true true true true false h = elim h [ ]

  counted : T (each_once kinds) → packed 6 kinds ≡ 1118481
  counted h =
      let w = back (is_once kinds 0) (is_once kinds 1) (is_once kinds 2) (is_once kinds 3) (is_once kinds 4) (is_once kinds 5) (subst T once_is h) in
      omega (
        arith,
        packed_is 6 kinds,
        eqb-true (t 0) 1 w.0,
        eqb-true (t 1) 1 w.1,
        eqb-true (t 2) 1 w.2,
        eqb-true (t 3) 1 w.3,
        eqb-true (t 4) 1 w.4,
        eqb-true (t 5) 1 w.5,
      )

  pub counts : eqb (packed 6 kinds) 1118481 ≡ each_once kinds
  counts = go (eqb (packed 6 kinds) 1118481) refl
    where
      go : (b : Bool) → eqb (packed 6 kinds) 1118481 ≡ b → b ≡ each_once kinds
      go true e = sym (all_once (eqb-true (packed 6 kinds) 1118481 e))
      go false e = sym (T_false (each_once kinds) (λ h. eqb-false (packed 6 kinds) 1118481 e (counted h)))

-- document 01's order is one
pub an_order : each_once order ≡ true
unfolding each_once how_many
an_order = refl
