-- No other double is as near to the root as `root_of` gives, and there are no ties. The root is N·2^k units for an N of 53 digits; the doubles
-- next to it are 2^k units away, or half as many below a power of two, where the root is not below N·2^k. Assumes nothing.
use Rattle.std.proofs.Common.{◌≡◌, ℕ, zero, suc, ◌+◌, ◌-◌, ◌*◌, ◌/◌, ◌%◌, ◌^◌, ◌<◌, ◌≤◌, Bool, true, false, not, T, leb, ◌⊎◌, sym, refl, ap, ◌∙◌, subst, inl, inr, zero-le, le_trans, le_of_eq, lt_of_lt_of_le, lt_of_le_of_lt, le_of_lt, mul-le-mul_right, mod-lt, mul_assoc, suc-mul, mul_comm, mul-le-mul, lt_of_mul-lt-mul_right, mul-le-mul_left, mul-lt-mul_of_pos_right, mul-pos, pow-suc, lt_of_not-le, mul_right_comm, not-le_of_lt, arith, lit≤, leb→le, pow_pos, pow_mono, pow-add}
use native.Mathlib.Nat.{mul-mul-mul_comm}
use lib.Arith.{lt_of_le-ne}
use lib.Dec.{nleb→lt}
use Rattle.fit_root.specs.Root.{whole_root, nearest_root}
use Rattle.fit_root.specs.Whole.{IsRoot}
use Rattle.fit_root.specs.Closest.{IsDouble, IsNearest, Nearest}
use Rattle.fit_root.proofs.Whole.{whole_is, whole_fits, doubled_or_not}
use Rattle.fit_root.proofs.Rounded.{scaled_square, odd_square, root_value, root_low, itself_at_least, scaled_units, halved}

-- ---- doubles next to N·2^k
multiple : (p j k : ℕ) → k ≤ j → p * 2 ^ j ≡ p * 2 ^ (j - k) * 2 ^ k
multiple p j k h =
    let e : j ≡ j - k + k = omega arith in
    ap (λ (x : ℕ). p * 2 ^ x) e ∙ ap (λ (x : ℕ). p * x) (pow-add 2 (j - k) k) ∙ sym (mul_assoc p (2 ^ (j - k)) (2 ^ k))

small : (p j k : ℕ) → p < 2 ^ 53 → j < k → p * 2 ^ j ≤ 2 ^ 52 * 2 ^ k
small p j k h l =
    let a : p * 2 ^ j ≤ 2 ^ 53 * 2 ^ j = mul-le-mul_right (2 ^ j) (le_of_lt h) in
    let b : 2 ^ suc j ≤ 2 ^ k = pow_mono l in
    let c : 2 ^ suc j ≡ 2 ^ j * 2 = pow-suc 2 j in
    omega arith

pick : (a b : ℕ) → (a ≤ b) ⊎ (b < a)
pick a b = go (leb a b) (leb→le a b) (nleb→lt a b)
  where
    go : (t : Bool) → (T t → a ≤ b) → (T (not t) → b < a) → (a ≤ b) ⊎ (b < a)
    go true f g = inl (f tt)
    go false f g = inr (g tt)

module _ (N k w : ℕ) (d : IsDouble w) where
  -- from the places of 2^k on it is a multiple of 2^k
  at_multiple : k ≤ d.places → w ≡ d.digits * 2 ^ (d.places - k) * 2 ^ k
  at_multiple l = d.is ∙ multiple d.digits d.places k l

  -- and else it is small
  at_small : d.places < k → w ≤ 2 ^ 52 * 2 ^ k
  at_small l = le_trans (le_of_eq d.is) (small d.digits d.places k d.short l)

  pub next_above : 2 ^ 52 ≤ N → N * 2 ^ k < w → suc N * 2 ^ k ≤ w
  next_above lo h =
      elim (pick k d.places) [
        | inl l ↦
            let e = at_multiple l in
            let i : N < d.digits * 2 ^ (d.places - k) = lt_of_mul-lt-mul_right (2 ^ k) (lt_of_lt_of_le h (le_of_eq e)) in
            le_trans (mul-le-mul_right (2 ^ k) i) (le_of_eq (sym e))
        | inr l ↦ absurd (not-le_of_lt h (le_trans (at_small l) (mul-le-mul_right (2 ^ k) lo)))
      ]

  pub next_below : suc (2 ^ 52) ≤ N → w < N * 2 ^ k → w + 2 ^ k ≤ N * 2 ^ k
  next_below lo h =
      elim (pick k d.places) [
        | inl l ↦
            let e = at_multiple l in
            let c = d.digits * 2 ^ (d.places - k) in
            let i : c < N = lt_of_mul-lt-mul_right (2 ^ k) (lt_of_le_of_lt (le_of_eq (sym e)) h) in
            let f : suc c * 2 ^ k ≡ c * 2 ^ k + 2 ^ k = suc-mul c (2 ^ k) in
            let g : suc c * 2 ^ k ≤ N * 2 ^ k = mul-le-mul_right (2 ^ k) i in
            omega (arith, e)
        | inr l ↦
            let a = at_small l in
            let f : suc (2 ^ 52) * 2 ^ k ≡ 2 ^ 52 * 2 ^ k + 2 ^ k = suc-mul (2 ^ 52) (2 ^ k) in
            let g : suc (2 ^ 52) * 2 ^ k ≤ N * 2 ^ k = mul-le-mul_right (2 ^ k) lo in
            omega arith
      ]

-- ---- squares of middles
square_lt : (a b : ℕ) → a < b → a * a < b * b
square_lt a b h = lt_of_le_of_lt (mul-le-mul_left a (le_of_lt h)) (mul-lt-mul_of_pos_right h (lt_of_le_of_lt zero-le h))

-- Q U² is four times the number rooted, in units; q is the whole part of √Q
module _ (Q q U : ℕ) (P : 0 < U) (r : IsRoot Q q) where
  pub middle_over : (X : ℕ) → suc q * U ≤ X → Q * (U * U) < X * X
  middle_over X h =
      lt_of_lt_of_le (mul-lt-mul_of_pos_right r.high (mul-pos P P)) (le_trans (le_of_eq (sym (scaled_square (suc q) U))) (mul-le-mul h h))

  pub middle_under : (X : ℕ) → X < q * U → X * X < Q * (U * U)
  middle_under X h = lt_of_lt_of_le (square_lt X (q * U) h) (le_trans (le_of_eq (scaled_square q U)) (mul-le-mul_right (U * U) r.low))

  pub middle_odd : (X : ℕ) → (q * q ≡ Q → ⊥) → X ≤ q * U → X * X < Q * (U * U)
  middle_odd X n h =
      lt_of_le_of_lt (le_trans (mul-le-mul h h) (le_of_eq (scaled_square q U))) (mul-lt-mul_of_pos_right (lt_of_le-ne r.low n) (mul-pos P P))

-- ---- the nearest of all
fourfold : (a M h : ℕ) → M * (2 ^ h * 2 ^ h) ≡ a * 2 ^ 60 → 4 * (a * 2 ^ 1074) ≡ M * 2 ^ 54 * (2 ^ (h + 481) * 2 ^ (h + 481))
fourfold a M h e =
    let z = 2 ^ h in
    let w : 2 ^ (h + 481) * 2 ^ (h + 481) ≡ z * z * 2 ^ 962 = rw (pow-add 2 h 481) (mul-mul-mul_comm z (2 ^ 481) z (2 ^ 481)) in
    let x : M * 2 ^ 54 * (z * z * 2 ^ 962) ≡ M * (z * z) * (2 ^ 54 * 2 ^ 962) = mul-mul-mul_comm M (2 ^ 54) (z * z) (2 ^ 962) in
    let y : a * 2 ^ 60 * 2 ^ 1016 ≡ a * 2 ^ 1076 = mul_assoc a (2 ^ 60) (2 ^ 1016) in
    let v : 4 * (a * 2 ^ 1074) ≡ a * 2 ^ 1076 = mul_comm 4 (a * 2 ^ 1074) ∙ mul_assoc a (2 ^ 1074) 4 in
    v ∙ sym y ∙ ap (λ (b : ℕ). b * 2 ^ 1016) (sym e) ∙ sym x ∙ ap (λ (b : ℕ). M * 2 ^ 54 * b) (sym w)

half_cases : (q N : ℕ) → N ≡ (q + 1) / 2 → (q ≡ N * 2) ⊎ (suc q ≡ N * 2)
half_cases q N e = go (q % 2) refl
  where
    go : (b : ℕ) → q % 2 ≡ b → (q ≡ N * 2) ⊎ (suc q ≡ N * 2)
    go zero h = inl (omega arith)
    go (suc b) h = inr (omega arith)

twice_over : (N U w : ℕ) → suc N * U ≤ w → suc (N * 2) * U ≤ N * U + w
twice_over N U w h =
    let a : suc N * U ≡ N * U + U = suc-mul N U in
    let b : suc (N * 2) * U ≡ N * 2 * U + U = suc-mul (N * 2) U in
    let c : N * 2 * U ≡ N * U * 2 = mul_right_comm N 2 U in
    omega arith

twice_under : (q N U w : ℕ) → q ≡ N * 2 → w < N * U → N * U + w < q * U
twice_under q N U w e h =
    let c : q * U ≡ N * U * 2 = ap (λ (x : ℕ). x * U) e ∙ mul_right_comm N 2 U in
    omega arith

twice_odd : (q N U w : ℕ) → suc q ≡ N * 2 → w + U ≤ N * U → N * U + w ≤ q * U
twice_odd q N U w e h =
    let a : suc q * U ≡ q * U + U = suc-mul q U in
    let c : suc q * U ≡ N * U * 2 = ap (λ (x : ℕ). x * U) e ∙ mul_right_comm N 2 U in
    omega arith

at_least_half : (q N : ℕ) → N ≡ (q + 1) / 2 → suc q ≤ suc (N * 2)
at_least_half q N e = omega arith

half_low : (q N : ℕ) → 2 ^ 53 ≤ q → N ≡ (q + 1) / 2 → 2 ^ 52 ≤ N
half_low q N h e = omega arith

odd_low : (q N : ℕ) → 2 ^ 53 ≤ q → suc q ≡ N * 2 → suc (2 ^ 52) ≤ N
odd_low q N h e = omega arith

odd_one : (q N : ℕ) → suc q ≡ N * 2 → q % 2 ≡ 1
odd_one q N e = omega arith

nearest_at : (a M h q N : ℕ) → M * (2 ^ h * 2 ^ h) ≡ a * 2 ^ 60 → IsRoot (M * 2 ^ 54) q → 2 ^ 53 ≤ q → N ≡ (q + 1) / 2 → IsNearest a (N * 2 ^ (h + 481))
nearest_at a M h q N e r ql n = record { over = over; under = under }
  where
    over : (w : ℕ) → IsDouble w → N * 2 ^ (h + 481) < w → 4 * (a * 2 ^ 1074) < (N * 2 ^ (h + 481) + w) * (N * 2 ^ (h + 481) + w)
    over w d l =
        lt_of_le_of_lt (le_of_eq (fourfold a M h e))
        (middle_over (M * 2 ^ 54) q (2 ^ (h + 481)) (pow_pos (h + 481)) r (N * 2 ^ (h + 481) + w)
        (le_trans (mul-le-mul_right (2 ^ (h + 481)) (at_least_half q N n)) (twice_over N (2 ^ (h + 481)) w (next_above N (h + 481) w d (half_low q N ql n) l))))

    below : (w : ℕ) → IsDouble w → w < N * 2 ^ (h + 481) → (N * 2 ^ (h + 481) + w) * (N * 2 ^ (h + 481) + w) < M * 2 ^ 54 * (2 ^ (h + 481) * 2 ^ (h + 481))
    below w d l =
        elim (half_cases q N n) [
          | inl x ↦ middle_under (M * 2 ^ 54) q (2 ^ (h + 481)) (pow_pos (h + 481)) r (N * 2 ^ (h + 481) + w) (twice_under q N (2 ^ (h + 481)) w x l)
          | inr x ↦
              middle_odd (M * 2 ^ 54) q (2 ^ (h + 481)) (pow_pos (h + 481)) r (N * 2 ^ (h + 481) + w)
              (λ z. odd_square q (M * 2 ^ 53) (odd_one q N x) (z ∙ sym (mul_assoc M (2 ^ 53) 2)))
              (twice_odd q N (2 ^ (h + 481)) w x (next_below N (h + 481) w d (odd_low q N ql x) l))
        ]

    under : (w : ℕ) → IsDouble w → w < N * 2 ^ (h + 481) → (N * 2 ^ (h + 481) + w) * (N * 2 ^ (h + 481) + w) < 4 * (a * 2 ^ 1074)
    under w d l = lt_of_lt_of_le (below w d l) (le_of_eq (sym (fourfold a M h e)))

-- ---- an m below 2^53 moved up to 53 digits
record Normal (m : ℕ) : Type 0 where
  M : ℕ
  e : ℕ
  same : M * 2 ^ e ≡ m * 2 ^ 60
  from : 2 ^ 52 ≤ M
  under : M < 2 ^ 53

pub moved_up : (p e : ℕ) → 0 < e → p * 2 * 2 ^ (e - 1) ≡ p * 2 ^ e
moved_up p zero h = absurd (omega arith)
moved_up p (suc e) h = let z : suc e - 1 ≡ e = omega arith in rw (z, pow-suc 2 e, mul_comm (2 ^ e) 2) (mul_assoc p 2 (2 ^ e))

more_room : (p n : ℕ) → 2 ^ 52 ≤ p * 2 ^ suc n → 2 ^ 52 ≤ p * 2 * 2 ^ n
more_room p n h = le_trans h (le_of_eq (ap (λ (x : ℕ). p * x) (pow-suc 2 n ∙ mul_comm (2 ^ n) 2) ∙ sym (mul_assoc p 2 (2 ^ n))))

doubled_short : (p : ℕ) → p < 2 ^ 52 → p * 2 < 2 ^ 53
doubled_short p h = omega arith

reached : (p n : ℕ) → n ≡ 0 → 2 ^ 52 ≤ p * 2 ^ n → 2 ^ 52 ≤ p
reached p n e h = let z : p * 2 ^ n ≡ p * 1 = ap (λ (x : ℕ). p * 2 ^ x) e in omega arith

normal_from : (m n p e : ℕ) → p * 2 ^ e ≡ m * 2 ^ 60 → p < 2 ^ 53 → 2 ^ 52 ≤ p * 2 ^ n → n < e → Normal m
normal_from m zero p e q u h l = record { M = p; e = e; same = q; from = reached p 0 refl h; under = u }
normal_from m (suc n) p e q u h l =
    elim (pick (2 ^ 52) p) [
      | inl g ↦ record { M = p; e = e; same = q; from = g; under = u }
      | inr g ↦ normal_from m n (p * 2) (e - 1) (moved_up p e (omega arith) ∙ q) (doubled_short p g) (more_room p n h) (omega arith)
    ]

normal : (m : ℕ) → 0 < m → m < 2 ^ 53 → Normal m
normal m P h = normal_from m 52 m 60 refl h (omega arith) (omega arith)

-- ---- every a that a double can have
fewer : (x y : ℕ) → 2 ^ x < 2 ^ y → x < y
fewer x y h = lt_of_not-le (λ (g : y ≤ x). not-le_of_lt h (pow_mono g))

half_most : (x : ℕ) → 52 + x < 2158 → x / 2 ≤ 1052
half_most x h = omega arith

exponent : (M x b : ℕ) → 2 ^ 52 ≤ M → M * 2 ^ x ≡ b * 2 ^ 60 → b < 2 ^ 2098 → x / 2 ≤ 1052
exponent M x b h e l =
    half_most x (fewer (52 + x) 2158
    (lt_of_le_of_lt (le_trans (le_of_eq (pow-add 2 52 x)) (le_trans (mul-le-mul_right (2 ^ x) h) (le_of_eq e)))
    (lt_of_lt_of_le (mul-lt-mul_of_pos_right l (pow_pos 60)) (le_of_eq (sym (pow-add 2 2098 60))))))

reach : (a : ℕ) → a < 2 ^ 2098 → a * 4 ^ 64 < 4 ^ 1200
reach a h = lt_of_lt_of_le (mul-lt-mul_of_pos_right h (pow_pos 128)) (lit≤ tt)

pub nearest_root_holds : (m k : ℕ) → 0 < m → m < 2 ^ 53 → m * 2 ^ k < 2 ^ 2098 → Nearest (m * 2 ^ k) (nearest_root (m * 2 ^ k))
nearest_root_holds m k P u b = go (normal m P u)
  where
    go : Normal m → Nearest (m * 2 ^ k) (nearest_root (m * 2 ^ k))
    go n =
        let x = n.e + k in
        let M = n.M * (1 + x % 2) in
        let h = x / 2 in
        let q = whole_root 54 (M * 2 ^ 54) in
        let same : M * (2 ^ h * 2 ^ h) ≡ m * 2 ^ k * 2 ^ 60 = scaled_units m k n.M n.e n.same in
        let lo : 2 ^ 52 ≤ M = le_trans n.from (itself_at_least n.M x) in
        let hi : M < 2 ^ 54 - 1 = doubled_or_not n.M (x % 2) n.under (mod-lt x (pow_pos 1)) in
        let r : IsRoot (M * 2 ^ 54) q = whole_is 54 (M * 2 ^ 54) (whole_fits M hi) in
        let ql : 2 ^ 53 ≤ q = root_low M q lo (subst (λ (z : ℕ). IsRoot z q) (sym (mul_assoc M (2 ^ 53) 2)) r) in
        let hh : h ≤ 1052 = exponent n.M x (m * 2 ^ k) n.from (sym (halved n.M x) ∙ same) b in
        record {
          units = (q + 1) / 2 * 2 ^ (h + 481);
          value = root_value (m * 2 ^ k) M h same lo hi hh (reach (m * 2 ^ k) b);
          nearest = nearest_at (m * 2 ^ k) M h q ((q + 1) / 2) same r ql refl;
        }
