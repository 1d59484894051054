-- A number that is kept as text and counted on. Assumes nothing.
use mathlib.Core.Path.{◌≡◌, refl, sym, ap, ap₂, ◌∙◌}
use mathlib.Core.Bool.{Bool, true, false, cond, ◌&&◌}
use mathlib.Core.List.{List, [], ◌∷◌, ◌++◌}
use Prim.Native.Nat.{ℕ, suc, ◌+◌, ◌-◌, ◌/◌, ◌%◌, ◌^◌, ◌≤◌, ◌<◌}
use native.Mathlib.Omega.{arith}
use lib.Dec.{eqb, leb, ltb}
use lib.ListN.{length, take, drop, get_or, set, length-append, length-set}
use lib.Seq.{take-suc, take-suc-set, take_at, drop_at}
use borrow.Author.Tests.{eq-eqb, ne_eqb, eqb-true, lt-leb, le-leb, leb-true, lt-ltb, le-ltb, ltb-true, ltb-false}
use Rattle.text_out.specs.Text.{Adds, digits_up_to, decimal_of}
use Rattle.text_out.proofs.Added.{adds_to, adds_length, adds_front, length_20}
use Rattle.ledger_joined_row.proofs.Laws.{and_left, and_right}
use Rattle.ledger_join.specs.Promises.{KeepsNumber, is_next}

-- ---- spelled
pub none_kept : (text : List ℕ) (n : ℕ) → length text ≡ 20 → n ≡ 18446744073709551615 → KeepsNumber text 0 n
none_kept text n l e = record { size = l; within = omega arith; number = λ h. absurd (no h) }
  where
    no : n + 1 < 2 ^ 64 → ⊥
    no h = omega arith

pub spelled : (old new : List ℕ) (n r : ℕ) → length old ≡ 20 → Adds old 0 (decimal_of (n + 1)) new r → KeepsNumber new r n
spelled old new n r l a =
    let h : 0 + length (decimal_of (n + 1)) ≤ length old = omega (arith, length_20 (n + 1)) in
    record { size = adds_length a h ∙ l; within = omega (arith, adds_to a h, length_20 (n + 1)); number = λ q. adds_front a h }

-- ---- one more
module _ (text : List ℕ) (k from to : ℕ) where
  pub next_none : k ≡ 0 → false ≡ is_next text k from to
  next_none h = rw (lt-leb 1 k (omega arith))

  module _ (h : k ≡ 0 → ⊥) where
    pub next_less : to ≤ from → false ≡ is_next text k from to
    next_less l = rw (le-leb 1 k (omega arith), ne_eqb to (from + 1) (λ q. no q))
      where
        no : to ≡ from + 1 → ⊥
        no q = omega arith

    pub next_more : from < to → 1 < to - from → false ≡ is_next text k from to
    next_more m l = rw (le-leb 1 k (omega arith), ne_eqb to (from + 1) (λ q. no q))
      where
        no : to ≡ from + 1 → ⊥
        no q = omega arith

    pub next_one : from < to → to - from ≤ 1 → ltb (get_or text (k - 1) 0) 57 ≡ is_next text k from to
    next_one m l = rw (le-leb 1 k (omega arith), eq-eqb to (from + 1) (omega arith))

  pub record Next : Type 0 where
    pub some : 1 ≤ k
    pub one : to ≡ from + 1
    pub less : get_or text (k - 1) 0 < 57

  pub next_is : is_next text k from to ≡ true → Next
  next_is e =
      let q = and_right (leb 1 k) (eqb to (from + 1) && ltb (get_or text (k - 1) 0) 57) e in
      record {
        some = leb-true 1 k (and_left (leb 1 k) (eqb to (from + 1) && ltb (get_or text (k - 1) 0) 57) e);
        one = eqb-true to (from + 1) (and_left (eqb to (from + 1)) (ltb (get_or text (k - 1) 0) 57) q);
        less = ltb-true (get_or text (k - 1) 0) 57 (and_right (eqb to (from + 1)) (ltb (get_or text (k - 1) 0) 57) q);
      }

-- ---- a number's digits before the last
front_digits : ℕ → List ℕ
front_digits m = cond (ltb m 10) [] (digits_up_to 19 (m / 10))

last_digit : (m : ℕ) → decimal_of m ≡ front_digits m ++ ((48 + m % 10) ∷ [])
unfolding digits_up_to front_digits
last_digit m = go (ltb m 10) refl
  where
    go : (t : Bool) → ltb m 10 ≡ t → cond t ((48 + m) ∷ []) (digits_up_to 19 (m / 10) ++ ((48 + m % 10) ∷ [])) ≡ cond t [] (digits_up_to 19 (m / 10))
        ++ ((48 + m % 10) ∷ [])
    go true e = ap (λ (d : ℕ). (48 + d) ∷ []) (let h = ltb-true m 10 e in let z : m ≡ m % 10 = omega arith in z)
    go false e = refl

front_next : (m : ℕ) → m % 10 < 9 → front_digits (m + 1) ≡ front_digits m
unfolding front_digits
front_next m h = go (ltb m 10) refl
  where
    go : (t : Bool) → ltb m 10 ≡ t → cond (ltb (m + 1) 10) [] (digits_up_to 19 ((m + 1) / 10)) ≡ cond t [] (digits_up_to 19 (m / 10))
    go true e = let q = ltb-true m 10 e in rw (lt-ltb (m + 1) 10 (omega arith))
    go false e =
        let q = ltb-false m 10 e in
        ap₂ (λ (x : Bool) (y : ℕ). cond x [] (digits_up_to 19 y)) (le-ltb (m + 1) 10 (omega arith)) (let z : (m + 1) / 10 ≡ m / 10 = omega arith in z)

-- two texts with one byte more, as long
same_last : (a b : List ℕ) (x y : ℕ) → a ++ (x ∷ []) ≡ b ++ (y ∷ []) → (a ≡ b) × (x ≡ y)
same_last a b x y e =
    let l = ap length e in
    let p = length-append a (x ∷ []) in
    let q = length-append b (y ∷ []) in
    let k : length b ≡ length a = omega arith in (
      sym (take_at a (x ∷ []) (length a) refl) ∙ ap (take (length a)) e ∙ take_at b (y ∷ []) (length a) k,
      ap (λ (t : List ℕ). get_or t 0 0) (sym (drop_at a (x ∷ []) (length a) refl) ∙ ap (drop (length a)) e ∙ drop_at b (y ∷ []) (length a) k),
    )

next_text : (text : List ℕ) (j m : ℕ) → j < length text → take (suc j) text ≡ decimal_of m → get_or text j 0 < 57
    → take (suc j) (set text j (get_or text j 0 + 1)) ≡ decimal_of (m + 1)
next_text text j m h e l =
    let x : ℕ = get_or text j 0 in
    let q = same_last (take j text) (front_digits m) x (48 + m % 10) (sym (take-suc text j 0 h) ∙ e ∙ last_digit m) in
    let d : m % 10 < 9 = omega (arith, q.1) in
    let y : x + 1 ≡ 48 + (m + 1) % 10 = omega (arith, q.1) in
    take-suc-set text j (x + 1) h ∙ ap₂ (λ (a : List ℕ) (b : ℕ). a ++ (b ∷ [])) (q.0 ∙ sym (front_next m d)) y ∙ sym (last_digit (m + 1))

pub counted : (text : List ℕ) (k from to : ℕ) → KeepsNumber text k from → is_next text k from to ≡ true
    → KeepsNumber (set text (k - 1) (get_or text (k - 1) 0 + 1)) k to
counted text k from to p e =
    let n = next_is text k from to e in
    let j : suc (k - 1) ≡ k = omega (arith, n.some) in
    record {
      size = length-set text (k - 1) (get_or text (k - 1) 0 + 1) ∙ p.size;
      within = p.within;
      number = λ h.
          ap (λ (x : ℕ). take x (set text (k - 1) (get_or text (k - 1) 0 + 1))) (sym j)
          ∙ next_text text (k - 1) (from + 1) (omega (arith, n.some, p.within, p.size))
          (ap (λ (x : ℕ). take x text) j ∙ p.number (omega (arith, n.one))) n.less
          ∙ ap decimal_of (let z : from + 1 + 1 ≡ to + 1 = omega (arith, n.one) in z);
    }
