-- What the functions' proofs cite. Assumes nothing.
use mathlib.Core.Path.{◌≡◌, refl, sym, ap, ap₂, ◌∙◌}
use mathlib.Core.Bool.{Bool, true, false, cond, ◌&&◌, false≢true}
use mathlib.Core.List.{List, [], ◌∷◌}
use Prim.Native.Nat.{ℕ, zero, suc, ◌+◌, ◌-◌, ◌*◌, ◌^◌, ◌≤◌, ◌<◌}
use native.Mathlib.Nat.{pow-succ', pow-le-pow_right, zero-add}
use native.Mathlib.Numerals.{add-one}
use native.Mathlib.Omega.{arith}
use lib.Dec.{eqb, leb}
use lib.ListN.{length, take, drop, get_or, length-drop, drop_of_length-le}
use lib.Seq.{drop-cons}
use borrow.Author.Tests.{eq-eqb, ne_eqb, lt-leb, le-leb, leb-true}
use Rattle.text_in.specs.Text.{text}
use Rattle.text_in.proofs.Parts.{rest}
use Rattle.line_tail.specs.Words.{is_figure, starts_with, decimal_from}
use Rattle.ledger_plain_row.specs.Plain.{figures_of, number_in, number_read, sign_in, is_points, score_in, is_half, half_between, is_own, no_row, plain_in}
use Rattle.ledger_plain_row.specs.declared.Number.{Number}
use Rattle.ledger_plain_row.specs.declared.PlainRow.{PlainRow}

pub both_true : (a b : Bool) → (a && b) ≡ true → (a ≡ true) × (b ≡ true)
both_true true b e = (refl, e)
both_true false b e = absurd (false≢true e)

-- ---- a byte between two
module _ (least most b : ℕ) where
  pub between_less : b < least → false ≡ (leb least b && leb b most)
  between_less h = rw (lt-leb least b h)

  pub between_up : least ≤ b → leb b most ≡ (leb least b && leb b most)
  between_up h = rw (le-leb least b h)

-- ---- a number as the row's own, and as a score's
module _ (n : Number) where
  pub own_none : (number : ℕ) → n.size ≡ 0 → false ≡ is_own number n
  own_none number h = rw (lt-leb 1 n.size (omega arith))

  pub own_some : (number : ℕ) → (n.size ≡ 0 → ⊥) → eqb n.value number ≡ is_own number n
  own_some number h = rw (le-leb 1 n.size (omega arith))

  pub points_none : (sign : ℕ) → n.size ≡ 0 → false ≡ is_points sign n
  points_none sign h = rw (lt-leb 1 n.size (omega arith))

  module _ (sign : ℕ) (h : n.size ≡ 0 → ⊥) where
    pub points_few : n.value < sign → false ≡ is_points sign n
    points_few k = rw (le-leb 1 n.size (omega arith), lt-leb sign n.value k)

    pub points_some : sign ≤ n.value → leb n.value 32767 ≡ is_points sign n
    points_some k = rw (le-leb 1 n.size (omega arith), le-leb sign n.value k)

-- ---- half points between spaces
module _ (s : List ℕ) where
  pub half_short : length s < 3 → false ≡ half_between s
  half_short h = rw (lt-leb 3 (length s) h)

  module _ (h : 3 ≤ length s) where
    pub half_close : (get_or s 0 0 ≡ 32 → ⊥) → false ≡ half_between s
    half_close k = rw (le-leb 3 (length s) h, ne_eqb (get_or s 0 0) 32 k)

    module _ (k : get_or s 0 0 ≡ 32) where
      pub half_other : is_half (get_or s 1 0) ≡ false → false ≡ half_between s
      half_other e = rw (le-leb 3 (length s) h, eq-eqb (get_or s 0 0) 32 k, e)

      pub half_there : is_half (get_or s 1 0) ≡ true → eqb (get_or s 2 0) 32 ≡ half_between s
      half_there e = rw (le-leb 3 (length s) h, eq-eqb (get_or s 0 0) 32 k, e)

-- ---- figures, turn by turn
pub figure_most : (b : ℕ) → is_figure b ≡ true → b ≤ 57
figure_most b e = leb-true b 57 (both_true (leb 48 b) (leb b 57) e).1

figures_more : (k b : ℕ) (s : List ℕ) → is_figure b ≡ true → figures_of (suc k) (b ∷ s) ≡ b ∷ figures_of k s
unfolding figures_of
figures_more k b s e = rw e

figures_no : (k b : ℕ) (s : List ℕ) → is_figure b ≡ false → figures_of (suc k) (b ∷ s) ≡ []
unfolding figures_of
figures_no k b s e = rw e

figures_none : (k : ℕ) → figures_of k [] ≡ []
unfolding figures_of
figures_none zero = refl
figures_none (suc k) = refl

figures_stop : (s : List ℕ) → figures_of 0 s ≡ []
unfolding figures_of
figures_stop s = refl

pub record Run (s : List ℕ) (n i : ℕ) : Type 0 where
  pub small : n < 10 ^ i
  pub few : i ≤ 18
  pub within : i ≤ length s
  pub size : length (figures_of 18 s) ≡ i + length (figures_of (18 - i) (drop i s))
  pub value : decimal_from 0 (figures_of 18 s) ≡ decimal_from n (figures_of (18 - i) (drop i s))

pub run_none : (s : List ℕ) → Run s 0 0
run_none s = record { small = omega arith; few = omega arith; within = omega arith; size = sym (zero-add (length (figures_of 18 s))); value = refl }

-- no number of up to 18 figures is past 64 bits
pub run_fits : (n i : ℕ) → n < 10 ^ i → i < 18 → 10 * n + 9 < 2 ^ 64
run_fits n i h k = let q = pow-le-pow_right {n = 10} (omega arith) {i = i} {j = 17} (omega arith) in omega (arith, q)

abbrev row_of : ℕ → ℕ → PlainRow
row_of front size = record { front = front; size = size }

abbrev number_of : ℕ → ℕ → Number
number_of size value = record { size = size; value = value }

module _ (s : List ℕ) (n i : ℕ) (r : Run s n i) where
  over : figures_of (18 - i) (drop i s) ≡ [] → number_of i n ≡ number_read (figures_of 18 s)
  unfolding decimal_from
  over e = ap₂ number_of (sym (r.size ∙ ap (λ (l : List ℕ). i + length l) e ∙ (let z : i + 0 ≡ i = omega arith in z))) (sym (r.value ∙ ap (decimal_from n) e))

  pub run_full : i ≡ 18 → number_of i n ≡ number_read (figures_of 18 s)
  run_full e = over (ap (λ (k : ℕ). figures_of k (drop i s)) (let z : 18 - i ≡ 0 = omega arith in z) ∙ figures_stop (drop i s))

  pub run_end : length s ≤ i → number_of i n ≡ number_read (figures_of 18 s)
  run_end h = over (ap (figures_of (18 - i)) (drop_of_length-le s h) ∙ figures_none (18 - i))

  module _ (h : i < length s) (k : i ≡ 18 → ⊥) where
    below : i < 18
    below = omega (arith, r.few)

    here : figures_of (18 - i) (drop i s) ≡ figures_of (suc (17 - i)) (get_or s i 0 ∷ drop (suc i) s)
    here = ap₂ figures_of (let z : 18 - i ≡ suc (17 - i) = omega (arith, below) in z) (drop-cons s i 0 h)

    pub run_stop : is_figure (get_or s i 0) ≡ false → number_of i n ≡ number_read (figures_of 18 s)
    run_stop e = over (here ∙ figures_no (17 - i) (get_or s i 0) (drop (suc i) s) e)

    pub run_more : is_figure (get_or s i 0) ≡ true → (m : ℕ) → m ≡ 10 * n + (get_or s i 0 - 48) → Run s m (i + 1)
    unfolding decimal_from
    run_more e m q =
        let b : ℕ = get_or s i 0 in
        let t : List ℕ = figures_of (18 - (i + 1)) (drop (i + 1) s) in
        let next : figures_of (18 - i) (drop i s) ≡ b ∷ t =
        here ∙ figures_more (17 - i) b (drop (suc i) s) e
        ∙ ap₂ (λ (k j : ℕ). b ∷ figures_of k (drop j s)) (let z : 17 - i ≡ 18 - (i + 1) = omega arith in z) (sym (add-one i)) in
        record {
          small = less (ten (10 ^ i) r.small);
          few = omega (arith, below);
          within = omega arith;
          size = r.size ∙ ap (λ (l : List ℕ). i + length l) next ∙ (let z : i + suc (length t) ≡ i + 1 + length t = omega arith in z);
          value = r.value ∙ ap (decimal_from n) next ∙ ap (λ (x : ℕ). decimal_from x t) (sym q);
        }
      where
        ten : (p : ℕ) → n < p → m < 10 * p
        ten p j = omega (arith, figure_most (get_or s i 0) e, q)

        less : m < 10 * 10 ^ i → m < 10 ^ (i + 1)
        less j = rw (add-one i, pow-succ' 10 i) j

-- ---- a number, and how far it goes
pub read_zero : (s : List ℕ) → starts_with 48 s ≡ true → number_of 1 0 ≡ number_read (number_in s)
unfolding decimal_from
read_zero s e = sym (ap (λ (b : Bool). number_read (cond b (text "0") (figures_of 18 s))) e)

pub read_other : (s : List ℕ) → starts_with 48 s ≡ false → number_read (figures_of 18 s) ≡ number_read (number_in s)
read_other s e = sym (ap (λ (b : Bool). number_read (cond b (text "0") (figures_of 18 s))) e)

starts_some : (byte : ℕ) (s : List ℕ) → starts_with byte s ≡ true → 1 ≤ length s
starts_some byte [] e = absurd (false≢true e)
starts_some byte (b ∷ s) e = omega arith

figures_fit : (k : ℕ) (s : List ℕ) → length (figures_of k s) ≤ length s
unfolding figures_of
figures_fit zero s = omega arith
figures_fit (suc k) [] = omega arith
figures_fit (suc k) (b ∷ s) = go (is_figure b) (figures_fit k s)
  where
    go : (t : Bool) → length (figures_of k s) ≤ length s → length (cond t (b ∷ figures_of k s) []) ≤ suc (length s)
    go true h = omega arith
    go false h = omega arith

pub number_fits : (s : List ℕ) → length (number_in s) ≤ length s
number_fits s = go (starts_with 48 s) refl
  where
    go : (t : Bool) → starts_with 48 s ≡ t → length (cond t (text "0") (figures_of 18 s)) ≤ length s
    go true e = starts_some 48 s e
    go false e = figures_fit 18 s

pub sign_fits : (s : List ℕ) → sign_in s ≤ length s
sign_fits s = go (starts_with 45 s) refl
  where
    go : (t : Bool) → starts_with 45 s ≡ t → cond t 1 0 ≤ length s
    go true e = starts_some 45 s e
    go false e = omega arith

-- ---- a score, by what was read behind its sign
module _ (s : List ℕ) (k : ℕ) (e : k ≡ sign_in s) (n : Number) (q : n ≡ number_read (number_in (take (length s - k) (drop k s)))) where
  shown_is : take (length s - k) (drop k s) ≡ drop (sign_in s) s
  shown_is = rest k s ∙ ap (λ (j : ℕ). drop j s) e

  read_is : n ≡ number_read (number_in (drop (sign_in s) s))
  read_is = q ∙ ap (λ (l : List ℕ). number_read (number_in l)) shown_is

  pub score_read : n.size ≤ length (take (length s - k) (drop k s))
  score_read = let z = ap (λ (m : Number). m.size) q in omega (arith, number_fits (take (length s - k) (drop k s)))

  points : (t : Bool) → is_points k n ≡ t → is_points (sign_in s) (number_read (number_in (drop (sign_in s) s))) ≡ t
  points t h = sym (ap₂ is_points e read_is) ∙ h

  behind : take (length (take (length s - k) (drop k s)) - n.size) (drop n.size (take (length s - k) (drop k s)))
      ≡ drop (length (number_in (drop (sign_in s) s))) (drop (sign_in s) s)
  behind = rest n.size (take (length s - k) (drop k s)) ∙ ap₂ (λ (j : ℕ) (l : List ℕ). drop j l) (ap (λ (m : Number). m.size) read_is) shown_is

  ended : (t : Bool) → starts_with 10 (take (length (take (length s - k) (drop k s)) - n.size) (drop n.size (take (length s - k) (drop k s)))) ≡ t
      → starts_with 10 (drop (length (number_in (drop (sign_in s) s))) (drop (sign_in s) s)) ≡ t
  ended t h = sym (ap (starts_with 10) behind) ∙ h

  pub score_none : is_points k n ≡ false → 0 ≡ score_in s
  unfolding score_in
  score_none h = rw (points false h)

  module _ (p : is_points k n ≡ true) where
    pub score_open : starts_with 10 (take (length (take (length s - k) (drop k s)) - n.size) (drop n.size (take (length s - k) (drop k s)))) ≡ false
        → 0 ≡ score_in s
    unfolding score_in
    score_open h = rw (points true p, ended false h)

    module _ (h : starts_with 10 (take (length (take (length s - k) (drop k s)) - n.size) (drop n.size (take (length s - k) (drop k s)))) ≡ true) where
      pub score_there : k + n.size + 1 ≡ score_in s
      unfolding score_in
      score_there = rw (points true p, ended true h) (ap₂ (λ (x y : ℕ). x + y + 1) e (ap (λ (m : Number). m.size) read_is))

      pub score_room : k + n.size + 1 ≤ length s
      score_room =
          let a = starts_some 10 (drop (length (number_in (drop (sign_in s) s))) (drop (sign_in s) s)) (ended true h) in
          let b = length-drop (length (number_in (drop (sign_in s) s))) (drop (sign_in s) s) in
          let d = length-drop (sign_in s) s in
          let z = ap (λ (m : Number). m.size) read_is in
          omega (arith, e)

-- ---- the row, by what was read in front
score_most : (s : List ℕ) → score_in s ≤ length s
unfolding score_in
score_most s =
    go (is_points (sign_in s) (number_read (number_in (drop (sign_in s) s)))) (starts_with 10 (drop (length (number_in (drop (sign_in s) s))) (drop (sign_in s) s))) refl
  where
    go : (a b : Bool) → starts_with 10 (drop (length (number_in (drop (sign_in s) s))) (drop (sign_in s) s)) ≡ b
        → cond (a && b) (sign_in s + length (number_in (drop (sign_in s) s)) + 1) 0 ≤ length s
    go true true e =
        let x = starts_some 10 (drop (length (number_in (drop (sign_in s) s))) (drop (sign_in s) s)) e in
        let y = length-drop (length (number_in (drop (sign_in s) s))) (drop (sign_in s) s) in
        omega (arith, length-drop (sign_in s) s)
    go true false e = omega arith
    go false b e = omega arith

module _ (number : ℕ) (s : List ℕ) (n : Number) (q : n ≡ number_read (number_in s)) where
  size_is : n.size ≡ length (number_in s)
  size_is = ap (λ (m : Number). m.size) q

  pub tell_fits : n.size ≤ length s
  tell_fits = omega (arith, size_is, number_fits s)

  said_is : take (length s - n.size) (drop n.size s) ≡ drop (length (number_in s)) s
  said_is = rest n.size s ∙ ap (λ (j : ℕ). drop j s) size_is

  own : (t : Bool) → is_own number n ≡ t → is_own number (number_read (number_in s)) ≡ t
  own t h = sym (ap (is_own number) q) ∙ h

  half : (t : Bool) → half_between (take (length s - n.size) (drop n.size s)) ≡ t → half_between (drop (length (number_in s)) s) ≡ t
  half t h = sym (ap half_between said_is) ∙ h

  pub tell_other : is_own number n ≡ false → no_row ≡ plain_in number s
  unfolding plain_in
  tell_other h = rw (own false h)

  module _ (o : is_own number n ≡ true) where
    pub tell_bare : half_between (take (length s - n.size) (drop n.size s)) ≡ false → no_row ≡ plain_in number s
    unfolding plain_in
    tell_bare h = rw (own true o, half false h)

    module _ (p : half_between (take (length s - n.size) (drop n.size s)) ≡ true) where
      pub tell_long : 3 ≤ length (take (length s - n.size) (drop n.size s))
      tell_long = leb-true 3 (length (take (length s - n.size) (drop n.size s)))
          (both_true (leb 3 (length (take (length s - n.size) (drop n.size s)))) _ p).0

      module _ (k : ℕ) (e : k ≡ score_in (take (length (take (length s - n.size) (drop n.size s)) - 3)
          (drop 3 (take (length s - n.size) (drop n.size s))))) where
        k_is : k ≡ score_in (drop 3 (drop (length (number_in s)) s))
        k_is = e ∙ ap score_in (rest 3 (take (length s - n.size) (drop n.size s)) ∙ ap (drop 3) said_is)

        pub tell_room : n.size + 3 + k ≤ length s
        tell_room =
            let a = score_most (drop 3 (drop (length (number_in s)) s)) in
            let b = length-drop 3 (drop (length (number_in s)) s) in
            let d = length-drop (length (number_in s)) s in
            let f = ap length said_is in
            omega (arith, k_is, tell_long, size_is)

        pub tell_none : k ≡ 0 → no_row ≡ plain_in number s
        unfolding plain_in
        tell_none h = rw (own true o, half true p, lt-leb 1 (score_in (drop 3 (drop (length (number_in s)) s))) (omega (arith, k_is)))

        pub tell_row : (k ≡ 0 → ⊥) → row_of n.size (n.size + 3 + k) ≡ plain_in number s
        unfolding plain_in
        tell_row h =
            rw (own true o, half true p, le-leb 1 (score_in (drop 3 (drop (length (number_in s)) s))) (omega (arith, k_is)))
            (ap₂ (λ (x y : ℕ). row_of x (x + 3 + y)) size_is k_is)
