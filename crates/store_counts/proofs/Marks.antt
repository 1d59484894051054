-- A record's squares marked one after another: after k squares each place has what the first k squares bring. Assumes nothing.
use Rattle.std.proofs.Common.{◌≡◌, ℕ, ◌+◌, ◌/◌, ◌%◌, ◌^◌, ◌<◌, ◌≤◌, Bool, true, false, cond, ◌&&◌, eqb, ltb, leb, List, length, get_or, set, sym, refl, ap, ◌∙◌, ap₂, add-zero, mod-eq_of_lt, arith, ext_get_or, ltb-false, ltb-true, le-ltb, lt-ltb, eq-eqb, ne_eqb, eqb-true, le-leb, leb-true}
use mathlib.Core.Bool.{and-false}
use borrow.Author.Tests.{eqb-false, lt-leb}
use Rattle.laws.specs.Tables.{tabulate}
use Rattle.laws.proofs.Tables.{entry, tabulate_length, tabulate_same, tabulate_set}
use Rattle.chess.specs.Codes.{is_piece}
use Rattle.store_record.specs.Record.{code_in}
use Rattle.store_counts.specs.Summary.{count_place, counted_code, counted_square, moved_by, summary_moved, marked_on}

-- ---- what stands on a square
pub even_on : (bytes : List ℕ) (k : ℕ) → k % 2 ≡ 0 → get_or bytes (k / 2) 0 % 16 ≡ code_in bytes k
even_on bytes k e = sym (ap (λ (t : Bool). cond t (get_or bytes (k / 2) 0 % 16) (get_or bytes (k / 2) 0 / 16 % 16)) (eq-eqb (k % 2) 0 e))

pub odd_on : (bytes : List ℕ) (k : ℕ) → (k % 2 ≡ 0 → ⊥) → get_or bytes (k / 2) 0 / 16 % 16 ≡ code_in bytes k
odd_on bytes k e = sym (ap (λ (t : Bool). cond t (get_or bytes (k / 2) 0 % 16) (get_or bytes (k / 2) 0 / 16 % 16)) (ne_eqb (k % 2) 0 e))

-- ---- one square
pub mark_low : (s : List ℕ) (code square once : ℕ) → code < 2 → s ≡ marked_on s code square once
mark_low s code square once h =
    sym (ap (λ (t : Bool). cond (t && leb code 13) (set s (count_place code square) ((get_or s (count_place code square) 0 + once) % 2 ^ 64)) s) (lt-leb 2 code h))

pub mark_high : (s : List ℕ) (code square once : ℕ) → 13 < code → s ≡ marked_on s code square once
mark_high s code square once h =
    sym (ap (λ (t : Bool). cond t (set s (count_place code square) ((get_or s (count_place code square) 0 + once) % 2 ^ 64)) s)
    (ap (λ (t : Bool). leb 2 code && t) (lt-leb code 13 h) ∙ and-false (leb 2 code)))

pub mark_piece : (s : List ℕ) (code square once : ℕ) → 2 ≤ code → code ≤ 13 → (place v : ℕ) → place ≡ count_place code square
    → v ≡ (get_or s place 0 + once) % 2 ^ 64 → set s place v ≡ marked_on s code square once
mark_piece s code square once l h place v e q =
    ap (set s place) q ∙ ap (λ (p : ℕ). set s p ((get_or s p 0 + once) % 2 ^ 64)) e
    ∙ sym (ap₂ (λ (t u : Bool). cond (t && u) (set s (count_place code square) ((get_or s (count_place code square) 0 + once) % 2 ^ 64)) s)
    (le-leb 2 code l) (le-leb code 13 h))

-- ---- what the first k squares bring to a place
abbrev pub stands_at : List ℕ → ℕ → Bool
stands_at bytes place = eqb (code_in bytes (counted_square place)) (counted_code place)

abbrev pub marks_by : ℕ → List ℕ → ℕ → ℕ → ℕ
marks_by once bytes k place = cond (leb 2 place) (cond (ltb (counted_square place) k) (cond (stands_at bytes place) once 0) 0) 0

abbrev pub marked : List ℕ → ℕ → List ℕ → ℕ → ℕ → ℕ
marked s once bytes k place = (get_or s place 0 + marks_by once bytes k place) % 2 ^ 64

abbrev pub marks_to : List ℕ → ℕ → List ℕ → ℕ → List ℕ
marks_to s once bytes k = tabulate 770 (marked s once bytes k)

-- no piece of square k is counted at the place: the place stays
stays : (once : ℕ) (bytes : List ℕ) (k place : ℕ) → (2 ≤ place → counted_square place ≡ k → code_in bytes k ≡ counted_code place → ⊥)
    → marks_by once bytes k place ≡ marks_by once bytes (k + 1) place
stays once bytes k place away = go (leb 2 place) refl
  where
    inner : 2 ≤ place → (a b c : Bool) → ltb (counted_square place) k ≡ a → ltb (counted_square place) (k + 1) ≡ b → stands_at bytes place ≡ c
        → cond a (cond c once 0) 0 ≡ cond b (cond c once 0) 0
    inner h true true c p q r = refl
    inner h false false c p q r = refl
    inner h true false c p q r = absurd (omega (arith, ltb-true (counted_square place) k p, ltb-false (counted_square place) (k + 1) q))
    inner h false true false p q r = refl
    inner h false true true p q r =
        let e : counted_square place ≡ k = omega (arith, ltb-false (counted_square place) k p, ltb-true (counted_square place) (k + 1) q) in
        absurd (away h e (ap (code_in bytes) (sym e) ∙ eqb-true (code_in bytes (counted_square place)) (counted_code place) r))

    go : (t : Bool) → leb 2 place ≡ t
        → cond t (cond (ltb (counted_square place) k) (cond (stands_at bytes place) once 0) 0) 0
        ≡ cond t (cond (ltb (counted_square place) (k + 1)) (cond (stands_at bytes place) once 0) 0) 0
    go true e = inner (leb-true 2 place e) (ltb (counted_square place) k) (ltb (counted_square place) (k + 1)) (stands_at bytes place) refl refl refl
    go false e = refl

module _ (s : List ℕ) (once : ℕ) (bytes : List ℕ) where
  -- before the first square: the summary as it was, whose numbers are of 64 bits
  pub marks_none : length s ≡ 770 → ((p : ℕ) → get_or s p 0 < 2 ^ 64) → s ≡ marks_to s once bytes 0
  marks_none n small =
      ext_get_or 0 s (marks_to s once bytes 0) (n ∙ sym (tabulate_length 770 (marked s once bytes 0)))
      (λ p h. sym (entry 770 (marked s once bytes 0) 0 p (omega arith)
      ∙ ap (λ (m : ℕ). (get_or s p 0 + m) % 2 ^ 64) (nothing p (leb 2 p) (ltb (counted_square p) 0) refl)
      ∙ ap (λ (m : ℕ). m % 2 ^ 64) (add-zero (get_or s p 0)) ∙ mod-eq_of_lt (small p)))
    where
      nothing : (p : ℕ) (t u : Bool) → ltb (counted_square p) 0 ≡ u → cond t (cond u (cond (stands_at bytes p) once 0) 0) 0 ≡ 0
      nothing p false u e = refl
      nothing p true false e = refl
      nothing p true true e = absurd (omega (arith, ltb-true (counted_square p) 0 e))

  -- one square more
  module _ (k : ℕ) (h : k < 64) where
    same_place : (p : ℕ) → (2 ≤ p → counted_square p ≡ k → code_in bytes k ≡ counted_code p → ⊥) → marked s once bytes k p ≡ marked s once bytes (k + 1) p
    same_place p away = ap (λ (m : ℕ). (get_or s p 0 + m) % 2 ^ 64) (stays once bytes k p away)

    none_there : is_piece (code_in bytes k) ≡ false → marks_to s once bytes k ≡ marks_to s once bytes (k + 1)
    none_there e =
        tabulate_same 770 (marked s once bytes k) (marked s once bytes (k + 1))
        (λ p l. same_place p (λ two a b. let c : counted_code p ≤ 13 = omega arith in no_piece (code_in bytes k) e (omega arith) (omega arith)))
      where
        no_piece : (c : ℕ) → is_piece c ≡ false → 2 ≤ c → c ≤ 13 → ⊥
        no_piece c q l u = mathlib.Core.Bool.true≢false (sym (ap₂ ◌&&◌ (le-leb 2 c l) (le-leb c 13 u)) ∙ q)

    -- a piece stands on square k: its place gets one more, no other place changes
    module _ (l : 2 ≤ code_in bytes k) (u : code_in bytes k ≤ 13) where
      here : marks_by once bytes k (count_place (code_in bytes k) k) ≡ 0
      here =
          let p : ℕ = count_place (code_in bytes k) k in
          let q : counted_square p ≡ k = omega arith in
          ap₂ (λ (a b : Bool). cond a (cond b (cond (stands_at bytes p) once 0) 0) 0) (le-leb 2 p (omega arith)) (le-ltb (counted_square p) k (omega arith))

      there : marks_by once bytes (k + 1) (count_place (code_in bytes k) k) ≡ once
      there =
          let p : ℕ = count_place (code_in bytes k) k in
          let q : counted_square p ≡ k = omega arith in
          let r : counted_code p ≡ code_in bytes k = omega arith in
          ap₂ (λ (a b : Bool). cond a (cond b (cond (stands_at bytes p) once 0) 0) 0) (le-leb 2 p (omega arith)) (lt-ltb (counted_square p) (k + 1) (omega arith))
          ∙ ap (λ (t : Bool). cond t once 0) (eq-eqb (code_in bytes (counted_square p)) (counted_code p) (ap (code_in bytes) q ∙ sym r))

      one_there : set (marks_to s once bytes k) (count_place (code_in bytes k) k)
          ((get_or (marks_to s once bytes k) (count_place (code_in bytes k) k) 0 + once) % 2 ^ 64)
          ≡ marks_to s once bytes (k + 1)
      one_there =
          let p : ℕ = count_place (code_in bytes k) k in
          let g = get_or s p 0 in
          let e0 : marked s once bytes k p ≡ (g + 0) % 2 ^ 64 = ap (λ (m : ℕ). (g + m) % 2 ^ 64) here in
          let e1 : marked s once bytes (k + 1) p ≡ (g + once) % 2 ^ 64 = ap (λ (m : ℕ). (g + m) % 2 ^ 64) there in
          tabulate_set 770 (marked s once bytes k) (marked s once bytes (k + 1)) p
          ((get_or (marks_to s once bytes k) p 0 + once) % 2 ^ 64) (omega arith)
          (ap (λ (m : ℕ). (m + once) % 2 ^ 64) (entry 770 (marked s once bytes k) 0 p (omega arith) ∙ e0) ∙ wraps g once ∙ sym e1)
          (λ j b other. same_place j (λ two a c. other (let d = a in omega arith)))
        where
          wraps : (g n : ℕ) → ((g + 0) % 2 ^ 64 + n) % 2 ^ 64 ≡ (g + n) % 2 ^ 64
          wraps g n = omega arith

    pub marks_more : (t : List ℕ) → t ≡ marks_to s once bytes k → marked_on t (code_in bytes k) k once ≡ marks_to s once bytes (k + 1)
    marks_more t e = ap (λ (x : List ℕ). marked_on x (code_in bytes k) k once) e ∙ go (leb 2 (code_in bytes k)) (leb (code_in bytes k) 13) refl refl
      where
        p : ℕ
        p = count_place (code_in bytes k) k

        go : (a b : Bool) → leb 2 (code_in bytes k) ≡ a → leb (code_in bytes k) 13 ≡ b
            → cond (a && b) (set (marks_to s once bytes k) (count_place (code_in bytes k) k)
            ((get_or (marks_to s once bytes k) (count_place (code_in bytes k) k) 0 + once) % 2 ^ 64)) (marks_to s once bytes k)
            ≡ marks_to s once bytes (k + 1)
        go true true x y = one_there (leb-true 2 (code_in bytes k) x) (leb-true (code_in bytes k) 13 y)
        go true false x y = none_there (ap₂ ◌&&◌ x y)
        go false true x y = none_there (ap₂ ◌&&◌ x y)
        go false false x y = none_there (ap₂ ◌&&◌ x y)

  -- ---- after the last square, the record and its half points
  module _ (points : ℕ) where
    halfway : ℕ → ℕ
    halfway place = cond (eqb place 0) ((get_or s 0 0 + once) % 2 ^ 64) (marked s once bytes 64 place)

    target : ℕ → ℕ
    target place = (get_or s place 0 + moved_by once points bytes place) % 2 ^ 64

    first : set (marks_to s once bytes 64) 0 ((get_or (marks_to s once bytes 64) 0 0 + once) % 2 ^ 64) ≡ tabulate 770 halfway
    unfolding halfway
    first =
        tabulate_set 770 (marked s once bytes 64) halfway 0 ((get_or (marks_to s once bytes 64) 0 0 + once) % 2 ^ 64) (omega arith)
        (ap (λ (m : ℕ). (m + once) % 2 ^ 64) (entry 770 (marked s once bytes 64) 0 0 (omega arith)) ∙ wraps (get_or s 0 0) once)
        (λ p h o. sym (ap (λ (t : Bool). cond t ((get_or s 0 0 + once) % 2 ^ 64) (marked s once bytes 64 p)) (ne_eqb p 0 o)))
      where
        wraps : (g n : ℕ) → ((g + 0) % 2 ^ 64 + n) % 2 ^ 64 ≡ (g + n) % 2 ^ 64
        wraps g n = omega arith

    second : set (tabulate 770 halfway) 1 ((get_or (tabulate 770 halfway) 1 0 + points) % 2 ^ 64) ≡ tabulate 770 target
    unfolding halfway target
    second =
        tabulate_set 770 halfway target 1 ((get_or (tabulate 770 halfway) 1 0 + points) % 2 ^ 64) (omega arith)
        (ap (λ (m : ℕ). (m + points) % 2 ^ 64) (entry 770 halfway 0 1 (omega arith)) ∙ wraps (get_or s 1 0) points)
        (λ p h o. go p (eqb p 0) refl o)
      where
        wraps : (g n : ℕ) → ((g + 0) % 2 ^ 64 + n) % 2 ^ 64 ≡ (g + n) % 2 ^ 64
        wraps g n = omega arith

        go : (p : ℕ) (t : Bool) → eqb p 0 ≡ t → (p ≡ 1 → ⊥)
            → cond t ((get_or s 0 0 + once) % 2 ^ 64) (marked s once bytes 64 p)
            ≡ (get_or s p 0 + cond t once (cond (eqb p 1) points (cond (stands_at bytes p) once 0))) % 2 ^ 64
        go p true e o = ap (λ (q : ℕ). (get_or s q 0 + once) % 2 ^ 64) (sym (eqb-true p 0 e))
        go p false e o =
            let z = eqb-false p 0 e in
            let two : 2 ≤ p = low p z o in
            ap (λ (m : ℕ). (get_or s p 0 + m) % 2 ^ 64)
            (ap₂ (λ (a b : Bool). cond a (cond b (cond (stands_at bytes p) once 0) 0) 0) (le-leb 2 p two) (lt-ltb (counted_square p) 64 (omega arith))
            ∙ sym (ap (λ (t : Bool). cond t points (cond (stands_at bytes p) once 0)) (ne_eqb p 1 o)))
          where
            low : (p : ℕ) → (p ≡ 0 → ⊥) → (p ≡ 1 → ⊥) → 2 ≤ p
            low p z o = omega arith

    pub marks_all : (t : List ℕ) (k v w : ℕ) → k ≡ 64 → t ≡ marks_to s once bytes k → v ≡ (get_or t 0 0 + once) % 2 ^ 64
        → w ≡ (get_or (set t 0 v) 1 0 + points) % 2 ^ 64
        → set (set t 0 v) 1 w ≡ summary_moved s once points bytes
    unfolding summary_moved halfway target
    marks_all t k v w z e a b =
        let q : t ≡ marks_to s once bytes 64 = e ∙ ap (marks_to s once bytes) z in
        let one : set t 0 v ≡ tabulate 770 halfway = ap (set t 0) a ∙ ap (λ (x : List ℕ). set x 0 ((get_or x 0 0 + once) % 2 ^ 64)) q ∙ first in
        ap (set (set t 0 v) 1) b ∙ ap (λ (x : List ℕ). set x 1 ((get_or x 1 0 + points) % 2 ^ 64)) one ∙ second
