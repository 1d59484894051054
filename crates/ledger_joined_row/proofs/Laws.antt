-- What the functions' proofs cite. Assumes nothing.
use mathlib.Core.Path.{◌≡◌, refl, sym, ap, ap₂, subst, ◌∙◌}
use mathlib.Core.Bool.{Bool, true, false, cond, ◌&&◌, ◌||◌, false≢true}
use mathlib.Core.List.{List, [], ◌∷◌, ◌++◌}
use Prim.Native.Nat.{ℕ, suc, ◌+◌, ◌-◌, ◌≤◌, ◌<◌}
use native.Mathlib.Omega.{arith}
use lib.Dec.{eqb, leb}
use lib.ListN.{length, take, drop, get_or, length-append, length-take, length-drop, drop_of_length-le}
use lib.Seq.{length-take-le}
use borrow.Author.Tests.{lt-leb, le-leb, leb-true}
use Rattle.laws.specs.Tests.{same}
use Rattle.text_in.specs.Text.{text}
use Rattle.text_in.proofs.Parts.{rest}
use Rattle.text_out.specs.Text.{decimal_of, Adds}
use Rattle.text_out.proofs.Added.{adds_to, adds_length, adds_front, adds_then}
use Rattle.ledger_row.proofs.Fits.{length_spaced}
use Rattle.ledger_row.specs.Row.{spaced}
use Rattle.ledger_totals.specs.Totals.{last_row}
use Rattle.ledger_whole.specs.Whole.{ends_in_lf}
use Rattle.ledger_joined_row.specs.Rows.{begins_with, behind_number, comes_to, spells, is_number, is_score, is_shown, without_lf, after_number, has_half}
use Rattle.ledger_joined_row.specs.Rows.{says_refused, says_loaded, is_row}
use Rattle.ledger_joined_row.specs.Promises.{row_is_rule, front_of, rest_kind, row_kind, renumbered, is_line, text_of}
use Rattle.ledger_joined_row.specs.declared.Kind.{Kind}
use Rattle.ledger_joined_row.specs.declared.Kind.TheVariants as K

-- ---- two texts that are the same are as long
pub and_right : (a b : Bool) → (a && b) ≡ true → b ≡ true
and_right true b e = e
and_right false b e = absurd (false≢true e)

same_length : (s t : List ℕ) → same s t ≡ true → length s ≡ length t
same_length [] [] e = refl
same_length [] (y ∷ t) e = absurd (false≢true e)
same_length (x ∷ s) [] e = absurd (false≢true e)
same_length (x ∷ s) (y ∷ t) e = ap suc (same_length s t (and_right (eqb x y) (same s t) e))

-- a text put at the front of a buffer, as a length is told
pub zero_and : {n k : ℕ} → n ≤ k → 0 + n ≤ k
zero_and h = omega arith

pub begins_fits : (front row : List ℕ) → begins_with front row ≡ true → length front ≤ length row
begins_fits front row e = let k = same_length (take (length front) row) front e in omega (arith, length-take (length front) row)

pub begins_short : (front row : List ℕ) → length row < length front → false ≡ begins_with front row
begins_short front row h = go (begins_with front row) refl
  where
    no : length front ≤ length row → ⊥
    no q = omega arith

    go : (t : Bool) → begins_with front row ≡ t → false ≡ t
    go false e = refl
    go true e = absurd (no (begins_fits front row e))

-- ---- a text that was put at the front of a buffer
module _ {old t new : List ℕ} {r : ℕ} (a : Adds old 0 t new r) (room : 0 + length t ≤ length old) where
  pub taken_fits : r ≤ length new
  taken_fits = omega (arith, adds_to a room, adds_length a room, room)

  pub taken_long : r ≡ length (take r new)
  taken_long = sym (length-take-le r new taken_fits)

  pub taken_is : take r new ≡ t
  taken_is = adds_front a room

  taken_to : r ≡ length t
  taken_to = omega (arith, adds_to a room)

  begins_taken : (row : List ℕ) (u : Bool) → begins_with (take r new) row ≡ u → begins_with t row ≡ u
  begins_taken row u e = sym (ap (λ (x : List ℕ). begins_with x row) taken_is) ∙ e

  pub front_yes : (row : List ℕ) → begins_with (take r new) row ≡ true → r ≡ cond (begins_with t row) (length t) 0
  front_yes row e = taken_to ∙ sym (ap (λ (u : Bool). cond u (length t) 0) (begins_taken row true e))

  pub front_no : (row : List ℕ) → begins_with (take r new) row ≡ false → 0 ≡ cond (begins_with t row) (length t) 0
  front_no row e = sym (ap (λ (u : Bool). cond u (length t) 0) (begins_taken row false e))

-- ---- the number's place
some_spaced : (n : ℕ) → 0 < length (spaced n)
some_spaced n = omega (arith, length-append (decimal_of n) (text " "))

pub front_fits : (number : ℕ) (row : List ℕ) → front_of number row ≤ length row
front_fits number row = go (begins_with (spaced number) row) refl
  where
    go : (t : Bool) → begins_with (spaced number) row ≡ t → cond t (length (spaced number)) 0 ≤ length row
    go true e = begins_fits (spaced number) row e
    go false e = omega arith

-- ---- half points and a space are two bytes
pub half_long : (s : List ℕ) → has_half s ≡ true → 2 ≤ length s
half_long s e = go (begins_with (text "0 ") s) (begins_with (text "1 ") s) refl refl e
  where
    go : (a b : Bool) → begins_with (text "0 ") s ≡ a → begins_with (text "1 ") s ≡ b → (a || (b || begins_with (text "2 ") s)) ≡ true → 2 ≤ length s
    go true b p q h = begins_fits (text "0 ") s p
    go false true p q h = begins_fits (text "1 ") s q
    go false false p q h = begins_fits (text "2 ") s h

-- ---- a number, a score, what is shown: as the code asks
module _ (least most : ℕ) (s : List ℕ) (n : ℕ) (e : n ≡ comes_to 0 s) where
  pub number_small : n < least → false ≡ is_number least most s
  number_small h = rw (lt-leb least (comes_to 0 s) (omega arith))

  pub number_large : least ≤ n → most < n → false ≡ is_number least most s
  number_large h k = rw (le-leb least (comes_to 0 s) (omega arith), lt-leb (comes_to 0 s) most (omega arith))

  pub number_spelled : least ≤ n → n ≤ most → spells s n ≡ is_number least most s
  number_spelled h k = ap (spells s) e ∙ sym (ap₂ (λ (a b : Bool). a && (b && spells s (comes_to 0 s))) (le-leb least (comes_to 0 s) (omega arith))
      (le-leb (comes_to 0 s) most (omega arith)))

pub score_minus : (s : List ℕ) → begins_with (text "-") s ≡ true → is_number 1 32768 (take (length s - 1) (drop 1 s)) ≡ is_score s
score_minus s e =
    ap (is_number 1 32768) (rest 1 s) ∙ sym (ap (λ (b : Bool). cond b (is_number 1 32768 (drop 1 s)) (is_number 0 32767 s)) e)

pub score_plain : (s : List ℕ) → begins_with (text "-") s ≡ false → is_number 0 32767 s ≡ is_score s
score_plain s e = sym (ap (λ (b : Bool). cond b (is_number 1 32768 (drop 1 s)) (is_number 0 32767 s)) e)

pub refused_yes : (s : List ℕ) → begins_with (text "refused ") s ≡ true → is_number 1 99 (take (length s - 8) (drop 8 s)) ≡ says_refused s
refused_yes s e = ap (is_number 1 99) (rest 8 s) ∙ sym (ap (λ (b : Bool). b && is_number 1 99 (drop 8 s)) e)

pub loaded_yes : (s : List ℕ) → has_half s ≡ true → is_shown (take (length s - 2) (drop 2 s)) ≡ says_loaded s
loaded_yes s e = ap is_shown (rest 2 s) ∙ sym (ap (λ (b : Bool). b && is_shown (drop 2 s)) e)

-- ---- the last byte
pub last_byte : (row : List ℕ) → 0 < length row → eqb (get_or row (length row - 1) 0) 10 ≡ ends_in_lf row
unfolding ends_in_lf
last_byte [] h = absurd (no h)
  where
    no : 0 < 0 → ⊥
    no q = omega arith
last_byte (b ∷ []) h = refl
last_byte (b ∷ (c ∷ s)) h =
    let e : suc (suc (length s)) - 1 ≡ suc (length s) = omega arith in
    let f : length s ≡ suc (length s) - 1 = omega arith in
    ap (λ (k : ℕ). eqb (get_or (b ∷ (c ∷ s)) k 0) 10) e ∙ ap (λ (k : ℕ). eqb (get_or (c ∷ s) k 0) 10) f ∙ last_byte (c ∷ s) (omega arith)

pub none_ends : (row : List ℕ) → length row ≡ 0 → false ≡ ends_in_lf row
unfolding ends_in_lf
none_ends [] h = refl
none_ends (b ∷ s) h = absurd (no h)
  where
    no : suc (length s) ≡ 0 → ⊥
    no q = omega arith

-- ---- a row of a line
pub kind_long : (number : ℕ) (row : List ℕ) → 32 < length row → K.Neither ≡ row_kind number row
unfolding row_kind
kind_long number row h = rw (lt-leb (length row) 32 h)

pub kind_open : (number : ℕ) (row : List ℕ) → ends_in_lf row ≡ false → K.Neither ≡ row_kind number row
unfolding row_kind
kind_open number row e = go (leb (length row) 32)
  where
    go : (t : Bool) → K.Neither ≡ cond (t && (ends_in_lf row && begins_with (spaced number) row)) (rest_kind (after_number number row)) K.Neither
    go true = rw e
    go false = refl

pub kind_other : (number : ℕ) (row : List ℕ) → front_of number row ≡ 0 → K.Neither ≡ row_kind number row
unfolding row_kind
kind_other number row e = go (leb (length row) 32) (ends_in_lf row) (begins_with (spaced number) row) e
  where
    no : length (spaced number) ≡ 0 → ⊥
    no q = omega (arith, some_spaced number)

    go : (t u v : Bool) → cond v (length (spaced number)) 0 ≡ 0 → K.Neither ≡ cond (t && (u && v)) (rest_kind (after_number number row)) K.Neither
    go t u true q = absurd (no q)
    go true true false q = refl
    go true false false q = refl
    go false u false q = refl

pub kind_bare : (number : ℕ) (row : List ℕ) (n : ℕ) → n ≡ front_of number row → (n ≡ 0 → ⊥) → length row ≤ n → K.Neither ≡ row_kind number row
unfolding row_kind
kind_bare number row n f k h = go (begins_with (spaced number) row) f
  where
    none : n ≡ length (spaced number) → after_number number row ≡ []
    none q = drop_of_length-le (without_lf row) {i = length (spaced number)} (omega (arith, length-take (length row - 1) row))

    go : (v : Bool) → n ≡ cond v (length (spaced number)) 0 → K.Neither
        ≡ cond (leb (length row) 32 && (ends_in_lf row && v)) (rest_kind (after_number number row)) K.Neither
    go false q = absurd (k q)
    go true q = all (leb (length row) 32) (ends_in_lf row) (none q)
      where
        all : (a b : Bool) → after_number number row ≡ [] → K.Neither ≡ cond (a && (b && true)) (rest_kind (after_number number row)) K.Neither
        all true true e = sym (ap rest_kind e)
        all true false e = refl
        all false b e = refl

pub kind_row : (number : ℕ) (row : List ℕ) (n : ℕ) → length row ≤ 32 → ends_in_lf row ≡ true → n ≡ front_of number row → (n ≡ 0 → ⊥) → n < length row
    → rest_kind (take (length (without_lf row) - n) (drop n (without_lf row))) ≡ row_kind number row
unfolding row_kind
kind_row number row n h e f k l = ap rest_kind (rest n (without_lf row)) ∙ go (begins_with (spaced number) row) f
  where
    go : (v : Bool) → n ≡ cond v (length (spaced number)) 0
        → rest_kind (drop n (without_lf row)) ≡ cond (leb (length row) 32 && (ends_in_lf row && v)) (rest_kind (after_number number row)) K.Neither
    go true q = rw (le-leb (length row) 32 h, e, q)
    go false q = absurd (k q)

-- ---- and the totals
module _ (number loaded others : ℕ) (row : List ℕ) where
  kind_go : (a b c d e f : Bool) → (k : Kind) → k ≡ cond (a && (b && c)) (cond d K.Refused (cond e K.Loaded K.Neither)) K.Neither
      → cond (is_line k) k (cond f K.Totals K.Neither) ≡ cond (a && (b && (c && (d || e)))) (cond d K.Refused K.Loaded) (cond f K.Totals K.Neither)
  kind_go false b c d e f k q = rw q
  kind_go true false c d e f k q = rw q
  kind_go true true false d e f k q = rw q
  kind_go true true true true e f k q = rw q
  kind_go true true true false true f k q = rw q
  kind_go true true true false false f k q = rw q

  kind_is : (k : Kind) → k ≡ row_kind number row → cond (is_line k) k (cond (same row (last_row (number - 1) loaded others)) K.Totals K.Neither)
      ≡ row_is_rule number loaded others row
  unfolding row_kind row_is_rule
  kind_is =
      kind_go (leb (length row) 32) (ends_in_lf row) (begins_with (spaced number) row) (says_refused (after_number number row))
      (says_loaded (after_number number row)) (same row (last_row (number - 1) loaded others))

  pub kind_line : (k : Kind) → k ≡ row_kind number row → is_line k ≡ true → k ≡ row_is_rule number loaded others row
  kind_line k e q = sym (ap (λ (b : Bool). cond b k (cond (same row (last_row (number - 1) loaded others)) K.Totals K.Neither)) q) ∙ kind_is k e

  pub kind_last : (k : Kind) (t : Bool) → k ≡ row_kind number row → is_line k ≡ false → same row (last_row (number - 1) loaded others) ≡ t
      → cond t K.Totals K.Neither ≡ row_is_rule number loaded others row
  kind_last k t e q l =
      ap (λ (b : Bool). cond b K.Totals K.Neither) (sym l)
      ∙ sym (ap (λ (b : Bool). cond b k (cond (same row (last_row (number - 1) loaded others)) K.Totals K.Neither)) q) ∙ kind_is k e

-- ---- the row with another number
pub renumber_adds : {x y z : List ℕ} {e r : ℕ} (whole number n : ℕ) (row : List ℕ) → Adds x 0 (spaced whole) y e
    → Adds y e (take (length row - n) (drop n row)) z r → n ≡ front_of number row → length row ≤ 32 → 64 ≤ length x → Adds x 0 (renumbered whole number row) z r
renumber_adds {x} {y} {z} {e} {r} whole number n row p q f short room =
    let all : take (length row - n) (drop n row) ≡ drop n row = rest n row in
    subst (λ (k : ℕ). Adds x 0 (spaced whole ++ drop k row) z r) f
    (adds_then p (subst (λ (t : List ℕ). Adds y e t z r) all q) (omega (arith, length_spaced whole, length-drop n row)))

-- it has room
pub renumber_fits : (whole number : ℕ) (row : List ℕ) → length row ≤ 32 → 0 + length (renumbered whole number row) ≤ 64
renumber_fits whole number row h =
    let a = length-append (spaced whole) (drop (front_of number row) row) in
    let b = length-drop (front_of number row) row in
    omega (arith, length_spaced whole)

-- where it is a row of a line, that is its text in the whole
renumber_is : (whole number : ℕ) (row : List ℕ) → is_row number row ≡ true → renumbered whole number row ≡ spaced whole ++ behind_number number row
renumber_is whole number row e =
    go (leb (length row) 32) (ends_in_lf row) (begins_with (spaced number) row) (says_refused (after_number number row) || says_loaded (after_number number row)) e
  where
    go : (a b c d : Bool) → (a && (b && (c && d))) ≡ true → spaced whole ++ drop (cond c (length (spaced number)) 0) row ≡ spaced whole
        ++ behind_number number row
    go true true true d q = refl
    go true true false d q = absurd (false≢true q)
    go true false c d q = absurd (false≢true q)
    go false b c d q = absurd (false≢true q)

-- ---- a row taken
pub line_row : (number loaded others : ℕ) (row : List ℕ) → is_line (row_is_rule number loaded others row) ≡ is_row number row
unfolding row_is_rule
line_row number loaded others row = go (is_row number row) (says_refused (after_number number row)) (same row (last_row (number - 1) loaded others))
  where
    go : (a b c : Bool) → is_line (cond a (cond b K.Refused K.Loaded) (cond c K.Totals K.Neither)) ≡ a
    go true true c = refl
    go true false c = refl
    go false b true = refl
    go false b false = refl

pub and_left : (a b : Bool) → (a && b) ≡ true → a ≡ true
and_left true b e = refl
and_left false b e = e

module _ (number loaded others : ℕ) (row : List ℕ) (k : Kind) (e : k ≡ row_is_rule number loaded others row) where
  is_row_holds : (t : Bool) → is_line k ≡ t → is_row number row ≡ t
  is_row_holds t h = sym (line_row number loaded others row) ∙ sym (ap is_line e) ∙ h

  pub line_short : is_line k ≡ true → length row ≤ 32
  line_short h = leb-true (length row) 32 (and_left (leb (length row) 32) _ (is_row_holds true h))

  pub text_line : (whole : ℕ) → is_line k ≡ true → renumbered whole number row ≡ text_of number whole row
  unfolding text_of
  text_line whole h =
      renumber_is whole number row (is_row_holds true h) ∙ sym (ap (λ (b : Bool). cond b (spaced whole ++ behind_number number row) []) (is_row_holds true h))

  pub text_other : (whole : ℕ) → is_line k ≡ false → [] ≡ text_of number whole row
  unfolding text_of
  text_other whole h = sym (ap (λ (b : Bool). cond b (spaced whole ++ behind_number number row) []) (is_row_holds false h))

-- what is written of a row has room in 64 bytes
pub text_fits : (number whole : ℕ) (row : List ℕ) → length (text_of number whole row) ≤ 64
unfolding text_of
text_fits number whole row = go (leb (length row) 32) refl (ends_in_lf row
    && (begins_with (spaced number) row && (says_refused (after_number number row) || says_loaded (after_number number row))))
  where
    go : (a : Bool) → leb (length row) 32 ≡ a → (b : Bool) → length (cond (a && b) (spaced whole ++ behind_number number row) []) ≤ 64
    go true e true =
        let h = leb-true (length row) 32 e in
        omega (arith, length-append (spaced whole) (behind_number number row), length_spaced whole, length-drop (length (spaced number)) row)
    go true e false = omega arith
    go false e b = omega arith
