-- A point put in the place of a number's first digit; and how long the row of an error is. Assumes nothing.
use mathlib.Core.Path.{◌≡◌, refl, sym, ap, ap₂, subst, ◌∙◌}
use mathlib.Core.Bool.{Bool, true, false, cond}
use mathlib.Core.List.{List, [], ◌∷◌, ◌++◌, append_assoc}
use Prim.Native.Nat.{ℕ, suc, ◌+◌, ◌/◌, ◌%◌, ◌≤◌, ◌<◌}
use native.Mathlib.Omega.{arith}
use borrow.Author.Tests.{eq-eqb, ne_eqb}
use lib.Dec.{ltb, eqb}
use lib.ListN.{length, take, drop, length-append}
use lib.Seq.{length-take-le, take_at, drop_at}
use Rattle.text_in.specs.Text.{text}
use Rattle.text_out.specs.Text.{Puts, Adds, written_of, decimal_of, digits_up_to}
use Rattle.text_out.proofs.Added.{adds_to, adds_length, adds_then, adds_4, length_20}
use Rattle.text_out.proofs.Wrote.{written_is, written_length}
use Rattle.ledger_totals.specs.Error.{places_of, mean_word, error_row}
use Rattle.ledger_totals.proofs.Fits.{length_named}
use Rattle.std.specs.Prelude.{Option}

-- a byte over the first one of a text that was put
over_first : (x : List ℕ) (a d c : ℕ) (t : List ℕ) → a + suc (length t) ≤ length x → written_of (written_of x a (d ∷ t)) a (c ∷ []) ≡ written_of x a (c ∷ t)
over_first x a d c t h =
    let w : List ℕ = written_of x a (d ∷ t) in
    let rest : List ℕ = drop (a + suc (length t)) x in
    let is : w ≡ take a x ++ ((d ∷ t) ++ rest) = written_is x a (d ∷ t) h in
    let front : length (take a x) ≡ a = length-take-le a x (omega arith) in
    let first : length (take a x ++ (d ∷ [])) ≡ a + 1 = omega (arith, length-append (take a x) (d ∷ [])) in
    let k : a + length (c ∷ []) ≤ length w = omega (arith, written_length x a (d ∷ t) h) in
    let before : take a w ≡ take a x = ap (take a) is ∙ take_at (take a x) ((d ∷ t) ++ rest) a front in
    let behind : drop (a + 1) w ≡ t ++ rest =
    ap (drop (a + 1)) (is ∙ sym (append_assoc (take a x) (d ∷ []) (t ++ rest))) ∙ drop_at (take a x ++ (d ∷ [])) (t ++ rest) (a + 1) first in
    written_is w a (c ∷ []) k ∙ ap₂ (λ (p q : List ℕ). p ++ (c ∷ q)) before behind ∙ sym (written_is x a (c ∷ t) h)

pub pointed : {x y z : List ℕ} {a b : ℕ} (s : List ℕ) → 0 < length s → Adds x a s y b → (p : Option ℕ) → Puts y z a (text ".") p → a + length s ≤ length x
    → Adds x a (text "." ++ drop 1 s) z b
pointed [] h f p g room = absurd (no h)
  where
    no : 0 < 0 → ⊥
    no q = omega arith
pointed {x} {y} {z} {a} {b} (d ∷ t) h f p g room = record {
  place = f.place;
  buffer = g.1 ∙ ap (λ (l : List ℕ). written_of l a (text ".")) f.buffer ∙ over_first x a d 46 t room;
}

-- a number has a digit
pub digit : (n : ℕ) → 0 < length (decimal_of n)
unfolding digits_up_to
digit n = go (ltb n 10)
  where
    go : (t : Bool) → 0 < length (cond t ((48 + n) ∷ []) (digits_up_to 19 (n / 10) ++ ((48 + n % 10) ∷ [])))
    go true = omega arith
    go false = omega (arith, length-append (digits_up_to 19 (n / 10)) ((48 + n % 10) ∷ []))

-- ---- lengths
length_point : (s : List ℕ) → 0 < length s → length (text "." ++ drop 1 s) ≡ length s
length_point [] h = absurd (no h)
  where
    no : 0 < 0 → ⊥
    no q = omega arith
length_point (d ∷ t) h = refl

pub length_places : (n : ℕ) → length (places_of n) ≤ 40
unfolding places_of
length_places n =
    let d : List ℕ = decimal_of (1000000000000 + n % 1000000000000) in
    let w : List ℕ = decimal_of (n / 1000000000000) in
    omega (
      arith,
      length-append w (text "." ++ drop 1 d),
      length_point d (digit (1000000000000 + n % 1000000000000)),
      length_20 (n / 1000000000000),
      length_20 (1000000000000 + n % 1000000000000),
    )

pub length_mean : (scored sum : ℕ) → length (mean_word scored sum) ≤ 46
length_mean scored sum = go (eqb scored 0)
  where
    go : (t : Bool) → length (text " mean " ++ cond t (text "none") (places_of (sum / scored))) ≤ 46
    go true = omega arith
    go false = omega (arith, length-append (text " mean ") (places_of (sum / scored)), length_places (sum / scored))

pub fits_error : (scored apart others sum : ℕ) → 0 + length (error_row scored apart others sum) ≤ 164
unfolding error_row
fits_error scored apart others sum =
    let x : List ℕ = text "scored " ++ decimal_of scored in
    let y : List ℕ = text " apart " ++ decimal_of apart in
    let z : List ℕ = text " refused " ++ decimal_of others in
    let u : List ℕ = text " sum " ++ decimal_of sum in
    let m : List ℕ = mean_word scored sum in
    let a = length-append (x ++ (y ++ (z ++ u))) (m ++ text "\n") in
    let b = length-append x (y ++ (z ++ u)) in
    let c = length-append y (z ++ u) in
    let d = length-append z u in
    let e = length-append m (text "\n") in
    omega (
      arith,
      length_named (text "scored ") scored,
      length_named (text " apart ") apart,
      length_named (text " refused ") others,
      length_named (text " sum ") sum,
      length_mean scored sum,
    )

-- ---- texts put one after another
pub after_room : {x y t : List ℕ} {at b : ℕ} (k m : ℕ) → Adds x at t y b → length t ≤ k → at + (k + m) ≤ length x → b + m ≤ length y
after_room {x} {y} {t} {at} {b} k m f h room =
    let fits : at + length t ≤ length x = omega arith in
    let to : b ≡ at + length t = adds_to f fits in
    let same : length y ≡ length x = adds_length f fits in
    omega arith

pub places_adds : {x y z v : List ℕ} {at b c : ℕ} (n : ℕ) → at + 40 ≤ length x → Adds x at (decimal_of (n / 1000000000000)) y b
    → Adds y b (decimal_of (1000000000000 + n % 1000000000000)) z c → (p : Option ℕ) → Puts z v b (text ".") p → Adds x at (places_of n) v c
unfolding places_of
places_adds {x} {y} {z} {v} {at} {b} {c} n room f g p h =
    let d : List ℕ = decimal_of (1000000000000 + n % 1000000000000) in
    let w : length (decimal_of (n / 1000000000000)) ≤ 20 = length_20 (n / 1000000000000) in
    let l : length d ≤ 20 = length_20 (1000000000000 + n % 1000000000000) in
    let some : 0 < length d = digit (1000000000000 + n % 1000000000000) in
    let k : b + 20 ≤ length y = after_room 20 20 f w room in
    adds_then f (pointed d some g p h (omega arith)) (omega (arith, length_point d some))

pub mean_none : {x y z : List ℕ} {at b c : ℕ} (scored sum : ℕ) → scored ≡ 0 → at + 46 ≤ length x → Adds x at (text " mean ") y b → Adds y b (text "none") z c
    → Adds x at (mean_word scored sum) z c
mean_none {x} {y} {z} {at} {b} {c} scored sum e room f g =
    subst (λ (t : Bool). Adds x at (text " mean " ++ cond t (text "none") (places_of (sum / scored))) z c) (sym (eq-eqb scored 0 e))
    (adds_then f g (omega arith))

pub mean_some : {x y z : List ℕ} {at b c : ℕ} (scored sum : ℕ) → (scored ≡ 0 → ⊥) → at + 46 ≤ length x → Adds x at (text " mean ") y b
    → Adds y b (places_of (sum / scored)) z c
    → Adds x at (mean_word scored sum) z c
mean_some {x} {y} {z} {at} {b} {c} scored sum n room f g =
    subst (λ (t : Bool). Adds x at (text " mean " ++ cond t (text "none") (places_of (sum / scored))) z c) (sym (ne_eqb scored 0 n))
    (adds_then f g (omega (arith, length_places (sum / scored))))

-- the whole row
module _ (scored apart others sum : ℕ) where
  pub error_adds : {x y z u v w o : List ℕ} {a b c d e f : ℕ} → 164 ≤ length x → Adds x 0 (text "scored " ++ decimal_of scored) y a
      → Adds y a (text " apart " ++ decimal_of apart) z b
      → Adds z b (text " refused " ++ decimal_of others) u c → Adds u c (text " sum " ++ decimal_of sum) v d → Adds v d (mean_word scored sum) w e
      → Adds w e (text "\n") o f
      → Adds x 0 (error_row scored apart others sum) o f
  unfolding error_row
  error_adds {v = v} {d = d} room p q r s m l =
      let h = length_named (text "scored ") scored in
      let i = length_named (text " apart ") apart in
      let j = length_named (text " refused ") others in
      let k = length_named (text " sum ") sum in
      let n = length_mean scored sum in
      let four = adds_4 p q r s (omega arith) in
      let x4 : List ℕ = text " refused " ++ decimal_of others in
      let x5 : List ℕ = text " sum " ++ decimal_of sum in
      let x3 : List ℕ = text " apart " ++ decimal_of apart in
      let x2 : List ℕ = text "scored " ++ decimal_of scored in
      let la = length-append x2 (x3 ++ (x4 ++ x5)) in
      let lb = length-append x3 (x4 ++ x5) in
      let lc = length-append x4 x5 in
      let left : d + 56 ≤ length v = after_room 108 56 four (omega arith) (omega arith) in
      adds_then four (adds_then m l (omega arith)) (omega (arith, length-append (mean_word scored sum) (text "\n")))
