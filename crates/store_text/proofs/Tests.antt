-- What the small functions give, test by test. Assumes nothing.
use Rattle.std.proofs.Common.{◌≡◌, ℕ, zero, suc, ◌+◌, ◌-◌, ◌*◌, ◌/◌, ◌%◌, ◌^◌, ◌<◌, ◌≤◌, max, Bool, cond, eqb, ltb, List, length, take, replicate, sym, refl, ap, ◌∙◌, subst, ap₂, add-one, arith, take_at, le-ltb, lt-ltb, eq-eqb, ne_eqb}
use lib.ListN.{length-replicate, replicate-append-replicate}
use Rattle.laws.specs.Tests.{same}
use Rattle.laws.specs.Sums.{sum_n}
use Rattle.laws.proofs.Sums.{sum_more}
use Rattle.text_in.specs.Text.{text}
use Rattle.text_out.specs.Text.{Adds}
use Rattle.text_out.proofs.Added.{adds_then}
use Rattle.store_text.specs.Board.{most_n, piece_words}
use Rattle.store_text.specs.Table.{in_column}
use Rattle.store_text.specs.Picture.{darkness}
use Rattle.store_text.specs.Promises.{store_named, call_of}
use Rattle.store_text.specs.declared.Form.{Form}
use Rattle.store_text.specs.declared.Form.TheVariants as F
use Rattle.store_text.specs.declared.Call.{Call}
use Rattle.store_text.specs.declared.Call.TheVariants as C

-- the last of the twelve
pub queen : (k : ℕ) → (k ≡ 0 → ⊥) → (k ≡ 1 → ⊥) → (k ≡ 2 → ⊥) → (k ≡ 3 → ⊥) → (k ≡ 4 → ⊥) → (k ≡ 5 → ⊥) → (k ≡ 6 → ⊥) → (k ≡ 7 → ⊥) → (k ≡ 8 → ⊥) → (k ≡ 9 → ⊥)
    → (k ≡ 10 → ⊥) → text "black queen " ≡ piece_words k
queen zero a b c d e f g h i j l = absurd (a refl)
queen (suc zero) a b c d e f g h i j l = absurd (b refl)
queen (suc (suc zero)) a b c d e f g h i j l = absurd (c refl)
queen (suc (suc (suc zero))) a b c d e f g h i j l = absurd (d refl)
queen (suc (suc (suc (suc zero)))) a b c d e f g h i j l = absurd (e refl)
queen (suc (suc (suc (suc (suc zero))))) a b c d e f g h i j l = absurd (f refl)
queen (suc (suc (suc (suc (suc (suc zero)))))) a b c d e f g h i j l = absurd (g refl)
queen (suc (suc (suc (suc (suc (suc (suc zero))))))) a b c d e f g h i j l = absurd (h refl)
queen (suc (suc (suc (suc (suc (suc (suc (suc zero)))))))) a b c d e f g h i j l = absurd (i refl)
queen (suc (suc (suc (suc (suc (suc (suc (suc (suc zero))))))))) a b c d e f g h i j l = absurd (j refl)
queen (suc (suc (suc (suc (suc (suc (suc (suc (suc (suc zero)))))))))) a b c d e f g h i j l = absurd (l refl)
queen (suc (suc (suc (suc (suc (suc (suc (suc (suc (suc (suc k))))))))))) a b c d e f g h i j l = refl

-- ---- a column
pub some_spaces : (n : ℕ) → n ≤ 21 → take {A = ℕ} n (replicate 21 32) ≡ replicate n 32
some_spaces n h =
    let e : 21 ≡ n + (21 - n) = omega arith in
    ap (take {A = ℕ} n) (ap (λ (k : ℕ). replicate {A = ℕ} k 32) e ∙ sym (replicate-append-replicate {A = ℕ} n (21 - n) 32))
    ∙ take_at {A = ℕ} (replicate n 32) (replicate (21 - n) 32) n (length-replicate {A = ℕ} n 32)

pub column_adds : {x y z : List ℕ} {at a b : ℕ} (width n : ℕ) (word : List ℕ) → width ≤ 20 → length word ≤ 20 → n ≡ width - length word + 1
    → Adds x at (take n (replicate 21 32)) y a → Adds y a word z b → at + 21 ≤ length x → Adds x at (in_column width word) z b
unfolding in_column
column_adds {x} {y} {z} {at} {a} {b} width n word h k e p q room =
    let l : n ≤ 21 = omega arith in
    let s : take {A = ℕ} n (replicate 21 32) ≡ replicate (width - length word + 1) 32 = some_spaces n l ∙ ap (λ (j : ℕ). replicate {A = ℕ} j 32) e in
    adds_then (subst (λ (t : List ℕ). Adds x at t y a) s p) q (omega (arith, length-replicate {A = ℕ} (width - length word + 1) 32))

-- ---- how dark a square is
module _ (most n : ℕ) where
  pub no_most : most ≡ 0 → 0 ≡ darkness most n
  no_most e = sym (ap (λ (x : Bool). cond x 0 (cond (ltb n (2 ^ 60)) (9 * n / most) 9)) (eq-eqb most 0 e))

  module _ (some : most ≡ 0 → ⊥) where
    pub vast : 2 ^ 60 ≤ n → 9 ≡ darkness most n
    vast h = sym (ap₂ (λ (x y : Bool). cond x 0 (cond y (9 * n / most) 9)) (ne_eqb most 0 some) (le-ltb n (2 ^ 60) h))

    pub plain : n < 2 ^ 60 → 9 * n / most ≡ darkness most n
    plain h = sym (ap₂ (λ (x y : Bool). cond x 0 (cond y (9 * n / most) 9)) (ne_eqb most 0 some) (lt-ltb n (2 ^ 60) h))

-- ---- the sums of a board
pub at_place : (piece square : ℕ) → 2 + 64 * piece + square ≡ 2 + 64 * (piece + 2 - 2) + square
at_place piece square = omega arith

wraps : (s n : ℕ) → (s % 2 ^ 64 + n) % 2 ^ 64 ≡ (s + n) % 2 ^ 64
wraps s n = omega arith

pub total_more : (f : ℕ → ℕ) (k total n : ℕ) → total ≡ sum_n k f % 2 ^ 64 → n ≡ f k → (total + n) % 2 ^ 64 ≡ sum_n (k + 1) f % 2 ^ 64
total_more f k total n e g = ap₂ (λ (x y : ℕ). (x + y) % 2 ^ 64) e g ∙ wraps (sum_n k f) (f k) ∙ ap (λ (x : ℕ). x % 2 ^ 64) (sym (sum_more f k))

pub most_more : (f : ℕ → ℕ) (k most n : ℕ) → most ≡ most_n k f → n ≡ f k → max most n ≡ most_n (k + 1) f
unfolding most_n
most_more f k most n e g = ap₂ max e g ∙ ap (λ (j : ℕ). most_n j f) (sym (add-one k))

-- ---- which store a call names
module _ (form : Form) (file count : ℕ) where
  abbrev by : Bool → Bool → Call
  by x y = cond x (cond y (C.File form file) C.TooMany) (C.Input form)

  pub on_input : count ≤ file → C.Input form ≡ store_named form file count
  on_input h = sym (ap (λ (x : Bool). by x (eqb count (file + 1))) (le-ltb file count h))

  module _ (more : file < count) where
    pub in_file : count ≡ file + 1 → C.File form file ≡ store_named form file count
    in_file e = sym (ap₂ by (lt-ltb file count more) (eq-eqb count (file + 1) e))

    pub too_many : (count ≡ file + 1 → ⊥) → C.TooMany ≡ store_named form file count
    too_many e = sym (ap₂ by (lt-ltb file count more) (ne_eqb count (file + 1) e))

pub asks : (first : List ℕ) (count : ℕ) (t : Bool) → same first (text "--svg") ≡ t
    → cond t (store_named F.Picture 2 count) (store_named F.Table 1 count) ≡ call_of first count
asks first count t e = sym (ap (λ (x : Bool). cond x (store_named F.Picture 2 count) (store_named F.Table 1 count)) e)
