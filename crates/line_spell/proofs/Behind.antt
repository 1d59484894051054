-- The fields behind the placement, each after its space: what was put, and the room that is left. Assumes nothing.
use mathlib.Core.Path.{◌≡◌, refl, sym, subst}
use mathlib.Core.List.{List, [], ◌∷◌, ◌++◌}
use Prim.Native.Nat.{ℕ, ◌+◌, ◌≤◌, ◌<◌}
use native.Mathlib.Omega.{arith}
use lib.ListN.{length}
use Rattle.text_in.specs.Text.{text, space}
use Rattle.text_out.specs.Text.{Adds, decimal_of}
use Rattle.text_out.proofs.Added.{adds_to, adds_length, adds_then}
use Rattle.line_text.specs.Words.{or_else, counter_text}
use Rattle.line_text.proofs.Counters.{counter_digits, counter_none}
use Rattle.line_text.proofs.Lengths.{counter_length}
use Rattle.text_out.proofs.Added.{adds_3}

-- the room behind a text that had room
pub room_behind : {x y : List ℕ} {at r : ℕ} {t : List ℕ} → Adds x at t y r → (n : ℕ) → at + (length t + n) ≤ length x → r + n ≤ length y
room_behind {x} {at = at} {t = t} a n h =
    let k : at + length t ≤ length x = omega arith in
    omega (arith, adds_to a k, adds_length a k)

-- ---- a counter
module _ {old mid : List ℕ} {at begin : ℕ} (n : ℕ) (first : Adds old at (space ∷ []) mid begin) where
  pub no_counter : 9999 < n → Adds old at (space ∷ counter_text n) mid begin
  no_counter h = subst (λ (t : List ℕ). Adds old at (space ∷ t) mid begin) (sym (counter_none n h)) first

  pub counter_put : {new : List ℕ} {end : ℕ} → n ≤ 9999 → at + 5 ≤ length old → Adds mid begin (decimal_of n) new end
      → Adds old at (space ∷ counter_text n) new end
  counter_put {new} {end} h room a =
      let e = counter_digits n h in
      adds_then first (subst (λ (t : List ℕ). Adds mid begin t new end) (sym e) a) (omega (arith, counter_length n))

-- ---- letters, or `-` where there are none
dash : (s : List ℕ) → length s ≡ 0 → or_else (text "-") s ≡ s ++ text "-"
dash [] h = refl
dash (b ∷ s) h = absurd (omega arith)

no_dash : (s : List ℕ) → (length s ≡ 0 → ⊥) → or_else (text "-") s ≡ s
no_dash [] n = absurd (n refl)
no_dash (b ∷ s) n = refl

module _ {old mid new s : List ℕ} {at begin end : ℕ} (first : Adds old at (space ∷ []) mid begin) (letters : Adds mid begin s new end)
    (few : length s ≤ 4) (room : at + 5 ≤ length old) where
  end_is : end ≡ begin + length s
  end_is = adds_to letters (room_behind first (length s) (omega arith))

  pub letters_put : (end ≡ begin → ⊥) → Adds old at (space ∷ or_else (text "-") s) new end
  letters_put n =
      subst (λ (t : List ℕ). Adds old at (space ∷ t) new end) (sym (no_dash s (λ z. n (omega (arith, end_is)))))
      (adds_then first letters (omega arith))

  pub dash_put : end ≡ begin → {last : List ℕ} {r : ℕ} → Adds new begin (text "-") last r → Adds old at (space ∷ or_else (text "-") s) last r
  dash_put e {last} {r} a =
      let z : length s ≡ 0 = omega (arith, end_is) in
      subst (λ (t : List ℕ). Adds old at (space ∷ t) last r) (sym (dash s z))
      (adds_3 first letters (subst (λ (k : ℕ). Adds new k (text "-") last r) (sym e) a) (omega arith))
