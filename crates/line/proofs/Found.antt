-- Where the position field starts, as the code looks for it. Assumes nothing.
use mathlib.Core.Path.{◌≡◌, refl, ap, ◌∙◌}
use mathlib.Core.List.{List, [], ◌∷◌}
use Prim.Native.Nat.{ℕ}
use native.Mathlib.Omega.{arith}
use lib.ListN.{length, get_or}
use Rattle.text_in.specs.Text.{before}
use Rattle.line.specs.Field.{field_of, start_in, start_of}

empty_in : (f line : List ℕ) → length f ≡ 0 → 0 ≡ start_in f line
empty_in [] line e = refl
empty_in (b ∷ s) line e = omega arith

pub empty : (line : List ℕ) {f : List ℕ} → f ≡ field_of line → length f ≡ 0 → 0 ≡ start_of line
unfolding start_of
empty line {f} e h = empty_in f line h ∙ ap (λ (g : List ℕ). start_in g line) e

found_in : (f line : List ℕ) (n : ℕ) → (length f ≡ 0 → ⊥) → n ≡ length (before (get_or f 0 0) line) → n ≡ start_in f line
found_in [] line n h e = absurd (h refl)
found_in (b ∷ s) line n h e = e

pub found : (line : List ℕ) {f : List ℕ} {n : ℕ} → f ≡ field_of line → (length f ≡ 0 → ⊥) → n ≡ length (before (get_or f 0 0) line) → n ≡ start_of line
unfolding start_of
found line {f} {n} e h p = found_in f line n h p ∙ ap (λ (g : List ℕ). start_in g line) e
