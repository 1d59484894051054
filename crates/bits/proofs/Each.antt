-- `next` takes the squares of a bitboard one after the other, in order: the law that a loop over a bitboard goes by. Assumes nothing.
use mathlib.Core.Path.{◌≡◌, refl, sym, ap, ap₂, ◌∙◌, subst}
use mathlib.Core.Bool.{Bool, true, false, not, cond, ◌&&◌, and-false, and-true}
use mathlib.Core.List.{[], ◌∷◌}
use Prim.Native.Nat.{ℕ, ◌^◌, ◌≤◌, ◌<◌}
use native.Mathlib.Decide.{dec_lt}
use native.Mathlib.Omega.{arith}
use lib.Count.{count_trailing_zeros}
use lib.Dec.{eqb}
use borrow.Author.Tests.{eqb-true, eqb-false, ne_eqb}
use Rattle.bits.specs.Bitboard.{has, those, squares, lowest_of}
use Rattle.bits.specs.Answers.{rest_of, next_of}
use Rattle.bits.proofs.Digits.{has_high}
use Rattle.bits.proofs.Those.{has_those, those_lt}
use Rattle.bits.proofs.Scanned.{scanned_lowest, scan_is, scan_lt}
use Rattle.bits.proofs.Squares.{squares_none, squares_next}

taken : (b : ℕ) → b < 2 ^ 64 → (b ≡ 0 → ⊥) → squares b ≡ lowest_of b ∷ squares (those 64 (λ k. has b k && not (eqb k (lowest_of b))))
taken b h ne =
    let s : ℕ = lowest_of b in
    let f : ℕ → Bool = λ k. has b k && not (eqb k s) in
    let e : count_trailing_zeros 64 b ≡ s = scan_is b in
    let hs : s < 64 = subst (λ (x : ℕ). x < 64) e (scan_lt b h ne) in
    let at : has b s ≡ true = subst (λ (x : ℕ). has b x ≡ true) e ((scanned_lowest 64 b).found (scan_lt b h ne)) in
    let low : (k : ℕ) → k < s → has b k ≡ false = λ k l. (scanned_lowest 64 b).clear k (subst (λ (x : ℕ). k < x) (sym e) l) in
    squares_next b (those 64 f) s hs at low (λ k l. gone k l) (λ k l. kept k l)
  where
    hs : lowest_of b < 64
    hs = subst (λ (x : ℕ). x < 64) (scan_is b) (scan_lt b h ne)

    gone : (k : ℕ) → k ≤ lowest_of b → has (those 64 (λ j. has b j && not (eqb j (lowest_of b)))) k ≡ false
    gone k l = has_those 64 (λ j. has b j && not (eqb j (lowest_of b))) k (omega (arith, hs)) ∙ go (eqb k (lowest_of b)) refl
      where
        go : (t : Bool) → eqb k (lowest_of b) ≡ t → (has b k && not (eqb k (lowest_of b))) ≡ false
        go true q = ap (λ (t : Bool). has b k && not t) q ∙ and-false (has b k)
        go false q = ap (λ (t : Bool). t && not (eqb k (lowest_of b)))
            ((scanned_lowest 64 b).clear k (subst (λ (x : ℕ). k < x) (sym (scan_is b)) (omega (arith, eqb-false k (lowest_of b) q))))

    kept : (k : ℕ) → lowest_of b < k → has (those 64 (λ j. has b j && not (eqb j (lowest_of b)))) k ≡ has b k
    kept k l = elim (dec_lt k 64) [
      | yes p ↦ has_those 64 (λ j. has b j && not (eqb j (lowest_of b))) k p
          ∙ ap (λ (t : Bool). has b k && not t) (ne_eqb k (lowest_of b) (λ q. omega arith))
          ∙ and-true (has b k)
      | no p ↦ has_high (those 64 (λ j. has b j && not (eqb j (lowest_of b)))) 64 k
          (those_lt 64 (λ j. has b j && not (eqb j (lowest_of b)))) (omega arith) ∙ sym (has_high b 64 k h (omega arith))
    ]

split : (t : Bool) (x y s r : ℕ) → s ∷ r ∷ [] ≡ cond t [] (x ∷ y ∷ []) → (t ≡ false) × (x ≡ s) × (y ≡ r)
split true x y s r e = absurd (let z : ◌≡◌ {A = ℕ} 0 1 = cc in omega arith)
split false x y s r e = (refl, cc, cc)

ended : (t : Bool) (x y : ℕ) → [] ≡ cond t [] (x ∷ y ∷ []) → t ≡ true
ended true x y e = refl
ended false x y e = absurd (let z : ◌≡◌ {A = ℕ} 0 1 = cc in omega arith)

-- a square comes: it is the first of the squares, and the others are those of the rest
pub next_at : (b s r : ℕ) → b < 2 ^ 64 → s ∷ r ∷ [] ≡ next_of b → (squares b ≡ s ∷ squares r) × (s < 64)
next_at b s r h e =
    let w = split (eqb b 0) (lowest_of b) (rest_of b) s r e in
    let ne : b ≡ 0 → ⊥ = eqb-false b 0 w.0 in
    (taken b h ne ∙ ap₂ (λ (x y : ℕ). x ∷ squares y) w.1 w.2, subst (λ (x : ℕ). x < 64) (scan_is b ∙ w.1) (scan_lt b h ne))

-- and the rest is a bitboard
pub next_fits : (b s r : ℕ) → s ∷ r ∷ [] ≡ next_of b → r < 2 ^ 64
next_fits b s r e =
    let w = split (eqb b 0) (lowest_of b) (rest_of b) s r e in
    subst (λ (x : ℕ). x < 2 ^ 64) w.2 (those_lt 64 (λ k. has b k && not (eqb k (lowest_of b))))

-- none comes: there are no squares
pub next_done : (b : ℕ) → [] ≡ next_of b → squares b ≡ []
next_done b e = ap squares (eqb-true b 0 (ended (eqb b 0) (lowest_of b) (rest_of b) e)) ∙ squares_none
