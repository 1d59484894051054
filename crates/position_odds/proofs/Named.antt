-- The lowest square where a test fails, by the bitboard of all such squares, and the refusal that names it. Assumes nothing.
use mathlib.Core.Path.{◌≡◌, refl, sym, ap, ap₂, ◌∙◌}
use mathlib.Core.Bool.{Bool, true, false, not, cond, not-not}
use Prim.Native.Nat.{ℕ, zero, suc, ◌+◌, ◌≤◌, ◌<◌}
use native.Mathlib.Omega.{arith}
use lib.Count.{count_trailing_zeros}
use lib.Dec.{eqb}
use borrow.Author.Tests.{eq-eqb, ne_eqb, eqb-true, eqb-false, not-true, not-false}
use Rattle.laws.specs.Tests.{all_below}
use Rattle.laws.proofs.Tests.{all_of, all_same}
use Rattle.laws.proofs.Truth.{true_T, T_true}
use Rattle.refusal.specs.Answer.{Answer, refusal_of, or_refuse}
use Rattle.refusal.specs.declared.Refusal.{Refusal}
use Rattle.bits.specs.Bitboard.{has, first_from, lowest_of}
use Rattle.bits.proofs.Scanned.{scanned_lowest, scan_lt, scan_is}
use Rattle.bits.proofs.Those.{has_those, those_lt, those_none}
use Rattle.position_boards.specs.Wrong.{wrong_of}
use Rattle.position_odds.specs.Named.{lowest_wrong, or_named}
use Rattle.position_odds.specs.Exactly.{Lowest}

-- ---- the first number such that a test holds
first_same : (n k : ℕ) (f g : ℕ → Bool) → ((i : ℕ) → i < k + n → f i ≡ g i) → first_from n k f ≡ first_from n k g
unfolding first_from
first_same zero k f g e = refl
first_same (suc n) k f g e =
    ap₂ (λ (t : Bool) (r : ℕ). cond t k r) (e k (omega arith)) (first_same n (suc k) f g (λ i h. e i (omega arith)))

first_is : (n k s : ℕ) (f : ℕ → Bool) → k ≤ s → s < k + n → f s ≡ true → ((i : ℕ) → i < s → f i ≡ false) → first_from n k f ≡ s
unfolding first_from
first_is zero k s f l h t e = absurd (omega arith)
first_is (suc n) k s f l h t e = go (eqb k s) refl (λ lt. first_is n (suc k) s f lt (omega arith) t e)
  where
    go : (b : Bool) → eqb k s ≡ b → (k < s → first_from n (suc k) f ≡ s) → cond (f k) k (first_from n (suc k) f) ≡ s
    go true q later = ap (λ (u : Bool). cond u k (first_from n (suc k) f)) (ap f (eqb-true k s q) ∙ t) ∙ eqb-true k s q
    go false q later =
        let ne = eqb-false k s q in
        let lt : k < s = omega (arith, ne) in
        ap (λ (u : Bool). cond u k (first_from n (suc k) f)) (e k lt) ∙ later lt

lowest_empty : lowest_of 0 ≡ 64
unfolding lowest_of first_from has
lowest_empty = refl

-- the squares below k were tried, and the test held at each
pub record Tried (f : ℕ → Bool) (k : ℕ) : Type 0 where
  pub held : (i : ℕ) → i < k → f i ≡ true

pub none_tried : (f : ℕ → Bool) → Tried f 0
none_tried f = record { held = λ i h. absurd (omega arith) }

pub one_more : (f : ℕ → Bool) (k : ℕ) → Tried f k → f k ≡ true → Tried f (k + 1)
one_more f k t e = record { held = λ i h. go i (omega arith) (eqb i k) refl }
  where
    go : (i : ℕ) → i ≤ k → (b : Bool) → eqb i k ≡ b → f i ≡ true
    go i l true q = ap f (eqb-true i k q) ∙ e
    go i l false q = let ne = eqb-false i k q in t.held i (omega (arith, ne))

pub lowest_small : (b : ℕ) → lowest_of b ≤ 64
lowest_small b = rw (← scan_is b) (scanned_lowest 64 b).inside

module _ (f : ℕ → Bool) where
  -- it is the one number with these properties
  pub lowest_is : (s : ℕ) → Lowest f s → lowest_wrong f ≡ s
  unfolding lowest_wrong
  lowest_is s l = first_is 64 0 s (λ k. not (f k)) (omega arith) (omega (arith, l.below)) (ap not l.wrong) (λ i h. ap not (l.before i h))

  pub lowest_of_holds : lowest_of (wrong_of f) ≡ lowest_wrong f
  unfolding lowest_of lowest_wrong
  lowest_of_holds = first_same 64 0 (has (wrong_of f)) (λ k. not (f k)) (λ i h. has_those 64 (λ k. not (f k)) i (omega arith))

  -- no square is wrong where the test holds over all
  pub none_wrong : eqb (wrong_of f) 0 ≡ all_below 64 f
  none_wrong = those_none (λ k. not (f k)) ∙ all_same 64 (λ k. not (not (f k))) f (λ k h. not-not (f k))

  pub lowest_none : all_below 64 f ≡ true → lowest_wrong f ≡ 64
  lowest_none e = sym lowest_of_holds ∙ ap lowest_of (eqb-true (wrong_of f) 0 (none_wrong ∙ e)) ∙ lowest_empty

  -- where it doesn't, there is a lowest such square
  pub lowest_there : all_below 64 f ≡ false → Lowest f (lowest_wrong f)
  lowest_there e = at (count_trailing_zeros 64 (wrong_of f)) refl
    where
      some_wrong : wrong_of f ≡ 0 → ⊥
      some_wrong = eqb-false (wrong_of f) 0 (none_wrong ∙ e)

      inside : count_trailing_zeros 64 (wrong_of f) < 64
      inside = scan_lt (wrong_of f) (those_lt 64 (λ k. not (f k))) some_wrong

      at : (s : ℕ) → s ≡ count_trailing_zeros 64 (wrong_of f) → Lowest f (lowest_wrong f)
      at s q = rw (← lowest_of_holds, ← scan_is (wrong_of f)) record {
        below = inside;
        wrong = not-true (f (count_trailing_zeros 64 (wrong_of f))) (sym (has_those 64 (λ k. not (f k)) (count_trailing_zeros 64 (wrong_of f)) inside)
            ∙ (scanned_lowest 64 (wrong_of f)).found inside);
        before = λ k h. not-false (f k) (sym (has_those 64 (λ j. not (f j)) k (omega (arith, inside))) ∙ (scanned_lowest 64 (wrong_of f)).clear k h);
      }

  -- ---- what a return gives
  module _ {A : Type 0} (refusal : ℕ → Refusal) (rest : Answer A) where
    pub named : (b s : ℕ) → b ≡ wrong_of f → (b ≡ 0 → ⊥) → s ≡ lowest_of b → refusal_of (refusal s) ≡ or_named f refusal rest
    named b s e n q =
        ap (λ (x : ℕ). refusal_of (refusal x)) (q ∙ ap lowest_of e ∙ lowest_of_holds)
        ∙ sym (ap (λ (t : Bool). or_refuse t (refusal (lowest_wrong f)) rest) (sym none_wrong ∙ ap (λ (x : ℕ). eqb x 0) (sym e) ∙ ne_eqb b 0 n))

    pub passed : (b : ℕ) → b ≡ wrong_of f → b ≡ 0 → rest ≡ or_named f refusal rest
    passed b e z = sym (ap (λ (t : Bool). or_refuse t (refusal (lowest_wrong f)) rest) (sym none_wrong ∙ ap (λ (x : ℕ). eqb x 0) (sym e) ∙ eq-eqb b 0 z))

  -- a test that is made square by square: it stops at the first that fails, or comes to the end
  pub stopped : (k : ℕ) → k < 64 → Tried f k → f k ≡ false → k ≡ lowest_wrong f
  stopped k h t e = sym (lowest_is k (record { below = h; wrong = e; before = t.held }))

  pub ended : (k : ℕ) → k ≡ 64 → Tried f k → k ≡ lowest_wrong f
  ended k e t = e ∙ sym (lowest_none (T_true (all_below 64 f) (all_of 64 f (λ i h. true_T (t.held i (omega arith))))))

  -- the last test of an order, where the lowest square is found without asking whether there is one
  pub last : {A : Type 0} (refusal : ℕ → Refusal) (s : ℕ) → s ≡ lowest_wrong f → refusal_of {A = A} (refusal s) ≡ or_named f refusal (refusal_of (refusal 64))
  last {A} refusal s e = ap (λ (x : ℕ). refusal_of {A = A} (refusal x)) e ∙ go (all_below 64 f) refl
    where
      go : (t : Bool) → all_below 64 f ≡ t → refusal_of {A = A} (refusal (lowest_wrong f)) ≡ or_refuse t (refusal (lowest_wrong f)) (refusal_of (refusal 64))
      go true q = ap (λ (x : ℕ). refusal_of {A = A} (refusal x)) (lowest_none q)
      go false q = refl
