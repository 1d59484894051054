-- A letter's piece by arithmetic: one test over all bytes. Assumes nothing.
use mathlib.Core.Path.{◌≡◌, sym, ap, ◌∙◌}
use mathlib.Core.Bool.{Bool, cond}
use Prim.Native.Nat.{ℕ, ◌+◌, ◌*◌, ◌/◌, ◌%◌, ◌^◌, ◌<◌, ◌≤◌}
use lib.Dec.{eqb, ltb, eqb→eq}
use borrow.Author.Tests.{lt-ltb, le-ltb, eq-eqb, ne_eqb}
use Rattle.laws.specs.Tests.{all_below}
use Rattle.laws.proofs.Tests.{all_at}
use Rattle.line_ranks.specs.Ranks.{piece_of}

abbrev half : ℕ → ℕ
half b = 0x0171080600000100 / 2 ^ (3 * (b % 32)) % 8

abbrev code : ℕ → ℕ
code b = 2 * half b + b / 32 % 2

-- the code's tests, one inside the other
abbrev within : ℕ → ℕ
within b = cond (eqb (half b) 0) 0 (code b)

abbrev lettered : ℕ → ℕ
lettered b = cond (ltb b 66) 0 (cond (ltb 114 b) 0 (cond (ltb 18 (b % 32)) 0 (within b)))

module _ (b : ℕ) (h : b < 256) where
  is_lettered : lettered b ≡ piece_of b
  unfolding all_below piece_of
  is_lettered = eqb→eq (lettered b) (piece_of b) (all_at 256 (λ k. eqb (lettered k) (piece_of k)) tt b h)

  pub before_letters : b < 66 → 0 ≡ piece_of b
  before_letters l = sym (ap (λ (t : Bool). cond t 0 (cond (ltb 114 b) 0 (cond (ltb 18 (b % 32)) 0 (within b)))) (lt-ltb b 66 l)) ∙ is_lettered

  from_b : 66 ≤ b → cond (ltb 114 b) 0 (cond (ltb 18 (b % 32)) 0 (within b)) ≡ piece_of b
  from_b l = sym (ap (λ (t : Bool). cond t 0 (cond (ltb 114 b) 0 (cond (ltb 18 (b % 32)) 0 (within b)))) (le-ltb b 66 l)) ∙ is_lettered

  pub after_letters : 66 ≤ b → 114 < b → 0 ≡ piece_of b
  after_letters l m = sym (ap (λ (t : Bool). cond t 0 (cond (ltb 18 (b % 32)) 0 (within b))) (lt-ltb 114 b m)) ∙ from_b l

  to_r : 66 ≤ b → b ≤ 114 → cond (ltb 18 (b % 32)) 0 (within b) ≡ piece_of b
  to_r l m = sym (ap (λ (t : Bool). cond t 0 (cond (ltb 18 (b % 32)) 0 (within b))) (le-ltb 114 b m)) ∙ from_b l

  pub past_r : 66 ≤ b → b ≤ 114 → 18 < b % 32 → 0 ≡ piece_of b
  past_r l m n = sym (ap (λ (t : Bool). cond t 0 (within b)) (lt-ltb 18 (b % 32) n)) ∙ to_r l m

  letter : 66 ≤ b → b ≤ 114 → b % 32 ≤ 18 → within b ≡ piece_of b
  letter l m n = sym (ap (λ (t : Bool). cond t 0 (within b)) (le-ltb 18 (b % 32) n)) ∙ to_r l m

  pub no_piece : 66 ≤ b → b ≤ 114 → b % 32 ≤ 18 → half b ≡ 0 → 0 ≡ piece_of b
  no_piece l m n e = sym (ap (λ (t : Bool). cond t 0 (code b)) (eq-eqb (half b) 0 e)) ∙ letter l m n

  pub a_piece : 66 ≤ b → b ≤ 114 → b % 32 ≤ 18 → (half b ≡ 0 → ⊥) → code b ≡ piece_of b
  a_piece l m n e = sym (ap (λ (t : Bool). cond t 0 (code b)) (ne_eqb (half b) 0 e)) ∙ letter l m n
