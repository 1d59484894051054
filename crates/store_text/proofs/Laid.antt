-- Texts laid one after another: how long they are, and the loop that lays them. Assumes nothing.
use Rattle.std.proofs.Common.{◌≡◌, ℕ, zero, suc, ◌+◌, ◌*◌, ◌<◌, ◌≤◌, List, ◌++◌, length, sym, subst, suc-mul, add-one, arith, length-append}
use Rattle.text_out.specs.Text.{Adds}
use Rattle.text_out.proofs.Added.{adds_then, adds_none}
use Rattle.ledger_totals.proofs.Point.{after_room}
use Rattle.store_text.specs.Board.{laid}

both : (a b m k : ℕ) → a ≤ m → b ≤ k → a + b ≤ m + k
both a b m k p q = omega arith

pub length_laid : (n k : ℕ) (f : ℕ → List ℕ) → ((i : ℕ) → length (f i) ≤ k) → length (laid n f) ≤ n * k
unfolding laid
length_laid zero k f h = omega arith
length_laid (suc n) k f h =
    let e = length-append (laid n f) (f n) in
    let m = suc-mul n k in
    let b = both (length (laid n f)) (length (f n)) (n * k) k (length_laid n k f h) (h n) in
    subst (λ (z : ℕ). length (laid n f ++ f n) ≤ z) (sym m) (subst (λ (z : ℕ). z ≤ n * k + k) (sym e) b)

-- ---- the loop: the first i of n texts are laid
pub record Laying (n : ℕ) (f : ℕ → List ℕ) (old : List ℕ) (at : ℕ) (now : List ℕ) (end i : ℕ) : Type 0 where
  pub most : i ≤ n
  pub adds : Adds old at (laid i f) now end

pub laying_none : (n : ℕ) (f : ℕ → List ℕ) (old : List ℕ) (at : ℕ) → at ≤ length old → Laying n f old at old at 0
unfolding laid
laying_none n f old at h = record { most = omega arith; adds = adds_none old at }

module _ (n k : ℕ) (f : ℕ → List ℕ) (size : (i : ℕ) → length (f i) ≤ k) (old : List ℕ) (at : ℕ) (now : List ℕ) (end i : ℕ) (l : Laying n f old at now end i)
    (room : at + (i * k + k) ≤ length old) where
  -- there is room for one more
  pub laying_room : end + k ≤ length now
  laying_room = after_room (i * k) k l.adds (length_laid i k f size) room

  pub laying_more : i < n → (now' : List ℕ) (end' : ℕ) → Adds now end (f i) now' end' → Laying n f old at now' end' (i + 1)
  unfolding laid
  laying_more h now' end' a =
      let b = both (length (laid i f)) (length (f i)) (i * k) k (length_laid i k f size) (size i) in
      record {
        most = omega arith;
        adds = subst (λ (j : ℕ). Adds old at (laid j f) now' end') (sym (add-one i))
            (adds_then l.adds a (fits at (length (laid i f) + length (f i)) (i * k + k) (length old) b room));
      }
    where
      fits : (x a b c : ℕ) → a ≤ b → x + b ≤ c → x + a ≤ c
      fits x a b c p q = omega arith

pub laying_all : (n : ℕ) (f : ℕ → List ℕ) (old : List ℕ) (at : ℕ) (now : List ℕ) (end i : ℕ) → Laying n f old at now end i → n ≤ i
    → Adds old at (laid n f) now end
laying_all n f old at now end i l h =
    let e : i ≡ n = (let m = l.most in omega arith) in
    subst (λ (j : ℕ). Adds old at (laid j f) now end) e l.adds

-- the same text in other words
pub by_text : {x y : List ℕ} {at b : ℕ} {t u : List ℕ} → t ≡ u → Adds x at t y b → Adds x at u y b
by_text {x} {y} {at} {b} e p = subst (λ (l : List ℕ). Adds x at l y b) e p
