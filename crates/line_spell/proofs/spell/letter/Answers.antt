-- `line_spell::spell::letter` meets its contract. Assumes nothing.
use mathlib.Core.Path.{◌≡◌, refl, sym, ap}
use Prim.Native.Nat.{ℕ, zero, suc}
use native.Mathlib.Omega.{arith}
use Rattle.line_text.specs.Spelt.{letter_of}
use Rattle.line_spell.proofs.spell.letter.Goals as goal

-- a code that is no piece's has no letter
none : (c : ℕ) → (c ≡ 2 → ⊥) → (c ≡ 3 → ⊥) → (c ≡ 4 → ⊥) → (c ≡ 5 → ⊥) → (c ≡ 6 → ⊥) → (c ≡ 7 → ⊥) → (c ≡ 8 → ⊥) → (c ≡ 9 → ⊥) → (c ≡ 10 → ⊥)
    → (c ≡ 11 → ⊥) → (c ≡ 12 → ⊥) → (c ≡ 13 → ⊥) → 0 ≡ letter_of c
unfolding letter_of
none zero a b d e f g h i j k l m = refl
none (suc zero) a b d e f g h i j k l m = refl
none (suc (suc zero)) a b d e f g h i j k l m = absurd (a refl)
none (suc (suc (suc zero))) a b d e f g h i j k l m = absurd (b refl)
none (suc (suc (suc (suc zero)))) a b d e f g h i j k l m = absurd (d refl)
none (suc (suc (suc (suc (suc zero))))) a b d e f g h i j k l m = absurd (e refl)
none (suc (suc (suc (suc (suc (suc zero)))))) a b d e f g h i j k l m = absurd (f refl)
none (suc (suc (suc (suc (suc (suc (suc zero))))))) a b d e f g h i j k l m = absurd (g refl)
none (suc (suc (suc (suc (suc (suc (suc (suc zero)))))))) a b d e f g h i j k l m = absurd (h refl)
none (suc (suc (suc (suc (suc (suc (suc (suc (suc zero))))))))) a b d e f g h i j k l m = absurd (i refl)
none (suc (suc (suc (suc (suc (suc (suc (suc (suc (suc zero)))))))))) a b d e f g h i j k l m = absurd (j refl)
none (suc (suc (suc (suc (suc (suc (suc (suc (suc (suc (suc zero))))))))))) a b d e f g h i j k l m = absurd (k refl)
none (suc (suc (suc (suc (suc (suc (suc (suc (suc (suc (suc (suc zero)))))))))))) a b d e f g h i j k l m = absurd (l refl)
none (suc (suc (suc (suc (suc (suc (suc (suc (suc (suc (suc (suc (suc zero))))))))))))) a b d e f g h i j k l m = absurd (m refl)
none (suc (suc (suc (suc (suc (suc (suc (suc (suc (suc (suc (suc (suc (suc c)))))))))))))) a b d e f g h i j k l m = refl

pub returns-in-2 : goal.returns-in-2
unfolding letter_of
returns-in-2 c = sym (ap letter_of c.in-2.is)

pub returns-in-3 : goal.returns-in-3
unfolding letter_of
returns-in-3 c = sym (ap letter_of c.in-3.is)

pub returns-in-4 : goal.returns-in-4
unfolding letter_of
returns-in-4 c = sym (ap letter_of c.in-4.is)

pub returns-in-5 : goal.returns-in-5
unfolding letter_of
returns-in-5 c = sym (ap letter_of c.in-5.is)

pub returns-in-6 : goal.returns-in-6
unfolding letter_of
returns-in-6 c = sym (ap letter_of c.in-6.is)

pub returns-in-7 : goal.returns-in-7
unfolding letter_of
returns-in-7 c = sym (ap letter_of c.in-7.is)

pub returns-in-8 : goal.returns-in-8
unfolding letter_of
returns-in-8 c = sym (ap letter_of c.in-8.is)

pub returns-in-9 : goal.returns-in-9
unfolding letter_of
returns-in-9 c = sym (ap letter_of c.in-9.is)

pub returns-in-10 : goal.returns-in-10
unfolding letter_of
returns-in-10 c = sym (ap letter_of c.in-10.is)

pub returns-in-11 : goal.returns-in-11
unfolding letter_of
returns-in-11 c = sym (ap letter_of c.in-11.is)

pub returns-in-12 : goal.returns-in-12
unfolding letter_of
returns-in-12 c = sym (ap letter_of c.in-12.is)

pub returns-in-13 : goal.returns-in-13
unfolding letter_of
returns-in-13 c = sym (ap letter_of c.in-13.is)

pub returns-in_default : goal.returns-in_default
returns-in_default c = none _ (omega arith) (omega arith) (omega arith) (omega arith) (omega arith) (omega arith) (omega arith) (omega arith) (omega arith) (omega arith) (omega arith) (omega arith)
