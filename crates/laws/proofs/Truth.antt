-- What `T` of a Bool says of its parts, and when two Bools are one. Assumes nothing.
use mathlib.Core.Path.{◌≡◌, refl, sym, subst}
use mathlib.Core.Logic.{◌⊎◌, inl, inr}
use mathlib.Core.Bool.{Bool, true, false, not, ◌||◌, ◌&&◌, beq}
use lib.Dec.{T}

-- ---- a test and its value
pub true_T : {a : Bool} → a ≡ true → T a
true_T e = subst T (sym e) tt

pub T_true : (a : Bool) → T a → a ≡ true
T_true true t = refl
T_true false t = absurd t

pub T_false : (a : Bool) → (T a → ⊥) → a ≡ false
T_false true f = absurd (f tt)
T_false false f = refl

-- ---- `&&`, `||` and `not`
pub and_l : (a b : Bool) → T (a && b) → T a
and_l true b t = tt
and_l false b t = t

pub and_r : (a b : Bool) → T (a && b) → T b
and_r true b t = t
and_r false b t = absurd t

pub and_i : (a b : Bool) → T a → T b → T (a && b)
and_i true b s t = t
and_i false b s t = s

pub or_case : (a b : Bool) → T (a || b) → T a ⊎ T b
or_case true b t = inl tt
or_case false b t = inr t

pub or_l : (a b : Bool) → T a → T (a || b)
or_l true b t = tt
or_l false b t = absurd t

pub or_r : (a b : Bool) → T b → T (a || b)
or_r true b t = tt
or_r false b t = t

pub not_i : (a : Bool) → a ≡ false → T (not a)
not_i a e = subst (λ (b : Bool). T (not b)) (sym e) tt

pub not_e : (a : Bool) → T (not a) → a ≡ false
not_e true t = absurd t
not_e false t = refl

-- ---- two tests are one where each gives the other
pub iff : (a b : Bool) → (T a → T b) → (T b → T a) → a ≡ b
iff true true f g = refl
iff true false f g = absurd (f tt)
iff false true f g = absurd (g tt)
iff false false f g = refl

pub is_beq : (a b : Bool) → T (beq a b) → a ≡ b
is_beq true true t = refl
is_beq true false t = absurd t
is_beq false true t = absurd t
is_beq false false t = refl

pub beq_is : (a b : Bool) → a ≡ b → T (beq a b)
beq_is true true e = tt
beq_is true false e = subst T e tt
beq_is false true e = subst T (sym e) tt
beq_is false false e = tt
