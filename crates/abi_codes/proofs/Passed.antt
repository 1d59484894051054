-- How an answer passes a door: what it reads on the paper is what the door's numbers say. Assumes nothing.
use mathlib.Core.Path.{◌≡◌, sym, ap, ◌∙◌}
use Rattle.refusal.specs.Answer.{Answer}
use Rattle.abi_codes.specs.Codes.{answer_number, lent_after, Door, Doors}
use Rattle.abi_codes.specs.declared.Code.{Code}

-- what the case that was met reads, the call's answer is
pub met : {A X : Type 0} (paper : X → Answer A) {a : Answer A} {r x : X} → paper r ≡ a → r ≡ x → paper x ≡ a
met paper p m = sym (ap paper m) ∙ p

pub door_passed : {A B : Type 0} {part : A → B} {old : B} {x a : Answer A} {n : Code} {new : B}
    → x ≡ a → n ≡ answer_number x → new ≡ lent_after part old x → Door a part old n new
door_passed {part = part} {old = old} e h g = record { code = h ∙ ap answer_number e; lent = g ∙ ap (lent_after part old) e }

pub doors_passed : {A B C : Type 0} {first : A → B} {second : A → C} {old : B} {old2 : C} {x a : Answer A} {n : Code} {new : B} {new2 : C}
    → x ≡ a → n ≡ answer_number x → new ≡ lent_after first old x → new2 ≡ lent_after second old2 x → Doors a first second old old2 n new new2
doors_passed {first = first} {second = second} {old = old} {old2 = old2} e h g k =
    record { code = h ∙ ap answer_number e; lent = g ∙ ap (lent_after first old) e; lent2 = k ∙ ap (lent_after second old2) e }
