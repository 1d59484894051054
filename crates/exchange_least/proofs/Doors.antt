-- What the door returns once the position has passed its test: one law for each return. Assumes nothing.
use mathlib.Core.Path.{◌≡◌, sym, ap, ◌∙◌}
use mathlib.Core.Bool.{Bool, true, false}
use mathlib.Core.List.{List}
use Prim.Native.Nat.{ℕ}
use Rattle.refusal.specs.Answer.{Answer, given, or_refuse, refusal_of}
use Rattle.refusal.specs.declared.Refusal.TheVariants as R
use Rattle.exchange_order.specs.Orders.{each_once}
use Rattle.exchange_least.specs.Least.{Attacker, least_of}

module _ (kinds bbs : List ℕ) (colour attacks occ : ℕ) where
  abbrev pub rest : Answer Attacker
  rest = or_refuse (each_once kinds) R.Order (given (least_of kinds bbs colour attacks occ))

  pub no_order : each_once kinds ≡ false → refusal_of R.Order ≡ rest
  no_order e = sym (ap (λ (t : Bool). or_refuse t R.Order (given (least_of kinds bbs colour attacks occ))) e)

  pub picked : (a : Attacker) → each_once kinds ≡ true → a ≡ least_of kinds bbs colour attacks occ → given a ≡ rest
  picked a e p = ap given p ∙ sym (ap (λ (t : Bool). or_refuse t R.Order (given (least_of kinds bbs colour attacks occ))) e)
