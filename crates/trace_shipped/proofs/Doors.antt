-- What `square_weights` returns: one law for each return. Assumes nothing.
use mathlib.Core.Path.{◌≡◌, sym, ap, ◌∙◌}
use mathlib.Core.Bool.{Bool, true, false, cond}
use mathlib.Core.List.{List}
use lib.Dec.{eqb}
use lib.Ieee.{Float}
use lib.ListN.{length}
use borrow.Author.Tests.{eq-eqb, ne_eqb}
use Rattle.refusal.specs.Answer.{given, or_refuse, refusal_of, answered}
use Rattle.refusal.specs.declared.Refusal.TheVariants as R
use Rattle.trace_shipped.specs.Weights.{shipped_squares}
use Rattle.trace_shipped.specs.Promises.{ShipsSquares}
use Rattle.std.specs.Prelude.{Result}
use Rattle.refusal.specs.declared.Refusal.{Refusal}

pub no_room : (squares : List Float) (r : Result Unit Refusal) → (length squares ≡ 768 → ⊥) → answered r ≡ refusal_of R.Shape → ShipsSquares squares r squares
no_room squares r n e =
    let t : eqb (length squares) 768 ≡ false = ne_eqb (length squares) 768 n in
    (e ∙ sym (ap (λ (b : Bool). or_refuse b R.Shape (given tt)) t), sym (ap (λ (b : Bool). cond b shipped_squares squares) t))

pub room : (squares after : List Float) (r : Result Unit Refusal) → length squares ≡ 768 → answered r ≡ given tt → after ≡ shipped_squares → ShipsSquares squares r after
room squares after r n e q =
    let t : eqb (length squares) 768 ≡ true = eq-eqb (length squares) 768 n in
    (e ∙ sym (ap (λ (b : Bool). or_refuse b R.Shape (given tt)) t), q ∙ sym (ap (λ (b : Bool). cond b shipped_squares squares) t))
