-- What the function promises, for all inputs. Definitions only.
use Rattle.std.specs.Prelude.{◌≡◌, List, ℕ}
use Rattle.captures_question.specs.Question.{move_field, order_field, nth_square, kinds_in}
use Rattle.captures_question.specs.declared.inner.Asked.{Asked}

pub record Asks (question : List ℕ) (r : Asked) : Type 0 where
  pub start : r.from ≡ nth_square (move_field question) 0
  pub target : r.to ≡ nth_square (move_field question) 2
  pub kinds : r.order ≡ kinds_in (order_field question)
