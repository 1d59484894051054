-- What `join` promises, for all inputs. Definitions only.
use Rattle.std.specs.Prelude.{◌≡◌, ℕ, List, Result}
use Rattle.store_record.specs.Promises.{is_stored, place_after}
use Rattle.store_joined.specs.Summaries.{summaries_joined}
use Rattle.refusal.specs.declared.Refusal.{Refusal}
use Rattle.refusal.specs.Answer.{answered}

pub record JoinsSummaries (summary more : List ℕ) (r : Result Unit Refusal) (summary' : List ℕ) : Type 0 where
  pub answer : answered r ≡ is_stored (summaries_joined summary more)
  pub counts : summary' ≡ place_after (summaries_joined summary more) summary
