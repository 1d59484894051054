-- WHAT IS CLAIMED OF JOINED SUMS: the sums over parts of a collection, put together, are the sum over the whole (document 02, W-210). Definitions only.
use Rattle.std.specs.Prelude.{◌≡◌, true, ◌||◌, List, ◌++◌, map, ℕ}
use Rattle.refusal.specs.Answer.{given}
use Rattle.score_errors.specs.Promises.{none}
use Rattle.ledger_whole.specs.Whole.{joined, ends_in_lf}
use Rattle.ledger_joined.specs.Joined.{is_empty, at_line_ends}
use Rattle.score_collected.specs.Collected.{collected_of}
use Rattle.score_joined.specs.Sums.{sums_joined, sums_joined_from}

-- THE THEOREM: for any texts cut at line ends, however many, the sum over each joined to those before it is the sum over all of them together: MANY
-- exactly where that is
pub record SumsOfParts (parts : List (List ℕ)) : Type 0 where
  pub whole : at_line_ends parts ≡ true → sums_joined_from (given (none, 0)) (map collected_of parts) ≡ collected_of (joined parts)

-- and of two texts of which the first is empty or ends with a line: so parts may be joined in any grouping
pub record SumsOfTwo (a b : List ℕ) : Type 0 where
  pub whole : (is_empty a || ends_in_lf a) ≡ true → sums_joined (collected_of a) (collected_of b) ≡ collected_of (a ++ b)
