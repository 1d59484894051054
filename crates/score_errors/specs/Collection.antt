-- The totals of a collection, worked out afresh from its lines, and its lines added one after another (document 02, W-210). Definitions only.
use Rattle.std.specs.Prelude.{◌≡◌, Bool, true, ◌&&◌, List, [], ◌∷◌, ℕ, ◌+◌, ◌≤◌, ◌<◌, ◌^◌, leb, ltb}
use Rattle.refusal.specs.Answer.{Answer, given, refused, or_refuse}
use Rattle.refusal.specs.declared.Refusal.TheVariants as R
use Rattle.score.specs.Score.{Outcome, verdict, score}
use Rattle.score_expected.specs.Expected.{table}
use Rattle.score_errors.specs.Errors.{square_with, totals_with}
use Rattle.score_errors.specs.Promises.{none}
use Rattle.score_errors.specs.declared.Totals.{Totals}

-- a line that was loaded: its side to move, its answer, its half points
pub record LoadedLine : Type 0 where
  pub side : ℕ
  pub answer : Answer Outcome
  pub half : ℕ

-- 1 for a line with a score, 1 for a line with a verdict or `over`, and the squared distance of the former
abbrev pub is_scored : Answer Outcome → ℕ
is_scored (given (score z)) = 1
is_scored (given (verdict v)) = 0
is_scored (refused number beside) = 0

abbrev pub is_apart : Answer Outcome → ℕ
is_apart (given (score z)) = 0
is_apart (given (verdict v)) = 1
is_apart (refused number beside) = 1

abbrev pub squared : ℕ → Answer Outcome → ℕ → ℕ
squared side (given (score z)) half = square_with table side z half
squared side (given (verdict v)) half = 0
squared side (refused number beside) half = 0

-- each total by itself, from the lines
unfoldable pub scored_in : List LoadedLine → ℕ
scored_in [] = 0
scored_in (l ∷ ls) = is_scored l.answer + scored_in ls

unfoldable pub apart_in : List LoadedLine → ℕ
apart_in [] = 0
apart_in (l ∷ ls) = is_apart l.answer + apart_in ls

unfoldable pub sum_in : List LoadedLine → ℕ
sum_in [] = 0
sum_in (l ∷ ls) = squared l.side l.answer l.half + sum_in ls

abbrev pub fresh_of : List LoadedLine → Totals
fresh_of ls = record { scored = scored_in ls; apart = apart_in ls; sum = sum_in ls }

-- the lines added one after another, up to the first that is refused
abbrev pub go_on : Answer Totals → (Totals → Answer Totals) → Answer Totals
go_on (given totals) next = next totals
go_on (refused number beside) next = refused number beside

unfoldable pub add_all : Totals → List LoadedLine → Answer Totals
add_all totals [] = given totals
add_all totals (l ∷ ls) = go_on (totals_with totals l.side l.answer l.half) (λ u. add_all u ls)

-- sides 0 and 1, half points 0 to 2: what every loaded line has
unfoldable pub well_loaded : List LoadedLine → Bool
well_loaded [] = true
well_loaded (l ∷ ls) = (ltb l.side 2 && ltb l.half 3) && well_loaded ls

-- THE TOTALS: from none, over any list of loaded lines, they are the sums worked out afresh from the list, or MANY exactly where a kind has more
-- than a million lines: never because a sum would pass 64 bits
pub record Fresh (ls : List LoadedLine) : Type 0 where
  pub totals : well_loaded ls ≡ true → add_all none ls ≡ or_refuse (leb (scored_in ls) 1000000 && leb (apart_in ls) 1000000) R.Many (given (fresh_of ls))
  pub small : well_loaded ls ≡ true → scored_in ls ≤ 1000000 → sum_in ls < 2 ^ 64
