-- Which part of a position is at odds (document 02, W-201). Definitions only.
use Rattle.std.specs.Prelude.{List, ℕ}
use Rattle.refusal.specs.Answer.{Answer}
use Rattle.refusal.specs.declared.Refusal.TheVariants as R
use Rattle.position_boards.specs.Sound.{apart, united}
use Rattle.position_consistent.specs.Consistent.{agrees}
use Rattle.position_odds.specs.Named.{or_named}

-- "two piece boards overlap, a colour's union is wrong, a board byte disagrees": "overlap is tried first over all squares, then the unions, then the bytes"
unfoldable pub or_odds : {A : Type 0} → List ℕ → List ℕ → Answer A → Answer A
or_odds bbs bytes rest =
    or_named (apart bbs) (λ s. R.Overlap s) (or_named (united bbs) (λ s. R.Union s) (or_named (agrees bbs bytes) (λ s. R.Byteboard s) rest))
