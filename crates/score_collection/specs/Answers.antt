-- The code's answers on the paper. Definitions only.
use Rattle.std.specs.Prelude.{Result}
use Rattle.refusal.specs.Answer.{answered}
use Rattle.score_errors.specs.declared.Totals.{Totals}
use Rattle.score_collection.specs.Gather.{noted}
use Rattle.score_collection.specs.declared.Sum.{Sum}
use Rattle.refusal.specs.declared.Refusal.{Refusal}

-- what adding a line came to, by the code's answer
abbrev pub note_with : Sum → Result Totals Refusal → Sum
note_with sum r = noted sum (answered r)
