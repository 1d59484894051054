-- The code's answers on the paper. Definitions only.
use Rattle.score_verdict.specs.Verdict as P
use Rattle.score_verdict.specs.declared.Verdict.{Verdict}
use Rattle.score_verdict.specs.declared.Verdict.TheVariants as C
use Rattle.std.specs.Prelude.{Option, None, Some}

abbrev pub verdict_paper : Option Verdict → P.Verdict
verdict_paper (Some C.Lost) = P.lost
verdict_paper (Some C.Won) = P.won
verdict_paper (Some C.Drawn) = P.drawn
verdict_paper None = P.none
