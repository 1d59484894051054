-- The end of the input: what the machine then writes. Definitions only.
use Rattle.std.specs.Prelude.{cond, List, ◌++◌, ℕ, ◌+◌, ltb}
use Rattle.ledger_totals.specs.Totals.{last_row}
use Rattle.line_profile.specs.declared.Profile.{Profile}
use Rattle.ledger_feed.specs.Machine.{Machine, close}

-- an unfinished line gets its row, CR and all
abbrev pub ended : Profile → Machine → Machine
ended profile m = cond (ltb 0 m.held) (close profile m m.held) m

abbrev pub totals : Machine → List ℕ
totals m = last_row (m.loaded + m.refused) m.loaded m.refused

unfoldable pub finished : Profile → Machine → List ℕ
finished profile m = (ended profile m).text ++ totals (ended profile m)
