-- What a line says under a profile (document 02, W-212). Definitions only.
use Rattle.std.specs.Prelude.{List, ℕ}
use Rattle.refusal.specs.Answer.{Answer, given, refused}
use Rattle.position_boards.specs.Boards.{bitboards_of}
use Rattle.position_profile.specs.Profile.{or_profile}
use Rattle.line_parse.specs.Line.{Line, line_of}
use Rattle.line_held.specs.Held.{said_of}
use Rattle.line_profile.specs.declared.Profile.{Profile}
use Rattle.line_profile.specs.declared.Profile.TheVariants as P

-- ".. in that order after RESULT": a line's own refusals come first, then its position's
abbrev pub played_line : Answer Line → Answer Line
played_line (given l) = or_profile (bitboards_of l.board) l.state (given l)
played_line (refused n v) = refused n v

-- what was said under a profile: "Add a profile", which a collection may have or not
abbrev pub under : Profile → Answer Line → Answer Line
under P.Any said = said
under P.RealPlay said = played_line said

-- what a line says under a profile
abbrev pub line_under : Profile → List ℕ → Answer Line
line_under profile line = under profile (line_of line)

-- the same of a line of so many bytes, where a buffer holds its first ones
abbrev pub said_under : Profile → List ℕ → ℕ → Answer Line
said_under profile line size = under profile (said_of line size)
