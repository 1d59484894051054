-- What each function promises, for all inputs. Definitions only.
use Rattle.std.specs.Prelude.{◌≡◌, false, List, ℕ, ◌+◌, drop}
use Rattle.line_cut.specs.Lines.{ends}
use Rattle.line_cut.specs.Cut.{Open, Found, find_of}
use Rattle.line_cut.specs.declared.Begun.{Begun}
use Rattle.line_cut.specs.declared.Cut.{Cut}

abbrev pub opened : Begun → List ℕ → Open
opened begun line = record { line = line; held = begun.held; cr = begun.cr }

-- before a line's first byte, whatever the buffer held
abbrev pub fresh_line : List ℕ → Open
fresh_line line = record { line = line; held = 0; cr = false }

-- how many lines end in a chunk
abbrev pub EndsIn : List ℕ → ℕ → Type 0
EndsIn chunk r = r ≡ ends chunk

-- what was found, as the code says it
abbrev pub cut_of : ℕ → Found → Cut
cut_of from f = record { at = from + f.passed; begun = record { held = f.left.held; cr = f.left.cr }; ended = f.ended; size = f.size }

pub record CutsNext (begun : Begun) (line chunk : List ℕ) (from : ℕ) (r : Cut) (line' : List ℕ) : Type 0 where
  pub answer : r ≡ cut_of from (find_of (opened begun line) (drop from chunk))
  pub kept : line' ≡ (find_of (opened begun line) (drop from chunk)).left.line
