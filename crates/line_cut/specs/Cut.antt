-- The lines of a collection as they are found, byte by byte: what is kept of an unfinished line, and a machine for whatever is done with a line
-- that ends (document 01, "A collection's line"). Definitions only.
use Rattle.std.specs.Prelude.{Bool, true, false, cond, List, [], ◌∷◌, ℕ, ◌+◌, ◌-◌, eqb, ltb, set}
use Rattle.text_in.specs.Text.{cr}
use Rattle.line_cut.specs.Lines.{lf}

-- "line over 256 bytes": as many are kept
abbrev pub longest : ℕ
longest = 256

-- an unfinished line
pub record Open : Type 0 where
  -- the line buffer, whole
  pub line : List ℕ
  -- how many bytes the line has, counted to 258
  pub held : ℕ
  -- its last byte is a CR
  pub cr : Bool

-- ---- a byte of a line
abbrev pub kept_byte : List ℕ → ℕ → ℕ → List ℕ
kept_byte line held byte = cond (ltb held longest) (set line held byte) line

-- two more are the fewest that tell a line of 257 bytes, a CR among them, from a longer one
abbrev pub one_more_rule : ℕ → ℕ
one_more_rule held = cond (ltb held (longest + 2)) (held + 1) held

abbrev pub pushed : Open → ℕ → Open
pushed o byte = record { line = kept_byte o.line o.held byte; held = one_more_rule o.held; cr = eqb byte cr }

-- ---- the end of a line: its length where one CR is dropped; the next one is begun
abbrev pub bare_of : ℕ → Bool → ℕ
bare_of held ends = cond ends (held - 1) held

abbrev pub line_emptied : Open → Open
line_emptied o = record { line = o.line; held = 0; cr = false }

-- ---- up to and with the next LF: how many bytes that are, what is then unfinished, and whether a line ended, of how many bytes
pub record Found : Type 0 where
  pub passed : ℕ
  pub left : Open
  pub ended : Bool
  pub size : ℕ

abbrev pub found_later : Found → Found
found_later f = record { passed = f.passed + 1; left = f.left; ended = f.ended; size = f.size }

unfoldable pub find_of : Open → List ℕ → Found
find_of o [] = record { passed = 0; left = o; ended = false; size = 0 }
find_of o (b ∷ s) =
    let on : Found = found_later (find_of (pushed o b) s) in
    cond (eqb b lf) (record { passed = 1; left = line_emptied o; ended = true; size = bare_of o.held o.cr }) on

-- ---- THE MACHINE, for anything that is kept beside the lines: `close` says what a line does to it, by the buffer and the line's length
pub record CutSoFar (S : Type 0) : Type 0 where
  pub left : Open
  pub kept : S

unfoldable pub run_by : {S : Type 0} → (S → List ℕ → ℕ → S) → Open → S → List ℕ → CutSoFar S
run_by close o s [] = record { left = o; kept = s }
run_by close o s (b ∷ t) =
    let ended : CutSoFar _ = run_by close (line_emptied o) (close s o.line (bare_of o.held o.cr)) t in
    let longer : CutSoFar _ = run_by close (pushed o b) s t in
    cond (eqb b lf) ended longer

-- the end of the input: an unfinished line ends there, CR and all
abbrev pub end_by : {S : Type 0} → (S → List ℕ → ℕ → S) → CutSoFar S → S
end_by close r = cond (ltb 0 r.left.held) (close r.kept r.left.line r.left.held) r.kept
