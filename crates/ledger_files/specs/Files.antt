-- A ledger of several files, one after another: the end of a file is an end of input to its last line. Definitions only.
use Rattle.std.specs.Prelude.{◌≡◌, Bool, cond, List, [], ◌∷◌, ◌++◌, ℕ, ◌^◌, ◌<◌, eqb, ltb, length}
use Rattle.text_in.specs.Text.{cr}
use Rattle.line_cut.specs.Lines.{lf, ends_in_cr, lines_of}
use Rattle.line_profile.specs.declared.Profile.{Profile}
use Rattle.ledger_feed.specs.Machine.{at, run}
use Rattle.ledger_feed.specs.Promises.{state_of}
use Rattle.ledger_feed.specs.declared.SoFar.{SoFar}
use Rattle.ledger_whole.specs.Ledger.{rows_from, totals_of}
use Rattle.ledger_whole.specs.Calls.{Call, Last, CallsMade, Roomy, all_written, input, fresh}
use Rattle.ledger_files.specs.declared.Ending.{Ending}
use Rattle.ledger_files.specs.declared.Ending.TheVariants as C

-- what is fed after a file, by whether a line is unfinished and whether it ends in a CR
abbrev pub closing_bytes : Bool → Bool → List ℕ
closing_bytes some carriage = cond some (cond carriage (cr ∷ (lf ∷ [])) (lf ∷ [])) []

abbrev pub fed_after : Ending → List ℕ
fed_after C.Nothing = []
fed_after C.Lf = lf ∷ []
fed_after C.CrLf = cr ∷ (lf ∷ [])

abbrev pub EndsFile : SoFar → Ending → Type 0
EndsFile state r = fed_after r ≡ closing_bytes (ltb 0 state.held) state.cr

-- what a file leaves unfinished: the bytes after its last LF, with a text that was read before
unfoldable pub unfinished_from : List ℕ → List ℕ → List ℕ
unfinished_from begun [] = begun
unfinished_from begun (b ∷ s) =
    let next : List ℕ = unfinished_from [] s in
    let longer : List ℕ = unfinished_from (begun ++ (b ∷ [])) s in
    cond (eqb b lf) next longer

-- a file with what is fed after it
abbrev pub closed : List ℕ → List ℕ
closed file = file ++ closing_bytes (ltb 0 (length (unfinished_from [] file))) (ends_in_cr (unfinished_from [] file))

-- all that is fed, file after file
unfoldable pub fed_of : List (List ℕ) → List ℕ
fed_of [] = []
fed_of (file ∷ files) = closed file ++ fed_of files

-- "A line ends before LF or the end of input": the lines of each file, and no line goes from one into the next
unfoldable pub lines_of_all : List (List ℕ) → List (List ℕ)
lines_of_all [] = []
lines_of_all (file ∷ files) = lines_of file ++ lines_of_all files

-- THE LEDGER OF FILES: a row for each of their lines, numbered through, and the totals of the same lines
abbrev pub ledger_of_all : Profile → List (List ℕ) → List ℕ
ledger_of_all profile files = rows_from profile 1 (lines_of_all files) ++ totals_of profile (lines_of_all files)

-- what is claimed: however the files are cut into calls, all that is written is their ledger, where what `closing` gives is fed after each
pub record Files (profile : Profile) (line : List ℕ) (files : List (List ℕ)) (calls : List Call) (last : Last) : Type 0 where
  pub ledger : length line ≡ 256 → Roomy calls last → length (lines_of_all files) < 2 ^ 64 → CallsMade profile fresh line calls last → input calls ≡ fed_of files
      → all_written calls last ≡ ledger_of_all profile files

-- and that `closing` gives what `closed` adds: by the state after a file, whatever files were before it
pub record Closed (profile : Profile) (line : List ℕ) (before : List (List ℕ)) (file : List ℕ) (r : Ending) : Type 0 where
  pub closing : length line ≡ 256 → EndsFile (state_of (run profile (at fresh line []) (fed_of before ++ file))) r → file ++ fed_after r ≡ closed file
