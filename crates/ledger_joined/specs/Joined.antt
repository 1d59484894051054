-- WHAT IS CLAIMED OF JOINING: parts put together are the whole, a single ledger comes out as it went in, and the machine over bytes does what the
-- definition asks. Definitions only.
use Rattle.std.specs.Prelude.{◌≡◌, Bool, true, cond, not, ◌&&◌, ◌||◌, List, [], ◌∷◌, ◌++◌, map, ℕ, length}
use Rattle.laws.specs.Tests.{same}
use Rattle.line_profile.specs.declared.Profile.TheVariants as P
use Rattle.ledger_whole.specs.Ledger.{ledger_of}
use Rattle.ledger_whole.specs.Whole.{joined, ends_in_lf}
use Rattle.ledger_join.specs.Join.{Checked, no_ledger, checked, with_rows, join_of}
use Rattle.ledger_join.specs.Machine.{Joint, joint, own_number, bytes_on}
use Rattle.ledger_join.specs.Promises.{first_part, next_part, totals_of_all}
use Rattle.ledger_join.specs.declared.Joining.{Joining}

-- ---- parts of a collection: each but the last is empty or ends with a line
abbrev pub is_empty : List ℕ → Bool
is_empty s = same s []

unfoldable pub at_line_ends : List (List ℕ) → Bool
at_line_ends [] = true
at_line_ends (p ∷ []) = true
at_line_ends (p ∷ (q ∷ ps)) = (is_empty p || ends_in_lf p) && at_line_ends (q ∷ ps)

-- THE THEOREM: for any texts cut at line ends, joining the ledger of each is the ledger of all of them together
pub record Joins (parts : List (List ℕ)) : Type 0 where
  pub whole : at_line_ends parts ≡ true → join_of (map (ledger_of P.Any) parts) ≡ checked (ledger_of P.Any (joined parts))

-- NO GARBLING: a single text that is taken comes out byte for byte
pub record OneKept (t u : List ℕ) : Type 0 where
  pub kept : join_of (t ∷ []) ≡ checked u → u ≡ t

-- ---- the machine: the bytes of each part are fed, `next_part` is asked after each, and `finish` after the last. A part is taken where its totals
-- were read and nothing after them; else it is no ledger
unfoldable pub machine_from : List ℕ → Joining → List (List ℕ) → Checked (List ℕ)
machine_from row s [] = checked (totals_of_all s)
machine_from row s (t ∷ ts) =
    let m : Joint = bytes_on (joint row s []) t in
    let taken : Checked (List ℕ) = with_rows m.text (machine_from m.row (next_part m.state) ts) in
    cond (m.state.ended && not m.state.stopped) taken (no_ledger m.state.part (own_number m.state))

-- THE MACHINE IS THE JOIN, whatever the row buffer held
pub record Machined (row : List ℕ) (texts : List (List ℕ)) : Type 0 where
  pub join : length row ≡ 84 → machine_from row first_part texts ≡ join_of texts

-- however a part is cut into chunks
pub record AnyCut (m : Joint) (a b : List ℕ) : Type 0 where
  pub cut : bytes_on m (a ++ b) ≡ bytes_on (bytes_on m a) b
  -- what was written before changes nothing
  pub text : (t : List ℕ) → bytes_on (joint m.row m.state (t ++ m.text)) a
      ≡ joint (bytes_on m a).row (bytes_on m a).state (t ++ (bytes_on m a).text)
