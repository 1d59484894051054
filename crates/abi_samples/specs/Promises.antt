-- What each door to a collection's samples promises, for all inputs: the number that comes back and every lent number afterwards. Definitions only.
use Rattle.std.specs.Prelude.{◌≡◌, List, ℕ, length}
use Rattle.abi_codes.specs.declared.Code.{Code}
use Rattle.text_out.specs.Text.{written_of as bufferOf}
use Rattle.line_cut.specs.Cut.{CutSoFar}
use Rattle.ledger_feed.specs.Promises.{Came}
use Rattle.sift_form.specs.declared.Form.TheVariants as M
use Rattle.sift_feed.specs.Sifting.{Sifting, so_far_in}
use Rattle.sift_feed.specs.Promises.{sift_of, line_sifted, sifting_in}
use Rattle.sift_finish.specs.Last.{all_rows, sifted_last, last_made, last_rows}
use Rattle.abi_ledgers.specs.Ledger.{state_from, state_numbers, came_number, lent_after_came}

-- the collection sifted, a sample made of each loaded line
abbrev pub samples_of : List ℕ → List ℕ → List ℕ → List ℕ → List ℕ → Came (CutSoFar Sifting)
samples_of state line chunk samples rows = sift_of (state_from state) M.Sample line chunk samples rows

abbrev pub samples_last : List ℕ → List ℕ → List ℕ → List ℕ → Came Sifting
samples_last state line samples rows = sifted_last (state_from state) M.Sample line samples rows

pub record FeedsSamples (state line chunk samples rows : List ℕ) (sampled wrote : ℕ) (r : Code) (state' line' samples' rows' : List ℕ)
    (sampled' wrote' : ℕ) : Type 0 where
  pub code : r ≡ came_number (samples_of state line chunk samples rows)
  pub lent : state' ≡ lent_after_came (λ (m : CutSoFar Sifting). state_numbers (so_far_in m)) state (samples_of state line chunk samples rows)
  pub kept : line' ≡ line_sifted (samples_of state line chunk samples rows) line
  pub making : samples' ≡ bufferOf samples 0 (sifting_in (samples_of state line chunk samples rows)).made
  pub rowing : rows' ≡ bufferOf rows 0 (sifting_in (samples_of state line chunk samples rows)).rows
  pub lent2 : sampled' ≡ lent_after_came (λ (m : CutSoFar Sifting). length m.kept.made) sampled (samples_of state line chunk samples rows)
  pub lent3 : wrote' ≡ lent_after_came (λ (m : CutSoFar Sifting). length m.kept.rows) wrote (samples_of state line chunk samples rows)

pub record FinishesSamples (state line samples rows : List ℕ) (sampled wrote : ℕ) (r : Code) (samples' rows' : List ℕ) (sampled' wrote' : ℕ) : Type 0 where
  pub code : r ≡ came_number (samples_last state line samples rows)
  pub making : samples' ≡ bufferOf samples 0 (last_made (samples_last state line samples rows))
  pub rowing : rows' ≡ bufferOf rows 0 (last_rows (samples_last state line samples rows))
  pub lent : sampled' ≡ lent_after_came (λ (s : Sifting). length s.made) sampled (samples_last state line samples rows)
  pub lent2 : wrote' ≡ lent_after_came (λ (s : Sifting). length (all_rows s)) wrote (samples_last state line samples rows)
