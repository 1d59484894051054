-- The summary of a store made by calls: a chunk for each call of `feed`, then the call of `finish`. Definitions only.
use Rattle.std.specs.Prelude.{◌≡◌, List, [], ◌∷◌, ◌++◌, ℕ, Result, Ok, Err}
use Rattle.store_summary.specs.Promises.{records_in}
use Rattle.store_gather.specs.Promises.{FeedsSummary, EndsSummary}
use Rattle.store_gather.specs.declared.First.{First}
use Rattle.store_gather.specs.declared.GatheredSoFar.{GatheredSoFar}
use Rattle.refusal.specs.declared.Refusal.{Refusal}

-- a call of `feed`: what it was lent, what it answered, and the memory afterwards
pub record GatherCall : Type 0 where
  pub chunk : List ℕ
  pub fed : Result GatheredSoFar Refusal
  pub piece' : List ℕ
  pub summary' : List ℕ

-- the state that a call hands on
abbrev pub gather_next : Result GatheredSoFar Refusal → GatheredSoFar → GatheredSoFar
gather_next (Ok state) before = state
gather_next (Err r) before = before

-- each call does what `feed` promises, from what the call before it left; then `finish`, with the records that the summary counts
unfoldable pub GatherCallsMade : GatheredSoFar → List ℕ → List ℕ → List GatherCall → First → List ℕ → Type 0
GatherCallsMade state piece summary [] first last = EndsSummary state (records_in summary) first × (summary ≡ last)
GatherCallsMade state piece summary (c ∷ cs) first last =
    FeedsSummary state piece c.chunk summary c.fed c.piece' c.summary'
    × GatherCallsMade (gather_next c.fed state) c.piece' c.summary' cs first last

-- the whole store, which the chunks are cut from
unfoldable pub gather_input : List GatherCall → List ℕ
gather_input [] = []
gather_input (c ∷ cs) = c.chunk ++ gather_input cs

-- before the first call
abbrev pub fresh_gather : GatheredSoFar
fresh_gather = record { held = 0; number = 0; refusal = 0 }
