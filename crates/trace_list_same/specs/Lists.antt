-- What is claimed of a trace's list, by document 02, W-208, of the definitions that the doors promise. Definitions only.
use Rattle.std.specs.Prelude.{◌≡◌, ◌⊎◌, List, ℕ, ◌<◌, ◌≤◌, Float, ℤ, pos, nat_abs, ◌-ℤ◌, ◌*ℤ◌, length}
use Rattle.refusal.specs.Answer.{given}
use Rattle.chess.specs.Named.{white, black, king, turned_for_black}
use Rattle.places.specs.Places.{entry_place}
use Rattle.position.specs.declared.State.{State}
use Rattle.score_material.specs.Pieces.{count, pieces}
use Rattle.score.specs.Score.{eval_of, score}
use Rattle.trace_counts.specs.declared.Weights.{Weights}
use Rattle.trace_counts.specs.declared.Trace.{Trace}
use Rattle.trace_double.specs.Promises.{double_of}
use Rattle.trace.specs.Trace.{trace_of, entries_of}
use Rattle.trace_exact.specs.Exact.{shipped_whole, exact_sum}
use Rattle.fit_gradient.specs.Promises.{added_of}
use Rattle.fit_gradient.specs.Lists.{list_added_of}
use Rattle.trace_list.specs.Form.{list_places, flat_of, ones_in, list_bytes}
use Rattle.trace_list_double.specs.Promises.{list_double_of}
use Rattle.trace_list_turn.specs.Promises.{listed_of, bytes_after_rule, flattened_of}
use Rattle.trace_list_computed.specs.Promises.{list_traced_of, list_after}

-- "sorted by those three": one entry before another, by kind, then by square, then by colour
unfoldable pub EntryBefore : ℕ → ℕ → ℕ → ℕ → ℕ → ℕ → Type 0
EntryBefore k s c l t d = (k < l) ⊎ ((k ≡ l) × ((s < t) ⊎ ((s ≡ t) × (c < d))))

-- that is the order of their places in the flat form, by which a list is tested
pub record Sorted (k s c l t d : ℕ) : Type 0 where
  pub rises : EntryBefore k s c l t d → entry_place k s c < entry_place l t d
  pub before : entry_place k s c < entry_place l t d → EntryBefore k s c l t d

abbrev pub SortedByThree : Type 0
SortedByThree = (k s c l t d : ℕ) → s < 64 → c < 2 → t < 64 → d < 2 → Sorted k s c l t d

-- "Turning one form into the other and back changes nothing": a list that `flat_of` takes, and any memory lent to `list_of`
abbrev pub ListBack : Type 0
ListBack =
    (t : Trace) (used : ℕ) (list lent : List ℕ) (entries flat : List ℤ) → length list ≡ 192 → flattened_of t used list entries ≡ given flat
    → (listed_of t flat ≡ given used) × (bytes_after_rule (listed_of t flat) flat lent ≡ list)

-- and a flat trace that `list_of` takes
abbrev pub FlatBack : Type 0
FlatBack =
    (t : Trace) (used : ℕ) (list : List ℕ) (entries lent : List ℤ) → length lent ≡ 768 → listed_of t entries ≡ given used
    → flattened_of t used (bytes_after_rule (listed_of t entries) entries list) lent ≡ given entries

-- "the double from the list is the same bits as from the flat form, or both are NaN", for all weights: there is one `nan`
abbrev pub SameBits : Type 0
SameBits =
    (t : Trace) (used : ℕ) (list : List ℕ) (entries flat : List ℤ) (w : Weights) (squares : List Float) → flattened_of t used list entries ≡ given flat
    → list_double_of t used list w squares ≡ double_of t flat w squares

-- and so with a line of the gradient, for all coefficients and sums
abbrev pub SameLine : Type 0
SameLine =
    (t : Trace) (used : ℕ) (list : List ℕ) (entries flat : List ℤ) (c : Float) (g : List Float) → flattened_of t used list entries ≡ given flat
    → list_added_of t used list c g ≡ added_of t flat c g

-- what `compute_list` gives of a position is what `list_of` gives of its trace, with one entry for each piece: it is never refused as ENTRY
abbrev pub OfPositions : Type 0
OfPositions =
    (bbs board lent : List ℕ) (state : State) (t : Trace) → list_traced_of bbs board state ≡ given t
    → (listed_of t (entries_of bbs) ≡ given (pieces bbs)) × (bytes_after_rule (listed_of t (entries_of bbs)) (entries_of bbs) lent ≡ list_after (given t) bbs lent)

-- the exact sum of a list: the flat form's
abbrev pub list_exact_sum : Trace → ℕ → List ℕ → ℤ
list_exact_sum t used list = exact_sum shipped_whole t (flat_of (list_places list used))

-- "Demand 3 carries over": claims' Agreement, with the exact sum of the position's list
abbrev pub Carried : Type 0
Carried =
    (bbs board : List ℕ) (state : State) (s : ℤ) → count bbs king white ≡ count bbs king black → eval_of bbs board state ≡ given (score s)
    → nat_abs (s *ℤ pos 30 -ℤ turned_for_black state.side (list_exact_sum (trace_of bbs state.side) (pieces bbs) (list_bytes (ones_in (entries_of bbs))))) ≤ 85
