-- The flat form's double is the fold over the places of its ones, and so is the double of a list: `same_bits`. Assumes nothing.
use mathlib.Core.Path.{◌≡◌, refl, ap, ◌∙◌}
use mathlib.Core.Bool.{cond}
use mathlib.Core.List.{List}
use Prim.Native.Nat.{ℕ, suc, ◌≤◌}
use native.Mathlib.Omega.{arith}
use lib.Dec.{T}
use lib.IntN.{ℤ, pos}
use lib.Signed.{lt_z}
use lib.ListN.{get_or, length}
use lib.Ieee.{Float}
use Rattle.trace_counts.specs.Ranges.{are_entries}
use Rattle.trace_counts.specs.declared.Weights.{Weights}
use Rattle.trace_counts.specs.declared.Trace.{Trace}
use Rattle.doubles.specs.Doubles.{dbl}
use Rattle.trace_named.specs.Named.{named}
use Rattle.trace_double.specs.Double.{entry_added, folded, double}
use Rattle.trace_list.specs.Ones.{ones, over}
use Rattle.trace_list.specs.Form.{is_one_rule, list_places, ones_in, flat_of}
use Rattle.trace_list.proofs.Ones.{passed_over}
use Rattle.trace_list.proofs.There.{Listed, back}
use Rattle.trace_list.proofs.Flat.{Mark, no, yes, mark_at, flat_entries, flat_length}
use Rattle.trace_list_double.specs.Promises.{weighed}

-- ---- an entry that is 0 adds nothing
one : (squares : List Float) (x score : Float) (k : ℕ) {z : ℤ} → Mark z
    → entry_added squares x score k z ≡ cond (lt_z (pos 0) z) (weighed squares x score k) score
unfolding entry_added
one squares x score k no = refl
one squares x score k yes = refl

more : (squares : List Float) (x : Float) (entries : List ℤ) (start : Float) (k : ℕ)
    → folded squares x entries start (suc k) ≡ entry_added squares x (folded squares x entries start k) k (get_or entries k (pos 0))
unfolding folded
more squares x entries start k = refl

none : (squares : List Float) (x : Float) (entries : List ℤ) (start : Float) → folded squares x entries start 0 ≡ start
unfolding folded
none squares x entries start = refl

-- ---- so the flat form's double goes over its ones alone
pub by_ones : (squares : List Float) (x : Float) (entries : List ℤ) (start : Float) → T (are_entries entries) → (n : ℕ) → n ≤ length entries
    → folded squares x entries start n ≡ over (weighed squares x) start (ones (is_one_rule entries) n)
by_ones squares x entries start t n h =
    passed_over (weighed squares x) (is_one_rule entries) (folded squares x entries start) n
    (λ k l. more squares x entries start k ∙ one squares x (folded squares x entries start k) k (mark_at entries t k (omega arith)))
    ∙ ap (λ (s : Float). over (weighed squares x) s (ones (is_one_rule entries) n)) (none squares x entries start)

-- the double by a list of places
abbrev pub by_places : Trace → List ℕ → Weights → List Float → Float
by_places t places w squares = over (weighed squares (dbl t.piece_count)) (named t w) places

pub flat_double : (t : Trace) (entries : List ℤ) (w : Weights) (squares : List Float) → length entries ≡ 768 → T (are_entries entries)
    → double t entries w squares ≡ by_places t (ones_in entries) w squares
unfolding double ones_in
flat_double t entries w squares e h = by_ones squares (dbl t.piece_count) entries (named t w) h 768 (omega arith)

pub same_bits : (t : Trace) (used : ℕ) (bytes : List ℕ) (w : Weights) (squares : List Float) → Listed used bytes
    → double t (flat_of (list_places bytes used)) w squares ≡ by_places t (list_places bytes used) w squares
same_bits t used bytes w squares h =
    flat_double t (flat_of (list_places bytes used)) w squares (flat_length (list_places bytes used)) (flat_entries (list_places bytes used))
    ∙ ap (λ (places : List ℕ). by_places t places w squares) (back used bytes h)
