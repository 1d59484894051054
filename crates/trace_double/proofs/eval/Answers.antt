-- `trace_double::eval` meets its contract. Assumes nothing.
use mathlib.Core.Path.{◌≡◌, ap₂, ◌∙◌}
use mathlib.Core.Bool.{true, ◌&&◌}
use mathlib.Core.List.{List}
use borrow.Author.Tests.{eq-eqb}
use lib.IntN.{ℤ}
use lib.ListN.{length}
use lib.Ieee.{Float}
use Rattle.refusal.specs.Answer.{given}
use Rattle.trace_counts.specs.Ranges.{in_ranges, are_entries}
use Rattle.doubles.specs.Doubles.{dbl}
use Rattle.trace_marks.proofs.Tested.{seen_entries, tested_both}
use Rattle.trace_named.specs.Named.{named}
use Rattle.trace_double.specs.Double.{folded, double}
use Rattle.trace_double.specs.Promises.{double_of}
use Rattle.trace_counts.specs.declared.Weights.{Weights}
use Rattle.trace_counts.specs.declared.Trace.{Trace}
use Rattle.trace_counts.proofs.Held.{read}
use Rattle.trace_double.proofs.eval.Goals as goal

-- the square weights' part goes on from the named weights', at as many pieces as the machine reads back
worked : (t : Trace) (entries : List ℤ) (w : Weights) (squares : List Float) {x : ℤ} {start r : Float} → x ≡ t.piece_count → start ≡ named t w
    → r ≡ folded squares (dbl x) entries start 768 → r ≡ double t entries w squares
unfolding double
worked t entries w squares p q e = e ∙ ap₂ (λ (x : ℤ) (start : Float). folded squares (dbl x) entries start 768) p q

passed : (t : Trace) (entries : List ℤ) (w : Weights) (squares : List Float) {r : Float} → length entries ≡ 768 → length squares ≡ 768
    → (in_ranges t && are_entries entries) ≡ true → r ≡ double t entries w squares → given r ≡ double_of t entries w squares
passed t entries w squares e f u p = simp (eq-eqb _ _ e, eq-eqb _ _ f, u, p)

pub returns-then-in_ranges-seen : goal.returns-then-in_ranges-seen
returns-then-in_ranges-seen c =
    let two = c in
    let s = two in
    let t = s.args.trace in
    let x = read t.piece_count c.struct_told-1.given.1.1.1.1.1.1.1.1.0.1 in
    passed t s.args.entries.now s.args.weights s.args.squares.now two.if-entries-ne-COUNT.false two.if-squares-ne-COUNT.false
    (tested_both t s.args.entries.now c.in_ranges.ensures (seen_entries s.args.entries.now two.if-entries-ne-COUNT.false
    c.seen-seen.ensures) c.if-in_ranges-seen.true)
    (worked t s.args.entries.now s.args.weights s.args.squares.now x c.sum.ensures c.entries_added.ensures)
