-- A fold over a list's entries, for the loops that go by it. Assumes nothing.
use mathlib.Core.Path.{◌≡◌, refl, sym, ap, ◌∙◌}
use mathlib.Core.List.{List}
use Prim.Native.Nat.{ℕ, ◌+◌}
use native.Mathlib.Numerals.{add-one}
use Rattle.laws.specs.Tables.{tabulate}
use Rattle.trace_list.specs.Ones.{over}
use Rattle.trace_list.specs.Form.{list_place, list_places}
use Rattle.trace_list.proofs.Ones.{over_last}
use Rattle.trace_list.proofs.Rising.{table_last}

pub fold_none : (bytes : List ℕ) {S : Type 0} (f : S → ℕ → S) (s : S) → s ≡ over f s (list_places bytes 0)
unfolding over list_places tabulate
fold_none bytes f s = refl

pub fold_more : (bytes : List ℕ) {S : Type 0} (f : S → ℕ → S) (start : S) (i : ℕ) {s r : S} → s ≡ over f start (list_places bytes i)
    → r ≡ f s (list_place bytes i)
    → r ≡ over f start (list_places bytes (i + 1))
unfolding list_places
fold_more bytes f start i {s} {r} e q =
    q ∙ ap (λ z. f z (list_place bytes i)) e
    ∙ sym (over_last f start (tabulate i (list_place bytes)) (list_place bytes i))
    ∙ ap (over f start) (sym (table_last i (list_place bytes)))
    ∙ ap (λ (n : ℕ). over f start (tabulate n (list_place bytes))) (sym (add-one i))
