-- The public function is determined by its promise: two results that it allows are equal. Assumes nothing.
use mathlib.Core.Path.{◌≡◌, ap, ap₂, ◌∙◌}
use mathlib.Core.List.{List}
use Prim.Native.Nat.{ℕ}
use Rattle.refusal.proofs.Paper.{one}
use Rattle.position.specs.declared.State.{State}
use Rattle.exchange_start.specs.declared.Mode.{Mode}
use Rattle.exchange_start.proofs.Determined as Start
use Rattle.exchange_value.proofs.Determined.{stopped_one}
use Rattle.exchange.specs.declared.inner.Listed.{Listed}
use Rattle.exchange.proofs.Determined.{listed_one}
use Rattle.exchange_told.specs.Told.{told_of, the_captures}
use Rattle.exchange_told.specs.Promises.{Captures}
use Rattle.exchange_told.specs.declared.Told.{Told}
use Rattle.std.specs.Prelude.{Result, Option}
use Rattle.refusal.specs.declared.Refusal.{Refusal}

abbrev told : Result Unit Refusal → Listed → Option ℕ → Told
told c l s = record { checked = c; listed = l; stop = s }

pub captures : (mode : Mode) (kinds bitboards board : List ℕ) (state : State) (from to : ℕ) (r s : Told)
    → Captures mode kinds bitboards board state from to r → Captures mode kinds bitboards board state from to s → r ≡ s
captures mode kinds bitboards board state from to r s p q =
    ap (λ (c : Result Unit Refusal). told c r.listed r.stop) (Start.begins mode kinds bitboards board state from to r.checked s.checked p.0 q.0)
    ∙ ap₂ (λ (l : Listed) (t : Option ℕ). told s.checked l t)
    (listed_one (the_captures (told_of mode kinds bitboards board state from to)) r.listed s.listed p.1 q.1)
    (stopped_one r.stop s.stop (one p.2 q.2))
