-- Each public function is determined by its promise: two results that it allows are equal. Assumes nothing.
use mathlib.Core.Path.{◌≡◌}
use mathlib.Core.List.{List}
use Prim.Native.Nat.{ℕ}
use Rattle.refusal.proofs.Paper.{one}
use Rattle.attack_steps.specs.Promises.{Table, Tables, Reaches, Steps}

pub table : (row : ℕ) (r s : List ℕ) → Table row r → Table row s → r ≡ s
table row r s = one

pub tables : (r s : List (List ℕ)) → Tables r → Tables s → r ≡ s
tables r s = one

pub step : (tables : List (List ℕ)) (row square r s : ℕ) → Steps tables row square r → Steps tables row square s → r ≡ s
step tables row square r s = one

pub reached : (row square r s : ℕ) → Reaches row square r → Reaches row square s → r ≡ s
reached row square r s = one
