-- Each public function is determined by its promise: two results that it allows are equal. Assumes nothing.
use mathlib.Core.Path.{◌≡◌, refl}
use mathlib.Core.List.{List}
use Prim.Native.Nat.{ℕ}
use lib.IntN.{ℤ}
use Rattle.refusal.proofs.Paper.{one, retract}
use Rattle.exchange_value.specs.Stop as P
use Rattle.exchange_value.specs.Answers.{stopped}
use Rattle.exchange_value.specs.Promises.{Settles, Stops}
use Rattle.std.specs.Prelude.{Option, None, Some}

pub settle : (values : List ℕ) (r s : ℤ) → Settles values r → Settles values s → r ≡ s
settle values r s = one

abbrev unstopped : P.Stop → Option ℕ
unstopped P.played_out = None
unstopped (P.before i) = Some i

stopped_back : (r : Option ℕ) → unstopped (stopped r) ≡ r
stopped_back None = refl
stopped_back (Some i) = refl

pub stopped_one : (r s : Option ℕ) → stopped r ≡ stopped s → r ≡ s
stopped_one = retract stopped unstopped stopped_back

pub stop : (values : List ℕ) (r s : Option ℕ) → Stops values r → Stops values s → r ≡ s
stop values r s p q = stopped_one r s (one p q)
