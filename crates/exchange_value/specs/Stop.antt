-- Where an exchange stops (document 02, W-207), by the values that its captures take. Definitions only.
use Rattle.std.specs.Prelude.{◌≡◌, Bool, true, false, cond, List, [], ◌∷◌, ℕ, zero, suc, ◌≤◌, ◌<◌, ℤ, pos, negsuc, ◌-ℤ◌, length, take, drop}
use Rattle.exchange_value.specs.Settled.{settled}

-- "the stopping point": before a capture, by its number, where the first is 0; or "played out"
pub data Stop : Type 0 where
  played_out : Stop
  before : ℕ → Stop

-- "not above zero"
abbrev pub not_above : ℤ → Bool
not_above (pos zero) = true
not_above (pos (suc n)) = false
not_above (negsuc n) = true

-- "the earliest capture .. whose S is not above zero", of those from the i-th on, which take these values
unfoldable pub earliest : ℕ → List ℕ → Stop
unfolding settled
earliest i [] = played_out
earliest i (v ∷ vs) =
    let later : Stop = earliest (suc i) vs in
    cond (not_above (settled (v ∷ vs))) (before i) later

-- "after the first"
unfoldable pub stop_of : List ℕ → Stop
unfolding earliest
stop_of [] = played_out
stop_of (v ∷ vs) = earliest 1 vs

-- "the values taken by the captures before that point, or by all of them when played out"
abbrev pub carried_out : {A : Type 0} → Stop → List A → List A
carried_out played_out vs = vs
carried_out (before i) vs = take i vs

-- "add up with alternating signs": the first counts as it is, those after it the other way round
unfoldable pub alternating : List ℕ → ℤ
alternating [] = pos 0
alternating (v ∷ vs) = pos v -ℤ alternating vs

-- ---- what the point is, said again over S: S(j) is that of the values from the j-th on
abbrev pub S : List ℕ → ℕ → ℤ
S vs j = settled (drop j vs)

-- "the earliest capture after the first whose S is not above zero"
pub record StopsBefore (i : ℕ) (vs : List ℕ) : Type 0 where
  pub after_the_first : 1 ≤ i
  pub a_capture : i < length vs
  pub not_above_holds : not_above (S vs i) ≡ true
  pub above_before : (j : ℕ) → 1 ≤ j → j < i → not_above (S vs j) ≡ false

-- "or 'played out' if there is none"
abbrev pub NoneStops : List ℕ → Type 0
NoneStops vs = (j : ℕ) → 1 ≤ j → j < length vs → not_above (S vs j) ≡ false
