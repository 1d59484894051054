-- The listed captures settled: their values are what the array holds, and S(0) fits 16 bits. Assumes nothing.
use mathlib.Core.Path.{◌≡◌, sym, ap, subst, ◌∙◌}
use mathlib.Core.Bool.{Bool}
use mathlib.Core.List.{List, ◌∷◌}
use Prim.Native.Nat.{ℕ, ◌+◌, ◌-◌, ◌≤◌}
use native.Mathlib.Nat.{sub-zero, le_trans}
use native.Mathlib.Omega.{arith}
use lib.IntN.{ℤ, pos, nat_abs}
use lib.ListN.{length, take}
use mir.Syntax.{w16}
use mir.Val.{SFits}
use Rattle.laws.proofs.Words.{fits_abs}
use Rattle.laws.proofs.Diff.{above_zero_rule, abs_minus}
use Rattle.chess.specs.Values.{value_of}
use Rattle.chess.proofs.Values.{value_le}
use Rattle.position.specs.declared.State.{State}
use Rattle.attack.specs.Attacks.{other}
use Rattle.attack_to.specs.Attackers.{attackers}
use Rattle.exchange_start.specs.Capture.{kind_on}
use Rattle.exchange_start.specs.declared.Mode.{Mode}
use Rattle.exchange_value.specs.Settled.{settled}
use Rattle.exchange_value.proofs.Backward.{settled_up}
use Rattle.exchange.specs.Exchange.{Capture, values_taken, emptied, promotes, taken_by, becomes, recaptures, first_taken, first_there}
use Rattle.exchange.specs.Listed.{captures_with, exchange_with, column}
use Rattle.exchange.proofs.Forward.{taken_le, forced, at_most, gains_at_most}
use Rattle.exchange.proofs.Columns.{column_length, column_taken}

module _ (mode : Mode) (kinds bbs bytes : List ℕ) (state : State) (from to : ℕ) where
  abbrev cs : List Capture
  cs = captures_with mode kinds bbs bytes state from to

  abbrev kind : ℕ
  kind = kind_on bytes from

  abbrev promoted : Bool
  promoted = promotes mode to state.side kind

  abbrev target : ℕ
  target = value_of (first_taken mode bytes state from to)

  abbrev value : ℕ
  value = taken_by promoted target

  abbrev there : ℕ
  there = first_there mode bbs bytes state from to

  abbrev stands : ℕ
  stands = becomes promoted kind

  abbrev later : List Capture
  later = recaptures kinds bbs (attackers bbs to) (promotes mode to) 31 (emptied there from) (other state.side) (value_of stands)

  are : cs ≡ record { from = from; kind = kind; taken = value } ∷ later
  are = forced kinds bbs (attackers bbs to) (promotes mode to) 31 there state.side from kind target

  pub at_most_32 : length cs ≤ 32
  at_most_32 = rw are (omega (arith, at_most kinds bbs (attackers bbs to) (promotes mode to) 31 (emptied there from) (other state.side) (value_of stands)))

  -- a capture takes at most a king and 913
  near : nat_abs (settled (value ∷ values_taken later)) ≤ 21826
  near =
      rw (settled_up value (values_taken later))
      (abs_minus (pos value) (pos (above_zero_rule (settled (values_taken later)))) 10913 10913
      (le_trans (taken_le promoted target) (add_le target 913 (value_le (first_taken mode bytes state from to))))
      (le_trans (gains_at_most kinds bbs (attackers bbs to) (promotes mode to) 31 (emptied there from) (other state.side) (value_of stands))
      (add_le (value_of stands) 913 (value_le stands))))
    where
      add_le : (v n : ℕ) → v ≤ 10000 → v + n ≤ 10000 + n
      add_le v n h = omega arith

  worth_is : exchange_with mode kinds bbs bytes state from to ≡ settled (value ∷ values_taken later)
  worth_is = ap (λ (l : List Capture). settled (values_taken l)) are

  pub in_16 : (z : ℤ) → z ≡ exchange_with mode kinds bbs bytes state from to → SFits w16 z
  in_16 z e = fits_abs {w = w16} 21826 tt (subst (λ (x : ℤ). nat_abs x ≤ 21826) (sym (e ∙ worth_is)) near)

  module _ (n : ℕ) (array : List ℕ) (en : n ≡ length cs) (ea : array ≡ column 32 (λ c. c.taken) cs) where
    pub within : n ≤ length array
    within = rw (ea, column_length (λ c. c.taken) 32 cs, en) at_most_32

    pub settles : (z : ℤ) → z ≡ settled (take (n - 0) array) → z ≡ exchange_with mode kinds bbs bytes state from to
    settles z e =
        e ∙ ap (λ (m : ℕ). settled (take m array)) (sub-zero n ∙ en)
        ∙ ap (λ (l : List ℕ). settled (take (length cs) l)) ea
        ∙ ap settled (column_taken (λ c. c.taken) 32 cs at_most_32)
