-- What each public function promises, for all inputs. Definitions only.
use Rattle.std.specs.Prelude.{◌≡◌, ℕ}
use Rattle.attack.specs.Attacks.{attacks}
use Rattle.score_tally.specs.Mobility.{attacked_from}

-- "attacked squares for each kind and colour, summed over its pieces"
abbrev pub CountsAttacked : ℕ → ℕ → ℕ → ℕ → ℕ → Type 0
CountsAttacked pieces kind colour occ r = r ≡ attacked_from (λ s. attacks kind colour s occ) pieces
