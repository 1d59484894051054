-- The kinds asked from the last to the first. No promise reaches this. Definitions only.
use Rattle.std.specs.Prelude.{cond, ℕ, eqb}
use Rattle.bits.specs.Bitboard.{lowest_of}
use Rattle.exchange_least.specs.Least.{Attacker, nobody, attacker}
use Rattle.exchange_least.specs.declared.inner.Found.{Found}

abbrev pub found_before : ℕ → ℕ → Found → Found
found_before there kind later = cond (eqb there 0) later (record { there = there; kind = kind })

-- who that is
abbrev pub who_of : Found → Attacker
who_of found = cond (eqb found.there 0) nobody (attacker (lowest_of found.there) found.kind)
