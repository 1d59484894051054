-- A refusal that names a square (document 02: "a refusal naming a square, here or later, returns it beside its number"). Definitions only.
use Rattle.std.specs.Prelude.{Bool, not, ℕ}
use Rattle.laws.specs.Tests.{all_below}
use Rattle.refusal.specs.Answer.{Answer, or_refuse}
use Rattle.refusal.specs.declared.Refusal.{Refusal}
use Rattle.bits.specs.Bitboard.{first_from}

-- "the lowest square concerned": the first where a test fails; 64 where it holds over all
unfoldable pub lowest_wrong : (ℕ → Bool) → ℕ
unfolding first_from
lowest_wrong f = first_from 64 0 (λ k. not (f k))

-- "Each comes with the lowest square concerned": what comes next where a test holds over all squares, else the refusal with that square
abbrev pub or_named : {A : Type 0} → (ℕ → Bool) → (ℕ → Refusal) → Answer A → Answer A
or_named f refusal rest = or_refuse (all_below 64 f) (refusal (lowest_wrong f)) rest
