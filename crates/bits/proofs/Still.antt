-- "Shift zero changes nothing": of any bitboard. Assumes nothing.
use mathlib.Core.Path.{◌≡◌, ap, sym, ◌∙◌}
use Prim.Native.Nat.{ℕ, ◌%◌, ◌^◌, ◌<◌}
use native.Mathlib.Nat.{mul-one, mod-eq_of_lt}
use lib.IntN.{pos}
use Rattle.refusal.specs.Answer.{given}
use Rattle.bits.specs.Answers.{shifted_of}
use Rattle.bits.proofs.Machine.{shifted_up}

pub shift_zero : (b : ℕ) → b < 2 ^ 64 → shifted_of b (pos 0) ≡ given b
shift_zero b h = ap given (sym (shifted_up b 0) ∙ ap (λ (x : ℕ). x % 2 ^ 64) (mul-one b) ∙ mod-eq_of_lt h)
