-- `bits::shift` meets its contract. Assumes nothing.
use mathlib.Core.Path.{◌≡◌, ap, sym, ◌∙◌}
use Prim.Native.Nat.{ℕ, suc, ◌+◌, ◌*◌, ◌/◌, ◌%◌, ◌^◌, ◌<◌}
use borrow.Author.Tests.{lt-ltb}
use native.Mathlib.Numerals.{add-one}
use native.Mathlib.Omega.{arith}
use lib.IntN.{ℤ, pos, negsuc, nat_abs}
use mir.Syntax.{w8}
use Rattle.refusal.specs.Answer.{given}
use Rattle.bits.specs.Answers.{shifted_of}
use Rattle.bits.proofs.Machine.{shifted_up, shifted_down}
use Rattle.laws.proofs.Words.{Up, Down, up, down}
use Rattle.bits.proofs.shift.Goals as goal

up_is : (b n : ℕ) → n < 64 → given (b * 2 ^ n % 2 ^ 64) ≡ shifted_of b (pos n)
up_is b n h = simp (lt-ltb n 64 h, shifted_up b n)

down_is : (b n : ℕ) → b < 2 ^ 64 → suc n < 64 → given (b / 2 ^ suc n) ≡ shifted_of b (negsuc n)
down_is b n hb h = simp (lt-ltb (suc n) 64 h, shifted_down b (suc n) hb)

pub returns-else-n-gt-FARTHEST : goal.returns-else-n-gt-FARTHEST
returns-else-n-gt-FARTHEST c =
    let upOf : Up w8 c.args.s = up w8 c.args.s c.ranges.s c.if-s-ge0.true in
    let u = upOf in
    let b = c.args.b in
    ap (λ (y : ℤ). given (b * 2 ^ nat_abs y % 2 ^ 64)) u.read
    ∙ up_is b u.n (omega (arith, ap nat_abs u.read)) ∙ sym (ap (shifted_of b) u.is)

pub returns-else-n-gt62 : goal.returns-else-n-gt62
returns-else-n-gt62 c =
    let downOf : Down w8 c.args.s = down w8 c.args.s c.ranges.s c.if-s-ge0.false in
    let u = downOf in
    let b = c.args.b in
    ap (λ (y : ℤ). given (b / 2 ^ (nat_abs y + 1))) u.read ∙ ap (λ (m : ℕ). given (b / 2 ^ m)) (add-one u.n)
    ∙ down_is b u.n c.ranges.b.fits (omega (arith, ap nat_abs u.read))
    ∙ sym (ap (shifted_of b) u.is)
