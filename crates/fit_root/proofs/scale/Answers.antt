-- `fit_root::scale` meets its contract: the number moved_up, its exponent less by one. Assumes nothing.
use Rattle.std.proofs.Common.{◌≡◌, ℕ, ◌*◌, ◌^◌, ◌<◌, ◌≤◌, ◌∙◌, mul-le-mul_left, lt_of_not-le, arith, pow_mono}
use Rattle.fit_root.proofs.Closer.{moved_up}
use Rattle.fit_root.proofs.scale.Goals as goal

-- a number below 2 ^ 52 has room for one more doubling
room : (x m e : ℕ) → m * 2 ^ e ≡ x * 2 ^ 60 → 0 < x → m < 2 ^ 52 → 8 < e
room x m e q h l = lt_of_not-le (λ (g : e ≤ 8). clash (mul-le-mul_left m (pow_mono g)))
  where
    clash : m * 2 ^ e ≤ m * 2 ^ 8 → ⊥
    clash k = omega arith

pub loop-m-preserved : goal.loop-m-preserved
loop-m-preserved c =
    let r = room _ _ _ c.loop-m.invariant.0 c.loop-m.invariant.1 c.loop-m-test.true in
    (moved_up _ _ (omega arith) ∙ c.loop-m.invariant.0, c.loop-m.invariant.1, omega arith, omega arith, omega arith)
