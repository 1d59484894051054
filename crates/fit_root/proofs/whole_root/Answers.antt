-- `fit_root::whole_root` meets its contract: what is left of the number, and the root so far. Assumes nothing.
use Rattle.std.proofs.Common.{◌≡◌, ℕ, ◌+◌, ◌-◌, ◌*◌, ◌/◌, ◌%◌, ◌^◌, ◌<◌, ◌≤◌, sym, lt_of_lt_of_le, mul_assoc, pow-suc, add-one, arith, pow_mono}
use Rattle.fit_root.proofs.Whole.{even, square}
use Rattle.fit_root.proofs.whole_root.Invariants.{Done}
use Rattle.fit_root.proofs.whole_root.Goals as goal
use Rattle.fit_root.proofs.whole_root.Goals.{then-trial-all, else-trial-all}

under : (root k : ℕ) → root < 2 ^ k → k < 54 → root < 2 ^ 53
under root k h l = lt_of_lt_of_le h (pow_mono {i = k} {j = 53} (omega arith))

quad : (x k : ℕ) → x * 4 ^ (k + 1) ≡ x * 4 ^ k * 4
quad x k = rw (add-one k, pow-suc 4 k) (sym (mul_assoc x (4 ^ k) 4))

twice : (k : ℕ) → 2 ^ (k + 1) ≡ 2 ^ k * 2
twice k = rw (add-one k, pow-suc 2 k)

taken : (x m root rem k : ℕ) → Done x m root rem k → k < 54 → root * 4 + 1 ≤ rem * 4 + m / 0x10_0000_0000_0000
    → Done x (m % 0x10_0000_0000_0000 * 4) (root * 2 + 1) (rem * 4 + m / 0x10_0000_0000_0000 - (root * 4 + 1)) (k + 1)
taken x m root rem k d l t = record {
  some = omega arith;
  short = omega (arith, d.short, twice k);
  rest = omega (arith, d.rest, d.left);
  left = omega arith;
  is = rw (square root, quad x k) (omega (arith, d.is));
}

passed : (x m root rem k : ℕ) → Done x m root rem k → k < 54 → rem * 4 + m / 0x10_0000_0000_0000 < root * 4 + 1
    → Done x (m % 0x10_0000_0000_0000 * 4) (root * 2) (rem * 4 + m / 0x10_0000_0000_0000) (k + 1)
passed x m root rem k d l t = record {
  some = omega arith;
  short = omega (arith, d.short, twice k);
  rest = omega arith;
  left = omega arith;
  is = rw (even root, quad x k) (omega (arith, d.is));
}

pub overflow_mul-all : goal.overflow_mul-all
overflow_mul-all c = omega (arith, under _ _ c.loop.invariant.short c.loop-test.true)

pub overflow_add-all : goal.overflow_add-all
overflow_add-all c = omega (arith, under _ _ c.loop.invariant.short c.loop-test.true)

pub overflow_mul-trial : goal.overflow_mul-trial
overflow_mul-trial c = omega (arith, under _ _ c.loop.invariant.short c.loop-test.true)

pub overflow_add-trial : goal.overflow_add-trial
overflow_add-trial c = omega (arith, under _ _ c.loop.invariant.short c.loop-test.true)

pub loop-preserved : goal.loop-preserved
loop-preserved c =
    let l = c.loop in
    elim c.if-trial-all.branch [
      | then-trial-all w ↦ rw (w.rem-is, w.root-is) (taken _ _ _ _ _ l.invariant c.loop-test.true w.if-trial-all.true)
      | else-trial-all w ↦ rw (w.rem-is, w.root-is) (passed _ _ _ _ _ l.invariant c.loop-test.true w.if-trial-all.false)
    ]
