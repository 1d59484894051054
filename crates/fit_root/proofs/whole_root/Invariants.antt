use Rattle.std.proofs.Common.{◌≡◌, ℕ, ◌+◌, ◌*◌, ◌^◌, ◌<◌, ◌≤◌}
use Rattle.fit_root.proofs.whole_root.Given as goal

-- k pairs of digits are done: root and rem are the root and the remainder of the digits so far, and m holds the others, from the top
pub record Done (x m root rem k : ℕ) : Type 0 where
  pub some : k ≤ 54
  pub short : root < 2 ^ k
  pub rest : rem ≤ root * 2
  pub left : m < 2 ^ 54
  pub is : (root * root + rem) * 2 ^ 54 + m ≡ x * 4 ^ k

abbrev pub invariant-loop : goal.invariant-loop
invariant-loop l = Done l.x l.m l.root l.rem l.counter
