-- The public function is determined by its promise: two results that it allows are equal. Assumes nothing.
use mathlib.Core.Path.{◌≡◌}
use mathlib.Core.List.{List}
use Prim.Native.Nat.{ℕ}
use Rattle.refusal.proofs.Paper.{one}
use Rattle.captures_question.specs.Promises.{Asks}
use Rattle.captures_question.specs.declared.inner.Asked.{Asked}

abbrev made : ℕ → ℕ → List ℕ → Asked
made a b o = record { from = a; to = b; order = o }

same : {a b c d : ℕ} {o p : List ℕ} → a ≡ c → b ≡ d → o ≡ p → made a b o ≡ made c d p
same e f g = cc

pub read : (question : List ℕ) (r s : Asked) → Asks question r → Asks question s → r ≡ s
read question r s p q = same (one p.start q.start) (one p.target q.target) (one p.kinds q.kinds)
