-- Each public function is determined by its promise: two results that it allows are equal. Assumes nothing.
use mathlib.Core.Path.{◌≡◌, sym, ◌∙◌}
use mathlib.Core.Bool.{Bool}
use Prim.Native.Nat.{ℕ}
use lib.IntN.{ℤ}
use Rattle.stream.specs.Calls.{ReadMeans, WriteMeans, Leaves, MayGoOn, More, Fails}
use Rattle.stream.specs.declared.Read.{Read}
use Rattle.stream.specs.declared.Write.{Write}

pub read_of : (got error : ℤ) (room : ℕ) (r s : Read) → ReadMeans got error room r → ReadMeans got error room s → r ≡ s
read_of got error room r s p q = p.answer ∙ sym q.answer

pub write_of_holds : (put error : ℤ) (size done : ℕ) (r s : Write) → WriteMeans put error size done r → WriteMeans put error size done s → r ≡ s
write_of_holds put error size done r s p q = p.answer ∙ sym q.answer

pub left : (size done r s : ℕ) → Leaves size done r → Leaves size done s → r ≡ s
left size done r s p q = p ∙ sym q

pub may_go_on : (turns : ℕ) (r s : Bool) → MayGoOn turns r → MayGoOn turns s → r ≡ s
may_go_on turns r s p q = p.answer ∙ sym q.answer

pub more : (size done turns : ℕ) (r s : Bool) → More size done turns r → More size done turns s → r ≡ s
more size done turns r s p q = p.answer ∙ sym q.answer

pub failed : (answer : ℤ) (r s : Bool) → Fails answer r → Fails answer s → r ≡ s
failed answer r s p q = p ∙ sym q
