-- Each public function is determined by its promise: two results, and two contents of the lent buffer, that it allows are equal. Assumes nothing.
use Rattle.std.proofs.Common.{◌≡◌, ℕ, Bool, true, false, List, refl}
use Rattle.std.specs.Prelude.{Result}
use Rattle.refusal.specs.declared.Refusal.{Refusal}
use Rattle.refusal.proofs.Paper.{one, answered_by_one}
use Rattle.store_gather.specs.declared.First.{First}
use Rattle.store_text.specs.Promises.{shown_as, ShowsSummary, ReadsCall}
use Rattle.store_text.specs.declared.Form.{Form}
use Rattle.store_text.specs.declared.Call.{Call}
use Rattle.store_text.specs.declared.Shown.{Shown}
use Rattle.store_text.specs.declared.Shown.TheVariants as S

pub read_call : (first : List ℕ) (count : ℕ) (r q : Call) → ReadsCall first count r → ReadsCall first count q → r ≡ q
read_call first count r q = one

abbrev shown_from : Bool × ℕ → Shown
shown_from (true, n) = S.Page n
shown_from (false, n) = S.Row n

shown_back : (a : Shown) → shown_from (shown_as a) ≡ a
shown_back (S.Page n) = refl
shown_back (S.Row n) = refl

pub show : (form : Form) (first : First) (summary out : List ℕ) (r q : Result Shown Refusal) (out₁ out₂ : List ℕ)
    → ShowsSummary form first summary out r out₁ → ShowsSummary form first summary out q out₂ → (r ≡ q) × (out₁ ≡ out₂)
show form first summary out r q out₁ out₂ p o = (answered_by_one shown_as shown_from shown_back p.answer o.answer, one p.text o.text)
