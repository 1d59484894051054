-- What `show` says it wrote lies within the buffer. Assumes nothing.
use mathlib.Core.Path.{◌≡◌, subst}
use mathlib.Core.List.{List}
use Prim.Native.Nat.{ℕ, ◌≤◌}
use lib.ListN.{length}
use Rattle.store_gather.specs.declared.First.{First}
use Rattle.store_text.specs.Promises.{shown_paper, shown_count, ShowsSummary}
use Rattle.store_text.specs.declared.Form.{Form}
use Rattle.store_text.specs.declared.Shown.{Shown}
use Rattle.store_text.specs.declared.Shown.TheVariants as S
use Rattle.std.specs.Prelude.{Result, Ok}
use Rattle.refusal.specs.declared.Refusal.{Refusal}

module _ {form : Form} {first : First} {summary out : List ℕ} {r : Result Shown Refusal} {out' : List ℕ} (s : ShowsSummary form first summary out r out') (n : ℕ) where
  pub page_within : r ≡ Ok (S.Page n) → n ≤ length out
  page_within told = subst (λ (q : Result Shown Refusal). shown_count (shown_paper q) ≤ length out) told s.within

  pub row_within : r ≡ Ok (S.Row n) → n ≤ length out
  row_within told = subst (λ (q : Result Shown Refusal). shown_count (shown_paper q) ≤ length out) told s.within
