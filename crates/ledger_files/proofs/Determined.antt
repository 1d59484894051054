-- The public function is determined by its promise: two answers that it allows are equal. Assumes nothing.
use mathlib.Core.Path.{◌≡◌, refl, sym, ap, ◌∙◌}
use mathlib.Core.List.{List, [], ◌∷◌}
use Prim.Native.Nat.{ℕ}
use Rattle.ledger_feed.specs.declared.SoFar.{SoFar}
use Rattle.ledger_files.specs.Files.{fed_after, EndsFile}
use Rattle.ledger_files.specs.declared.Ending.{Ending}
use Rattle.ledger_files.specs.declared.Ending.TheVariants as C

-- answers that read the same are one
abbrev read_back : List ℕ → Ending
read_back [] = C.Nothing
read_back (b ∷ []) = C.Lf
read_back (b ∷ (c ∷ s)) = C.CrLf

back : (r : Ending) → read_back (fed_after r) ≡ r
back C.Nothing = refl
back C.Lf = refl
back C.CrLf = refl

pub closing : (state : SoFar) (r s : Ending) → EndsFile state r → EndsFile state s → r ≡ s
closing state r s p q = sym (back r) ∙ ap read_back (p ∙ sym q) ∙ back s
