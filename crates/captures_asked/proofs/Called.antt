-- What each return of `read_call` gives. Assumes nothing.
use mathlib.Core.Path.{◌≡◌}
use mathlib.Core.Bool.{Bool, cond}
use mathlib.Core.List.{List}
use Prim.Native.Nat.{ℕ, ◌≤◌, ◌<◌}
use borrow.Author.Tests.{le-leb, lt-leb, lt-ltb, le-ltb}
use Rattle.laws.specs.Tests.{same}
use Rattle.text_in.specs.Text.{text}
use Rattle.exchange_start.specs.declared.Mode.TheVariants as M
use Rattle.captures_asked.specs.Called.{mode_asked}
use Rattle.std.specs.Prelude.{None, Some}

module _ (count : ℕ) (option : List ℕ) where
  pub bare : count ≤ 1 → Some M.First ≡ mode_asked count option
  bare h = rw (le-leb count 1 h)

  pub too_many : 1 < count → 2 < count → None ≡ mode_asked count option
  too_many h l = rw (lt-leb count 1 h, lt-ltb 2 count l)

  pub by_option : 1 < count → count ≤ 2 → (t : Bool) → same option (text "--second") ≡ t → cond t (Some M.Second) None ≡ mode_asked count option
  by_option h l t e = rw (lt-leb count 1 h, le-ltb 2 count l, e)
