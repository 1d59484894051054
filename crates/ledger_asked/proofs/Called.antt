-- What each return of `read_call` gives. Assumes nothing.
use mathlib.Core.Path.{◌≡◌, sym, ap, ap₂}
use mathlib.Core.Bool.{Bool, true, false, cond}
use mathlib.Core.List.{List}
use Prim.Native.Nat.{ℕ}
use Rattle.laws.specs.Tests.{same}
use Rattle.text_in.specs.Text.{text}
use Rattle.line_profile.specs.declared.Profile.{Profile}
use Rattle.line_profile.specs.declared.Profile.TheVariants as P
use Rattle.ledger_asked.specs.Called.{asked_of}
use Rattle.std.specs.Prelude.{Option, None, Some}

module _ (first second : List ℕ) where
  abbrev by : Bool → Bool → Option (Profile × ℕ)
  by t u = cond t (cond u (Some (P.RealPlay, 3)) None) (Some (P.Any, 1))

  pub no_option : same first (text "--profile") ≡ false → Some (P.Any, 1) ≡ asked_of first second
  no_option e = sym (ap (λ (t : Bool). by t (same second (text "real-play"))) e)

  pub option : (u : Bool) → same first (text "--profile") ≡ true → same second (text "real-play") ≡ u → by true u ≡ asked_of first second
  option u e f = sym (ap₂ by e f)
