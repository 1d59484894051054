-- The definition of consistency as the code tests it: the boards by themselves, then the codes file by file. Assumes nothing.
use mathlib.Core.Path.{◌≡◌, refl, sym, ap, ◌∙◌}
use mathlib.Core.Bool.{Bool, true, false, ◌&&◌, and-false, false≢true, true≢false}
use mathlib.Core.List.{List}
use Prim.Native.Nat.{ℕ}
use lib.Dec.{eqb}
use lib.ListN.{length}
use borrow.Author.Tests.{eq-eqb, ne_eqb}
use Rattle.laws.specs.Tests.{all_below}
use Rattle.position_boards.specs.Sound.{apart, united, sound}
use Rattle.position_boards.proofs.Tested.{sound_apart}
use Rattle.position_consistent.specs.Consistent.{agrees, consistent}
use Rattle.position_consistent.specs.PrivateTested.{plane_of, files_right}
use Rattle.position_consistent.proofs.Planes.{files_agree}

-- 14 boards, 64 bytes, the boards' two tests, the bytes'
none : (l m s r : Bool) → (l && s) ≡ false → false ≡ (l && m && (s && r))
none false m s r e = refl
none true false s r e = refl
none true true false r e = refl
none true true true r e = absurd (true≢false e)

last : (l m s r : Bool) → (l && s) ≡ true → m ≡ true → r ≡ (l && m && (s && r))
last true true true r e f = refl
last true true false r e f = absurd (false≢true e)
last true false s r e f = absurd (false≢true f)
last false m s r e f = absurd (false≢true e)

-- ---- in the code's order: what each of its returns gives
module _ (bbs bytes : List ℕ) where
  pub no_bytes : (length bytes ≡ 64 → ⊥) → false ≡ (eqb (length bbs) 14 && eqb (length bytes) 64 && consistent bbs bytes)
  no_bytes n =
      sym (ap (λ (a : Bool). eqb (length bbs) 14 && a && consistent bbs bytes) (ne_eqb (length bytes) 64 n)
      ∙ ap (λ (a : Bool). a && consistent bbs bytes) (and-false (eqb (length bbs) 14)))

  pub unsound : sound bbs ≡ false → false ≡ (eqb (length bbs) 14 && eqb (length bytes) 64 && consistent bbs bytes)
  unfolding sound consistent
  unsound e = none (eqb (length bbs) 14) (eqb (length bytes) 64) (all_below 64 (apart bbs) && all_below 64 (united bbs)) (all_below 64 (agrees bbs bytes)) e

  at_last : sound bbs ≡ true → length bytes ≡ 64 → all_below 64 (agrees bbs bytes) ≡ (eqb (length bbs) 14 && eqb (length bytes) 64 && consistent bbs bytes)
  unfolding sound consistent
  at_last e n =
      last (eqb (length bbs) 14) (eqb (length bytes) 64) (all_below 64 (apart bbs) && all_below 64 (united bbs)) (all_below 64 (agrees bbs bytes)) e
      (eq-eqb (length bytes) 64 n)

  pub bytes_decide : sound bbs ≡ true → length bytes ≡ 64
      → files_right bytes (plane_of bbs 0) (plane_of bbs 1) (plane_of bbs 2) (plane_of bbs 3)
      ≡ (eqb (length bbs) 14 && eqb (length bytes) 64 && consistent bbs bytes)
  bytes_decide e n = files_agree bbs bytes (sound_apart bbs e) ∙ at_last e n
