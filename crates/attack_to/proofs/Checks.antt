-- Whether a square is attacked, and whether a king is, as the code finds them. Assumes nothing.
use mathlib.Core.Path.{◌≡◌, sym, ap, ap₂, ◌∙◌, subst}
use mathlib.Core.Bool.{Bool, true, not, cond, ◌&&◌}
use mathlib.Core.List.{List}
use Prim.Native.Nat.{ℕ, ◌^◌, ◌<◌}
use lib.Bits.{bit_and}
use lib.Dec.{eqb}
use lib.ListN.{get_or}
use borrow.Author.Tests.{eq-eqb, ne_eqb}
use Rattle.bits.specs.Bitboard.{has, some, lowest_of}
use Rattle.bits.proofs.Some.{meet}
use Rattle.bits.proofs.Scanned.{scan_is, scan_lt}
use Rattle.attack.specs.Attacks.{other, standing, occupied}
use Rattle.attack_to.specs.Attackers.{attackers, is_attacked, is_check}

-- ---- attacked
pub attacked : (bbs : List ℕ) (s colour occ by side place own : ℕ) → by < 2 ^ 64 → own < 2 ^ 64
    → occ ≡ occupied bbs → by ≡ attackers bbs s occ → side ≡ other colour → place ≡ side → own ≡ get_or bbs place 0
    → not (eqb (bit_and by own) 0) ≡ is_attacked bbs s colour
unfolding is_attacked
attacked bbs s colour occ by side place own hb ho o a d p w =
    meet by own hb ho
    ∙ ap₂ (λ (x y : ℕ). some 64 (λ k. has x k && has y k)) (a ∙ ap (attackers bbs s) o) (w ∙ ap (λ (x : ℕ). get_or bbs x 0) (p ∙ d))

-- ---- in check
pub lowest_lt : (b : ℕ) → b < 2 ^ 64 → (b ≡ 0 → ⊥) → lowest_of b < 64
lowest_lt b h ne = subst (λ (x : ℕ). x < 64) (scan_is b) (scan_lt b h ne)

module _ (bbs : List ℕ) (colour king : ℕ) (e : king ≡ standing bbs 5 colour) where
  pub no_king_holds : king ≡ 0 → true ≡ is_check bbs colour
  unfolding is_check
  no_king_holds z =
      sym (ap (λ (t : Bool). cond t true (is_attacked bbs (lowest_of (standing bbs 5 colour)) colour)) (eq-eqb (standing bbs 5 colour) 0 (sym e ∙ z)))

  pub a_king : (s : ℕ) (b : Bool) → (king ≡ 0 → ⊥) → s ≡ lowest_of king → b ≡ is_attacked bbs s colour → b ≡ is_check bbs colour
  unfolding is_check
  a_king s b ne l h =
      h ∙ ap (λ (x : ℕ). is_attacked bbs x colour) (l ∙ ap lowest_of e)
      ∙ sym (ap (λ (t : Bool). cond t true (is_attacked bbs (lowest_of (standing bbs 5 colour)) colour)) (ne_eqb (standing bbs 5 colour) 0 (λ z. ne (e ∙ z))))
