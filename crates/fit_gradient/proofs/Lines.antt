-- Lines fed one after another, none of them refused, are the sum in line order; a collection cut in two is fed as the whole. Assumes nothing.
use mathlib.Core.Path.{◌≡◌, refl, ap, ◌∙◌}
use mathlib.Core.Bool.{Bool, true, false, cond}
use mathlib.Core.List.{List, [], ◌∷◌, ◌++◌}
use Prim.Native.Nat.{ℕ, zero, suc}
use borrow.Author.Tests.{eq-eqb}
use lib.Dec.{eqb}
use lib.IntN.{ℤ, pos, nat_abs}
use lib.ListN.{length, get_or, length-set}
use lib.Ieee.{Float, nan}
use Rattle.trace_counts.specs.declared.Trace.{Trace}
use Rattle.doubles.specs.Doubles.{◌⊕◌, dbl}
use Rattle.fit_gradient.specs.Gradient.{named_parts, first_raised, entry_raised, squares_raised, line_added, raised, place_at, sign_at, opening_part, ending_part}
use Rattle.fit_gradient.specs.Promises.{added_of, gradient_after}
use Rattle.fit_gradient.specs.Lines.{FitLine, Good, AllGood, none, more, gradient_fed, gradient_summed}

-- ---- a line leaves as many sums as there were
raised_length : (g : List Float) (i : ℕ) (x : Float) → length (raised g i x) ≡ length g
raised_length g i x = length-set g i (get_or g i nan ⊕ x)

first_length : (parts g : List Float) (n : ℕ) → length (first_raised parts g n) ≡ length g
unfolding first_raised
first_length parts g zero = refl
first_length parts g (suc n) = raised_length (first_raised parts g n) n (get_or parts n nan) ∙ first_length parts g n

either_length : (b : Bool) (g h : List Float) → length h ≡ length g → length (cond b g h) ≡ length g
either_length true g h e = refl
either_length false g h e = e

marked_length : (c x : Float) (g : List Float) (k : ℕ) (z : ℤ) → length (entry_raised c x g k z) ≡ length g
unfolding entry_raised
marked_length c x g k z =
    let o : Float = opening_part c (sign_at k) (dbl z) x in
    let e : Float = ending_part c (sign_at k) (dbl z) x in
    either_length (eqb (nat_abs z) 0) g (raised (raised g (place_at 0 k) o) (place_at 1 k) e)
    (raised_length (raised g (place_at 0 k) o) (place_at 1 k) e ∙ raised_length g (place_at 0 k) o)

squares_length : (c x : Float) (es : List ℤ) (g : List Float) (n : ℕ) → length (squares_raised c x es g n) ≡ length g
unfolding squares_raised
squares_length c x es g zero = refl
squares_length c x es g (suc n) = marked_length c x (squares_raised c x es g n) n (get_or es n (pos 0)) ∙ squares_length c x es g n

pub line_length : (t : Trace) (es : List ℤ) (c : Float) (g : List Float) → length (line_added t es c g) ≡ length g
unfolding line_added
line_length t es c g = squares_length c (dbl t.piece_count) es (first_raised (named_parts t c) g 11) 768 ∙ first_length (named_parts t c) g 11

-- ---- lines that are not refused
line_fed : (g : List Float) (l : FitLine) → length g ≡ 779 → Good l
    → gradient_after (added_of l.trace l.entries l.coefficient g) g ≡ line_added l.trace l.entries l.coefficient g
line_fed g l e h = simp (eq-eqb (length l.entries) 768 h.shaped, eq-eqb (length g) 779 e, h.traced)

pub in_line_order : (g : List Float) {ls : List FitLine} → length g ≡ 779 → AllGood ls → gradient_fed g ls ≡ gradient_summed g ls
unfolding gradient_fed gradient_summed
in_line_order g e none = refl
in_line_order g e (more {l} {ls} h hs) =
    ap (λ (x : List Float). gradient_fed x ls) (line_fed g l e h)
    ∙ in_line_order (line_added l.trace l.entries l.coefficient g) (line_length l.trace l.entries l.coefficient g ∙ e) hs

-- ---- a collection in two parts
pub cut : (g : List Float) (ks ls : List FitLine) → gradient_fed g (ks ++ ls) ≡ gradient_fed (gradient_fed g ks) ls
unfolding gradient_fed
cut g [] ls = refl
cut g (k ∷ ks) ls = cut (gradient_after (added_of k.trace k.entries k.coefficient g) g) ks ls
