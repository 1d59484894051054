-- Each public function is determined by its promise: two answers, and two buffers, that it allows are equal. Assumes nothing.
use mathlib.Core.Path.{◌≡◌, refl, sym, ◌∙◌}
use mathlib.Core.List.{List}
use Prim.Native.Nat.{ℕ}
use lib.IntN.{ℤ}
use Rattle.text_out.specs.Text.{place, Puts, PutsDecimal, PutsSigned, PlaceAfter, signed_of, decimal_of}
use Rattle.std.specs.Prelude.{Option, None, Some}

place_one : (r s : Option ℕ) → place r ≡ place s → r ≡ s
place_one (Some a) (Some b) e = cc
place_one (Some a) None e = cc
place_one None (Some b) e = cc
place_one None None e = refl

pub put : (old new new' : List ℕ) (at : ℕ) (text : List ℕ) (r s : Option ℕ) → Puts old new at text r → Puts old new' at text s → (r ≡ s) × (new ≡ new')
put old new new' at text r s p q = (place_one r s (p.0 ∙ sym q.0), p.1 ∙ sym q.1)

pub decimal : (old new new' : List ℕ) (at n : ℕ) (r s : Option ℕ) → PutsDecimal old new at n r → PutsDecimal old new' at n s → (r ≡ s) × (new ≡ new')
decimal old new new' at n r s p q = put old new new' at (decimal_of n) r s p q

pub signed : (old new new' : List ℕ) (at : ℕ) (n : ℤ) (r s : Option ℕ) → PutsSigned old new at n r → PutsSigned old new' at n s → (r ≡ s) × (new ≡ new')
signed old new new' at n r s p q = put old new new' at (signed_of n) r s p q

pub placed_or : (p : Option ℕ) (at r s : ℕ) → PlaceAfter p at r → PlaceAfter p at s → r ≡ s
placed_or p at r s e f = e ∙ sym f
