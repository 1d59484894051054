-- What a read gives, and a name, lie within the buffer; and what came of writing, as the answer. Assumes nothing.
use mathlib.Core.Path.{◌≡◌, refl, sym, ◌∙◌, subst}
use mathlib.Core.Bool.{Bool, true, false}
use mathlib.Core.List.{List}
use Prim.Native.Nat.{ℕ, ◌≤◌}
use lib.ListN.{length}
use Rattle.std.specs.Prelude.{Option, Some}
use Rattle.stream_io.specs.Bounds.{count_of, name_of, OpensWithin, PutsNothing, ReadsWithin, WritesNothing}
use Rattle.stream_io.specs.declared.Taken.{Taken}
use Rattle.stream_io.specs.declared.Taken.TheVariants as T
use Rattle.stream_io.specs.declared.Put.{Put}
use Rattle.stream_io.specs.declared.Put.TheVariants as P

pub taken_within : {old what new : List ℕ} {r : Taken} → ReadsWithin old what new r → (n : ℕ) → r ≡ T.Bytes n → n ≤ length new
taken_within {new = new} t n told = subst (λ (q : Taken). count_of q ≤ length new) told t.within

-- ---- a text of no bytes is written, wherever it goes
abbrev is_whole : Put → Bool
is_whole P.Whole = true
is_whole (P.Failed e) = false
is_whole P.Nothing = false
is_whole P.TooMany = false

pub answered : {bytes what : List ℕ} {r : Put} → PutsNothing bytes r → (q : Put) → r ≡ q → WritesNothing bytes what (is_whole q)
answered p q told = record { empty = λ e. subst (λ (x : Put). is_whole x ≡ true) (sym (p.empty e) ∙ told) refl }

-- ---- and so does a name
pub name_within : {F : Type 0} {i : ℕ} {old new : List ℕ} {r : Option (F × ℕ)} → OpensWithin i old new r → (f : F) (n : ℕ) → r ≡ Some (f, n) → n ≤ length new
name_within {F} {new = new} t f n told = subst (λ (q : Option (F × ℕ)). name_of q ≤ length new) told t.within
