-- Texts put one after another are put as one. Assumes nothing.
use mathlib.Core.Path.{◌≡◌, refl, sym, ap, subst, ◌∙◌}
use mathlib.Core.Bool.{Bool, true, false, cond}
use mathlib.Core.List.{List, [], ◌∷◌, ◌++◌, append_assoc}
use Prim.Native.Nat.{ℕ, ◌+◌, ◌≤◌}
use native.Mathlib.Nat.{add-zero}
use native.Mathlib.Omega.{arith}
use lib.ListN.{length, take, drop, length-append, take-append-drop}
use Rattle.text_out.specs.Text.{PlaceAfter, Puts, place, written_of, after_of, room_for, decimal_of, Adds}
use Rattle.text_out.proofs.Wrote.{place_is, written_front, written_back, written_length, written_then}
use Rattle.text_out.proofs.Spelled.{length_decimal}
use Rattle.std.specs.Prelude.{Option, None, Some}
use Rattle.std.specs.Option.{unwrap_or}

-- the place of a text that was put, or the place given
pub or_after : (p : Option ℕ) (at : ℕ) → PlaceAfter p at (unwrap_or p at)
or_after None at = refl
or_after (Some r) at = refl

pub adds_or : (old : List ℕ) (at : ℕ) (text new : List ℕ) (p : Option ℕ) (r : ℕ) → Puts old new at text p → r ≡ unwrap_or p at → Adds old at text new r
adds_or old at text new p r h e = record { place = e ∙ or_after p at ∙ ap (λ (l : List ℕ). after_of l at) h.0; buffer = h.1 }

module _ {old : List ℕ} {at : ℕ} {text new : List ℕ} {r : ℕ} (a : Adds old at text new r) (room : at + length text ≤ length old) where
  pub adds_to : r ≡ at + length text
  adds_to = a.place ∙ ap (λ (l : List ℕ). after_of l at) (place_is old at text room)

  pub adds_length : length new ≡ length old
  adds_length = ap length a.buffer ∙ written_length old at text room

  pub adds_front : take r new ≡ take at old ++ text
  adds_front = ap (λ (n : ℕ). take n new) adds_to ∙ ap (take (at + length text)) a.buffer ∙ written_front old at text room

  pub adds_back : drop r new ≡ drop r old
  adds_back = ap (λ (n : ℕ). drop n new) adds_to ∙ ap (drop (at + length text)) a.buffer ∙ written_back old at text room
      ∙ sym (ap (λ (n : ℕ). drop n old) adds_to)

-- one text after another
pub adds_then : {x y z : List ℕ} {at b c : ℕ} {t u : List ℕ} → Adds x at t y b → Adds y b u z c → at + (length t + length u) ≤ length x → Adds x at (t ++ u) z c
adds_then {x} {y} {z} {at} {b} {c} {t} {u} p q room =
    let e : length (t ++ u) ≡ length t + length u = length-append t u in
    let ht : at + length t ≤ length x = omega arith in
    let hb : b ≡ at + length t = adds_to p ht in
    let hu : b + length u ≤ length y = omega (arith, adds_length p ht) in
    let hx : at + length (t ++ u) ≤ length x = omega arith in
    let hc : c ≡ at + length (t ++ u) = omega (arith, adds_to q hu) in
    record {
      place = hc ∙ sym (ap (λ (l : List ℕ). after_of l at) (place_is x at (t ++ u) hx));
      buffer = q.buffer ∙ ap (λ (l : List ℕ). written_of l b u) p.buffer ∙ ap (λ (n : ℕ). written_of (written_of x at t) n u) hb ∙ written_then x at t u hx;
    }

-- nothing added is nothing changed, with room or without
pub adds_none : (old : List ℕ) (at : ℕ) → Adds old at [] old at
adds_none old at = record { place = after (room_for old at []); buffer = same (room_for old at []) }
  where
    after : (t : Bool) → at ≡ after_of (cond t ((at + 0) ∷ []) []) at
    after true = omega arith
    after false = refl

    same : (t : Bool) → old ≡ cond t (take at old ++ drop (at + 0) old) old
    same true = sym (ap (λ (n : ℕ). take at old ++ drop n old) (add-zero at) ∙ take-append-drop at old)
    same false = refl

-- three texts
pub adds_3 : {x y z p : List ℕ} {at a b c : ℕ} {t u v : List ℕ} → Adds x at t y a → Adds y a u z b → Adds z b v p c
    → at + (length t + length u + length v) ≤ length x → Adds x at (t ++ (u ++ v)) p c
adds_3 {x} {p = p} {at = at} {c = c} {t = t} {u = u} {v = v} first second third room =
    let e = length-append t u in
    subst (λ (l : List ℕ). Adds x at l p c) (append_assoc t u v) (adds_then (adds_then first second (omega arith)) third (omega arith))

-- four texts
pub adds_4 : {x y z p q : List ℕ} {at a b c d : ℕ} {t u v w : List ℕ} → Adds x at t y a → Adds y a u z b → Adds z b v p c → Adds p c w q d
    → at + (length t + length u + length v + length w) ≤ length x → Adds x at (t ++ (u ++ (v ++ w))) q d
adds_4 {x} {q = q} {at = at} {d = d} {t = t} {u = u} {v = v} {w = w} first second third fourth room =
    let e = length-append t u in
    let f = length-append (t ++ u) v in
    subst (λ (l : List ℕ). Adds x at l q d)
    (append_assoc (t ++ u) v w ∙ append_assoc t u (v ++ w))
    (adds_then (adds_then (adds_then first second (omega arith)) third (omega arith)) fourth (omega arith))

-- a number of 64 bits has 20 digits at most
pub length_20 : (n : ℕ) → length (decimal_of n) ≤ 20
length_20 n = length_decimal 20 n
