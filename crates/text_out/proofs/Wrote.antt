-- A text written byte by byte, and the whole buffer then. Assumes nothing.
use mathlib.Core.Path.{◌≡◌, refl, ap, ap₂, sym, ◌∙◌}
use mathlib.Core.List.{List, [], ◌∷◌, ◌++◌, append_assoc, append-nil}
use mathlib.Core.Bool.{Bool, cond}
use Prim.Native.Nat.{ℕ, ◌+◌, ◌≤◌, ◌<◌}
use native.Mathlib.Numerals.{add-one}
use native.Mathlib.Omega.{arith}
use lib.ListN.{length, take, drop, set, length-append, length-drop, take-append-drop}
use lib.Seq.{take-suc-set, drop-set-lt, drop-drop, take_at, drop_at, length-take-le}
use borrow.Author.Tests.{le-leb, lt-leb}
use Rattle.text_out.specs.Text.{Wrote, place_of, written_of}

pub wrote_none : (old : List ℕ) (at : ℕ) → at ≤ length old → Wrote old old at at []
wrote_none old at h = record { to = omega arith; fits = h; front = sym (append-nil (take at old)); back = refl }

pub wrote_more : (old new : List ℕ) (at r : ℕ) (text : List ℕ) (b : ℕ) → length new ≡ length old → r < length old
    → Wrote old new at r text → Wrote old (set new r b) at (r + 1) (text ++ (b ∷ []))
wrote_more old new at r text b l h w =
    record {
      to = omega (arith, w.to, length-append text (b ∷ []));
      fits = omega arith;
      front = rw add-one (take-suc-set new r b (omega arith) ∙ ap (λ (t : List ℕ). t ++ (b ∷ [])) w.front ∙ append_assoc (take at old) text (b ∷ []));
      back = drop-set-lt (r + 1) new r b (omega arith) ∙ sym (drop-drop 1 r new) ∙ ap (drop 1) w.back ∙ drop-drop 1 r old;
    }

-- what was written is as long as it says
pub wrote_length : (old new : List ℕ) (at r : ℕ) (text : List ℕ) → Wrote old new at r text → length (take r new) ≡ r
wrote_length old new at r text w =
    ap length w.front ∙ length-append (take at old) text
    ∙ ap (λ (n : ℕ). n + length text) (length-take-le at old (omega (arith, w.to, w.fits))) ∙ sym w.to

-- ---- the answer and the buffer, with room and without
pub with_room : (old new : List ℕ) (at r : ℕ) (text : List ℕ) → Wrote old new at r text → (r ∷ [] ≡ place_of old at text) × (new ≡ written_of old at text)
with_room old new at r text w =
    let h : at + length text ≤ length old = omega (arith, w.to, w.fits) in (
      ap (λ (n : ℕ). n ∷ []) w.to ∙ sym (ap (λ (t : Bool). cond t ((at + length text) ∷ []) []) (le-leb (at + length text) (length old) h)),
      sym (take-append-drop r new)
          ∙ ap₂ (λ (a b : List ℕ). a ++ b) w.front (w.back ∙ ap (λ (n : ℕ). drop n old) w.to)
          ∙ append_assoc (take at old) text (drop (at + length text) old)
          ∙ sym (ap (λ (t : Bool). cond t (take at old ++ (text ++ drop (at + length text) old)) old) (le-leb (at + length text) (length old) h)),
    )

pub no_room : (old : List ℕ) (at : ℕ) (text : List ℕ) → length old < at + length text → ([] ≡ place_of old at text) × (old ≡ written_of old at text)
no_room old at text h = (
  sym (ap (λ (t : Bool). cond t ((at + length text) ∷ []) []) (lt-leb (at + length text) (length old) h)),
  sym (ap (λ (t : Bool). cond t (take at old ++ (text ++ drop (at + length text) old)) old) (lt-leb (at + length text) (length old) h)),
)

-- ---- what a caller goes by: the buffer's parts after a text that had room
module _ (old : List ℕ) (at : ℕ) (text : List ℕ) (h : at + length text ≤ length old) where
  pub written_is : written_of old at text ≡ take at old ++ (text ++ drop (at + length text) old)
  written_is = ap (λ (t : Bool). cond t (take at old ++ (text ++ drop (at + length text) old)) old) (le-leb (at + length text) (length old) h)

  pub place_is : place_of old at text ≡ (at + length text) ∷ []
  place_is = ap (λ (t : Bool). cond t ((at + length text) ∷ []) []) (le-leb (at + length text) (length old) h)

  front_length : length (take at old) ≡ at
  front_length = length-take-le at old (omega (arith, h))

  seam : length (take at old ++ text) ≡ at + length text
  seam = length-append (take at old) text ∙ ap (λ (n : ℕ). n + length text) front_length

  joined : written_of old at text ≡ (take at old ++ text) ++ drop (at + length text) old
  joined = written_is ∙ sym (append_assoc (take at old) text (drop (at + length text) old))

  pub written_front : take (at + length text) (written_of old at text) ≡ take at old ++ text
  written_front = ap (take (at + length text)) joined ∙ take_at (take at old ++ text) (drop (at + length text) old) (at + length text) seam

  pub written_back : drop (at + length text) (written_of old at text) ≡ drop (at + length text) old
  written_back = ap (drop (at + length text)) joined ∙ drop_at (take at old ++ text) (drop (at + length text) old) (at + length text) seam

  pub written_length : length (written_of old at text) ≡ length old
  written_length =
      ap length joined ∙ length-append (take at old ++ text) (drop (at + length text) old)
      ∙ (let e = seam in let d = length-drop (at + length text) old in omega (arith, h))

-- one text after another is both at once
pub written_then : (old : List ℕ) (at : ℕ) (t u : List ℕ) → at + length (t ++ u) ≤ length old
    → written_of (written_of old at t) (at + length t) u ≡ written_of old at (t ++ u)
written_then old at t u h =
    let e : length (t ++ u) ≡ length t + length u = length-append t u in
    let ht : at + length t ≤ length old = omega arith in
    let hu : (at + length t) + length u ≤ length (written_of old at t) = omega (arith, written_length old at t ht) in
    let r : ℕ = (at + length t) + length u in
    written_is (written_of old at t) (at + length t) u hu
    ∙ ap₂ (λ (a b : List ℕ). a ++ (u ++ b)) (written_front old at t ht)
    (sym (drop-drop (length u) (at + length t) (written_of old at t)) ∙ ap (drop (length u)) (written_back old at t ht)
    ∙ drop-drop (length u) (at + length t) old)
    ∙ append_assoc (take at old) t (u ++ drop r old)
    ∙ ap (λ (l : List ℕ). take at old ++ l) (sym (append_assoc t u (drop r old)))
    ∙ ap (λ (n : ℕ). take at old ++ ((t ++ u) ++ drop n old)) (let z : r ≡ at + length (t ++ u) = omega arith in z)
    ∙ sym (written_is old at (t ++ u) h)
