-- The bytes of a list of places, entry by entry, and what stands in them: a list that is read back is the list. Assumes nothing.
use mathlib.Core.Path.{◌≡◌, refl, sym, ap, ap₂, ◌∙◌}
use mathlib.Core.Bool.{Bool, true, false, cond}
use mathlib.Core.List.{List, [], ◌∷◌, ◌++◌}
use Prim.Native.Nat.{ℕ, suc, ◌+◌, ◌*◌, ◌/◌, ◌%◌, ◌<◌}
use native.Mathlib.Omega.{arith}
use borrow.Author.Tests.{lt-ltb, ltb-true}
use lib.Dec.{ltb}
use lib.ListN.{get_or, length, set, length-append, get_or-append}
use lib.Seq.{get_or-append_seam}
use Rattle.laws.specs.Tables.{tabulate}
use Rattle.laws.proofs.Tables.{entry, tabulate_length, tabulate_set, tabulate_same}
use Rattle.places.specs.Places.{kind_at, square_at, colour_at}
use Rattle.trace_list.specs.Form.{entry_byte, list_bytes}
use Rattle.trace_list.proofs.Ones.{ltb_more}

-- ---- the bytes below m of a list of places, then zeros
abbrev below : List ℕ → ℕ → ℕ → ℕ
below places m j = cond (ltb j m) (entry_byte (j % 3) (get_or places (j / 3) 0)) 0

pub bytes_length : (places : List ℕ) → length (list_bytes places) ≡ 192
unfolding list_bytes
bytes_length places = tabulate_length 192 (below places (3 * length places))

pub byte_at : (places : List ℕ) (j : ℕ) → j < 192 → get_or (list_bytes places) j 0 ≡ cond (ltb j (3 * length places)) (entry_byte (j % 3) (get_or places (j / 3) 0)) 0
unfolding list_bytes
byte_at places j h = entry 192 (below places (3 * length places)) 0 j h

-- one byte more
one_byte : (places : List ℕ) (m v : ℕ) → m < 192 → v ≡ entry_byte (m % 3) (get_or places (m / 3) 0)
    → set (tabulate 192 (below places m)) m v ≡ tabulate 192 (below places (suc m))
one_byte places m v h e =
    tabulate_set 192 (below places m) (below places (suc m)) m v h
    (e ∙ sym (ap (λ (t : Bool). cond t (entry_byte (m % 3) (get_or places (m / 3) 0)) 0) (lt-ltb m (suc m) (omega arith))))
    (λ k l ne. ap (λ (t : Bool). cond t (entry_byte (k % 3) (get_or places (k / 3) 0)) 0) (sym (ltb_more k m ne)))

low : (j n : ℕ) → ltb j (3 * n) ≡ true → j / 3 < n
low j n e = let h : j < 3 * n = ltb-true j (3 * n) e in omega arith

early : (places : List ℕ) (k j : ℕ) (t : Bool) → ltb j (3 * length places) ≡ t
    → below places (3 * length places) j ≡ below (places ++ (k ∷ [])) (3 * length places) j
early places k j true e =
    ap (λ (x : ℕ). cond (ltb j (3 * length places)) (entry_byte (j % 3) x) 0) (sym (get_or-append places (k ∷ []) 0 (j / 3) (low j (length places) e)))
early places k j false e = ap (λ (t : Bool). cond t (entry_byte (j % 3) (get_or places (j / 3) 0)) 0) e
    ∙ sym (ap (λ (t : Bool). cond t (entry_byte (j % 3) (get_or (places ++ (k ∷ [])) (j / 3) 0)) 0) e)

there : (places : List ℕ) (k j r : ℕ) → j / 3 ≡ length places → j % 3 ≡ r → entry_byte r k ≡ entry_byte (j % 3) (get_or (places ++ (k ∷ [])) (j / 3) 0)
there places k j r p q =
    sym (ap₂ (λ (a b : ℕ). entry_byte a (get_or (places ++ (k ∷ [])) b 0)) q p ∙ ap (entry_byte r) (get_or-append_seam places k [] 0))

-- one entry more
pub bytes_more : (places : List ℕ) (k : ℕ) → length places < 64
    → set (set (set (list_bytes places) (3 * length places) (kind_at k)) (3 * length places + 1) (square_at k)) (3 * length places + 2) (colour_at k)
    ≡ list_bytes (places ++ (k ∷ []))
unfolding list_bytes
bytes_more places k h =
    let n : ℕ = length places in
    let more : List ℕ = places ++ (k ∷ []) in
    let m : ℕ = 3 * length places in
    let a : m + 1 ≡ suc m = omega arith in
    let b : m + 2 ≡ suc (suc m) = omega arith in
    let same : tabulate 192 (below places m) ≡ tabulate 192 (below more m) =
    tabulate_same 192 (below places m) (below more m) (λ j l. early places k j (ltb j (3 * length places)) refl) in
    let last : length more ≡ suc n = length-append places (k ∷ []) ∙ omega arith in
    let end : suc (suc (suc m)) ≡ 3 * length more = omega arith in
    let x = one_byte more m (kind_at k) (omega arith) (there places k m 0 (omega arith) (omega arith)) in
    let y = one_byte more (suc m) (square_at k) (omega arith) (there places k (suc m) 1 (omega arith) (omega arith)) in
    let z = one_byte more (suc (suc m)) (colour_at k) (omega arith) (there places k (suc (suc m)) 2 (omega arith) (omega arith)) in
    ap₂ (λ (i j : ℕ). set (set (set (tabulate 192 (below places m)) m (kind_at k)) i (square_at k)) j (colour_at k)) a b
    ∙ ap (λ (l : List ℕ). set (set (set l m (kind_at k)) (suc m) (square_at k)) (suc (suc m)) (colour_at k)) same
    ∙ ap (λ (l : List ℕ). set (set l (suc m) (square_at k)) (suc (suc m)) (colour_at k)) x
    ∙ ap (λ (l : List ℕ). set l (suc (suc m)) (colour_at k)) y ∙ z ∙ ap (λ (e : ℕ). tabulate 192 (below more e)) end
