-- There and back: `bytes_back` and `flat_back`, and that what is made of a flat trace with at most 64 ones is a list (`made`). Assumes nothing.
use mathlib.Core.Path.{◌≡◌, refl, sym, ap, ap₂, subst, ◌∙◌}
use mathlib.Core.Bool.{Bool, true, false, cond, ◌&&◌, and-true}
use mathlib.Core.List.{List, [], ◌∷◌, ◌++◌}
use mathlib.Core.Logic.{⊎_elim}
use Prim.Native.Nat.{ℕ, zero, suc, ◌+◌, ◌*◌, ◌/◌, ◌%◌, ◌<◌, ◌≤◌}
use native.Mathlib.Nat.{not-suc-le-zero, le-suc_iff, suc_inj}
use native.Mathlib.Omega.{arith}
use borrow.Author.Tests.{lt-ltb, ltb-true, ltb-false, le-leb, eq-eqb}
use lib.Dec.{T, ltb, leb, eqb}
use lib.IntN.{ℤ, pos}
use lib.Signed.{lt_z}
use lib.ListN.{get_or, length, length-append, get_or-append}
use lib.Seq.{ext_get_or, get_or-append_seam}
use Rattle.laws.specs.Tests.{all_below}
use Rattle.laws.specs.Tables.{tabulate}
use Rattle.laws.proofs.Truth.{true_T, and_i, or_l, or_r}
use Rattle.laws.proofs.Tests.{all_of}
use Rattle.laws.proofs.Tables.{entry, tabulate_length}
use Rattle.bits.specs.Bitboard.{digit}
use Rattle.places.specs.Places.{entry_place, kind_at, square_at, colour_at}
use Rattle.trace_counts.specs.Ranges.{are_entries}
use Rattle.trace_list.specs.Ones.{ones}
use Rattle.trace_list.specs.Form.{kind_in, square_in, colour_in, list_place, list_places, in_range, least_at, comes_after, is_unused, is_list, entry_byte}
use Rattle.trace_list.specs.Form.{list_bytes, is_one_rule, flat_of, ones_in}
use Rattle.trace_list.proofs.Ones.{ones_yes, ones_no, ones_zero, in_ones}
use Rattle.trace_list.proofs.Rising.{Rises}
use Rattle.trace_list.proofs.There.{Listed, how_many_holds}
use Rattle.trace_list.proofs.Flat.{flat_length, flat_at, Mark, no, yes, mark_at}
use Rattle.trace_list.proofs.Bytes.{bytes_length, byte_at}

-- ---- the parts of an entry's place are its bytes
part_is : (used : ℕ) (bytes : List ℕ) → Listed used bytes → (i r j : ℕ) → i < used → r < 3 → j ≡ 3 * i + r → entry_byte r (list_place bytes i) ≡ get_or bytes j 0
unfolding list_place
part_is used bytes h i zero j l b e =
    let s = h.squares i l in
    let c = h.colours i l in
    let q : j ≡ 3 * i = omega arith in
    let k : kind_at (entry_place (kind_in bytes i) (square_in bytes i) (colour_in bytes i)) ≡ kind_in bytes i = omega arith in
    k ∙ ap (λ (x : ℕ). get_or bytes x 0) (sym q)
part_is used bytes h i (suc zero) j l b e =
    let s = h.squares i l in
    let c = h.colours i l in
    let q : j ≡ 3 * i + 1 = omega arith in
    let k : square_at (entry_place (kind_in bytes i) (square_in bytes i) (colour_in bytes i)) ≡ square_in bytes i = omega arith in
    k ∙ ap (λ (x : ℕ). get_or bytes x 0) (sym q)
part_is used bytes h i (suc (suc zero)) j l b e =
    let s = h.squares i l in
    let c = h.colours i l in
    let q : j ≡ 3 * i + 2 = omega arith in
    let k : colour_at (entry_place (kind_in bytes i) (square_in bytes i) (colour_in bytes i)) ≡ colour_in bytes i = omega arith in
    k ∙ ap (λ (x : ℕ). get_or bytes x 0) (sym q)
part_is used bytes h i (suc (suc (suc r))) j l b e = absurd (omega arith)

-- "Turning one form into the other and back changes nothing": a list
pub bytes_back : (used : ℕ) (bytes : List ℕ) → Listed used bytes → length bytes ≡ 192 → list_bytes (list_places bytes used) ≡ bytes
unfolding list_places
bytes_back used bytes h e =
    ext_get_or 0 (list_bytes (list_places bytes used)) bytes (bytes_length (list_places bytes used) ∙ sym e)
    (λ j l. let b : j < 192 = subst (λ (n : ℕ). j < n) (bytes_length (list_places bytes used)) l in
    byte_at (list_places bytes used) j b
    ∙ ap (λ (n : ℕ). cond (ltb j (3 * n)) (entry_byte (j % 3) (get_or (list_places bytes used) (j / 3) 0)) 0) (how_many_holds used bytes)
    ∙ each j b (ltb j (3 * used)) refl)
  where
    each : (j : ℕ) → j < 192 → (t : Bool) → ltb j (3 * used) ≡ t → cond t (entry_byte (j % 3) (get_or (list_places bytes used) (j / 3) 0)) 0 ≡ get_or bytes j 0
    each j b true q =
        let l : j < 3 * used = ltb-true j (3 * used) q in
        let i : j / 3 < used = omega arith in
        ap (entry_byte (j % 3)) (entry used (list_place bytes) 0 (j / 3) i) ∙ part_is used bytes h (j / 3) (j % 3) j i (omega arith) (omega arith)
    each j b false q = sym (h.unused j (ltb-false j (3 * used) q) b)

-- ---- bytes of a list of places are read back
byte_early : (places : List ℕ) (i r j : ℕ) → i < length places → length places ≤ 64 → r < 3 → j ≡ 3 * i + r
    → get_or (list_bytes places) j 0 ≡ entry_byte r (get_or places i 0)
byte_early places i r j l b h e =
    let q : j / 3 ≡ i = omega arith in
    let p : j % 3 ≡ r = omega arith in
    byte_at places j (omega arith)
    ∙ ap (λ (t : Bool). cond t (entry_byte (j % 3) (get_or places (j / 3) 0)) 0) (lt-ltb j (3 * length places) (omega arith))
    ∙ ap₂ (λ (a b : ℕ). entry_byte a (get_or places b 0)) p q

pub place_back : (places : List ℕ) (i : ℕ) → i < length places → length places ≤ 64 → list_place (list_bytes places) i ≡ get_or places i 0
unfolding list_place
place_back places i l b =
    let x = get_or places i 0 in
    let k = byte_early places i 0 (3 * i) l b (omega arith) (omega arith) in
    let s = byte_early places i 1 (3 * i + 1) l b (omega arith) refl in
    let c = byte_early places i 2 (3 * i + 2) l b (omega arith) refl in
    omega (arith, k, s, c)

pub places_back : (places : List ℕ) → length places ≤ 64 → list_places (list_bytes places) (length places) ≡ places
unfolding list_places
places_back places b =
    ext_get_or 0 (tabulate (length places) (list_place (list_bytes places))) places (tabulate_length (length places) (list_place (list_bytes places)))
    (λ i l. let h : i < length places = subst (λ (n : ℕ). i < n) (tabulate_length (length places) (list_place (list_bytes places))) l in
    entry (length places) (list_place (list_bytes places)) 0 i h ∙ place_back places i h b)

-- ---- the ones rise
longer : (ks : List ℕ) (n : ℕ) → Rises (λ i. get_or ks i 0) (length ks) n → Rises (λ i. get_or (ks ++ (n ∷ [])) i 0) (length (ks ++ (n ∷ []))) (suc n)
longer ks n r = record {
  up = λ i l. let h : i < length ks = short (suc i) l (λ (q : suc i < length ks). omega arith) (λ (q : suc i ≡ length ks). omega arith) in
      let here : get_or (ks ++ (n ∷ [])) i 0 ≡ get_or ks i 0 = get_or-append ks (n ∷ []) 0 i h in
      let small : get_or ks i 0 < n = r.below i h in
      short (suc i) l
      (λ (q : suc i < length ks). let next : get_or (ks ++ (n ∷ [])) (suc i) 0 ≡ get_or ks (suc i) 0 = get_or-append ks (n ∷ []) 0 (suc i) q in
      let up : get_or ks i 0 < get_or ks (suc i) 0 = r.up i q in omega (arith, here, next, up))
      (λ (q : suc i ≡ length ks). let next : get_or (ks ++ (n ∷ [])) (suc i) 0 ≡ n = last (suc i) q in omega (arith, here, next, small));
  below = λ i l. short i l
      (λ (q : i < length ks). let here : get_or (ks ++ (n ∷ [])) i 0 ≡ get_or ks i 0 = get_or-append ks (n ∷ []) 0 i q in
      let b : get_or ks i 0 < n = r.below i q in omega (arith, here, b))
      (λ (q : i ≡ length ks). let here : get_or (ks ++ (n ∷ [])) i 0 ≡ n = last i q in omega (arith, here));
}
  where
    last : (i : ℕ) → i ≡ length ks → get_or (ks ++ (n ∷ [])) i 0 ≡ n
    last i q = ap (λ (x : ℕ). get_or (ks ++ (n ∷ [])) x 0) q ∙ get_or-append_seam ks n [] 0

    short : {C : Type 0} (i : ℕ) → i < length (ks ++ (n ∷ [])) → (i < length ks → C) → (i ≡ length ks → C) → C
    short i l f g =
        let b : length (ks ++ (n ∷ [])) ≡ length ks + 1 = length-append ks (n ∷ []) in
        let m : i < suc (length ks) = omega arith in
        ⊎_elim f (λ q. g (suc_inj q)) (le-suc_iff.0 m)

pub ones_rise : (f : ℕ → Bool) (n : ℕ) → Rises (λ i. get_or (ones f n) i 0) (length (ones f n)) n
ones_rise f zero = record {
  up = λ i l. absurd (nothing (suc i) (subst (λ (ks : List ℕ). suc i < length ks) (ones_zero f) l));
  below = λ i l. absurd (nothing i (subst (λ (ks : List ℕ). i < length ks) (ones_zero f) l));
}
  where
    nothing : (i : ℕ) → i < 0 → ⊥
    nothing i l = not-suc-le-zero l
ones_rise f (suc n) = go (ones_rise f n) (f n) refl
  where
    go : Rises (λ i. get_or (ones f n) i 0) (length (ones f n)) n → (t : Bool) → f n ≡ t
        → Rises (λ i. get_or (ones f (suc n)) i 0) (length (ones f (suc n))) (suc n)
    go r true e = subst (λ (ks : List ℕ). Rises (λ i. get_or ks i 0) (length ks) (suc n)) (sym (ones_yes f n e)) (longer (ones f n) n r)
    go r false e = subst (λ (ks : List ℕ). Rises (λ i. get_or ks i 0) (length ks) (suc n)) (sym (ones_no f n e))
        (record { up = r.up; below = λ i l. let b = r.below i l in omega arith })

-- ---- so a flat trace with at most 64 ones makes a list
in_order : (ks : List ℕ) → length ks ≤ 64 → Rises (λ i. get_or ks i 0) (length ks) 768 → (i : ℕ) → i < length ks → T (comes_after (list_bytes ks) i)
unfolding comes_after
in_order ks few r i l =
    let bs : List ℕ = list_bytes ks in
    let small : get_or ks i 0 < 768 = r.below i l in
    let k : kind_in (list_bytes ks) i < 6 = let e = byte_early ks i 0 (3 * i) l few (omega arith) (omega arith) in omega (arith, e, small) in
    let s : square_in (list_bytes ks) i < 64 = let e = byte_early ks i 1 (3 * i + 1) l few (omega arith) refl in omega (arith, e) in
    let c : colour_in (list_bytes ks) i < 2 = let e = byte_early ks i 2 (3 * i + 2) l few (omega arith) refl in omega (arith, e) in
    and_i (in_range bs i) (leb (least_at bs i) (list_place bs i))
    (and_i (ltb (kind_in bs i) 6 && ltb (square_in bs i) 64) (ltb (colour_in bs i) 2)
    (and_i (ltb (kind_in bs i) 6) (ltb (square_in bs i) 64) (true_T (lt-ltb (kind_in bs i) 6 k)) (true_T (lt-ltb (square_in bs i) 64 s)))
    (true_T (lt-ltb (colour_in bs i) 2 c)))
    (true_T (le-leb (least_at bs i) (list_place bs i) (least ks few r i l)))
  where
    least : (ks : List ℕ) → length ks ≤ 64 → Rises (λ i. get_or ks i 0) (length ks) 768 → (i : ℕ) → i < length ks
        → least_at (list_bytes ks) i ≤ list_place (list_bytes ks) i
    least ks few r zero l = omega arith
    least ks few r (suc i) l =
        let here = place_back ks (suc i) l few in
        let before = place_back ks i (omega arith) few in
        let up : get_or ks i 0 < get_or ks (suc i) 0 = r.up i l in
        omega (arith, here, before, up)

padded : (ks : List ℕ) (j : ℕ) → j < 192 → (t : Bool) → ltb j (3 * length ks) ≡ t → T (is_unused (length ks) (list_bytes ks) j)
padded ks j l true e = or_l (ltb j (3 * length ks)) (eqb (get_or (list_bytes ks) j 0) 0) (true_T e)
padded ks j l false e =
    or_r (ltb j (3 * length ks)) (eqb (get_or (list_bytes ks) j 0) 0)
    (true_T (eq-eqb (get_or (list_bytes ks) j 0) 0 (byte_at ks j l ∙ ap (λ (t : Bool). cond t (entry_byte (j % 3) (get_or ks (j / 3) 0)) 0) e)))

pub made : (f : ℕ → Bool) → length (ones f 768) ≤ 64 → T (is_list (length (ones f 768)) (list_bytes (ones f 768)))
unfolding is_list
made f few =
    let ks : List ℕ = ones f 768 in
    let n : ℕ = length (ones f 768) in
    and_i (leb n 64 && all_below n (comes_after (list_bytes ks))) (all_below 192 (is_unused n (list_bytes ks)))
    (and_i (leb n 64) (all_below n (comes_after (list_bytes ks))) (true_T (le-leb n 64 few))
    (all_of n (comes_after (list_bytes ks)) (λ i l. in_order ks few (ones_rise f 768) i l)))
    (all_of 192 (is_unused n (list_bytes ks)) (λ j l. padded ks j l (ltb j (3 * n)) refl))

-- ---- "Turning one form into the other and back changes nothing": a flat trace
mark_back : {z : ℤ} → Mark z → pos (digit (lt_z (pos 0) z)) ≡ z
mark_back no = refl
mark_back yes = refl

pub flat_back : (entries : List ℤ) → length entries ≡ 768 → T (are_entries entries) → flat_of (ones_in entries) ≡ entries
unfolding ones_in
flat_back entries e t =
    ext_get_or (pos 0) (flat_of (ones_in entries)) entries (flat_length (ones_in entries) ∙ sym e)
    (λ k l. let h : k < 768 = subst (λ (n : ℕ). k < n) (flat_length (ones_in entries)) l in
    flat_at (ones_in entries) k h
    ∙ ap (λ (b : Bool). pos (digit b)) (in_ones (is_one_rule entries) 768 k ∙ ap (λ (b : Bool). is_one_rule entries k && b) (lt-ltb k 768 h) ∙ and-true (is_one_rule entries k))
    ∙ mark_back (mark_at entries t k (subst (λ (n : ℕ). k < n) (sym e) h)))
