-- How many ones there are, one entry on; the bytes, one entry on; the flat entries, one entry on. Assumes nothing.
use mathlib.Core.Path.{◌≡◌, refl, sym, ap, ap₂, subst, ◌∙◌}
use mathlib.Core.Bool.{Bool, true, false, ◌||◌, or-true, or-false}
use mathlib.Core.List.{List, [], ◌∷◌, ◌++◌}
use Prim.Native.Nat.{ℕ, zero, suc, ◌+◌, ◌*◌, ◌-◌, ◌<◌, ◌≤◌, ◌^◌}
use native.Mathlib.Numerals.{add-one}
use native.Mathlib.Omega.{arith}
use lib.IntN.{ℤ, pos}
use lib.Signed.{lt_z, mag}
use lib.ListN.{get_or, length, set, length-append}
use mir.Syntax.{w32}
use Rattle.laws.proofs.Words.{held}
use Rattle.trace_counts.proofs.Held.{read}
use Rattle.places.specs.Places.{kind_at, square_at, colour_at}
use borrow.Author.Tests.{eq-eqb, ne_eqb}
use lib.Seq.{ext_get_or}
use Rattle.laws.specs.Tables.{tabulate}
use Rattle.laws.proofs.Tables.{tabulate_set}
use Rattle.bits.specs.Bitboard.{digit, how_many, is_in}
use Rattle.trace_list.specs.Ones.{ones}
use Rattle.trace_list.specs.Form.{is_one_rule, list_bytes, list_place, list_places, flat_of}
use Rattle.trace_list.proofs.Ones.{ones_yes, ones_no, ones_zero, ones_count, in_last}
use Rattle.trace_list.proofs.Rising.{table_none, table_last}
use Rattle.trace_list.proofs.Flat.{flat_length, flat_at}
use Rattle.trace_list.proofs.Bytes.{bytes_more}

-- ---- the number
pub many_none : (f : ℕ → Bool) → 0 ≡ how_many 0 f
unfolding how_many
many_none f = refl

pub many_more : (entries : List ℤ) (k : ℕ) {sum d : ℕ} → mag (get_or entries k (pos 0)) < 2 ^ 31 → sum ≡ how_many k (is_one_rule entries)
    → d ≡ digit (lt_z (pos 0) (held w32 (get_or entries k (pos 0))))
    → sum + d ≡ how_many (k + 1) (is_one_rule entries)
unfolding how_many
many_more entries k {sum} {d} h e q =
    let o : d ≡ digit (is_one_rule entries k) = q ∙ ap (λ (z : ℤ). digit (lt_z (pos 0) z)) (read (get_or entries k (pos 0)) h) in
    rw add-one (omega (arith, e, o))

-- more are among more
grows : (f : ℕ → Bool) (k m : ℕ) → how_many k f ≤ how_many (k + m) f
unfolding how_many
grows f k zero = let e : k + 0 ≡ k = omega arith in subst (λ (n : ℕ). how_many k f ≤ how_many n f) (sym e) (omega arith)
grows f k (suc m) = let e : k + suc m ≡ suc (k + m) = omega arith in
    let h = grows f k m in
    subst (λ (n : ℕ). how_many k f ≤ how_many n f) (sym e) (omega (arith, h))

step : (f : ℕ → Bool) (k : ℕ) → f k ≡ true → how_many (suc k) f ≡ suc (how_many k f)
unfolding how_many
step f k e = let d : digit (f k) ≡ 1 = ap digit e in omega (arith, d)

pub room : (f : ℕ → Bool) (k : ℕ) → k < 768 → f k ≡ true → how_many 768 f ≤ 64 → {n : ℕ} → n ≡ length (ones f k) → n < 64
room f k l e h {n} q =
    let c : n ≡ how_many k f = q ∙ ones_count f k in
    let up : how_many (suc k) f ≤ how_many (suc k + (767 - k)) f = grows f (suc k) (767 - k) in
    let top : suc k + (767 - k) ≡ 768 = omega arith in
    let all : how_many (suc k) f ≤ how_many 768 f = subst (λ (n : ℕ). how_many (suc k) f ≤ how_many n f) top up in
    let s : how_many (suc k) f ≡ suc (how_many k f) = step f k e in
    omega (arith, c, all, s, h)

-- ---- the bytes
module _ (entries : List ℤ) (k : ℕ) where
  pub length_yes : {n : ℕ} → is_one_rule entries k ≡ true → n ≡ length (ones (is_one_rule entries) k) → n + 1 ≡ length (ones (is_one_rule entries) (k + 1))
  length_yes e q =
      ap (λ (m : ℕ). m + 1) q ∙ sym (length-append (ones (is_one_rule entries) k) (k ∷ [])) ∙ ap length (sym (ones_yes (is_one_rule entries) k e))
      ∙ ap (λ (m : ℕ). length (ones (is_one_rule entries) m)) (sym (add-one k))

  pub length_no : {n : ℕ} → is_one_rule entries k ≡ false → n ≡ length (ones (is_one_rule entries) k) → n ≡ length (ones (is_one_rule entries) (k + 1))
  length_no e q = q ∙ ap length (sym (ones_no (is_one_rule entries) k e)) ∙ ap (λ (m : ℕ). length (ones (is_one_rule entries) m)) (sym (add-one k))

  pub bytes_yes : {n : ℕ} {bytes : List ℕ} → is_one_rule entries k ≡ true → n ≡ length (ones (is_one_rule entries) k) → n < 64 → bytes ≡ list_bytes (ones (is_one_rule entries) k)
      → set (set (set bytes (3 * n) (kind_at k)) (3 * n + 1) (square_at k)) (3 * n + 2) (colour_at k) ≡ list_bytes (ones (is_one_rule entries) (k + 1))
  bytes_yes e q l b =
      ap₂ (λ (bs : List ℕ) (m : ℕ). set (set (set bs (3 * m) (kind_at k)) (3 * m + 1) (square_at k)) (3 * m + 2) (colour_at k)) b q
      ∙ bytes_more (ones (is_one_rule entries) k) k (subst (λ (m : ℕ). m < 64) q l) ∙ ap list_bytes (sym (ones_yes (is_one_rule entries) k e))
      ∙ ap (λ (m : ℕ). list_bytes (ones (is_one_rule entries) m)) (sym (add-one k))

  pub bytes_no : {bytes : List ℕ} → is_one_rule entries k ≡ false → bytes ≡ list_bytes (ones (is_one_rule entries) k) → bytes ≡ list_bytes (ones (is_one_rule entries) (k + 1))
  bytes_no e b = b ∙ ap list_bytes (sym (ones_no (is_one_rule entries) k e)) ∙ ap (λ (m : ℕ). list_bytes (ones (is_one_rule entries) m)) (sym (add-one k))

pub bytes_start : (f : ℕ → Bool) {bytes : List ℕ} → bytes ≡ list_bytes [] → bytes ≡ list_bytes (ones f 0)
bytes_start f e = e ∙ ap list_bytes (sym (ones_zero f))

pub length_start : (f : ℕ → Bool) → 0 ≡ length (ones f 0)
length_start f = ap length (sym (ones_zero f))

-- what the machine reads back from an entry's bits
pub tested : (entries : List ℤ) (k : ℕ) {a t : Bool} → mag (get_or entries k (pos 0)) < 2 ^ 31 → a ≡ lt_z (pos 0) (held w32 (get_or entries k (pos 0)))
    → a ≡ t → is_one_rule entries k ≡ t
tested entries k h q e = ap (lt_z (pos 0)) (sym (read (get_or entries k (pos 0)) h)) ∙ sym q ∙ e

pub digit_of : (z : ℤ) {a t : Bool} → mag z < 2 ^ 31 → a ≡ lt_z (pos 0) (held w32 z) → a ≡ t → digit t ≡ digit (lt_z (pos 0) z)
digit_of z h q e = ap digit (sym e ∙ q ∙ ap (lt_z (pos 0)) (read z h))

-- ---- the flat entries
pub flat_none : (es : List ℤ) → length es ≡ 768 → ((k : ℕ) → k < 768 → get_or es k (pos 0) ≡ pos 0) → es ≡ flat_of []
unfolding is_in
flat_none es e h =
    ext_get_or (pos 0) es (flat_of []) (e ∙ sym (flat_length [])) (λ k l. let b : k < 768 = subst (λ (n : ℕ). k < n) e l in h k b ∙ sym (flat_at [] k b))

pub flat_more : (places : List ℕ) (k : ℕ) → k < 768 → set (flat_of places) k (pos 1) ≡ flat_of (places ++ (k ∷ []))
unfolding flat_of
flat_more places k h =
    tabulate_set 768 (λ j. pos (digit (is_in j places))) (λ j. pos (digit (is_in j (places ++ (k ∷ []))))) k (pos 1) h
    (sym (ap (λ (b : Bool). pos (digit b)) (in_last k places k ∙ ap (λ (b : Bool). is_in k places || b) (eq-eqb k k refl) ∙ or-true (is_in k places))))
    (λ j l ne. sym (ap (λ (b : Bool). pos (digit b)) (in_last j places k ∙ ap (λ (b : Bool). is_in j places || b) (ne_eqb j k ne) ∙ or-false (is_in j places))))

pub flat_on : (bytes : List ℕ) (i : ℕ) {es : List ℤ} {k : ℕ} → k ≡ list_place bytes i → list_place bytes i < 768 → es ≡ flat_of (list_places bytes i)
    → set es k (pos 1) ≡ flat_of (list_places bytes (i + 1))
unfolding list_places
flat_on bytes i q h e =
    ap₂ (λ (l : List ℤ) (j : ℕ). set l j (pos 1)) e q ∙ flat_more (tabulate i (list_place bytes)) (list_place bytes i) h
    ∙ ap flat_of (sym (table_last i (list_place bytes))) ∙ ap (λ (n : ℕ). flat_of (tabulate n (list_place bytes))) (sym (add-one i))

pub flat_start : (bytes : List ℕ) {es : List ℤ} → es ≡ flat_of [] → es ≡ flat_of (list_places bytes 0)
unfolding list_places
flat_start bytes e = e ∙ ap flat_of (sym (table_none (list_place bytes)))
