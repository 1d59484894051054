-- The parts of a sample, put one after another: numbers of four bytes each, then bytes. Assumes nothing.
use mathlib.Core.Path.{◌≡◌, refl, sym, ap, subst, ◌∙◌}
use mathlib.Core.List.{List, [], ◌∷◌, ◌++◌}
use Prim.Native.Nat.{ℕ, ◌+◌, ◌*◌, ◌^◌, ◌≤◌, ◌<◌}
use native.Mathlib.Numerals.{add-one}
use native.Mathlib.Omega.{arith}
use lib.IntN.{ℤ, pos}
use lib.ListN.{length, take, get_or, length-append, length-take}
use lib.Seq.{take-suc, take_all, length-take-le}
use lib.Signed.{mag}
use mir.Syntax.{w32}
use mir.ValLaws.{to_z-of_z}
use Rattle.laws.proofs.Words.{held}
use Rattle.text_out.specs.Text.{Puts, Adds}
use Rattle.text_out.proofs.Added.{adds_or, adds_to, adds_length, adds_then, adds_none, adds_3}
use Rattle.trace_counts.specs.declared.Trace.{Trace}
use Rattle.abi_records.specs.Records.{counts_of_rule}
use Rattle.fit_sample.specs.Sample.{twos_complement, lowest_first, words_of, number_bytes, entry_bytes}
use Rattle.std.specs.Prelude.{Option}
use Rattle.std.specs.Option.{unwrap_or}

pub words_length : (zs : List ℤ) → length (words_of zs) ≡ 4 * length zs
unfolding words_of
words_length [] = refl
words_length (z ∷ zs) = let h = words_length zs in omega (arith, h)

words_append : (xs ys : List ℤ) → words_of (xs ++ ys) ≡ words_of xs ++ words_of ys
unfolding words_of
words_append [] ys = refl
words_append (x ∷ xs) ys =
    ap (λ (l : List ℕ). lowest_first (twos_complement x) ++ l) (words_append xs ys)

words_one : (z : ℤ) → words_of (z ∷ []) ≡ lowest_first (twos_complement z)
unfolding words_of
words_one z = refl

-- before the first number
pub words_none : (out : List ℕ) (at : ℕ) (numbers : List ℤ) → Adds out at (words_of (take 0 numbers)) out at
unfolding words_of
words_none out at numbers = adds_none out at

-- the buffer is as long as it was
pub words_kept : (out₀ out : List ℕ) (at end i : ℕ) (numbers : List ℤ) → at + 4 * length numbers ≤ length out₀
    → Adds out₀ at (words_of (take i numbers)) out end → length out ≡ length out₀
words_kept out₀ out at end i numbers room a = let m = words_length (take i numbers) in let k = length-take i numbers in adds_length a (omega arith)

-- one more
pub words_more : (out₀ out out' : List ℕ) (at end end' i : ℕ) (numbers : List ℤ) (bytes : List ℕ) (p : Option ℕ) → at + 4 * length numbers ≤ length out₀
    → i < length numbers
    → Adds out₀ at (words_of (take i numbers)) out end → mag (get_or numbers i (pos 0)) < 2 ^ 31
    → bytes ≡ lowest_first (twos_complement (held w32 (get_or numbers i (pos 0)))) → Puts out out' end bytes p → end' ≡ unwrap_or p end
    → Adds out₀ at (words_of (take (i + 1) numbers)) out' end'
words_more out₀ out out' at end end' i numbers bytes p room h a small e puts after =
    let z : ℤ = get_or numbers i (pos 0) in
    let word : List ℕ = lowest_first (twos_complement z) in
    let more : Adds out end word out' end' = subst (λ (b : List ℕ). Adds out end b out' end')
    (e ∙ ap (λ (y : ℤ). lowest_first (twos_complement y)) (to_z-of_z w32 z (record { sfits = small }))) (adds_or out end bytes out' p end' puts after) in
    let m = words_length (take i numbers) in
    let k = length-take-le i numbers (omega arith) in
    subst (λ (l : List ℕ). Adds out₀ at l out' end')
    (sym (ap words_of (ap (λ (n : ℕ). take n numbers) (add-one i) ∙ take-suc numbers i (pos 0) h) ∙ words_append (take i numbers) (z ∷ [])
    ∙ ap (λ (l : List ℕ). words_of (take i numbers) ++ l) (words_one z)))
    (adds_then a more (omega arith))

-- after the last
pub words_all : (out₀ out : List ℕ) (at end i : ℕ) (numbers : List ℤ) → length numbers ≤ i → Adds out₀ at (words_of (take i numbers)) out end
    → Adds out₀ at (words_of numbers) out end
words_all out₀ out at end i numbers h a = subst (λ (l : List ℤ). Adds out₀ at (words_of l) out end) (take_all i numbers h) a

-- ---- 26 numbers, and 196 bytes
pub numbers_104 : (t : Trace) → length t.mobility ≡ 12 → length (number_bytes t) ≡ 104
unfolding number_bytes
numbers_104 t h =
    let others : List ℤ = t.side ∷ t.piece_count ∷ [] in
    let a = length-append (words_of (counts_of_rule t)) (words_of t.mobility ++ words_of others) in
    let b = length-append (words_of t.mobility) (words_of others) in
    omega (arith, words_length (counts_of_rule t), words_length t.mobility, words_length others)

pub entries_long : (used half : ℕ) (list : List ℕ) → length (entry_bytes used half list) ≡ length list + 4
entries_long used half list = let a = length-append list (0 ∷ 0 ∷ []) in omega arith

-- ---- the numbers, one list after another
module _ (t : Trace) (out y z p : List ℕ) (a b c : ℕ) (counts : List ℤ) (room : 300 ≤ length out) (moved : length t.mobility ≡ 12)
    (counted : counts ≡ counts_of_rule t)
    (first : Adds out 0 (words_of counts) y a) where
  first_long : length (words_of counts) ≡ 48
  first_long = ap (λ (l : List ℤ). length (words_of l)) counted ∙ words_length (counts_of_rule t)

  pub room_second : a + 4 * length t.mobility ≤ length y
  room_second = omega (arith, first_long, adds_to first (omega (arith, first_long)), adds_length first (omega (arith, first_long)))

  module _ (second : Adds y a (words_of t.mobility) z b) where
    fits : a + length (words_of t.mobility) ≤ length y
    fits = let h = words_length t.mobility in omega (arith, room_second)

    pub room_third : b + 8 ≤ length z
    room_third =
        let h = words_length t.mobility in
        omega (
          arith,
          first_long,
          adds_to first (omega (arith, first_long)),
          adds_length first (omega (arith, first_long)),
          adds_to second fits,
          adds_length second fits,
        )

    pub numbers_all : (others : List ℤ) → others ≡ t.side ∷ t.piece_count ∷ [] → Adds z b (words_of others) p c → Adds out 0 (number_bytes t) p c
    unfolding number_bytes
    numbers_all others e third =
        let two : length others ≡ 2 = ap length e in
        subst (λ (l : List ℤ). Adds out 0 (words_of (counts_of_rule t) ++ (words_of t.mobility ++ words_of l)) p c) e
        (subst (λ (l : List ℤ). Adds out 0 (words_of l ++ (words_of t.mobility ++ words_of others)) p c) counted
        (adds_3 first second third (omega (arith, first_long, words_length t.mobility, words_length others))))
