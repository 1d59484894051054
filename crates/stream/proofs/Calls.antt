-- What a count and an error number mean, by the tests that the code makes, one after another. Assumes nothing.
use mathlib.Core.Path.{◌≡◌, refl, sym, ◌∙◌, ap, subst}
use mathlib.Core.Bool.{Bool, true, false, cond, ◌&&◌}
use Prim.Native.Nat.{ℕ, zero, suc, ◌+◌, ◌-◌, ◌^◌, ◌≤◌, ◌<◌, min}
use native.Mathlib.Nat.{min-le_right}
use native.Mathlib.Omega.{arith}
use borrow.Author.Tests.{ne_eqb, ltb-true, le-ltb, lt-ltb}
use lib.Dec.{T, eqb, ltb}
use lib.IntN.{ℤ, pos, negsuc, nat_abs}
use lib.Signed.{lt_z, non_neg}
use mir.Syntax.{w32, w64}
use mir.Val.{Fits, SFits, to_z, of_z}
use mir.Facts.{to_z-of_z}
use Rattle.stream.specs.Calls.{is_broken_off, came_of_read, came_of_write, ReadMeans, WriteMeans, MayGoOn, More}
use Rattle.stream.specs.declared.Read.{Read}
use Rattle.stream.specs.declared.Write.{Write}
use Rattle.stream.specs.declared.Read.TheVariants as R
use Rattle.stream.specs.declared.Write.TheVariants as W

-- ---- EINTR by its bits
pub broken_bits : (error : ℤ) → SFits w32 error → eqb (of_z w32 error) 4 ≡ is_broken_off error
broken_bits (pos n) f = refl
broken_bits (negsuc n) f = ne_eqb (2 ^ 32 - suc n) 4 (λ e. omega (arith, f.sfits))

-- what is handed on as bits is the number itself
pub broken_said : {z : ℤ} {r t : Bool} → SFits w32 z → r ≡ is_broken_off (to_z w32 (of_z w32 z)) → r ≡ t → is_broken_off z ≡ t
broken_said {z} f e q = sym (rw (to_z-of_z {w = w32} f) at e) ∙ q

-- what the machine reads back from a count's bits is the count
pub below_bits : {z : ℤ} {t : Bool} → SFits w64 z → lt_z (to_z w64 (of_z w64 z)) (pos 0) ≡ t → lt_z z (pos 0) ≡ t
below_bits f e = rw (to_z-of_z {w = w64} f) at e

-- a count that is not below 0 is a number of bytes
pub counts : (z : ℤ) → SFits w64 z → lt_z z (pos 0) ≡ false → T (non_neg z) × Fits w64 (nat_abs z)
counts (pos n) f e = (tt, record { fits = omega (arith, f.sfits) })
counts (negsuc n) f e = absurd (subst T e tt)

pub count_bits : {z : ℤ} → SFits w64 z → lt_z z (pos 0) ≡ false → T (non_neg (to_z w64 (of_z w64 z))) × Fits w64 (nat_abs (to_z w64 (of_z w64 z)))
count_bits {z} f e = rw (to_z-of_z {w = w64} f) (counts z f e)

-- ---- a read
pub read_again : (got error : ℤ) (room : ℕ) → lt_z got (pos 0) ≡ true → is_broken_off error ≡ true → ReadMeans got error room R.Again
read_again (negsuc n) error room e b = record { answer = rw b refl }
read_again (pos n) error room e b = absurd (omega (arith, ltb-true n 0 e))

pub read_failed : (got error : ℤ) (room : ℕ) → lt_z got (pos 0) ≡ true → is_broken_off error ≡ false → ReadMeans got error room R.Failed
read_failed (negsuc n) error room e b = record { answer = rw b refl }
read_failed (pos n) error room e b = absurd (omega (arith, ltb-true n 0 e))

pub read_no_room : (got error : ℤ) (room : ℕ) → lt_z got (pos 0) ≡ false → room ≡ 0 → ReadMeans got error room R.NoRoom
read_no_room (pos n) error zero e z = record { answer = refl }
read_no_room (pos n) error (suc k) e z = absurd (omega arith)
read_no_room (negsuc n) error room e z = record { answer = cc }

pub read_end : (got error : ℤ) (room : ℕ) → lt_z got (pos 0) ≡ false → (room ≡ 0 → ⊥) → of_z w64 got ≡ 0 → ReadMeans got error room R.End
read_end (pos zero) error (suc k) e r z = record { answer = refl }
read_end (pos zero) error zero e r z = absurd (r refl)
read_end (pos (suc n)) error room e r z = absurd (omega arith)
read_end (negsuc n) error room e r z = record { answer = cc }

pub read_bytes : (got error : ℤ) (room n : ℕ) → lt_z got (pos 0) ≡ false → (room ≡ 0 → ⊥) → (of_z w64 got ≡ 0 → ⊥) → n ≡ min (nat_abs got) room
    → ReadMeans got error room (R.Bytes n)
read_bytes (pos zero) error room n e r z m = absurd (z refl)
read_bytes (pos (suc k)) error zero n e r z m = absurd (r refl)
read_bytes (pos (suc k)) error (suc j) n e r z m = record { answer = ap R.Bytes m }
read_bytes (negsuc k) error room n e r z m = record { answer = cc }

-- ---- a write
pub write_again : (put error : ℤ) (size done : ℕ) → lt_z put (pos 0) ≡ true → is_broken_off error ≡ true → WriteMeans put error size done (W.To done)
write_again (negsuc n) error size done e b = record { answer = rw b refl }
write_again (pos n) error size done e b = absurd (omega (arith, ltb-true n 0 e))

pub write_failed : (put error : ℤ) (size done : ℕ) → lt_z put (pos 0) ≡ true → is_broken_off error ≡ false → WriteMeans put error size done W.Failed
write_failed (negsuc n) error size done e b = record { answer = rw b refl }
write_failed (pos n) error size done e b = absurd (omega (arith, ltb-true n 0 e))

pub write_nothing : (put error : ℤ) (size done : ℕ) → lt_z put (pos 0) ≡ false → of_z w64 put ≡ 0 → WriteMeans put error size done W.Nothing
write_nothing (pos zero) error size done e z = record { answer = refl }
write_nothing (pos (suc n)) error size done e z = absurd (omega arith)
write_nothing (negsuc n) error size done e z = record { answer = cc }

pub write_took : (put error : ℤ) (size done rest n : ℕ) → lt_z put (pos 0) ≡ false → (of_z w64 put ≡ 0 → ⊥) → rest ≡ size - done → n ≡ min (nat_abs put) rest
    → WriteMeans put error size done (W.To (done + n))
write_took (pos zero) error size done rest n e z l m = absurd (z refl)
write_took (pos (suc k)) error size done rest n e z l m = record { answer = ap (λ (x : ℕ). W.To (done + x)) (m ∙ ap (min (suc k)) l) }
write_took (negsuc k) error size done rest n e z l m = record { answer = cc }

-- the sum has room wherever both numbers have
pub took_fits : (size done rest n k : ℕ) → size < 2 ^ 64 → done < 2 ^ 64 → rest ≡ size - done → n ≡ min k rest → done + n < 2 ^ 64
took_fits size done rest n k s d l m = omega (arith, m, min-le_right k rest)

-- ---- whether to go on
pub none_left : (size done turns rest : ℕ) → rest ≡ size - done → rest ≡ 0 → More size done turns false
none_left size done turns rest l z = record { answer = sym (ap (λ (t : Bool). t && ltb turns (2 ^ 62)) (le-ltb done size (omega arith))) }

pub some_left : (size done turns rest : ℕ) {r : Bool} → rest ≡ size - done → (rest ≡ 0 → ⊥) → MayGoOn turns r → More size done turns r
some_left size done turns rest l z m =
    record { answer = m.answer ∙ sym (ap (λ (t : Bool). t && ltb turns (2 ^ 62)) (lt-ltb done size (omega (arith, z)))) }

-- ---- for the loops: one more call is counted, and goes on inside the buffer
pub may_count : {turns : ℕ} {r : Bool} → MayGoOn turns r → r ≡ true → turns < 2 ^ 62
may_count {turns} m e = ltb-true turns (2 ^ 62) (sym m.answer ∙ e)

both : (a b : Bool) → (a && b) ≡ true → (a ≡ true) × (b ≡ true)
both true true e = (refl, refl)
both true false e = absurd (subst T (sym e) tt)
both false b e = absurd (subst T (sym e) tt)

pub more_left : {size done turns : ℕ} {r : Bool} → More size done turns r → r ≡ true → (done < size) × (turns < 2 ^ 62)
more_left {size} {done} {turns} m e =
    let h : (ltb done size ≡ true) × (ltb turns (2 ^ 62) ≡ true) = both (ltb done size) (ltb turns (2 ^ 62)) (sym m.answer ∙ e) in
    (ltb-true done size h.0, ltb-true turns (2 ^ 62) h.1)

abbrev bytes_of : Read → ℕ
bytes_of (R.Bytes n) = n
bytes_of R.End = 0
bytes_of R.Again = 0
bytes_of R.Failed = 0
bytes_of R.NoRoom = 0

none_read : (t : Bool) → bytes_of (cond t R.Again R.Failed) ≡ 0
none_read true = refl
none_read false = refl

read_room : (got error : ℤ) (room : ℕ) → bytes_of (came_of_read got error room) ≤ room
read_room (negsuc k) error room = omega (arith, none_read (is_broken_off error))
read_room (pos k) error zero = omega arith
read_room (pos zero) error (suc j) = omega arith
read_room (pos (suc k)) error (suc j) = min-le_right (suc k) (suc j)

pub bytes_within : {got error : ℤ} {room : ℕ} {r : Read} → ReadMeans got error room r → (n : ℕ) → r ≡ R.Bytes n → n ≤ room
bytes_within {got} {error} {room} e n told = subst (λ (q : Read). bytes_of q ≤ room) (sym e.answer ∙ told) (read_room got error room)

-- where the next write begins, and the old place where there is none
abbrev place_after : ℕ → Write → ℕ
place_after done (W.To n) = n
place_after done W.Failed = done
place_after done W.Nothing = done

stays : (t : Bool) (done : ℕ) → place_after done (cond t (W.To done) W.Failed) ≡ done
stays true done = refl
stays false done = refl

write_size : (put error : ℤ) (size done : ℕ) → done ≤ size → place_after done (came_of_write put error size done) ≤ size
write_size (negsuc k) error size done h = omega (arith, stays (is_broken_off error) done)
write_size (pos zero) error size done h = h
write_size (pos (suc k)) error size done h = omega (arith, min-le_right (suc k) (size - done))

pub to_within : {put error : ℤ} {size done : ℕ} {r : Write} → WriteMeans put error size done r → done ≤ size → (n : ℕ) → r ≡ W.To n → n ≤ size
to_within {put} {error} {size} {done} e h n told = subst (λ (q : Write). place_after done q ≤ size) (sym e.answer ∙ told) (write_size put error size done h)
