-- What a call that reads or writes came to, by the count that it gave and the error number after it. Definitions only.
use Rattle.std.specs.Prelude.{◌≡◌, Bool, false, cond, ◌&&◌, ℕ, zero, suc, ◌+◌, ◌-◌, ◌^◌, min, eqb, ltb, ℤ, pos, negsuc}
use Rattle.std.specs.Int.Signed.{lt_z}
use Rattle.stream.specs.declared.Read.{Read}
use Rattle.stream.specs.declared.Read.TheVariants as R
use Rattle.stream.specs.declared.Write.{Write}
use Rattle.stream.specs.declared.Write.TheVariants as W

-- EINTR, which is 4: a signal broke the call off before it moved a byte
abbrev pub is_broken_off : ℤ → Bool
is_broken_off (pos n) = eqb n 4
is_broken_off (negsuc n) = false

-- "A short read is not the end of input": only a count of 0 is, and only where there was room to read into. Below 0 the call failed
abbrev pub came_of_read : ℤ → ℤ → ℕ → Read
came_of_read (negsuc n) error room = cond (is_broken_off error) R.Again R.Failed
came_of_read (pos n) error zero = R.NoRoom
came_of_read (pos zero) error (suc k) = R.End
came_of_read (pos (suc n)) error (suc k) = R.Bytes (min (suc n) (suc k))

-- a write may take a part, and the next goes on behind it; one that takes nothing makes no headway, and the error number says nothing of it
abbrev pub came_of_write : ℤ → ℤ → ℕ → ℕ → Write
came_of_write (negsuc n) error size done = cond (is_broken_off error) (W.To done) W.Failed
came_of_write (pos zero) error size done = W.Nothing
came_of_write (pos (suc n)) error size done = W.To (done + min (suc n) (size - done))

pub record ReadMeans (got error : ℤ) (room : ℕ) (r : Read) : Type 0 where
  pub answer : r ≡ came_of_read got error room

pub record WriteMeans (put error : ℤ) (size done : ℕ) (r : Write) : Type 0 where
  pub answer : r ≡ came_of_write put error size done

-- what is done is not written again, and what is left is not left out
abbrev pub Leaves : ℕ → ℕ → ℕ → Type 0
Leaves size done r = r ≡ size - done

-- a loop gives up after 2^62 calls
pub record MayGoOn (turns : ℕ) (r : Bool) : Type 0 where
  pub answer : r ≡ ltb turns (2 ^ 62)

-- all is written, or the loop gave up
pub record More (size done turns : ℕ) (r : Bool) : Type 0 where
  pub answer : r ≡ (ltb done size && ltb turns (2 ^ 62))

-- below 0 the call failed
abbrev pub Fails : ℤ → Bool → Type 0
Fails answer r = r ≡ lt_z answer (pos 0)
