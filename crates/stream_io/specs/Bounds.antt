-- What can be said of a call that reads or writes: counts within the buffer, and nothing to write is written. Definitions only.
use Rattle.std.specs.Prelude.{◌≡◌, Bool, true, List, ℕ, ◌≤◌, length, Option, None, Some}
use Rattle.stream_io.specs.declared.Taken.{Taken}
use Rattle.stream_io.specs.declared.Taken.TheVariants as T
use Rattle.stream_io.specs.declared.Put.{Put}
use Rattle.stream_io.specs.declared.Put.TheVariants as P

-- how many bytes of the buffer an answer speaks of
abbrev pub count_of : Taken → ℕ
count_of (T.Bytes n) = n
count_of T.End = 0
count_of T.Failed = 0

-- which bytes come the input alone knows: they lie within the buffer
pub record ReadsWithin (old what new : List ℕ) (r : Taken) : Type 0 where
  pub within : count_of r ≤ length new

-- how many bytes of the buffer are an argument
pub record CopiesWithin (new : List ℕ) (r : ℕ) : Type 0 where
  pub within : r ≤ length new

-- how many bytes of the buffer are a name
abbrev pub name_of : {F : Type 0} → Option (F × ℕ) → ℕ
name_of (Some (f, n)) = n
name_of None = 0

pub record OpensWithin {F : Type 0} (i : ℕ) (old new : List ℕ) (r : Option (F × ℕ)) : Type 0 where
  pub within : name_of r ≤ length new

-- whether a write fails the output alone knows: where there is nothing to write, nothing fails
pub record WritesNothing (bytes what : List ℕ) (r : Bool) : Type 0 where
  pub empty : length bytes ≡ 0 → r ≡ true

pub record PutsNothing (bytes : List ℕ) (r : Put) : Type 0 where
  pub empty : length bytes ≡ 0 → r ≡ P.Whole
