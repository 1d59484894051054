-- What a read takes and a write leaves, where the bytes of the one and of the other are known, as those of a buffer are. Definitions only.
use Rattle.std.specs.Prelude.{◌≡◌, ⊤, Bool, true, false, Option, Result, Ok, Err, IfOk, IsErr, List, ℕ, ◌+◌, ◌-◌, ◌^◌, ◌<◌, ◌≤◌, min, ℤ, pos, negsuc, length, take, MatchResult}
use Rattle.std.specs.Io.KnownBytes.{Appends, Consumes, IsAtEnd, Keeps}
use Rattle.stream.specs.declared.Read.{Read}
use Rattle.stream.specs.declared.Read.TheVariants as R
use Rattle.stream.specs.declared.Write.{Write}
use Rattle.stream.specs.declared.Write.TheVariants as W
use Rattle.stream_io.specs.declared.Taken.{Taken}
use Rattle.stream_io.specs.declared.Taken.TheVariants as T
use Rattle.stream_io.specs.declared.Put.{Put}
use Rattle.stream_io.specs.declared.Put.TheVariants as P

-- as the system would say it: the count, or a number below 0. No buffer has 2^63 bytes
abbrev pub count_said : {E : Type 0} → Result ℕ E → ℤ
count_said (Ok n) = pos (min n (2 ^ 63 - 1))
count_said (Err e) = negsuc 0

-- which answer of std's a decision speaks of
abbrev pub CameOf : {E : Type 0} → Result ℕ E → ℕ → Read → Type 0
CameOf got room (R.Bytes n) = got ≡ Ok n
CameOf got room R.End = (got ≡ Ok 0) × (0 < room)
CameOf got room R.Again = IsErr got
CameOf got room R.Failed = IsErr got
CameOf got room R.NoRoom = got ≡ Ok 0

abbrev pub ReadCame : {E : Type 0} → Result ℕ E → ℕ → Read → Type 0
ReadCame got room r = room < 2 ^ 63 → IfOk got (λ n. n ≤ room) → CameOf got room r

abbrev pub WentOf : {E : Type 0} → Result ℕ E → ℕ → Write → Type 0
WentOf put done (W.To next) = MatchResult put (λ n. next ≡ done + n) (λ _. next ≡ done)
WentOf put done W.Failed = IsErr put
WentOf put done W.Nothing = put ≡ Ok 0

abbrev pub WriteCame : {E : Type 0} → Result ℕ E → ℕ → ℕ → Write → Type 0
WriteCame put size done r = size < 2 ^ 63 → IfOk put (λ n. n ≤ size - done) → WentOf put done r

-- whatever the system says, no write goes on past the end
abbrev pub WentWithin : ℕ → Write → Type 0
WentWithin size (W.To next) = next ≤ size
WentWithin size W.Failed = ⊤
WentWithin size W.Nothing = ⊤

-- what is in the buffer came next; at the end no byte is left; and where nothing came, none is gone
abbrev pub BytesTaken : Option (List ℕ) → Option (List ℕ) → List ℕ → Taken → Type 0
BytesTaken old new buf (T.Bytes n) = Consumes old new (take n buf)
BytesTaken old new buf T.End = Keeps old new × IsAtEnd new
BytesTaken old new buf T.Failed = Keeps old new

-- the bytes up to a place of them are written, behind what was there
pub record Begun (old new : Option (List ℕ)) (bytes : List ℕ) : Type 0 where
  pub done : ℕ
  pub within : done ≤ length bytes
  pub written : Appends old new (take done bytes)

abbrev pub BytesPut : Option (List ℕ) → Option (List ℕ) → List ℕ → Put → Type 0
BytesPut old new bytes P.Whole = Appends old new bytes
BytesPut old new bytes (P.Failed e) = Begun old new bytes
BytesPut old new bytes P.Nothing = Begun old new bytes
BytesPut old new bytes P.TooMany = Begun old new bytes

-- all is written, or it was not said to be
abbrev pub AllPut : Option (List ℕ) → Option (List ℕ) → List ℕ → Bool → Type 0
AllPut old new bytes true = Appends old new bytes
AllPut old new bytes false = Begun old new bytes

-- less than all is written
abbrev pub IsBroken : Put → Type 0
IsBroken P.Whole = ⊥
IsBroken (P.Failed e) = ⊤
IsBroken P.Nothing = ⊤
IsBroken P.TooMany = ⊤
