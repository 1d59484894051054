-- The list of a position as it is put together, kind by kind and square by square. Only `compute_list`'s body knows of this. Definitions only.
use Rattle.std.specs.Prelude.{◌≡◌, Bool, cond, List, ℕ, ◌+◌, ◌*◌, ◌≤◌, get_or, set, Err}
use Rattle.std.specs.Int.Bits.{bit_xor}
use Rattle.refusal.specs.declared.Refusal.{Refusal}
use Rattle.bits.specs.Bitboard.{has, digit, those, how_many}
use Rattle.trace.specs.Trace.{entries_of, no_trace}
use Rattle.trace_list.specs.Ones.{ones}
use Rattle.trace_list.specs.Form.{is_one_rule}
use Rattle.trace_list_computed.specs.declared.ListTraced.{ListTraced}

-- the places below k at which a position's trace has a 1
unfoldable pub ones_before : List ℕ → ℕ → List ℕ
unfolding ones entries_of
ones_before bbs k = ones (is_one_rule (entries_of bbs)) k

-- a list has room for them all
pub record Few (bbs : List ℕ) : Type 0 where
  pub few : how_many 768 (is_one_rule (entries_of bbs)) ≤ 64

-- from entry n on there are zeros
pub record Padded (n : ℕ) (bytes : List ℕ) : Type 0 where
  pub zeros : (j : ℕ) → 3 * n ≤ j → get_or bytes j 0 ≡ 0

-- entry n is written
abbrev pub entry_put : ℕ → ℕ → ℕ → ℕ → List ℕ → List ℕ
entry_put kind square colour n bytes = set (set (set bytes (3 * n) kind) (3 * n + 1) square) (3 * n + 2) colour

-- or not
abbrev pub put_where : Bool → ℕ → ℕ → ℕ → ℕ → List ℕ → List ℕ
put_where there kind square colour n bytes = cond there (entry_put kind square colour n bytes) bytes

-- White's, then Black's
abbrev pub both_put : Bool → Bool → ℕ → ℕ → ℕ → List ℕ → List ℕ
both_put white black kind square n bytes = put_where black kind square 1 (n + digit white) (put_where white kind square 0 n bytes)

-- "black xor 56": each square's place as Black's
unfoldable pub turned_over : ℕ → ℕ
unfolding has those
turned_over x = those 64 (λ k. has x (bit_xor k 56))

abbrev pub refused_list : Refusal → ListTraced
refused_list r = record { checked = Err r; trace = no_trace; used = 0 }
