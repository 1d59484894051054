-- One turn of the loop over a piece's bytes: what is found from here on is what is found from the start. Assumes nothing.
use mathlib.Core.Path.{◌≡◌, refl, sym, ap, ◌∙◌}
use mathlib.Core.Bool.{Bool, true, false}
use mathlib.Core.List.{List}
use Prim.Native.Nat.{ℕ, ◌+◌, ◌-◌, ◌≤◌, ◌<◌}
use native.Mathlib.Numerals.{add-one}
use native.Mathlib.Omega.{arith}
use lib.Dec.{eqb, ltb}
use lib.ListN.{length, drop, get_or, drop_of_length-le}
use lib.Seq.{drop-cons}
use borrow.Author.Tests.{eq-eqb, ne_eqb}
use Rattle.line_cut.specs.Cut.{Open, Found, found_later, kept_byte, one_more_rule, bare_of, pushed, line_emptied, find_of}
use Rattle.line_cut.specs.Promises.{cut_of}
use Rattle.line_cut.specs.declared.Cut.{Cut}
use Rattle.line_cut.proofs.Machine.{kept_size}

abbrev pub holding : List ℕ → ℕ → Bool → Open
holding line held ends = record { line = line; held = held; cr = ends }

-- the same, found so many bytes later
abbrev pub ahead : ℕ → Found → Found
ahead k f = record { passed = f.passed + k; left = f.left; ended = f.ended; size = f.size }

pub record Turn (start : Found) (from size : ℕ) (chunk line : List ℕ) (held : ℕ) (cr : Bool) (i : ℕ) : Type 0 where
  pub least : from ≤ i
  pub long : length line ≡ size
  pub finds : start ≡ ahead (i - from) (find_of (holding line held cr) (drop i chunk))

find_push : (o : Open) (s : List ℕ) (i : ℕ) → i < length s → (get_or s i 0 ≡ 10 → ⊥)
    → find_of o (drop i s) ≡ found_later (find_of (pushed o (get_or s i 0)) (drop (i + 1) s))
unfolding find_of
find_push o s i h n = rw (drop-cons s i 0, add-one i, ne_eqb (get_or s i 0) 10 n)

find_close : (o : Open) (s : List ℕ) (i : ℕ) → i < length s → get_or s i 0 ≡ 10
    → find_of o (drop i s) ≡ record { passed = 1; left = line_emptied o; ended = true; size = bare_of o.held o.cr }
unfolding find_of
find_close o s i h e = rw (drop-cons s i 0, eq-eqb (get_or s i 0) 10 e)

find_end : (o : Open) (s : List ℕ) (i : ℕ) → length s ≤ i → find_of o (drop i s) ≡ record { passed = 0; left = o; ended = false; size = 0 }
unfolding find_of
find_end o s i h = rw (drop_of_length-le s h)

-- two numbers of bytes passed that are one
same : (p q : ℕ) (o : Open) (ended : Bool) (size : ℕ) → p ≡ q
    → ◌≡◌ {A = Found} (record { passed = p; left = o; ended = ended; size = size }) (record { passed = q; left = o; ended = ended; size = size })
same p q o ended size e = cc

pub turn_none : (from : ℕ) (chunk line : List ℕ) (held : ℕ) (cr : Bool)
    → Turn (find_of (holding line held cr) (drop from chunk)) from (length line) chunk line held cr from
turn_none from chunk line held ends =
    let f : Found = find_of (holding line held ends) (drop from chunk) in
    record { least = omega arith; long = refl; finds = same f.passed (f.passed + (from - from)) f.left f.ended f.size (omega arith) }

module _ (start : Found) (from n : ℕ) (chunk line : List ℕ) (held : ℕ) (cr : Bool) (i : ℕ) (t : Turn start from n chunk line held cr i) where
  pub turn_push : i < length chunk → (get_or chunk i 0 ≡ 10 → ⊥) → (line' : List ℕ) (held' : ℕ) → line' ≡ kept_byte line held (get_or chunk i 0)
      → held' ≡ one_more_rule held
      → Turn start from n chunk line' held' (eqb (get_or chunk i 0) 13) (i + 1)
  turn_push h ne line' held' p q =
      let f : Found = find_of (pushed (holding line held cr) (get_or chunk i 0)) (drop (i + 1) chunk) in
      let l : from ≤ i = t.least in
      record {
        least = omega arith;
        long = ap length p ∙ kept_size (ltb held 256) line held (get_or chunk i 0) ∙ t.long;
        finds =
            t.finds ∙ ap (ahead (i - from)) (find_push (holding line held cr) chunk i h ne)
            ∙ same (f.passed + 1 + (i - from)) (f.passed + (i + 1 - from)) f.left f.ended f.size (omega arith)
            ∙ rw (← p, ← q);
      }

  pub turn_close : i < length chunk → get_or chunk i 0 ≡ 10 → (size : ℕ) → size ≡ bare_of held cr → (r : Cut)
      → r ≡ record { at = i + 1; begun = record { held = 0; cr = false }; ended = true; size = size }
      → (r ≡ cut_of from start) × (line ≡ start.left.line)
  turn_close h e size s r a =
      let l : from ≤ i = t.least in
      let z : start ≡ record { passed = i + 1 - from; left = line_emptied (holding line held cr); ended = true; size = size } =
      t.finds ∙ ap (ahead (i - from)) (find_close (holding line held cr) chunk i h e)
      ∙ same (1 + (i - from)) (i + 1 - from) (line_emptied (holding line held cr)) true (bare_of held cr) (omega arith) ∙ rw (← s) in
      let p : from + (i + 1 - from) ≡ i + 1 = omega arith in
      (a ∙ sym (ap (cut_of from) z ∙ rw p), sym (ap (λ (f : Found). f.left.line) z))

  pub turn_end : length chunk ≤ i → (r : Cut) → r ≡ record { at = i; begun = record { held = held; cr = cr }; ended = false; size = 0 }
      → (r ≡ cut_of from start) × (line ≡ start.left.line)
  turn_end h r a =
      let l : from ≤ i = t.least in
      let z : start ≡ record { passed = i - from; left = holding line held cr; ended = false; size = 0 } =
      t.finds ∙ ap (ahead (i - from)) (find_end (holding line held cr) chunk i h)
      ∙ same (0 + (i - from)) (i - from) (holding line held cr) false 0 (omega arith) in
      let p : from + (i - from) ≡ i = omega arith in
      (a ∙ sym (ap (cut_of from) z ∙ rw p), sym (ap (λ (f : Found). f.left.line) z))
