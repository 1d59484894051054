-- The rows of captures that stand side by side in arrays are the rows of the captures, and a line's rows have room in 2,048 bytes. Assumes nothing.
use mathlib.Core.Path.{◌≡◌, refl, sym, ap, ◌∙◌}
use mathlib.Core.List.{List, [], ◌∷◌, ◌++◌, append_assoc, append-nil}
use Prim.Native.Nat.{ℕ, zero, suc, ◌+◌, ◌*◌, ◌≤◌, ◌<◌}
use native.Mathlib.Numerals.{add-one}
use native.Mathlib.Omega.{arith}
use lib.ListN.{length, take, get_or, length-append}
use borrow.Author.Tests.{le-leb}
use Rattle.text_out.specs.Text.{Adds}
use Rattle.text_out.proofs.Added.{adds_then, adds_length}
use Rattle.exchange_value.specs.Settled.{settled}
use Rattle.exchange_value.specs.Answers.{stopped}
use Rattle.exchange.specs.Exchange.{Capture}
use Rattle.exchange.specs.Listed.{column}
use Rattle.exchange.specs.declared.inner.Listed.{Listed}
use Rattle.captures_row.specs.Rows.{capture_row, stop_row}
use Rattle.captures_row.proofs.Fits.{fits_capture, fits_stop}
use Rattle.captures_close.specs.Answered.{capture_rows}
use Rattle.captures_close.specs.PrivateColumns.{rows_up_to, listed_rows}
use Rattle.std.specs.Prelude.{Option}

-- ---- how long they are
pub length_rows : (i number : ℕ) (from kind taken : List ℕ) → length (rows_up_to i number from kind taken) ≤ 52 * i
unfolding rows_up_to
length_rows zero number from kind taken = omega arith
length_rows (suc i) number from kind taken =
    let row = capture_row number (get_or from i 0) (get_or kind i 0) (get_or taken i 0) in
    omega (
      arith,
      length-append (rows_up_to i number from kind taken) row,
      length_rows i number from kind taken,
      fits_capture number (get_or from i 0) (get_or kind i 0) (get_or taken i 0),
    )

pub fits_listed : (number : ℕ) (l : Listed) (stop : Option ℕ) → l.count ≤ 32 → 0 + length (listed_rows number l stop) ≤ 2048
fits_listed number l stop few =
    let worth = settled (take l.count l.taken) in
    omega (
      arith,
      length-append (rows_up_to l.count number l.from l.kind l.taken) (stop_row number (stopped stop) worth),
      length_rows l.count number l.from l.kind l.taken,
      fits_stop number (stopped stop) worth,
    )

-- ---- one more
pub record SoMany (number : ℕ) (from kind taken old new : List ℕ) (n i at : ℕ) : Type 0 where
  pub adds : Adds old 0 (rows_up_to i number from kind taken) new at
  pub most : i ≤ n

pub none_yet : (number : ℕ) (from kind taken old : List ℕ) (n : ℕ) → SoMany number from kind taken old old n 0 0
unfolding rows_up_to
none_yet number from kind taken old n = record {
  adds = record { place = rw (le-leb 0 (length old) (omega arith)) refl; buffer = rw (le-leb 0 (length old) (omega arith)) refl };
  most = omega arith;
}

module _ (number : ℕ) (from kind taken old new : List ℕ) (n i at : ℕ) (few : n ≤ 32) (room : 2048 ≤ length old)
    (s : SoMany number from kind taken old new n i at) where
  rows : List ℕ
  rows = rows_up_to i number from kind taken

  row : List ℕ
  row = capture_row number (get_or from i 0) (get_or kind i 0) (get_or taken i 0)

  pub one_row : i < n → (new' : List ℕ) (at' : ℕ) → Adds new at (capture_row number (get_or from i 0) (get_or kind i 0) (get_or taken i 0)) new' at'
      → SoMany number from kind taken old new' n (i + 1) at'
  unfolding rows_up_to rows row
  one_row h new' at' p =
      let fit : 0 + (length rows + length row) ≤ length old =
      omega (arith, length_rows i number from kind taken, fits_capture number (get_or from i 0) (get_or kind i 0) (get_or taken i 0)) in
      let both : Adds old 0 (rows ++ row) new' at' = adds_then s.adds p fit in
      record { adds = rw (add-one i) both; most = omega arith }

  -- the buffer keeps its length
  pub same_size : length new ≡ length old
  same_size = adds_length s.adds (omega (arith, length_rows i number from kind taken, s.most))

-- all of them
pub all_rows_holds : {number : ℕ} {from kind taken old new : List ℕ} {n i at : ℕ} → SoMany number from kind taken old new n i at → n ≤ i
    → Adds old 0 (rows_up_to n number from kind taken) new at
all_rows_holds {number} {from} {kind} {taken} {old} {new} {n} {i} {at} s h = rw (let e : n ≡ i = omega (arith, s.most) in e) s.adds

-- and the stopping point after them
pub then_stop : (number : ℕ) (l : Listed) (stop : Option ℕ) (old mid new : List ℕ) (a b : ℕ) → 2048 ≤ length old → l.count ≤ 32
    → Adds old 0 (rows_up_to l.count number l.from l.kind l.taken) mid a
    → Adds mid a (stop_row number (stopped stop) (settled (take l.count l.taken))) new b → Adds old 0 (listed_rows number l stop) new b
then_stop number l stop old mid new a b room few p q =
    adds_then p q (omega (
      arith,
      length_rows l.count number l.from l.kind l.taken,
      fits_stop number (stopped stop) (settled (take l.count l.taken)),
    ))

-- ---- by the captures
abbrev row_of : ℕ → Capture → List ℕ
row_of number c = capture_row number c.from c.kind c.taken

at_place : (m number k : ℕ) (cs : List Capture) → k < length cs → length cs ≤ m
    → capture_rows number (take (suc k) cs)
    ≡ capture_rows number (take k cs) ++ capture_row number (get_or (column m (λ c. c.from) cs) k 0) (get_or (column m (λ c. c.kind) cs) k 0)
    (get_or (column m (λ c. c.taken) cs) k 0)
unfolding capture_rows column
at_place m number k [] h g = absurd (omega arith)
at_place zero number k (c ∷ cs) h g = absurd (omega arith)
at_place (suc m) number zero (c ∷ cs) h g = append-nil (row_of number c)
at_place (suc m) number (suc k) (c ∷ cs) h g =
    let later = capture_row number (get_or (column m (λ c. c.from) cs) k 0) (get_or (column m (λ c. c.kind) cs) k 0) (get_or (column m (λ c. c.taken) cs) k 0) in
    ap (λ (t : List ℕ). row_of number c ++ t) (at_place m number k cs (omega arith) (omega arith))
    ∙ sym (append_assoc (row_of number c) (capture_rows number (take k cs)) later)

up_to : (m number k : ℕ) (cs : List Capture) → k ≤ length cs → length cs ≤ m
    → rows_up_to k number (column m (λ c. c.from) cs) (column m (λ c. c.kind) cs) (column m (λ c. c.taken) cs) ≡ capture_rows number (take k cs)
unfolding rows_up_to capture_rows
up_to m number zero [] h g = refl
up_to m number zero (c ∷ cs) h g = refl
up_to m number (suc k) cs h g =
    ap (λ (t : List ℕ). t ++ capture_row number (get_or (column m (λ c. c.from) cs) k 0) (get_or (column m (λ c. c.kind) cs) k 0)
    (get_or (column m (λ c. c.taken) cs) k 0))
    (up_to m number k cs (omega arith) g) ∙ sym (at_place m number k cs (omega arith) g)

whole : (cs : List Capture) → take (length cs) cs ≡ cs
whole [] = refl
whole (c ∷ cs) = ap (λ (l : List Capture). c ∷ l) (whole cs)

pub rows_of_all_holds : (m number : ℕ) (cs : List Capture) → length cs ≤ m
    → rows_up_to (length cs) number (column m (λ c. c.from) cs) (column m (λ c. c.kind) cs) (column m (λ c. c.taken) cs) ≡ capture_rows number cs
rows_of_all_holds m number cs g = up_to m number (length cs) cs (omega arith) g ∙ ap (capture_rows number) (whole cs)
