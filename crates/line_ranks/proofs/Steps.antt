-- One byte of the ranks: each way through `step` gives what its definition says. Assumes nothing.
use mathlib.Core.Path.{◌≡◌, refl}
use mathlib.Core.Bool.{Bool, true, false, cond, ◌&&◌}
use Prim.Native.Nat.{ℕ, ◌+◌, ◌-◌, ◌≤◌, ◌<◌}
use native.Mathlib.Omega.{arith}
use lib.Dec.{leb}
use borrow.Author.Tests.{eq-eqb, ne_eqb, le-leb, lt-leb, lt-ltb, le-ltb, leb-true}
use Rattle.line_ranks.specs.Ranks.{piece_of, run_of}
use Rattle.line_ranks.specs.PrivateSteps.{step_of}
use Rattle.line_ranks.specs.declared.inner.Next.TheVariants.{Below, Piece, Empty, Wrong}

-- a digit stands for eight squares at most
pub run_le : (b : ℕ) → run_of b ≤ 8
unfolding run_of
run_le b = go (leb 49 b) (leb b 56) refl
  where
    go : (s t : Bool) → leb b 56 ≡ t → cond (s && t) (b - 48) 0 ≤ 8
    go true true e = omega (arith, leb-true b 56 e)
    go true false e = omega arith
    go false t e = omega arith

module _ (rank file : ℕ) (digit : Bool) (b : ℕ) where
  module _ (e : b ≡ 47) where
    pub lowest : rank ≡ 0 → Wrong ≡ step_of rank file digit b
    lowest r = rw (eq-eqb b 47 e, eq-eqb rank 0 r)

    pub unfinished : (rank ≡ 0 → ⊥) → (file ≡ 8 → ⊥) → Wrong ≡ step_of rank file digit b
    unfinished r f = rw (eq-eqb b 47 e, ne_eqb rank 0 r, ne_eqb file 8 f)

    pub below : (rank ≡ 0 → ⊥) → file ≡ 8 → Below ≡ step_of rank file digit b
    below r f = rw (eq-eqb b 47 e, ne_eqb rank 0 r, eq-eqb file 8 f)

  module _ (n : b ≡ 47 → ⊥) (empty : ℕ) (q : empty ≡ run_of b) where
    pub twice : 0 < empty → digit ≡ true → Wrong ≡ step_of rank file digit b
    twice h d = rw (ne_eqb b 47 n, ← q, ne_eqb empty 0 (omega arith), d)

    pub too_many : 0 < empty → digit ≡ false → 8 < file + empty → Wrong ≡ step_of rank file digit b
    too_many h d l = rw (ne_eqb b 47 n, ← q, ne_eqb empty 0 (omega arith), d, lt-leb (file + empty) 8 l)

    pub empties : 0 < empty → digit ≡ false → file + empty ≤ 8 → Empty empty ≡ step_of rank file digit b
    empties h d l = rw (ne_eqb b 47 n, ← q, ne_eqb empty 0 (omega arith), d, le-leb (file + empty) 8 l)

    module _ (h : empty ≤ 0) (code : ℕ) (p : code ≡ piece_of b) where
      pub no_mark : code ≡ 0 → Wrong ≡ step_of rank file digit b
      no_mark z = rw (ne_eqb b 47 n, ← q, eq-eqb empty 0 (omega arith), ← p, eq-eqb code 0 z)

      pub full : (code ≡ 0 → ⊥) → 8 ≤ file → Wrong ≡ step_of rank file digit b
      full z l = rw (ne_eqb b 47 n, ← q, eq-eqb empty 0 (omega arith), ← p, ne_eqb code 0 z, le-ltb file 8 l)

      pub piece : (code ≡ 0 → ⊥) → file < 8 → Piece code ≡ step_of rank file digit b
      piece z l = rw (ne_eqb b 47 n, ← q, eq-eqb empty 0 (omega arith), ← p, ne_eqb code 0 z, lt-ltb file 8 l)
