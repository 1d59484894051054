-- The double, by document 01: "`Trace::eval` is worked in the source's order, one rounding for each operation": the named weights' part,
-- and then the square weights'. Definitions only.
use Rattle.std.specs.Prelude.{cond, List, ℕ, zero, suc, eqb, ℤ, pos, get_or, Float}
use Rattle.std.specs.Int.Signed.{lt_z}
use Rattle.std.specs.Float.{nan}
use Rattle.chess.specs.Named.{white}
use Rattle.places.specs.Places.{weight_place, kind_at, square_at, colour_at}
use Rattle.doubles.specs.Doubles.{◌⊕◌, ◌⊖◌, ◌⊗◌, ◌⊘◌, dbl, d2, d32}
use Rattle.trace_named.specs.Named.{named}
use Rattle.trace_counts.specs.declared.Weights.{Weights}
use Rattle.trace_counts.specs.declared.Trace.{Trace}

-- the weight of the entry at k in a phase
abbrev pub weight_at : List Float → ℕ → ℕ → Float
weight_at squares phase k = get_or squares (weight_place (kind_at k) phase (square_at k)) nan

-- its weight at x pieces, between the opening's and the ending's
abbrev pub between : Float → Float → Float → Float
between opening ending x = (opening ⊗ (d2 ⊖ x) ⊕ ending ⊗ (x ⊖ d32)) ⊘ (d2 ⊖ d32)

-- one entry, at k, where it is above 0: White's is added, Black's subtracted
unfoldable pub entry_added : List Float → Float → Float → ℕ → ℤ → Float
entry_added squares x score k entry =
    let v : Float = dbl entry ⊗ between (weight_at squares 0 k) (weight_at squares 1 k) x in
    cond (lt_z (pos 0) entry) (cond (eqb (colour_at k) white) (score ⊕ v) (score ⊖ v)) score

-- the first n entries, in the order of their places: by kind, by square, White before Black
unfoldable pub folded : List Float → Float → List ℤ → Float → ℕ → Float
unfolding entry_added
folded squares x entries score zero = score
folded squares x entries score (suc n) = entry_added squares x (folded squares x entries score n) n (get_or entries n (pos 0))

unfoldable pub double : Trace → List ℤ → Weights → List Float → Float
unfolding folded
double t entries w squares = folded squares (dbl t.piece_count) entries (named t w) 768
