-- W-209, how far the double may stray, stated of the definitions that `compute_trace`, `Trace::eval`, the shipped weights and `eval` promise.
-- Definitions only.
use Rattle.std.specs.Prelude.{◌≡◌, Bool, true, cond, List, ℕ, suc, ◌+◌, ◌*◌, ◌^◌, ◌<◌, ℤ, pos, negsuc, neg_ℤ, nat_abs, ◌-ℤ◌, ◌*ℤ◌, Float}
use Rattle.std.specs.Float.{nan, inf, fin}
use Rattle.refusal.specs.Answer.{given}
use Rattle.chess.specs.Named.{white, black, king, turned_for_black}
use Rattle.position.specs.declared.State.{State}
use Rattle.position_consistent.specs.Consistent.{consistent}
use Rattle.score_material.specs.Pieces.{count}
use Rattle.score.specs.Score.{eval_of, score}
use Rattle.trace_counts.specs.declared.Trace.{Trace}
use Rattle.trace.specs.Trace.{trace_of, entries_of}
use Rattle.trace_shipped.specs.Weights.{shipped, shipped_squares}
use Rattle.trace_double.specs.Double.{double}
use Rattle.trace_double.specs.Promises.{double_of}
use Rattle.trace_exact.specs.Exact.{shipped_whole, exact_sum}

-- "taking the double as a whole number times a power of two": `fin negative m e` is m·2^e or −m·2^e
abbrev pub signed : Bool → ℕ → ℤ
signed negative m = cond negative (neg_ℤ (pos m)) (pos m)

abbrev pub million : ℕ
million = 1000000

-- A double lies less than `most` thirty-millionths of a point from E/30: |30·double − E|·10^6 < most, both sides times 2^−e where e is
-- negative. An infinity or a NaN lies near nothing.
abbrev pub CloserThan : ℕ → Float → ℤ → Type 0
CloserThan most nan E = ⊥
CloserThan most (inf negative) E = ⊥
CloserThan most (fin negative m (pos e)) E = nat_abs (signed negative m *ℤ pos (2 ^ e) *ℤ pos 30 -ℤ E) * million < most
CloserThan most (fin negative m (negsuc e)) E = nat_abs (signed negative m *ℤ pos 30 -ℤ E *ℤ pos (2 ^ suc e)) * million < most * 2 ^ suc e

-- "one millionth of a point", in thirty-millionths
abbrev pub millionth : ℕ
millionth = 30

-- demand 3's 85 thirtieths, and a millionth
abbrev pub agreed : ℕ
agreed = 85 * million + millionth

-- the double and the exact sum of a position's trace, with the shipped weights
abbrev pub shipped_double : List ℕ → ℕ → Float
shipped_double bbs side = double (trace_of bbs side) (entries_of bbs) shipped shipped_squares

abbrev pub exact : List ℕ → ℕ → ℤ
exact bbs side = exact_sum shipped_whole (trace_of bbs side) (entries_of bbs)

-- "for every trace of a consistent position it lies less than one millionth of a point from the exact sum divided by thirty": it is given, not
-- refused, and it does
abbrev pub Stray : Type 0
Stray =
    (bbs bytes : List ℕ) (side : ℕ) → consistent bbs bytes ≡ true
    → (double_of (trace_of bbs side) (entries_of bbs) shipped shipped_squares ≡ given (shipped_double bbs side))
    × CloserThan millionth (shipped_double bbs side) (exact bbs side)

-- the same for every trace that `Trace::eval` does not refuse, a position's or not
abbrev pub EveryTrace : Type 0
EveryTrace =
    (t : Trace) (entries : List ℤ) (x : Float) → double_of t entries shipped shipped_squares ≡ given x → CloserThan millionth x (exact_sum shipped_whole t entries)

-- wherever demand 3 speaks, the score, its sign turned if Black is to move, lies less than `most` thirty-millionths of a point from the double
abbrev pub ShownCloserThan : ℕ → Type 0
ShownCloserThan most =
    (bbs bytes : List ℕ) (state : State) (s : ℤ) → count bbs king white ≡ count bbs king black → eval_of bbs bytes state ≡ given (score s)
    → CloserThan most (shipped_double bbs state.side) (turned_for_black state.side s *ℤ pos 30)

-- "the bound that this and demand 3 give on the shown score": less than 85/30 and a millionth
abbrev pub Shown : Type 0
Shown = ShownCloserThan agreed

-- and the millionth is needed there: less than 85/30 would not be true
abbrev pub Needed : Type 0
Needed = ShownCloserThan (85 * million) → ⊥
