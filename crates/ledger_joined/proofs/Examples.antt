-- Worked examples of the definitions, by computation. Assumes nothing.
use mathlib.Core.Path.{◌≡◌, refl}
use mathlib.Core.List.{List, [], ◌∷◌, map}
use Prim.Native.Nat.{ℕ}
use Prim.Native.String.{String}
use Rattle.text_in.specs.Text.{text}
use Rattle.text_out.specs.Text.{digits_up_to}
use Rattle.ledger_totals.specs.Totals.{last_row}
use Rattle.ledger_whole.specs.Whole.{pieces_from, ends_in_lf}
use Rattle.ledger_joined_row.specs.Rows.{comes_to}
use Rattle.ledger_join.specs.Join.{Checked, no_ledger, checked, part_from, join_from, join_of}

join : List String → Checked (List ℕ)
unfolding pieces_from ends_in_lf part_from join_from last_row digits_up_to comes_to
join texts = join_of (map text texts)

-- two parts and an empty one
two :
    join ("1 2 117\n2 1 lost\n3 refused 13\nlines 3 loaded 2 refused 1\n" ∷ "lines 0 loaded 0 refused 0\n" ∷ "1 0 -95\nlines 1 loaded 1 refused 0\n" ∷ [])
    ≡ checked (text "1 2 117\n2 1 lost\n3 refused 13\n4 0 -95\nlines 4 loaded 3 refused 1\n")
unfolding join
two = refl

none : join [] ≡ checked (text "lines 0 loaded 0 refused 0\n")
unfolding join
none = refl

-- nothing at all; no totals; a row left out; two ledgers in one text; a count that does not fit; no LF at the end; no half points
nothing : join ("" ∷ []) ≡ no_ledger 1 1
unfolding join
nothing = refl

no_totals : join ("lines 0 loaded 0 refused 0\n" ∷ "1 2 117\n" ∷ []) ≡ no_ledger 2 2
unfolding join
no_totals = refl

left_out : join ("1 2 117\n3 2 117\nlines 2 loaded 2 refused 0\n" ∷ []) ≡ no_ledger 1 2
unfolding join
left_out = refl

twice : join ("1 2 117\nlines 1 loaded 1 refused 0\n1 2 117\nlines 1 loaded 1 refused 0\n" ∷ []) ≡ no_ledger 1 2
unfolding join
twice = refl

miscounted : join ("1 2 117\n2 refused 9\nlines 2 loaded 2 refused 0\n" ∷ []) ≡ no_ledger 1 3
unfolding join
miscounted = refl

unended : join ("1 2 117\nlines 1 loaded 1 refused 0" ∷ []) ≡ no_ledger 1 2
unfolding join
unended = refl

no_half : join ("1 117\nlines 1 loaded 1 refused 0\n" ∷ []) ≡ no_ledger 1 1
unfolding join
no_half = refl

-- a row cut short, and one of 33 bytes
cut_short : join ("1 2 11" ∷ []) ≡ no_ledger 1 1
unfolding join
cut_short = refl

too_long : join ("1 2 1234567890123456789012345678\nlines 1 loaded 1 refused 0\n" ∷ []) ≡ no_ledger 1 1
unfolding join
too_long = refl
