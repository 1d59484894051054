-- The named weights' part of the double, by document 01: "`Trace::eval` is worked in the source's order, one rounding for each operation".
-- Definitions only.
use Rattle.std.specs.Prelude.{◌≡◌, List, ℕ, ◌+◌, ◌*◌, ℤ, pos, ◌-ℤ◌, get_or, Float}
use Rattle.chess.specs.Named.{white, black, knight, bishop, rook, queen}
use Rattle.doubles.specs.Doubles.{◌⊕◌, ◌⊖◌, ◌⊗◌, ◌⊘◌, dbl, d0, d10}
use Rattle.trace_counts.specs.declared.Weights.{Weights}
use Rattle.trace_counts.specs.declared.Trace.{Trace}

-- score += (white - black) * weight
abbrev pub count_added : Float → List ℤ → Float → Float
count_added score counts weight = score ⊕ dbl (get_or counts 0 (pos 0) -ℤ get_or counts 1 (pos 0)) ⊗ weight

-- score += white * weight / 10, then score -= black * weight / 10
abbrev pub moved : Float → ℤ → ℤ → Float → Float
moved score own other weight = score ⊕ dbl own ⊗ weight ⊘ d10 ⊖ dbl other ⊗ weight ⊘ d10

abbrev pub material_double : Trace → Weights → Float
material_double t w =
    let p : Float = count_added d0 t.pawns w.pawn in
    let n : Float = count_added p t.knights w.knight in
    let b : Float = count_added n t.bishops w.bishop in
    let r : Float = count_added b t.rooks w.rook in
    let q : Float = count_added r t.queens w.queen in
    count_added q t.bishop_pair w.bishop_pair

-- "attacked squares for each kind and colour"
abbrev pub attacked_in : Trace → ℕ → ℕ → ℤ
attacked_in t kind colour = get_or t.mobility (2 * kind + colour) (pos 0)

-- knight, bishop, rook, queen
abbrev pub mobility : Trace → Weights → Float → Float
mobility t w score =
    let n : Float = moved score (attacked_in t knight white) (attacked_in t knight black) w.knight_mobility in
    let b : Float = moved n (attacked_in t bishop white) (attacked_in t bishop black) w.bishop_mobility in
    let r : Float = moved b (attacked_in t rook white) (attacked_in t rook black) w.rook_mobility in
    moved r (attacked_in t queen white) (attacked_in t queen black) w.queen_mobility

-- score += tempo * side
abbrev pub named : Trace → Weights → Float
named t w = mobility t w (material_double t w) ⊕ w.tempo ⊗ dbl t.side

abbrev pub Sums : Trace → Weights → Float → Type 0
Sums t w r = r ≡ named t w
