-- The position field's call: always a part of the line, and "an empty part exactly when the line is refused". Assumes nothing.
use mathlib.Core.Path.{◌≡◌, refl, sym, ap, ◌∙◌}
use mathlib.Core.Logic.{◌↔◌}
use mathlib.Core.Bool.{Bool, true, false, true≢false, ◌||◌, ◌&&◌}
use mathlib.Core.List.{List, []}
use Prim.Native.Nat.{ℕ, ◌≤◌}
use native.Mathlib.Omega.{arith}
use Rattle.refusal.specs.Answer.{Answer, given, refused, or_refuse}
use Rattle.refusal.specs.Refusals.{number_of, beside_of}
use Rattle.refusal.specs.declared.Refusal.{Refusal}
use Rattle.refusal.specs.declared.Refusal.TheVariants as R
use Rattle.refusal.proofs.Answers.{given_not}
use lib.Dec.{leb}
use lib.ListN.{length}
use Rattle.text_in.specs.Text.{space, semicolon, is_text, every, holds, before, after, place_in}
use Rattle.text_in.proofs.Within.{Within, Part, inner, cut, before_within, trim_within}
use Rattle.line_ranks.specs.Ranks.{are_eight_ranks, board_of}
use Rattle.line_ranks.proofs.Placing.{none_left}
use Rattle.line_tail.specs.Words.{nth_word}
use Rattle.line_tail.specs.Tail.{rights_fit, passant_fits, counters_fit_fields, or_tail, tail_state}
use Rattle.line_parse.specs.Line.{Line, sides, results, is_one_of, ranks_of, side_word, position_field, result_field, with_result, fields_say, line_of}
use Rattle.line.specs.Field.{unless_refused, field_of}
use Rattle.line_parse.proofs.Given.{given_spells}

-- ---- always a part of the line
field_within : (line : List ℕ) → Within line (position_field line)
field_within line = inner (before_within semicolon line) (trim_within (before semicolon line))

pub field_part : (line : List ℕ) → Part line (field_of line)
unfolding field_of
field_part line = go (line_of line)
  where
    go : (a : Answer Line) → Part line (unless_refused a (position_field line))
    go (given l) = cut (field_within line)
    go (refused n v) = record { from = 0; size = 0; is = refl }

-- ---- empty exactly when refused
-- no ranks stand in an empty field
no_ranks : (field : List ℕ) → field ≡ [] → are_eight_ranks (ranks_of field) ≡ false
unfolding before
no_ranks field e = ap (λ (f : List ℕ). are_eight_ranks (ranks_of f)) e ∙ none_left 7

pub empty_exactly : (line : List ℕ) → (field_of line ≡ []) ↔ ((n : ℕ) × (v : List ℕ) × (line_of line ≡ refused n v))
unfolding field_of
empty_exactly line = (λ e. to (line_of line) refl e, λ h. ap (λ (a : Answer Line). unless_refused a (position_field line)) h.2)
  where
    to : (a : Answer Line) → line_of line ≡ a → unless_refused a (position_field line) ≡ [] → (n : ℕ) × (v : List ℕ) × (line_of line ≡ refused n v)
    to (given l) q e = absurd (true≢false (sym (given_spells line l q).ranks ∙ no_ranks (position_field line) e))
    to (refused n v) q e = (n, v, q)

-- ---- a line is refused by 8 to 13 or by 29 to 31, with nothing beside the number
abbrev is_lines : ℕ → Bool
is_lines n = (leb 8 n && leb n 13) || (leb 29 n && leb n 31)

abbrev InRange : Answer Line → Type 0
InRange a = (n : ℕ) (v : List ℕ) → a ≡ refused n v → (is_lines n ≡ true) × (8 ≤ n) × (n ≤ 31) × (v ≡ [])

test : (t : Bool) (r : Refusal) (a : Answer Line) → is_lines (number_of r) ≡ true → 8 ≤ number_of r → number_of r ≤ 31 → beside_of r ≡ [] → InRange a
    → InRange (or_refuse t r a)
test true r a l m u b h n v e = h n v e
test false r a l m u b h n v e = let q : number_of r ≡ n = cc in (ap is_lines (sym q) ∙ l, omega arith, omega arith, cc)

fields_refused_by : (field result : List ℕ) → InRange (fields_say field result)
unfolding fields_say
fields_refused_by field result =
    let bytes : List ℕ = board_of (ranks_of field) in
    let side : ℕ = place_in sides (side_word field) in
    let s : List ℕ = after space field in
    let f : Answer Line = with_result bytes result (tail_state side s) in
    let e : Answer Line = or_refuse (counters_fit_fields (nth_word 3 s) (nth_word 4 s) (nth_word 5 s)) R.Counter f in
    let d : Answer Line = or_refuse (passant_fits bytes side (nth_word 1 s) (nth_word 2 s)) R.Passant e in
    let c : Answer Line = or_tail bytes side s f in
    let b : Answer Line = or_refuse (is_one_of sides (side_word field)) R.Side c in
    let x : Line = record { state = tail_state side s; half = place_in results result; board = bytes } in
    test (are_eight_ranks (ranks_of field)) R.Place b refl (omega arith) (omega arith) refl
    (test (is_one_of sides (side_word field)) R.Side c refl (omega arith) (omega arith) refl
    (test (rights_fit bytes (nth_word 1 s)) R.Rights d refl (omega arith) (omega arith) refl
    (test (passant_fits bytes side (nth_word 1 s) (nth_word 2 s)) R.Passant e refl (omega arith) (omega arith) refl
    (test (counters_fit_fields (nth_word 3 s) (nth_word 4 s) (nth_word 5 s)) R.Counter f refl (omega arith) (omega arith) refl
    (test (is_one_of results result) R.Result (given x) refl (omega arith) (omega arith) refl (λ n v e. given_not e))))))

pub refused_by : (line : List ℕ) → InRange (line_of line)
unfolding line_of
refused_by line =
    let a : Answer Line = fields_say (position_field line) (result_field line) in
    let b : Answer Line = or_refuse (holds semicolon line) R.Field a in
    let c : Answer Line = or_refuse (every is_text line) R.Byte b in
    test (leb (length line) 256) R.Long c refl (omega arith) (omega arith) refl
    (test (every is_text line) R.Byte b refl (omega arith) (omega arith) refl
    (test (holds semicolon line) R.Field a refl (omega arith) (omega arith) refl (fields_refused_by (position_field line) (result_field line))))
