-- How the row is put, and that what is said to be written lies within the buffer. Assumes nothing.
use mathlib.Core.Path.{◌≡◌, refl, sym, ap, subst, ◌∙◌}
use mathlib.Core.Bool.{Bool, true, false, cond}
use mathlib.Core.List.{List, [], ◌∷◌}
use Prim.Native.Nat.{ℕ, ◌+◌, ◌≤◌}
use native.Mathlib.Omega.{arith}
use lib.Dec.{leb}
use lib.ListN.{length}
use borrow.Author.Tests.{leb-true}
use Rattle.refusal.specs.Answer.{Answer, given, refused, answered}
use Rattle.text_out.specs.Text.{Puts, place}
use Rattle.score_errors.specs.declared.Totals.{Totals}
use Rattle.score_collection.specs.Promises.{end_of, EndsCollection}
use Rattle.score_collection.specs.declared.Gathered.{Gathered}
use Rattle.score_row.specs.Rows.{totals_row, written_paper, row_place, row_buffer, WritesError}
use Rattle.std.specs.Prelude.{Result, Option, Ok, Some}
use Rattle.refusal.specs.declared.Refusal.{Refusal}

-- what was met of the place is what is answered
pub put_met : (t : Totals × ℕ) (old : List ℕ) {new : List ℕ} {p q : Option ℕ} {x : Answer (List ℕ)} → Puts old new 0 (totals_row t) p → p ≡ q
    → x ≡ given (place q) → (x ≡ row_place old (given t)) × (new ≡ row_buffer old (given t))
put_met t old p e h = (h ∙ ap given (ap place (sym e) ∙ p.0), p.1)

-- and what was met of the end
pub end_met : {gathered : Gathered} {line old new : List ℕ} {p q : Result (Totals × ℕ) Refusal} {r : Result (Option ℕ) Refusal} → EndsCollection gathered line p → p ≡ q
    → written_paper r ≡ row_place old (answered q) → new ≡ row_buffer old (answered q) → WritesError gathered line old r new
end_met {old = old} p e h g =
    let is = ap answered (sym e) ∙ p in
    record { answer = h ∙ ap (row_place old) is; buffer = g ∙ ap (row_buffer old) is }

-- ---- what is said to be written lies within the buffer
abbrev wrote_in : Answer (List ℕ) → ℕ
wrote_in (given (n ∷ l)) = n
wrote_in (given []) = 0
wrote_in (refused number beside) = 0

in_room : (size room : ℕ) → wrote_in (given (cond (leb size room) (size ∷ []) [])) ≤ room
in_room size room = go (leb size room) refl
  where
    go : (t : Bool) → leb size room ≡ t → wrote_in (given (cond t (size ∷ []) [])) ≤ room
    go true e = leb-true size room e
    go false e = omega arith

place_within : (out : List ℕ) (a : Answer (Totals × ℕ)) → wrote_in (row_place out a) ≤ length out
place_within out (given t) = in_room (0 + length (totals_row t)) (length out)
place_within out (refused number beside) = omega arith

pub written_within : {gathered : Gathered} {line out : List ℕ} {r : Result (Option ℕ) Refusal} {out' : List ℕ} → WritesError gathered line out r out' → (n : ℕ)
    → r ≡ Ok (Some n) → n ≤ length out
written_within {gathered = gathered} {line = line} {out = out} p n told =
    subst (λ (q : Answer (List ℕ)). wrote_in q ≤ length out) (sym p.answer ∙ ap written_paper told) (place_within out (end_of gathered line))
