-- How the answers of a collection's sum pass their doors. Assumes nothing.
use mathlib.Core.Path.{◌≡◌, refl, sym, ap, ap₂, subst, ◌∙◌}
use mathlib.Core.Bool.{Bool, true, false}
use mathlib.Core.List.{List, [], ◌∷◌}
use Prim.Native.Nat.{ℕ}
use lib.IntN.{ℤ}
use Rattle.refusal.specs.Answer.{Answer, given, refused, refusal_of, answered}
use Rattle.refusal.specs.declared.Refusal.TheVariants as R
use Rattle.line_cut.specs.Cut.{CutSoFar}
use Rattle.score.specs.Answers.{scored}
use Rattle.score.specs.Score.{Outcome, score}
use Rattle.score.specs.declared.Scored.{Scored}
use Rattle.score_errors.specs.Errors.{totals_with}
use Rattle.score_errors.specs.Promises.{AddsLine}
use Rattle.score_errors.specs.declared.Totals.{Totals}
use Rattle.score_collection.specs.Promises.{gather_of, gathered_of, gathered_in, Gathers, EndsCollection}
use Rattle.score_collection.specs.declared.Sum.{Sum}
use Rattle.score_collection.specs.declared.Gathered.{Gathered}
use Rattle.abi_codes.specs.Codes.{answer_number, lent_after, flag_of}
use Rattle.abi_codes.specs.declared.Code.{Code}
use Rattle.abi_codes.proofs.Passed.{met, door_passed, doors_passed}
use Rattle.abi_errors.specs.Numbers.{totals_from, total_numbers, gathered_from, gathered_numbers, answer_from}
use Rattle.abi_errors.specs.Promises.{AddsError, FeedsError, EndsError}
use Rattle.std.specs.Prelude.{Result}
use Rattle.refusal.specs.declared.Refusal.{Refusal}

-- ---- a line more, with a score or without
pub with_score : {t : Bool} {z w : ℤ} → t ≡ true → w ≡ z → given (score w) ≡ answer_from t z
with_score {z = z} h e = ap (λ (y : ℤ). given (score y)) e ∙ sym (ap (λ (b : Bool). answer_from b z) h)

pub without : {t : Bool} (z : ℤ) → t ≡ false → refusal_of R.Score ≡ answer_from t z
without z h = sym (ap (λ (b : Bool). answer_from b z) h)

pub add_passed : (totals : List ℕ) (side : ℕ) (t : Bool) (z : ℤ) (half : ℕ) (a : Result Scored Refusal) {u : Totals} {r x : Result Totals Refusal} {n : Code} {totals' : List ℕ}
    → u ≡ totals_from totals → scored a ≡ answer_from t z → AddsLine u side a half r → r ≡ x → n ≡ answer_number (answered x)
    → totals' ≡ lent_after total_numbers totals (answered x) → AddsError totals side t z half n totals'
add_passed totals side t z half a e f p m h g =
    door_passed (met answered (p ∙ ap (λ (v : Totals). totals_with v side (scored a) half) e
    ∙ ap (λ (o : Answer Outcome). totals_with (totals_from totals) side o half) f) m) h g

-- ---- what was gathered as numbers, by its two flags
pub numbers_made : (g : Gathered) {x y : ℕ} → x ≡ flag_of g.begun.cr → y ≡ flag_of g.sum.full
    → g.begun.held ∷ x ∷ g.sum.totals.scored ∷ g.sum.totals.apart ∷ g.sum.totals.sum ∷ g.sum.refused ∷ y ∷ [] ≡ gathered_numbers g
numbers_made g p q =
    ap₂ (λ (x y : ℕ). g.begun.held ∷ x ∷ g.sum.totals.scored ∷ g.sum.totals.apart ∷ g.sum.totals.sum ∷ g.sum.refused ∷ y ∷ []) p q

-- ---- a piece: what comes back by value is a part of what the machine has
value_code : (a : Answer (CutSoFar Sum)) → answer_number (gathered_in a) ≡ answer_number a
value_code (given m) = refl
value_code (refused n l) = refl

state_after : (old : List ℕ) (a : Answer (CutSoFar Sum)) → lent_after gathered_numbers old (gathered_in a)
    ≡ lent_after (λ (m : CutSoFar Sum). gathered_numbers (gathered_of m)) old a
state_after old (given m) = refl
state_after old (refused n l) = refl

pub feed_passed : {state line chunk : List ℕ} {g : Gathered} {r x : Result Gathered Refusal} {n : Code} {state' line' : List ℕ}
    → g ≡ gathered_from state → Gathers g line chunk r line' → r ≡ x → n ≡ answer_number (answered x) → state' ≡ lent_after gathered_numbers state (answered x)
    → FeedsError state line chunk n state' line'
feed_passed {state = state} {line = line} {chunk = chunk} {r = r} {line' = line'} e f m h k =
    let a : Answer (CutSoFar Sum) = gather_of (gathered_from state) line chunk in
    let p : Gathers (gathered_from state) line chunk r line' = subst (λ (g : Gathered). Gathers g line chunk r line') e f in
    let q = met answered p.answer m in
    record { code = h ∙ ap answer_number q ∙ value_code a; lent = k ∙ ap (lent_after gathered_numbers state) q ∙ state_after state a; kept = p.kept }

-- ---- the end
pub end_passed : (state line : List ℕ) {totals : List ℕ} {others : ℕ} {g : Gathered} {r x : Result (Totals × ℕ) Refusal} {n : Code} {totals' : List ℕ} {others' : ℕ}
    → g ≡ gathered_from state → EndsCollection g line r → r ≡ x → n ≡ answer_number (answered x)
    → totals' ≡ lent_after (λ (p : Totals × ℕ). total_numbers p.0) totals (answered x) → others' ≡ lent_after (λ (p : Totals × ℕ). p.1) others (answered x)
    → EndsError state line totals others n totals' others'
end_passed state line {r = r} e f m h k l = doors_passed (met answered (subst (λ (g : Gathered). EndsCollection g line r) e f) m) h k l
