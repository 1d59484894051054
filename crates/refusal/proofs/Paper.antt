-- An answer of the code is read off the paper again, so two answers that read the same are one. Assumes nothing.
use mathlib.Core.Path.{◌≡◌, refl, sym, ap, ap₂, ◌∙◌}
use mathlib.Core.Bool.{true≢false}
use mathlib.Core.List.{List, [], ◌∷◌}
use Prim.Native.Nat.{ℕ, ◌<◌}
use native.Mathlib.Omega.{arith}
use lib.ListN.{get_or}
use Rattle.std.specs.Prelude.{Result, Ok, Err, IsErr, IsErrAnd}
use Rattle.refusal.specs.Answer.{Answer, given, refused, refusal_of, answered, answered_by}
use Rattle.refusal.specs.Refusals.{number_of, beside_of}
use Rattle.refusal.specs.declared.Refusal.{Refusal}
use Rattle.refusal.specs.declared.Refusal.TheVariants as R

-- two values that are one third value
pub one : {A : Type 0} {x y z : A} → x ≡ z → y ≡ z → x ≡ y
one p q = p ∙ sym q

-- what can be read back is told apart by what it reads
pub retract : {X A : Type 0} (paper : X → A) (from : A → X) → ((r : X) → from (paper r) ≡ r) → (r s : X) → paper r ≡ paper s → r ≡ s
retract paper from back r s e = sym (back r) ∙ ap from e ∙ back s

-- the refusal of a number with the values beside it, as 01 and 02 list them; no refusal has the numbers 0 and 2
abbrev pub of_number : ℕ → List ℕ → Refusal
of_number n values =
    let s : ℕ = get_or values 0 0 in
    get_or
    (R.Shape ∷ R.Shape ∷ R.Shape ∷ R.Score ∷ R.Square ∷ R.Move ∷ R.Crowd ∷ R.Trace ∷ R.Long ∷ R.Byte ∷ R.Field ∷ R.Place ∷ R.Side ∷ R.Result
    ∷ R.Overlap s ∷ R.Union s ∷ R.Byteboard s ∷ R.Room ∷ R.Length ∷ R.Code s ∷ R.Order ∷ R.Entry ∷ R.Many ∷ R.Iteration
    ∷ R.Kings ∷ R.Pawns ∷ R.Pieces ∷ R.Rank s ∷ R.Check s ∷ R.Rights ∷ R.Passant ∷ R.Counter ∷ R.Absent ∷ [])
    n R.Shape

pub number_back : (r : Refusal) → of_number (number_of r) (beside_of r) ≡ r
number_back R.Shape = refl
number_back R.Score = refl
number_back R.Square = refl
number_back R.Move = refl
number_back R.Crowd = refl
number_back R.Trace = refl
number_back R.Long = refl
number_back R.Byte = refl
number_back R.Field = refl
number_back R.Place = refl
number_back R.Side = refl
number_back R.Result = refl
number_back (R.Overlap s) = refl
number_back (R.Union s) = refl
number_back (R.Byteboard s) = refl
number_back R.Room = refl
number_back R.Length = refl
number_back (R.Code s) = refl
number_back R.Order = refl
number_back R.Entry = refl
number_back R.Many = refl
number_back R.Iteration = refl
number_back R.Kings = refl
number_back R.Pawns = refl
number_back R.Pieces = refl
number_back (R.Rank s) = refl
number_back (R.Check s) = refl
number_back R.Rights = refl
number_back R.Passant = refl
number_back R.Counter = refl
number_back R.Absent = refl

-- "one-to-one": two refusals of one number and the same values are one
pub number_one : (r s : Refusal) → number_of r ≡ number_of s → beside_of r ≡ beside_of s → r ≡ s
number_one r s e f = sym (number_back r) ∙ ap₂ of_number e f ∙ number_back s

-- an answer of the code, from its constructors, by what the paper has
abbrev pub read_back_rule : {A X : Type 0} → (A → X) → (Refusal → X) → Answer A → X
read_back_rule is out (given a) = is a
read_back_rule is out (refused n l) = out (of_number n l)

answered_back : {A : Type 0} (r : Result A Refusal) → read_back_rule Ok Err (answered r) ≡ r
answered_back (Ok a) = refl
answered_back (Err q) = ap Err (number_back q)

-- two answers of the code that read the same are one
pub answered_same : {A : Type 0} (r s : Result A Refusal) → answered r ≡ answered s → r ≡ s
answered_same = retract answered (read_back_rule Ok Err) answered_back

pub answered_one : {A : Type 0} {r s : Result A Refusal} {a : Answer A} → answered r ≡ a → answered s ≡ a → r ≡ s
answered_one p q = answered_same _ _ (one p q)

-- the same where what was given can be told from what was read of it
pub answered_by_one : {A B : Type 0} (reading : A → B) (from : B → A) → ((x : A) → from (reading x) ≡ x) → {r s : Result A Refusal} {a : Answer B}
    → answered_by reading r ≡ a → answered_by reading s ≡ a → r ≡ s
answered_by_one reading from from_back p q = retract (answered_by reading) (read_back_rule (λ b. Ok (from b)) Err) back _ _ (one p q)
  where
    back : (r : Result _ Refusal) → read_back_rule (λ b. Ok (from b)) Err (answered_by reading r) ≡ r
    back (Ok x) = ap Ok (from_back x)
    back (Err q) = ap Err (number_back q)

-- what `?` gives on is the refusal that came
pub error_is : {A : Type 0} (r : Result A Refusal) (q : Refusal) → IsErr r × IsErrAnd r (λ (e : Refusal). e ≡ q) → r ≡ Err q
error_is (Ok a) q h = absurd (true≢false (sym h.0))
error_is (Err e) q h = ap Err h.1

pub error_answered : {A : Type 0} (r : Result A Refusal) (q : Refusal) → IsErr r × IsErrAnd r (λ (e : Refusal). e ≡ q) → answered r ≡ refusal_of q
error_answered r q h = ap answered (error_is r q h)

pub error_answered_by : {A B : Type 0} (reading : A → B) (r : Result A Refusal) (q : Refusal) → IsErr r × IsErrAnd r (λ (e : Refusal). e ≡ q)
    → answered_by reading r ≡ refusal_of q
error_answered_by reading r q h = ap (answered_by reading) (error_is r q h)

-- no refusal's number has three digits
pub number_small : (r : Refusal) → number_of r < 100
number_small R.Shape = omega arith
number_small R.Score = omega arith
number_small R.Square = omega arith
number_small R.Move = omega arith
number_small R.Crowd = omega arith
number_small R.Trace = omega arith
number_small R.Long = omega arith
number_small R.Byte = omega arith
number_small R.Field = omega arith
number_small R.Place = omega arith
number_small R.Side = omega arith
number_small R.Result = omega arith
number_small (R.Overlap s) = omega arith
number_small (R.Union s) = omega arith
number_small (R.Byteboard s) = omega arith
number_small R.Room = omega arith
number_small R.Length = omega arith
number_small (R.Code s) = omega arith
number_small R.Order = omega arith
number_small R.Entry = omega arith
number_small R.Many = omega arith
number_small R.Iteration = omega arith
number_small R.Kings = omega arith
number_small R.Pawns = omega arith
number_small R.Pieces = omega arith
number_small (R.Rank s) = omega arith
number_small (R.Check s) = omega arith
number_small R.Rights = omega arith
number_small R.Passant = omega arith
number_small R.Counter = omega arith
number_small R.Absent = omega arith
