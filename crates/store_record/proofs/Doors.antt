-- What `write_record` answers, test by test. Assumes nothing.
use mathlib.Core.Path.{◌≡◌, refl, sym, ap, ap₂, ◌∙◌}
use mathlib.Core.Bool.{Bool, true, false, cond}
use mathlib.Core.List.{List, ◌++◌, append-nil}
use Prim.Native.Nat.{ℕ, ◌+◌, ◌≤◌, ◌<◌}
use native.Mathlib.Omega.{arith}
use lib.Dec.{eqb, ltb}
use lib.ListN.{length, drop, drop_of_length-le}
use borrow.Author.Tests.{eq-eqb, ne_eqb, lt-ltb, le-ltb, le-leb}
use Rattle.refusal.specs.Answer.{Answer, given, or_refuse, answered}
use Rattle.refusal.specs.declared.Refusal.{Refusal}
use Rattle.refusal.specs.declared.Refusal.TheVariants as R
use Rattle.position.specs.Checked.{of_side}
use Rattle.position.specs.Promises.{Checks}
use Rattle.position.specs.declared.State.{State}
use Rattle.position.proofs.Doors.{pass_on, fit_rest}
use Rattle.text_out.specs.Text.{written_of}
use Rattle.line_parse.specs.Line.{Line}
use Rattle.store_record.specs.Record.{record_of}
use Rattle.store_record.specs.Promises.{store_of, is_stored, place_after, WritesRecord}
use Rattle.store_record.proofs.Records.{record_34}
use Rattle.std.specs.Prelude.{Result, Ok, Err}

-- a text as long as the buffer replaces it
replaced : (old text : List ℕ) → length old ≡ length text → written_of old 0 text ≡ text
replaced old text e =
    ap (λ (t : Bool). cond t (text ++ drop (0 + length text) old) old) (le-leb (0 + length text) (length old) (omega arith))
    ∙ ap (λ (l : List ℕ). text ++ l) (drop_of_length-le old (let z : length old ≤ 0 + length text = omega arith in z)) ∙ append-nil text

module _ (bbs board : List ℕ) (state : State) (half : ℕ) (place : List ℕ) (r : Result Unit Refusal) (promise : Checks bbs board state r) where
  abbrev l : Line
  l = record { state = state; half = half; board = board }

  -- pieces, side and half points are all that a record holds of it
  dropped : record_of (record { state = of_side state.side; half = half; board = board }) ≡ record_of l
  unfolding record_of
  dropped = refl

  -- what comes after the tests of the position
  after : Bool → Bool → Answer (List ℕ)
  after result fits = or_refuse result R.Result (or_refuse fits R.Length (given (record_of l)))

  pub turned : (q : Refusal) → r ≡ Err q → (w : Result Unit Refusal) → w ≡ Err q → WritesRecord bbs board state half place w place
  unfolding store_of after
  turned q told w is =
      let e = pass_on bbs board state r promise (after (ltb half 3) (eqb (length place) 34)) q told in
      record { answer = ap answered is ∙ ap is_stored e; bytes = ap (λ (a : Answer (List ℕ)). place_after a place) e }

  module _ (fit : r ≡ Ok tt) where
    -- the tests after the position's came to an answer
    gives : (x y : Bool) → ltb half 3 ≡ x → eqb (length place) 34 ≡ y → (w : Result Unit Refusal) (place' : List ℕ) → answered w ≡ is_stored (after x y)
        → place' ≡ place_after (after x y) place
        → WritesRecord bbs board state half place w place'
    unfolding store_of after
    gives x y p q w place' a b =
        let e = sym (ap₂ after p q) ∙ fit_rest bbs board state r promise (after (ltb half 3) (eqb (length place) 34)) fit in
        record { answer = a ∙ ap is_stored e; bytes = b ∙ ap (λ (z : Answer (List ℕ)). place_after z place) e }

    pub no_result : 3 ≤ half → WritesRecord bbs board state half place (Err R.Result) place
    unfolding after
    no_result h = gives false _ (le-ltb half 3 h) refl (Err R.Result) place refl refl

    module _ (h : half < 3) where
      pub no_place : (length place ≡ 34 → ⊥) → WritesRecord bbs board state half place (Err R.Length) place
      unfolding after
      no_place n = gives true false (lt-ltb half 3 h) (ne_eqb (length place) 34 n) (Err R.Length) place refl refl

      pub done : length place ≡ 34 → (bytes place' : List ℕ) → bytes ≡ record_of (record { state = of_side state.side; half = half; board = board })
          → place' ≡ written_of place 0 bytes → WritesRecord bbs board state half place (Ok tt) place'
      unfolding after
      done n bytes place' b p =
          gives true true (lt-ltb half 3 h) (eq-eqb (length place) 34 n) (Ok tt) place' refl
          (p ∙ ap (written_of place 0) (b ∙ dropped) ∙ replaced place (record_of l) (n ∙ sym (record_34 l)))
