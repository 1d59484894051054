-- The answers of the door: a text at the front where there is room, RESULT, and what the position's test passes on. Assumes nothing.
use mathlib.Core.Path.{◌≡◌, refl, sym, ap, subst, ◌∙◌}
use mathlib.Core.Bool.{Bool, true, false, cond}
use mathlib.Core.List.{List, [], ◌∷◌, ◌++◌}
use Prim.Native.Nat.{ℕ, ◌≤◌, ◌<◌}
use native.Mathlib.Nat.{zero-add}
use native.Mathlib.Omega.{arith}
use lib.Dec.{leb}
use lib.ListN.{length, take, drop}
use borrow.Author.Tests.{le-leb, lt-leb}
use Rattle.refusal.specs.Answer.{Answer, given, or_refuse, answered}
use Rattle.refusal.specs.declared.Refusal.{Refusal}
use Rattle.refusal.specs.declared.Refusal.TheVariants as R
use Rattle.text_out.specs.Text.{Puts, place}
use Rattle.position.specs.Promises.{Checks}
use Rattle.position.specs.declared.State.{State}
use Rattle.position.proofs.Doors.{fit_rest, pass_on}
use Rattle.line_text.specs.Lines.{position_text, line_text}
use Rattle.line_write.specs.Write.{wanted_text, or_room, text_written_of, buffer_after}
use Rattle.line_write.specs.Promises.{Writes, Shows, placed_as, WritesText, WritesLine}
use Rattle.std.specs.Prelude.{Result, Ok, Err, Option, None, Some}

-- ---- a text put at the front
module _ (text old new : List ℕ) where
  placed : (p : Option ℕ) → place p ≡ cond (leb (length text) (length old)) (length text ∷ []) [] → placed_as p ≡ or_room text old
  placed p = go (leb (length text) (length old)) p
    where
      go : (t : Bool) (q : Option ℕ) → place q ≡ cond t (length text ∷ []) [] → placed_as q ≡ or_refuse t R.Room (given (length text))
      go true (Some end) e = ap given (let z : end ≡ length text = cc in z)
      go true None e = absurd (let z : ◌≡◌ {A = ℕ} 0 1 = cc in omega arith)
      go false (Some end) e = absurd (let z : ◌≡◌ {A = ℕ} 0 1 = cc in omega arith)
      go false None e = refl

  kept : cond (leb (length text) (length old)) (text ++ drop (length text) old) old ≡ buffer_after (or_room text old) text old
  kept = go (leb (length text) (length old))
    where
      go : (t : Bool) → cond t (text ++ drop (length text) old) old ≡ buffer_after (or_refuse t R.Room (given (length text))) text old
      go true = refl
      go false = refl

  pub at_front : (p : Option ℕ) (r : Result ℕ Refusal) → Puts old new 0 text p → Shows p r → Writes (or_room text old) text old new r
  at_front p r h s =
      record {
        answer = s ∙ placed p (h.0 ∙ ap (λ (k : ℕ). cond (leb k (length old)) (k ∷ []) []) (zero-add (length text)));
        buffer =
            h.1 ∙ ap (λ (k : ℕ). cond (leb k (length old)) (take 0 old ++ (text ++ drop k old)) old) (zero-add (length text)) ∙ kept;
      }

-- ---- with what is wanted
module _ (board : List ℕ) (state : State) (wanted : Option ℕ) (old new : List ℕ) (r : Result ℕ Refusal) where
  pub nothing_more : wanted ≡ None → Writes (or_room (position_text board state) old) (position_text board state) old new r
      → WritesText board state wanted old new r
  nothing_more e w = subst (λ (x : Option ℕ). WritesText board state x old new r) (sym e) w

  pub with_half : (half : ℕ) → wanted ≡ Some half → half ≤ 2 → Writes (or_room (line_text board state half) old) (line_text board state half) old new r
      → WritesText board state wanted old new r
  with_half half e h w =
      subst (λ (x : Option ℕ). WritesText board state x old new r) (sym e)
      (subst (λ (t : Bool). Writes (or_refuse t R.Result (or_room (line_text board state half) old)) (line_text board state half) old new r)
      (sym (le-leb half 2 h)) w)

pub unknown_result : (board : List ℕ) (state : State) (wanted : Option ℕ) (half : ℕ) (old : List ℕ) → wanted ≡ Some half → 2 < half
    → WritesText board state wanted old old (Err R.Result)
unknown_result board state wanted half old e h =
    subst (λ (x : Option ℕ). WritesText board state x old old (Err R.Result)) (sym e)
    (subst (λ (t : Bool). Writes (or_refuse t R.Result (or_room (line_text board state half) old)) (line_text board state half) old old (Err R.Result))
    (sym (lt-leb half 2 h))
    (record { answer = refl; buffer = refl }))

-- ---- after the position's test
module _ (bitboards board : List ℕ) (state : State) (k : Result Unit Refusal) (promise : Checks bitboards board state k) (wanted : Option ℕ) (old : List ℕ) where
  pub unfit : (q : Refusal) → k ≡ Err q → (r : Result ℕ Refusal) → r ≡ Err q → WritesLine bitboards board state wanted old old r
  unfit q e r f =
      subst (λ (a : Answer ℕ). Writes a (wanted_text board state wanted) old old r)
      (pass_on bitboards board state k promise (text_written_of board state wanted old) q e) (record { answer = ap answered f; buffer = refl })

  pub fit : (new : List ℕ) (r : Result ℕ Refusal) → k ≡ Ok tt → WritesText board state wanted old new r → WritesLine bitboards board state wanted old new r
  fit new r e w =
      subst (λ (a : Answer ℕ). Writes a (wanted_text board state wanted) old new r)
      (fit_rest bitboards board state k promise (text_written_of board state wanted old) e) w
