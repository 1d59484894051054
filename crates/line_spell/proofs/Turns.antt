-- One turn of the loop over a rank's squares: what is written, and what is still to come. The text so far and the text of the rest are the whole, so the
-- room follows from the whole's length and no bytes are counted. Assumes nothing.
use mathlib.Core.Path.{◌≡◌, refl, sym, ap, subst, ◌∙◌}
use mathlib.Core.List.{List, [], ◌∷◌, ◌++◌, append_assoc, append-nil}
use Prim.Native.Nat.{ℕ, zero, suc, ◌+◌, ◌≤◌, ◌<◌}
use native.Mathlib.Numerals.{add-one}
use native.Mathlib.Omega.{arith}
use lib.ListN.{length, drop, get_or, set, length-append, length-set, drop_of_length-le}
use lib.Seq.{drop-cons}
use Rattle.text_out.specs.Text.{Wrote}
use Rattle.text_out.proofs.Wrote.{wrote_none, wrote_more}
use Rattle.line_text.specs.Spelt.{letter_of, run_digit, spelt}
use Rattle.line_text.proofs.Marks.{spelt_letter, digit_is}
use Rattle.line_text.proofs.Lengths.{spelt_length}

spelt_empty : (n c : ℕ) (squares : List ℕ) → c ≡ 0 → spelt n (c ∷ squares) ≡ spelt (n + 1) squares
unfolding spelt
spelt_empty n zero squares z = ap (λ (k : ℕ). spelt k squares) (sym (add-one n))
spelt_empty n (suc c) squares z = absurd (omega arith)

spelt_end : (n : ℕ) → spelt n [] ≡ run_digit n
unfolding spelt
spelt_end n = refl

digit_none : (n : ℕ) → n ≡ 0 → run_digit n ≡ []
digit_none n e = ap run_digit e

-- `file` squares are passed, the last `run` of them empty and not written yet
pub record Turn (squares old line : List ℕ) (at end run file : ℕ) : Type 0 where
  pub text : List ℕ
  pub most : file ≤ length squares
  pub few : run ≤ file
  pub size : length line ≡ length old
  pub wrote : Wrote old line at end text
  pub left : spelt 0 squares ≡ text ++ spelt run (drop file squares)

pub turn_first : (squares old : List ℕ) (at : ℕ) → at + 8 ≤ length old → Turn squares old old at at 0 0
turn_first squares old at h =
    record { text = []; most = omega arith; few = omega arith; size = refl; wrote = wrote_none old at (omega arith); left = refl }

module _ (squares : List ℕ) (eight : length squares ≤ 8) (old line : List ℕ) (at end run file : ℕ) (room : at + 8 ≤ length old)
    (t : Turn squares old line at end run file) where
  -- ---- a square
  module _ (h : file < length squares) (code : ℕ) (is : code ≡ get_or squares file 0) where
    next : drop file squares ≡ code ∷ drop (file + 1) squares
    next =
        drop-cons squares file 0 h
        ∙ ap (λ (n : ℕ). get_or squares file 0 ∷ drop n squares) (sym (add-one file))
        ∙ ap (λ (c : ℕ). c ∷ drop (file + 1) squares) (sym is)

    pub turn_empty : code ≡ 0 → Turn squares old line at end (run + 1) (file + 1)
    turn_empty z =
        record {
          text = t.text;
          most = omega arith;
          few = omega (arith, t.few);
          size = t.size;
          wrote = t.wrote;
          left = t.left ∙ ap (λ (l : List ℕ). t.text ++ l) (ap (spelt run) next ∙ spelt_empty run code (drop (file + 1) squares) z);
        }

    module _ (z : code ≡ 0 → ⊥) where
      comes : spelt 0 squares ≡ t.text ++ (run_digit run ++ (letter_of code ∷ spelt 0 (drop (file + 1) squares)))
      comes = t.left ∙ ap (λ (l : List ℕ). t.text ++ l) (ap (spelt run) next ∙ spelt_letter run code (drop (file + 1) squares) z)

      long : (end + length (run_digit run)) + 1 ≤ length line
      long =
          let more : List ℕ = spelt 0 (drop (file + 1) squares) in
          let a : length (spelt 0 squares) ≡ length t.text + (length (run_digit run) + suc (length more)) =
          ap length comes ∙ length-append t.text (run_digit run ++ (letter_of code ∷ more))
          ∙ ap (λ (n : ℕ). length t.text + n) (length-append (run_digit run) (letter_of code ∷ more))
          in
          omega (arith, spelt_length squares 0, t.wrote.to, t.size)

      pub letter_room : end < length line
      letter_room = omega (arith, long)

      pub both_room : (run ≡ 0 → ⊥) → end + 1 < length line
      both_room n = let d = ap length (digit_is run n) in omega (arith, long)

      pub both_room' : (run ≡ 0 → ⊥) → end + 1 < length (set line end (48 + run))
      both_room' n = rw (length-set line end (48 + run)) (both_room n)

      pub turn_letter : run ≡ 0 → (b : ℕ) → b ≡ letter_of code → Turn squares old (set line end b) at (end + 1) run (file + 1)
      turn_letter e b q =
          record {
            text = t.text ++ (b ∷ []);
            most = omega arith;
            few = omega arith;
            size = length-set line end b ∙ t.size;
            wrote = wrote_more old line at end t.text b t.size (omega (arith, letter_room, t.size)) t.wrote;
            left =
                comes
                ∙ ap (λ (l : List ℕ). t.text ++ (l ++ (letter_of code ∷ spelt 0 (drop (file + 1) squares)))) (digit_none run e)
                ∙ ap (λ (x : ℕ). t.text ++ (x ∷ spelt 0 (drop (file + 1) squares))) (sym q)
                ∙ sym (append_assoc t.text (b ∷ []) (spelt 0 (drop (file + 1) squares)))
                ∙ ap (λ (k : ℕ). (t.text ++ (b ∷ [])) ++ spelt k (drop (file + 1) squares)) (sym e);
          }

      pub turn_both : (run ≡ 0 → ⊥) → (b : ℕ) → b ≡ letter_of code → Turn squares old (set (set line end (48 + run)) (end + 1) b) at (end + 2) 0 (file + 1)
      turn_both n b q =
          let d : ℕ = 48 + run in
          let more : List ℕ = spelt 0 (drop (file + 1) squares) in
          let room-too = both_room n in
          let first = wrote_more old line at end t.text d t.size (omega (arith, t.size)) t.wrote in
          let sized : length (set line end d) ≡ length old = length-set line end d ∙ t.size in
          let second = wrote_more old (set line end d) at (end + 1) (t.text ++ (d ∷ [])) b sized (omega (arith, t.size)) first in
          let two : (end + 1) + 1 ≡ end + 2 = omega arith in
          record {
            text = (t.text ++ (d ∷ [])) ++ (b ∷ []);
            most = omega arith;
            few = omega arith;
            size = length-set (set line end d) (end + 1) b ∙ sized;
            wrote = subst (λ (k : ℕ). Wrote old (set (set line end d) (end + 1) b) at k ((t.text ++ (d ∷ [])) ++ (b ∷ []))) two second;
            left =
                comes
                ∙ ap (λ (l : List ℕ). t.text ++ (l ++ (letter_of code ∷ more))) (digit_is run n)
                ∙ ap (λ (x : ℕ). t.text ++ (d ∷ (x ∷ more))) (sym q)
                ∙ sym (append_assoc t.text (d ∷ []) (b ∷ more))
                ∙ sym (append_assoc (t.text ++ (d ∷ [])) (b ∷ []) more);
          }

  -- ---- the end of the squares
  module _ (h : length squares ≤ file) where
    done : spelt 0 squares ≡ t.text ++ run_digit run
    done = t.left ∙ ap (λ (l : List ℕ). t.text ++ l) (ap (spelt run) (drop_of_length-le squares h) ∙ spelt_end run)

    pub ends : run ≡ 0 → Wrote old line at end (spelt 0 squares)
    ends e =
        subst (λ (l : List ℕ). Wrote old line at end l)
        (sym (done ∙ ap (λ (l : List ℕ). t.text ++ l) (digit_none run e) ∙ append-nil t.text)) t.wrote

    pub end_room : (run ≡ 0 → ⊥) → end < length line
    end_room n =
        let d = ap length (digit_is run n) in
        let a : length (spelt 0 squares) ≡ length t.text + length (run_digit run) = ap length done ∙ length-append t.text (run_digit run) in
        omega (arith, spelt_length squares 0, t.wrote.to, t.size)

    pub ends_run : (run ≡ 0 → ⊥) → Wrote old (set line end (48 + run)) at (end + 1) (spelt 0 squares)
    ends_run n =
        subst (λ (l : List ℕ). Wrote old (set line end (48 + run)) at (end + 1) l)
        (sym (done ∙ ap (λ (l : List ℕ). t.text ++ l) (digit_is run n)))
        (wrote_more old line at end t.text (48 + run) t.size (omega (arith, end_room n, t.size)) t.wrote)
