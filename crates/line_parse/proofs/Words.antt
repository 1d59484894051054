-- The parts of a line as the code cuts them, and a word's place among others. Assumes nothing.
use mathlib.Core.Path.{◌≡◌, refl, sym, ap, subst, ◌∙◌}
use mathlib.Core.Bool.{Bool, true, false}
use mathlib.Core.List.{List, [], ◌∷◌}
use Prim.Native.Nat.{ℕ, suc, ◌+◌, ◌-◌}
use native.Mathlib.Numerals.{add-one}
use lib.ListN.{length, take, drop}
use Rattle.laws.specs.Tests.{same}
use Rattle.text_in.specs.Text.{text, space, semicolon, is_space, before, after, without, trim, place_in}
use Rattle.text_in.proofs.Parts.{rest, before_take, after_drop, from_mark}
use Rattle.line_ranks.specs.Ranks.{are_eight_ranks, board_of}
use Rattle.line_ranks.specs.Promises.{Places}
use Rattle.line_ranks.specs.declared.inner.Placed.{Placed}
use Rattle.line_tail.specs.Words.{word_of}
use Rattle.line_parse.specs.Line.{position_field, result_field, ranks_of, side_word, sides, results}

module _ (t x : List ℕ) (xs : List (List ℕ)) where
  pub place_first : same t x ≡ true → 0 ≡ place_in (x ∷ xs) t
  unfolding place_in
  place_first e = rw e

  pub place_next : same t x ≡ false → {k : ℕ} → k ≡ place_in xs t → suc k ≡ place_in (x ∷ xs) t
  unfolding place_in
  place_next e q = rw e (ap suc q)

pub place_none : (t : List ℕ) → 0 ≡ place_in [] t
unfolding place_in
place_none t = refl

-- as a program cuts the word out
pub word_is : (s skipped : List ℕ) (end : ℕ) → skipped ≡ without is_space s → end ≡ length (before space skipped) → take end skipped ≡ word_of s
word_is s skipped end e q = ap (λ (k : ℕ). take k skipped) q ∙ before_take space skipped ∙ ap (before space) e

-- what stands after the ranks' end, but for spaces
pub rest_is : (field : List ℕ) (end : ℕ) → end ≡ length (before space field)
    → without is_space (take (length field - end) (drop end field)) ≡ without is_space (after space field)
rest_is field end q = ap (without is_space) (rest end field ∙ ap (λ (k : ℕ). drop k field) q) ∙ from_mark space is_space refl field

pub side_is : (field : List ℕ) (end : ℕ) → end ≡ length (before space field) → word_of (take (length field - end) (drop end field)) ≡ side_word field
side_is field end q = ap (before space) (rest_is field end q)

-- ---- the side
module _ (s w : List ℕ) (e : w ≡ word_of s) (t : Bool) (q : t ≡ same w (text "w")) where
  at_first : {b : Bool} → t ≡ b → same (word_of s) (text "w") ≡ b
  at_first n = ap (λ (l : List ℕ). same l (text "w")) (sym e) ∙ sym q ∙ n

  pub is_white : t ≡ true → 0 ≡ place_in sides (word_of s)
  is_white n = place_first (word_of s) (text "w") (text "b" ∷ []) (at_first n)

  module _ (n : t ≡ false) (u : Bool) (p : u ≡ same w (text "b")) where
    at_second : {b : Bool} → u ≡ b → same (word_of s) (text "b") ≡ b
    at_second m = ap (λ (l : List ℕ). same l (text "b")) (sym e) ∙ sym p ∙ m

    pub is_black : u ≡ true → 1 ≡ place_in sides (word_of s)
    is_black m = place_next (word_of s) (text "w") (text "b" ∷ []) (at_first n) (place_first (word_of s) (text "b") [] (at_second m))

    pub no_side : u ≡ false → 2 ≡ place_in sides (word_of s)
    no_side m = place_next (word_of s) (text "w") (text "b" ∷ []) (at_first n) (place_next (word_of s) (text "b") [] (at_second m) (place_none (word_of s)))

-- ---- the result
module _ (w : List ℕ) (t : Bool) (q : t ≡ same w (text "0-1")) where
  pub is_lost : t ≡ true → 0 ≡ place_in results w
  is_lost n = place_first w (text "0-1") (text "1/2-1/2" ∷ text "1-0" ∷ []) (sym q ∙ n)

  module _ (n : t ≡ false) (u : Bool) (p : u ≡ same w (text "1/2-1/2")) where
    second : {k : ℕ} → k ≡ place_in (text "1/2-1/2" ∷ text "1-0" ∷ []) w → suc k ≡ place_in results w
    second = place_next w (text "0-1") (text "1/2-1/2" ∷ text "1-0" ∷ []) (sym q ∙ n)

    pub is_draw : u ≡ true → 1 ≡ place_in results w
    is_draw m = second (place_first w (text "1/2-1/2") (text "1-0" ∷ []) (sym p ∙ m))

    module _ (m : u ≡ false) (v : Bool) (o : v ≡ same w (text "1-0")) where
      third : {k : ℕ} → k ≡ place_in (text "1-0" ∷ []) w → suc (suc k) ≡ place_in results w
      third h = second (place_next w (text "1/2-1/2") (text "1-0" ∷ []) (sym p ∙ m) h)

      pub is_won : v ≡ true → 2 ≡ place_in results w
      is_won l = third (place_first w (text "1-0") [] (sym o ∙ l))

      pub no_result : v ≡ false → 3 ≡ place_in results w
      no_result l = third (place_next w (text "1-0") [] (sym o ∙ l) (place_none w))

-- ---- the ranks, up to the first space
module _ (field : List ℕ) (end : ℕ) (q : end ≡ length (before space field)) (r : Placed) (h : Places (take end field) r) where
  ranks : Places (ranks_of field) r
  ranks = subst (λ (s : List ℕ). Places s r) (ap (λ (k : ℕ). take k field) q ∙ before_take space field) h

  pub placed_ok : {b : Bool} → r.ok ≡ b → are_eight_ranks (ranks_of field) ≡ b
  placed_ok e = sym ranks.ok ∙ e

  pub placed_board : r.ok ≡ true → r.board ≡ board_of (ranks_of field)
  placed_board e = ranks.board ∙ rw (placed_ok e)

-- ---- the two fields of a line
module _ (line : List ℕ) (end : ℕ) (q : end ≡ length (before semicolon line)) where
  pub field_is : (field : List ℕ) → field ≡ trim (take end line) → field ≡ position_field line
  field_is field e = e ∙ ap trim (ap (λ (k : ℕ). take k line) q ∙ before_take semicolon line)

  left : take (length line - (end + 1)) (drop (end + 1) line) ≡ after semicolon line
  left = rest (end + 1) line ∙ ap (λ (k : ℕ). drop k line) (add-one end ∙ ap suc q) ∙ after_drop semicolon line

  pub result_is : (next : ℕ) → next ≡ length (before semicolon (take (length line - (end + 1)) (drop (end + 1) line)))
      → (result : List ℕ) → result ≡ trim (take next (take (length line - (end + 1)) (drop (end + 1) line))) → result ≡ result_field line
  result_is next p result e =
      e ∙ ap trim (ap (λ (k : ℕ). take k (take (length line - (end + 1)) (drop (end + 1) line))) p
      ∙ before_take semicolon (take (length line - (end + 1)) (drop (end + 1) line)) ∙ ap (before semicolon) left)
