-- What a door returns for a square, a colour and a piece, and what it refuses: one law for each return. Assumes nothing.
use mathlib.Core.Path.{◌≡◌, sym, ap, ◌∙◌}
use mathlib.Core.Bool.{Bool, true, false, and-false}
use Prim.Native.Nat.{ℕ, ◌<◌, ◌≤◌}
use borrow.Author.Tests.{lt-ltb, le-ltb, le-leb, lt-leb}
use Rattle.refusal.specs.Answer.{Answer, given, or_refuse, refusal_of}
use Rattle.chess.specs.Codes.{is_piece, kind_of, colour_of}
use Rattle.refusal.specs.declared.Refusal.TheVariants as R
use Rattle.bits.specs.Answers.{on_board}
use Rattle.attack.specs.Attacks.{attacks}
use Rattle.attack.specs.Answers.{piece_attacks_of, with_colour}

-- ---- a square
pub off_board : {A : Type 0} (s : ℕ) (a : A) → 64 ≤ s → refusal_of R.Square ≡ on_board s a
off_board s a h = sym (ap (λ (t : Bool). or_refuse t R.Square (given a)) (le-ltb s 64 h))

pub on_board_holds : {A : Type 0} (s : ℕ) (a b : A) → s < 64 → b ≡ a → given b ≡ on_board s a
on_board_holds s a b h e = ap given e ∙ sym (ap (λ (t : Bool). or_refuse t R.Square (given a)) (lt-ltb s 64 h))

-- ---- a colour
pub no_colour : {A : Type 0} (colour : ℕ) (rest : Answer A) → 2 ≤ colour → refusal_of R.Shape ≡ with_colour colour rest
no_colour colour rest h = sym (ap (λ (t : Bool). or_refuse t R.Shape rest) (le-ltb colour 2 h))

pub a_colour : {A : Type 0} (colour : ℕ) (rest : Answer A) → colour < 2 → rest ≡ with_colour colour rest
a_colour colour rest h = sym (ap (λ (t : Bool). or_refuse t R.Shape rest) (lt-ltb colour 2 h))

-- ---- a piece
module _ (code s occ : ℕ) where
  abbrev rest : Answer ℕ
  rest = on_board s (attacks (kind_of code) (colour_of code) s occ)

  shape : (t : Bool) → is_piece code ≡ t → or_refuse t R.Shape rest ≡ piece_attacks_of code s occ
  shape t e = sym (ap (λ (b : Bool). or_refuse b R.Shape rest) e)

  pub below_two : code < 2 → refusal_of R.Shape ≡ piece_attacks_of code s occ
  below_two h = shape false (simp (lt-leb 2 code h))

  pub above_thirteen : 13 < code → refusal_of R.Shape ≡ piece_attacks_of code s occ
  above_thirteen h = shape false (simp (lt-leb code 13 h, and-false))

  a_piece : 2 ≤ code → code ≤ 13 → rest ≡ piece_attacks_of code s occ
  a_piece l h = shape true (simp (le-leb 2 code l, le-leb code 13 h))

  pub piece_off : 2 ≤ code → code ≤ 13 → 64 ≤ s → refusal_of R.Square ≡ piece_attacks_of code s occ
  piece_off l h q = off_board s (attacks (kind_of code) (colour_of code) s occ) q ∙ a_piece l h

  pub piece_on : (kind b : ℕ) → 2 ≤ code → code ≤ 13 → s < 64 → kind ≡ kind_of code → b ≡ attacks kind (colour_of code) s occ
      → given b ≡ piece_attacks_of code s occ
  piece_on kind b l h q e a =
      on_board_holds s (attacks (kind_of code) (colour_of code) s occ) b q (a ∙ ap (λ (k : ℕ). attacks k (colour_of code) s occ) e) ∙ a_piece l h
