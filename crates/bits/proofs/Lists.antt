-- The bitboard of a list of squares. Assumes nothing.
use mathlib.Core.Path.{◌≡◌, refl, sym, ap, ap₂, ◌∙◌}
use mathlib.Core.Bool.{Bool, ◌||◌}
use mathlib.Core.Bool
use mathlib.Core.List.{List, [], ◌∷◌, ◌++◌}
use Prim.Native.Nat.{ℕ, ◌^◌, ◌<◌}
use lib.Dec.{eqb}
use lib.Bits.{or_lt, bit_or}
use Rattle.bits.specs.Bitboard.{has, is_in, board}
use Rattle.bits.proofs.Digits.{has_or, ext}
use Rattle.bits.proofs.Those.{those_lt, has_those, is_those}

-- ---- the bitboard of a list
pub board_nil : board [] ≡ 0
unfolding board
board_nil = refl

pub board_lt : (qs : List ℕ) → board qs < 2 ^ 64
unfolding board
board_lt qs = those_lt 64 (λ k. is_in k qs)

pub has_board : (qs : List ℕ) (k : ℕ) → k < 64 → has (board qs) k ≡ is_in k qs
unfolding board
has_board qs k h = has_those 64 (λ j. is_in j qs) k h

pub is_board : (a : ℕ) (qs : List ℕ) → a < 2 ^ 64 → ((k : ℕ) → k < 64 → has a k ≡ is_in k qs) → a ≡ board qs
unfolding board
is_board a qs h e = is_those a (λ k. is_in k qs) h e

pub or_assoc : (a b c : ℕ) → a < 2 ^ 64 → b < 2 ^ 64 → c < 2 ^ 64 → bit_or (bit_or a b) c ≡ bit_or a (bit_or b c)
or_assoc a b c ha hb hc =
    ext 64 (bit_or (bit_or a b) c) (bit_or a (bit_or b c)) (or_lt 64 (bit_or a b) c (or_lt 64 a b ha hb) hc) (or_lt 64 a (bit_or b c) ha (or_lt 64 b c hb hc))
    (λ k h. has_or (bit_or a b) c k ∙ ap (λ (t : Bool). t || has c k) (has_or a b k) ∙ Bool.or_assoc (has a k) (has b k) (has c k)
    ∙ ap (λ (t : Bool). has a k || t) (sym (has_or b c k)) ∙ sym (has_or a (bit_or b c) k))

-- ---- two lists one after the other
pub in_append : (k : ℕ) (a b : List ℕ) → is_in k (a ++ b) ≡ (is_in k a || is_in k b)
unfolding is_in
in_append k [] b = refl
in_append k (q ∷ a) b = ap (λ (t : Bool). eqb k q || t) (in_append k a b) ∙ sym (Bool.or_assoc (eqb k q) (is_in k a) (is_in k b))

pub board_append : (a b : List ℕ) → board (a ++ b) ≡ bit_or (board a) (board b)
board_append a b =
    sym (is_board (bit_or (board a) (board b)) (a ++ b) (or_lt 64 (board a) (board b) (board_lt a) (board_lt b))
    (λ k h. has_or (board a) (board b) k ∙ ap₂ (λ (s t : Bool). s || t) (has_board a k h) (has_board b k h) ∙ sym (in_append k a b)))
