-- `attacks_to` and `piece_attacks` agree: a piece on s attacks t exactly where s stands among the attackers of t by that piece, for all twelve codes. Each
-- step and each ray is the same there and back; which of the six sets counts for a code is one test over the codes. Assumes nothing.
use mathlib.Core.Path.{◌≡◌, refl, sym, ap₂, ◌∙◌}
use mathlib.Core.Bool.{Bool, true, false, cond, ◌||◌, ◌&&◌, beq}
use mathlib.Core.List.{List, [], ◌∷◌, ◌++◌, map}
use Prim.Native.Nat.{ℕ, zero, suc, ◌<◌}
use native.Mathlib.Omega.{arith}
use lib.Dec.{T, eqb}
use lib.ListN.{get_or}
use Rattle.laws.specs.Tests.{all_below}
use Rattle.laws.proofs.Tests.{all_at}
use Rattle.laws.proofs.Truth.{and_l, and_r, is_beq}
use Rattle.chess.specs.Codes.{is_piece, kind_of, colour_of}
use Rattle.bits.specs.Bitboard.{has, board}
use Rattle.bits.proofs.Digits.{has_zero}
use Rattle.bits.proofs.Those.{has_those}
use Rattle.position_boards.specs.Sound.{on}
use Rattle.position_consistent.specs.Consistent.{consistent}
use Rattle.position_boards.proofs.Apart.{code_to}
use Rattle.position_consistent.proofs.Parts.{board_by_byte}
use Rattle.attack_steps.specs.Steps.{reached, pawn_steps, knight_steps, king_steps, white_pawn_steps, black_pawn_steps}
use Rattle.attack_mutual.proofs.Steps.{pawn_back, knight_back, king_back}
use Rattle.attack_rays.specs.Rays.{seen, straight, slanted}
use Rattle.attack_mutual.proofs.Rays.{straight_back, slanted_back}
use Rattle.attack_rays.proofs.Union.{has_queen}
use Rattle.attack.specs.Attacks.{attacks}
use Rattle.attack_to.specs.Attackers.{attacking, attackers}

-- ---- both ways in Bools: whether t is among the squares of a white pawn, a black pawn, a knight, a king, a bishop and a rook on s
abbrev joined : (Bool → Bool → Bool → Bool → Bool → Bool → ℕ → Bool)
joined w b n k d l code =
    (eqb code 2 && w)
    || ((eqb code 3 && b)
    || (((eqb code 4 || eqb code 5) && n)
    || (((eqb code 6 || eqb code 7) && k)
    || ((((eqb code 8 || eqb code 9) || (eqb code 12 || eqb code 13)) && d)
    || (((eqb code 10 || eqb code 11) || (eqb code 12 || eqb code 13)) && l)))))

abbrev chosen : (Bool → Bool → Bool → Bool → Bool → Bool → ℕ → Bool)
chosen w b n k d l code = get_or (cond (eqb (colour_of code) 0) w b ∷ n ∷ d ∷ l ∷ (l || d) ∷ k ∷ []) (kind_of code) false

-- a test of both Bools
abbrev both : (Bool → Bool) → Bool
both f = f true && f false

both_at : (f : Bool → Bool) → T (both f) → (t : Bool) → T (f t)
both_at f h true = and_l (f true) (f false) h
both_at f h false = and_r (f true) (f false) h

abbrev one : ℕ → Bool → Bool → Bool → Bool → Bool → Bool → Bool
one code w b n k d l = cond (is_piece code) (beq (joined w b n k d l code) (chosen w b n k d l code)) true

abbrev every : ℕ → Bool
every code = both (λ w. both (λ b. both (λ n. both (λ k. both (λ d. both (λ l. one code w b n k d l))))))

codes_agree : (code : ℕ) → T (is_piece code) → (w b n k d l : Bool) → joined w b n k d l code ≡ chosen w b n k d l code
unfolding all_below
codes_agree code p w b n k d l =
    pick (is_piece code) p
    (both_at (one code w b n k d)
    (both_at (λ x. both (one code w b n k x))
    (both_at (λ y. both (λ x. both (one code w b n y x)))
    (both_at (λ z. both (λ y. both (λ x. both (one code w b z y x))))
    (both_at (λ v. both (λ z. both (λ y. both (λ x. both (one code w v z y x)))))
    (both_at (λ u. both (λ v. both (λ z. both (λ y. both (λ x. both (one code u v z y x)))))) (all_at 14 every tt code (omega (arith, code_to code p)))
    w) b) n) k) d) l)
  where
    pick : (t : Bool) → T t → T (cond t (beq (joined w b n k d l code) (chosen w b n k d l code)) true) → joined w b n k d l code ≡ chosen w b n k d l code
    pick true q h = is_beq (joined w b n k d l code) (chosen w b n k d l code) h
    pick false q h = absurd q

-- ---- what a piece attacks, square by square
has_at : (l : List ℕ) (i k : ℕ) → has (get_or l i 0) k ≡ get_or (map (λ b. has b k) l) i false
has_at [] i k = has_zero k
has_at (b ∷ l) zero k = refl
has_at (b ∷ l) (suc i) k = has_at l i k

has_pawn : (colour s t : ℕ) → has (reached (pawn_steps colour) s) t ≡ cond (eqb colour 0) (has (reached white_pawn_steps s) t) (has (reached black_pawn_steps s) t)
has_pawn colour s t = go (eqb colour 0)
  where
    go : (b : Bool) → has (reached (cond b white_pawn_steps black_pawn_steps) s) t ≡ cond b (has (reached white_pawn_steps s) t) (has (reached black_pawn_steps s) t)
    go true = refl
    go false = refl

module _ (s t occ : ℕ) where
  abbrev whites : Bool
  whites = has (reached white_pawn_steps s) t

  abbrev blacks : Bool
  blacks = has (reached black_pawn_steps s) t

  abbrev knights : Bool
  knights = has (reached knight_steps s) t

  abbrev kings : Bool
  kings = has (reached king_steps s) t

  abbrev slants : Bool
  slants = has (board (seen slanted s occ)) t

  abbrev lines : Bool
  lines = has (board (seen straight s occ)) t

  piece_has : (code : ℕ) → has (attacks (kind_of code) (colour_of code) s occ) t ≡ chosen whites blacks knights kings slants lines code
  unfolding attacks
  piece_has code =
      has_at
      (reached (pawn_steps (colour_of code)) s ∷ reached knight_steps s ∷ board (seen slanted s occ) ∷ board (seen straight s occ)
      ∷ board (seen (straight ++ slanted) s occ) ∷ reached king_steps s ∷ [])
      (kind_of code) t
      ∙ ap₂ (λ (p q : Bool). get_or (p ∷ knights ∷ slants ∷ lines ∷ q ∷ kings ∷ []) (kind_of code) false) (has_pawn (colour_of code) s t) (has_queen s occ t)

  -- ---- the attackers of t, square by square, by what attacks from s
  attackers_has : (bbs : List ℕ) → s < 64 → t < 64 → has (attackers bbs t occ) s
      ≡ ((on bbs 2 s && whites)
      || ((on bbs 3 s && blacks)
      || (((on bbs 4 s || on bbs 5 s) && knights)
      || (((on bbs 6 s || on bbs 7 s) && kings)
      || ((((on bbs 8 s || on bbs 9 s) || (on bbs 12 s || on bbs 13 s)) && slants)
      || (((on bbs 10 s || on bbs 11 s) || (on bbs 12 s || on bbs 13 s)) && lines))))))
  unfolding attackers
  attackers_has bbs hs ht =
      has_those 64 (attacking bbs (reached black_pawn_steps t) (reached white_pawn_steps t) (reached knight_steps t) (reached king_steps t)
      (board (seen slanted t occ)) (board (seen straight t occ))) s hs
      ∙ turned (sym (pawn_back s t hs ht)) (pawn_back t s ht hs) (knight_back t s ht hs) (king_back t s ht hs) (slanted_back t s occ ht hs)
      (straight_back t s occ ht hs)
    where
      turned : {p q r u v w p' q' r' u' v' w' : Bool} → p ≡ p' → q ≡ q' → r ≡ r' → u ≡ u' → v ≡ v' → w ≡ w'
          → ((on bbs 2 s && p) || ((on bbs 3 s && q) || (((on bbs 4 s || on bbs 5 s) && r) || (((on bbs 6 s || on bbs 7 s) && u)
          || ((((on bbs 8 s || on bbs 9 s) || (on bbs 12 s || on bbs 13 s)) && v) || (((on bbs 10 s || on bbs 11 s) || (on bbs 12 s || on bbs 13 s)) && w))))))
          ≡ ((on bbs 2 s && p') || ((on bbs 3 s && q') || (((on bbs 4 s || on bbs 5 s) && r') || (((on bbs 6 s || on bbs 7 s) && u')
          || ((((on bbs 8 s || on bbs 9 s) || (on bbs 12 s || on bbs 13 s)) && v')
          || (((on bbs 10 s || on bbs 11 s) || (on bbs 12 s || on bbs 13 s)) && w'))))))
      turned h₁ h₂ h₃ h₄ h₅ h₆ = cc

-- ---- a piece of this code stands on s, and no other
pub record Alone (bbs : List ℕ) (code s : ℕ) : Type 0 where
  pub piece : T (is_piece code)
  pub there : (c : ℕ) → T (is_piece c) → on bbs c s ≡ eqb code c

pub back : (bbs : List ℕ) (code s t occ : ℕ) → Alone bbs code s → s < 64 → t < 64
    → has (attackers bbs t occ) s ≡ has (attacks (kind_of code) (colour_of code) s occ) t
back bbs code s t occ a hs ht =
    attackers_has s t occ bbs hs ht
    ∙ known (a.there 2 tt) (a.there 3 tt) (a.there 4 tt) (a.there 5 tt) (a.there 6 tt) (a.there 7 tt) (a.there 8 tt) (a.there 9 tt)
    (a.there 10 tt) (a.there 11 tt) (a.there 12 tt) (a.there 13 tt)
    ∙ codes_agree code a.piece (whites s t occ) (blacks s t occ) (knights s t occ) (kings s t occ) (slants s t occ) (lines s t occ)
    ∙ sym (piece_has s t occ code)
  where
    known : on bbs 2 s ≡ eqb code 2 → on bbs 3 s ≡ eqb code 3 → on bbs 4 s ≡ eqb code 4 → on bbs 5 s ≡ eqb code 5 → on bbs 6 s ≡ eqb code 6
        → on bbs 7 s ≡ eqb code 7
        → on bbs 8 s ≡ eqb code 8 → on bbs 9 s ≡ eqb code 9 → on bbs 10 s ≡ eqb code 10 → on bbs 11 s ≡ eqb code 11 → on bbs 12 s ≡ eqb code 12
        → on bbs 13 s ≡ eqb code 13
        → ((on bbs 2 s && whites s t occ)
        || ((on bbs 3 s && blacks s t occ)
        || (((on bbs 4 s || on bbs 5 s) && knights s t occ)
        || (((on bbs 6 s || on bbs 7 s) && kings s t occ)
        || ((((on bbs 8 s || on bbs 9 s) || (on bbs 12 s || on bbs 13 s)) && slants s t occ)
        || (((on bbs 10 s || on bbs 11 s) || (on bbs 12 s || on bbs 13 s)) && lines s t occ))))))
        ≡ joined (whites s t occ) (blacks s t occ) (knights s t occ) (kings s t occ) (slants s t occ) (lines s t occ) code
    known h₂ h₃ h₄ h₅ h₆ h₇ h₈ h₉ h₁₀ h₁₁ h₁₂ h₁₃ = cc

-- on a consistent position a byte that is a piece's code stands so
pub stands_alone : (bbs bytes : List ℕ) (s : ℕ) → consistent bbs bytes ≡ true → s < 64 → T (is_piece (get_or bytes s 0)) → Alone bbs (get_or bytes s 0) s
stands_alone bbs bytes s e hs p = record { piece = p; there = board_by_byte bbs bytes e s hs }
