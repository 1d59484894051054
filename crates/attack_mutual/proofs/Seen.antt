-- Which squares of a way are seen: k stands on it, and none before k is occupied. Assumes nothing.
use mathlib.Core.Path.{◌≡◌, refl, sym, ap, ◌∙◌}
use mathlib.Core.Bool.{Bool, true, false, not, cond, ◌||◌, ◌&&◌}
use mathlib.Core.Bool
use mathlib.Core.List.{List, [], ◌∷◌}
use Prim.Native.Nat.{ℕ}
use lib.Dec.{eqb}
use Rattle.bits.specs.Bitboard.{has, is_in}
use Rattle.attack_rays.specs.Rays.{through}

-- the squares of a list before k
unfoldable pub before : ℕ → List ℕ → List ℕ
before k [] = []
before k (q ∷ l) =
    let later : List ℕ = before k l in
    cond (eqb k q) [] (q ∷ later)

-- none of the squares is occupied
unfoldable pub clear : ℕ → List ℕ → Bool
unfolding has
clear occ [] = true
clear occ (q ∷ l) = not (has occ q) && clear occ l

pub clear_none : (occ : ℕ) → clear occ [] ≡ true
unfolding clear
clear_none occ = refl

pub sees : (k occ : ℕ) (l : List ℕ) → is_in k (through occ l) ≡ (is_in k l && clear occ (before k l))
unfolding is_in through before clear
sees k occ [] = refl
sees k occ (q ∷ l) = go (eqb k q) (sees k occ l)
  where
    on : (o : Bool) → is_in k (through occ l) ≡ (is_in k l && clear occ (before k l))
        → is_in k (cond o [] (through occ l)) ≡ (is_in k l && (not o && clear occ (before k l)))
    on true h = sym (Bool.and-false (is_in k l))
    on false h = h

    go : (t : Bool) → is_in k (through occ l) ≡ (is_in k l && clear occ (before k l))
        → (t || is_in k (cond (has occ q) [] (through occ l))) ≡ ((t || is_in k l) && clear occ (cond t [] (q ∷ before k l)))
    go true h = refl
    go false h = on (has occ q) h

-- the other way round, the same squares are clear
unfoldable pub reverse_onto : List ℕ → List ℕ → List ℕ
reverse_onto [] m = m
reverse_onto (q ∷ l) m = reverse_onto l (q ∷ m)

clear_onto : (occ : ℕ) (l m : List ℕ) → clear occ (reverse_onto l m) ≡ (clear occ l && clear occ m)
unfolding clear reverse_onto
clear_onto occ [] m = refl
clear_onto occ (q ∷ l) m = clear_onto occ l (q ∷ m) ∙ swap (not (has occ q)) (clear occ l) (clear occ m)
  where
    swap : (a b c : Bool) → (b && (a && c)) ≡ ((a && b) && c)
    swap true b c = refl
    swap false true c = refl
    swap false false c = refl

pub clear_back : (occ : ℕ) (l : List ℕ) → clear occ (reverse_onto l []) ≡ clear occ l
clear_back occ l = clear_onto occ l [] ∙ ap (λ (t : Bool). clear occ l && t) (clear_none occ) ∙ Bool.and-true (clear occ l)
