-- A ray leads back: a slider on s sees k exactly where one on k sees s, in the same occupancy. The way back from each square of a way leads to where
-- the way began, over the same squares: one test over the 1,456 squares of all ways. Assumes nothing.
use mathlib.Core.Path.{◌≡◌, refl, sym, ap, ap₂, ◌∙◌, subst}
use mathlib.Core.Bool.{Bool, true, false, not, ◌||◌, ◌&&◌}
use mathlib.Core.List.{List, [], ◌∷◌}
use Prim.Native.Nat.{ℕ, ◌+◌, ◌%◌, ◌<◌}
use native.Mathlib.Omega.{arith}
use lib.Dec.{T, eqb}
use borrow.Author.Tests.{eqb-true}
use Rattle.laws.specs.Tests.{all_below2}
use Rattle.laws.proofs.Tests.{all2_at, same, is_same}
use Rattle.laws.proofs.Truth.{iff, and_l, and_r, and_i, not_e}
use Rattle.bits.specs.Bitboard.{has, is_in, board}
use Rattle.bits.proofs.Lists.{has_board, in_append}
use Rattle.attack_steps.specs.Steps.{Step}
use Rattle.attack_rays.specs.Rays.{onward, path, through, seen, straight, slanted, dir_of}
use Rattle.attack_mutual.proofs.Seen.{before, clear, sees, reverse_onto, clear_back}

-- the way from s in a direction
abbrev way : ℕ → ℕ → List ℕ
way d s = path (dir_of d) (onward (dir_of d) s)

abbrev opposite : ℕ → ℕ
opposite d = (d + 4) % 8

-- ---- a test over the squares of a list
unfoldable all_of : List ℕ → (ℕ → Bool) → Bool
all_of [] f = true
all_of (q ∷ l) f = f q && all_of l f

all_in : (l : List ℕ) (f : ℕ → Bool) → T (all_of l f) → (k : ℕ) → T (is_in k l) → T (f k)
unfolding all_of is_in
all_in [] f t k e = absurd e
all_in (q ∷ l) f t k e = go (eqb k q) refl e (all_in l f (and_r (f q) (all_of l f) t) k)
  where
    go : (b : Bool) → eqb k q ≡ b → T (b || is_in k l) → (T (is_in k l) → T (f k)) → T (f k)
    go true q' e' h = subst (λ (x : ℕ). T (f x)) (sym (eqb-true k q q')) (and_l (f q) (all_of l f) t)
    go false q' e' h = h e'

-- ---- from each square of the way the way back leads to s, over the squares between, the other way round
abbrev leads_back : ℕ → ℕ → ℕ → Bool
leads_back d s k = is_in s (way (opposite d) k) && same (reverse_onto (before k (way d s)) []) (before s (way (opposite d) k))

returns : (d s : ℕ) → d < 8 → s < 64 → T (all_of (way d s) (leads_back d s))
unfolding all_of is_in path onward before reverse_onto all_below2
returns d s hd hs = all2_at 8 64 (λ e t. all_of (way e t) (leads_back e t)) tt d s hd hs

there : (d s k occ : ℕ) → d < 8 → s < 64 → T (is_in k (through occ (way d s))) → T (is_in s (through occ (way (opposite d) k)))
there d s k occ hd hs e =
    let l : List ℕ = way d s in
    let m : List ℕ = way (opposite d) k in
    let e' : T (is_in k l && clear occ (before k l)) = subst T (sees k occ l) e in
    let t = all_in l (leads_back d s) (returns d s hd hs) k (and_l (is_in k l) (clear occ (before k l)) e') in
    let back : T (is_in s m) = and_l (is_in s m) (same (reverse_onto (before k l) []) (before s m)) t in
    let q : reverse_onto (before k l) [] ≡ before s m = is_same (reverse_onto (before k l) []) (before s m)
    (and_r (is_in s m) (same (reverse_onto (before k l) []) (before s m)) t) in
    let free : clear occ (before k l) ≡ clear occ (before s m) = sym (clear_back occ (before k l)) ∙ ap (clear occ) q in
    subst T (sym (sees s occ m)) (and_i (is_in s m) (clear occ (before s m)) back (subst T free (and_r (is_in k l) (clear occ (before k l)) e')))

-- two opposite directions
ray_back : (d e s k occ : ℕ) → d < 8 → e < 8 → opposite d ≡ e → opposite e ≡ d → s < 64 → k < 64
    → is_in k (through occ (way d s)) ≡ is_in s (through occ (way e k))
ray_back d e s k occ hd he de ed hs hk =
    iff (is_in k (through occ (way d s))) (is_in s (through occ (way e k)))
    (λ t. subst (λ (x : ℕ). T (is_in s (through occ (way x k)))) de (there d s k occ hd hs t))
    (λ t. subst (λ (x : ℕ). T (is_in k (through occ (way x s)))) ed (there e k s occ he hk t))

-- ---- a slider on four directions, a opposite to c and b to d
four_in : (a b c d : Step) (s k occ : ℕ) → is_in k (seen (a ∷ b ∷ c ∷ d ∷ []) s occ)
    ≡ (is_in k (through occ (path a (onward a s))) || (is_in k (through occ (path b (onward b s)))
    || (is_in k (through occ (path c (onward c s))) || (is_in k (through occ (path d (onward d s))) || false))))
unfolding seen is_in
four_in a b c d s k occ = simp in_append

turn : (a b c d : Bool) → (a || (b || (c || (d || false)))) ≡ (c || (d || (a || (b || false))))
turn true b true d = refl
turn true b false true = refl
turn true b false false = refl
turn false true true d = refl
turn false true false true = refl
turn false true false false = refl
turn false false true true = refl
turn false false true false = refl
turn false false false true = refl
turn false false false false = refl

slider_back : (a b c d : ℕ) → a < 8 → b < 8 → c < 8 → d < 8 → opposite a ≡ c → opposite c ≡ a → opposite b ≡ d → opposite d ≡ b → (s k occ : ℕ)
    → s < 64 → k < 64
    → has (board (seen (dir_of a ∷ dir_of b ∷ dir_of c ∷ dir_of d ∷ []) s occ)) k ≡ has (board (seen (dir_of a ∷ dir_of b ∷ dir_of c ∷ dir_of d ∷ []) k occ)) s
slider_back a b c d ha hb hc hd ac ca bd db s k occ hs hk =
    has_board (seen (dir_of a ∷ dir_of b ∷ dir_of c ∷ dir_of d ∷ []) s occ) k hk
    ∙ four_in (dir_of a) (dir_of b) (dir_of c) (dir_of d) s k occ
    ∙ ap₂ (λ (x y : Bool). x || y) (ray_back a c s k occ ha hc ac ca hs hk)
    (ap₂ (λ (x y : Bool). x || y) (ray_back b d s k occ hb hd bd db hs hk)
    (ap₂ (λ (x y : Bool). x || (y || false)) (ray_back c a s k occ hc ha ca ac hs hk) (ray_back d b s k occ hd hb db bd hs hk)))
    ∙ turn (is_in s (through occ (way c k))) (is_in s (through occ (way d k))) (is_in s (through occ (way a k))) (is_in s (through occ (way b k)))
    ∙ sym (four_in (dir_of a) (dir_of b) (dir_of c) (dir_of d) k s occ)
    ∙ sym (has_board (seen (dir_of a ∷ dir_of b ∷ dir_of c ∷ dir_of d ∷ []) k occ) s hs)

pub straight_back : (s k occ : ℕ) → s < 64 → k < 64 → has (board (seen straight s occ)) k ≡ has (board (seen straight k occ)) s
straight_back = slider_back 0 1 4 5 (omega arith) (omega arith) (omega arith) (omega arith) refl refl refl refl

pub slanted_back : (s k occ : ℕ) → s < 64 → k < 64 → has (board (seen slanted s occ)) k ≡ has (board (seen slanted k occ)) s
slanted_back = slider_back 2 3 6 7 (omega arith) (omega arith) (omega arith) (omega arith) refl refl refl refl

-- ---- and no way comes by the square where it began
unseen : (d s occ : ℕ) → d < 8 → s < 64 → is_in s (through occ (way d s)) ≡ false
unfolding is_in path onward all_below2
unseen d s occ hd hs =
    sees s occ (way d s)
    ∙ ap (λ (t : Bool). t && clear occ (before s (way d s))) (not_e (is_in s (way d s)) (all2_at 8 64 (λ e t. not (is_in t (way e t))) tt d s hd hs))

slider_leaves : (a b c d s occ : ℕ) → a < 8 → b < 8 → c < 8 → d < 8 → s < 64 → has (board (seen (dir_of a ∷ dir_of b ∷ dir_of c ∷ dir_of d ∷ []) s occ)) s ≡ false
slider_leaves a b c d s occ ha hb hc hd hs =
    has_board (seen (dir_of a ∷ dir_of b ∷ dir_of c ∷ dir_of d ∷ []) s occ) s hs
    ∙ four_in (dir_of a) (dir_of b) (dir_of c) (dir_of d) s s occ
    ∙ ap₂ (λ (x y : Bool). x || y) (unseen a s occ ha hs)
    (ap₂ (λ (x y : Bool). x || y) (unseen b s occ hb hs) (ap₂ (λ (x y : Bool). x || (y || false)) (unseen c s occ hc hs) (unseen d s occ hd hs)))

pub straight_leaves : (s occ : ℕ) → s < 64 → has (board (seen straight s occ)) s ≡ false
straight_leaves s occ = slider_leaves 0 1 4 5 s occ (omega arith) (omega arith) (omega arith) (omega arith)

pub slanted_leaves : (s occ : ℕ) → s < 64 → has (board (seen slanted s occ)) s ≡ false
slanted_leaves s occ = slider_leaves 2 3 6 7 s occ (omega arith) (omega arith) (omega arith) (omega arith)
