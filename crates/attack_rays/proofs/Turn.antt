-- The board turned half round: a falling way is a rising way turned. Assumes nothing.
use Rattle.std.proofs.Common.{◌≡◌, ℕ, ◌+◌, ◌-◌, ◌^◌, ◌<◌, Bool, true, false, cond, ◌&&◌, ◌||◌, T, eqb, ltb, List, [], ◌∷◌, map, sym, refl, ap, ◌∙◌, subst, ap₂, arith, eqb→eq, ltb→lt}
use lib.Bits.{bit_or}
use lib.Dec.{eqb_refl}
use Rattle.bits.specs.Bitboard.{has, is_in, board}
use Rattle.bits.proofs.Digits.{has_or}
use Rattle.bits.proofs.Lists.{has_board, is_board}
use Rattle.bits.proofs.Those.{has_those, those_lt, those_same, those_or}
use Rattle.attack_rays.specs.Rays.{through, ray_of, dir_of}
use Rattle.laws.proofs.Truth.{and_l, and_r, and_i, iff}
use Rattle.laws.specs.Tests.{all_below2}
use Rattle.laws.proofs.Tests.{all2_at, same, is_same}
use Rattle.attack_rays.specs.PrivateMirror.{mirrored, ahead}
use Rattle.attack_rays.proofs.Rising.{rises}

abbrev pub turned : List ℕ → List ℕ
turned = map (λ q. 63 - q)

-- every square of the list stands on the board
abbrev pub all_on : List ℕ → Bool
all_on [] = true
all_on (q ∷ qs) = ltb q 64 && all_on qs

-- ---- three tests of the four rising ways, which antt computes
pub ahead_rises : (d s : ℕ) → d < 4 → s < 64 → T (rises s (ahead d s))
unfolding ahead all_below2
ahead_rises = all2_at 4 64 (λ d s. rises s (ahead d s)) tt

pub ahead_on : (d s : ℕ) → d < 4 → s < 64 → T (all_on (ahead d s))
unfolding ahead all_below2
ahead_on = all2_at 4 64 (λ d s. all_on (ahead d s)) tt

pub ahead_turned : (d s : ℕ) → d < 4 → s < 64 → ahead (d + 4) s ≡ turned (ahead d (63 - s))
unfolding ahead all_below2
ahead_turned d s hd hs = is_same (ahead (d + 4) s) (turned (ahead d (63 - s)))
    (all2_at 4 64 (λ e t. same (ahead (e + 4) t) (turned (ahead e (63 - t)))) tt d s hd hs)

-- ---- what is seen on a turned way
pub has_mirrored : (x k : ℕ) → k < 64 → has (mirrored x) k ≡ has x (63 - k)
unfolding mirrored
has_mirrored x k h = has_those 64 (λ j. has x (63 - j)) k h

pub mirrored_lt : (x : ℕ) → mirrored x < 2 ^ 64
unfolding mirrored
mirrored_lt x = those_lt 64 (λ k. has x (63 - k))

through_turned : (occ : ℕ) (l : List ℕ) → T (all_on l) → through occ (turned l) ≡ turned (through (mirrored occ) l)
unfolding through
through_turned occ [] t = refl
through_turned occ (q ∷ qs) t =
    let e : has (mirrored occ) q ≡ has occ (63 - q) = has_mirrored occ q (ltb→lt q 64 (and_l (ltb q 64) (all_on qs) t)) in
    ap (λ (l : List ℕ). (63 - q) ∷ cond (has occ (63 - q)) [] l) (through_turned occ qs (and_r (ltb q 64) (all_on qs) t))
    ∙ ap (λ (b : Bool). (63 - q) ∷ cond b [] (turned (through (mirrored occ) qs))) (sym e)
    ∙ ap (λ (l : List ℕ). (63 - q) ∷ l) (move (has (mirrored occ) q) (through (mirrored occ) qs))
  where
    move : (b : Bool) (l : List ℕ) → cond b [] (turned l) ≡ turned (cond b [] l)
    move true l = refl
    move false l = refl

through_on : (occ : ℕ) (l : List ℕ) → T (all_on l) → T (all_on (through occ l))
unfolding through
through_on occ [] t = tt
through_on occ (q ∷ qs) t = and_i (ltb q 64) (all_on (cond (has occ q) [] (through occ qs))) (and_l (ltb q 64) (all_on qs) t)
    (pick (has occ q) (through_on occ qs (and_r (ltb q 64) (all_on qs) t)))
  where
    pick : (b : Bool) → T (all_on (through occ qs)) → T (all_on (cond b [] (through occ qs)))
    pick true u = tt
    pick false u = u

is_in_turned : (k : ℕ) (l : List ℕ) → k < 64 → T (all_on l) → is_in (63 - k) l ≡ is_in k (turned l)
unfolding is_in
is_in_turned k [] h t = refl
is_in_turned k (q ∷ qs) h t =
    let hq : q < 64 = ltb→lt q 64 (and_l (ltb q 64) (all_on qs) t) in
    ap₂ (λ (a b : Bool). a || b)
    (iff (eqb (63 - k) q) (eqb k (63 - q))
    (λ u. let e : k ≡ 63 - q = omega (arith, eqb→eq (63 - k) q u) in subst (λ (x : ℕ). T (eqb k x)) e (eqb_refl k))
    (λ u. let e : 63 - k ≡ q = omega (arith, eqb→eq k (63 - q) u) in subst (λ (x : ℕ). T (eqb (63 - k) x)) e (eqb_refl (63 - k))))
    (is_in_turned k qs h (and_r (ltb q 64) (all_on qs) t))

board_turned : (l : List ℕ) → T (all_on l) → mirrored (board l) ≡ board (turned l)
board_turned l t = is_board (mirrored (board l)) (turned l) (mirrored_lt (board l))
    (λ k h. has_mirrored (board l) k h ∙ has_board l (63 - k) (omega arith) ∙ is_in_turned k l h t)

-- a falling ray is the rising ray of the turned board, turned back
pub ray_ahead : (d s occ : ℕ) → board (through occ (ahead d s)) ≡ ray_of (dir_of d) s occ
unfolding ahead ray_of
ray_ahead d s occ = refl

pub ray_turned : (d s occ : ℕ) → d < 4 → s < 64 → mirrored (ray_of (dir_of d) (63 - s) (mirrored occ)) ≡ ray_of (dir_of (d + 4)) s occ
ray_turned d s occ hd hs =
    let on : T (all_on (ahead d (63 - s))) = ahead_on d (63 - s) hd (omega arith) in
    ap mirrored (sym (ray_ahead d (63 - s) (mirrored occ)))
    ∙ board_turned (through (mirrored occ) (ahead d (63 - s))) (through_on (mirrored occ) (ahead d (63 - s)) on)
    ∙ ap board (sym (through_turned occ (ahead d (63 - s)) on))
    ∙ ap (λ (l : List ℕ). board (through occ l)) (sym (ahead_turned d s hd hs)) ∙ ray_ahead (d + 4) s occ

-- two rays together, turned
pub mirrored_or : (a b : ℕ) → mirrored (bit_or a b) ≡ bit_or (mirrored a) (mirrored b)
unfolding mirrored
mirrored_or a b =
    those_same (λ k. has (bit_or a b) (63 - k)) (λ k. has a (63 - k) || has b (63 - k)) (λ k h. has_or a b (63 - k))
    ∙ sym (those_or (λ k. has a (63 - k)) (λ k. has b (63 - k)))
