-- A way whose squares rise: what is seen on it, by the squares before. Assumes nothing.
use Rattle.std.proofs.Common.{◌≡◌, ℕ, ◌<◌, Bool, true, false, cond, ◌&&◌, T, eqb, ltb, ◌⊎◌, List, [], ◌∷◌, sym, refl, ap, ◌∙◌, subst, inl, inr, ⊎_elim, lt_trans, arith, eqb→eq, ltb→lt}
use lib.Dec.{eqb_refl}
use Rattle.bits.specs.Bitboard.{has, is_in}
use Rattle.laws.proofs.Truth.{and_l, and_r, or_case, or_l, or_r}
use Rattle.attack_rays.specs.Rays.{through}

-- the squares of a list rise from above s
abbrev pub rises : ℕ → List ℕ → Bool
rises s [] = true
rises s (q ∷ qs) = ltb s q && rises q qs

-- each square of the list is above s
pub above : (s q : ℕ) (l : List ℕ) → T (rises s l) → T (is_in q l) → s < q
unfolding is_in
above s q [] r i = absurd i
above s q (p ∷ ps) r i =
    let h : s < p = ltb→lt s p (and_l (ltb s p) (rises p ps) r) in
    ⊎_elim (λ e. subst (λ (x : ℕ). s < x) (sym (eqb→eq q p e)) h) (λ t. lt_trans h (above p q ps (and_r (ltb s p) (rises p ps) r) t))
    (or_case (eqb q p) (is_in q ps) i)

-- no square of the list before k is occupied
abbrev pub Free : ℕ → ℕ → List ℕ → Type 0
Free occ k l = (q : ℕ) → T (is_in q l) → q < k → has occ q ≡ false

-- what is seen stands in the list, and nothing before it is occupied
pub seen_is : (occ s k : ℕ) (l : List ℕ) → T (rises s l) → T (is_in k (through occ l)) → T (is_in k l) × Free occ k l
unfolding is_in through
seen_is occ s k [] r i = absurd i
seen_is occ s k (p ∷ ps) r i = go (has occ p) refl (or_case (eqb k p) (is_in k (cond (has occ p) [] (through occ ps))) i)
    (λ t. seen_is occ p k ps (and_r (ltb s p) (rises p ps) r) t)
  where
    rr : T (rises p ps)
    rr = and_r (ltb s p) (rises p ps) r

    go : (b : Bool) → has occ p ≡ b → T (eqb k p) ⊎ T (is_in k (cond (has occ p) [] (through occ ps)))
        → (T (is_in k (through occ ps)) → T (is_in k ps) × Free occ k ps) → T (is_in k (p ∷ ps)) × Free occ k (p ∷ ps)
    go b e (inl t) ih = (
      or_l (eqb k p) (is_in k ps) t,
      λ q iq l. ⊎_elim (λ u. absurd (omega (arith, eqb→eq q p u, eqb→eq k p t))) (λ u. absurd (omega (arith, above p q ps rr u, eqb→eq k p t)))
          (or_case (eqb q p) (is_in q ps) iq),
    )
    go true e (inr t) ih = absurd (subst (λ (b : Bool). T (is_in k (cond b [] (through occ ps)))) e t)
    go false e (inr t) ih =
        let w = ih (subst (λ (b : Bool). T (is_in k (cond b [] (through occ ps)))) e t) in (
          or_r (eqb k p) (is_in k ps) w.0,
          λ q iq l. ⊎_elim (λ u. ap (has occ) (eqb→eq q p u) ∙ e) (λ u. w.1 q u l) (or_case (eqb q p) (is_in q ps) iq),
        )

pub is_seen : (occ s k : ℕ) (l : List ℕ) → T (rises s l) → T (is_in k l) → Free occ k l → T (is_in k (through occ l))
unfolding is_in through
is_seen occ s k [] r i f = absurd i
is_seen occ s k (p ∷ ps) r i f =
    ⊎_elim (λ t. or_l (eqb k p) (is_in k (cond (has occ p) [] (through occ ps))) t)
    (λ t.
    let rr : T (rises p ps) = and_r (ltb s p) (rises p ps) r in
    let e : has occ p ≡ false = f p (or_l (eqb p p) (is_in p ps) (eqb_refl p)) (above p k ps rr t) in
    or_r (eqb k p) (is_in k (cond (has occ p) [] (through occ ps)))
    (subst (λ (b : Bool). T (is_in k (cond b [] (through occ ps)))) (sym e) (is_seen occ p k ps rr t (λ q iq l. f q (or_r (eqb q p) (is_in q ps) iq) l))))
    (or_case (eqb k p) (is_in k ps) i)
