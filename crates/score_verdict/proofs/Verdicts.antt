-- Each end of the verdict is one of these lines. Assumes nothing.
use mathlib.Core.Path.{◌≡◌, sym, ap, ap₂, ◌∙◌}
use mathlib.Core.Bool.{Bool, true, false, cond, ◌&&◌}
use mathlib.Core.List.{List}
use Prim.Native.Nat.{ℕ, ◌+◌, ◌<◌, ◌≤◌}
use borrow.Author.Tests.{eq-eqb, ne_eqb, lt-ltb, le-ltb}
use lib.Dec.{eqb, ltb}
use Rattle.score_material.specs.Pieces.{count, pieces}
use Rattle.score_verdict.specs.Verdict.{Verdict, lost, won, drawn, none, to_move, few_kings, heavy, bare, verdict_of}

-- ---- the side to move
pub white_moves : (side : ℕ) → side ≡ 0 → 0 ≡ to_move side
white_moves side e = sym (ap (λ (t : Bool). cond t 0 1) (eq-eqb side 0 e))

pub black_moves : (side : ℕ) → (side ≡ 0 → ⊥) → 1 ≡ to_move side
black_moves side n = sym (ap (λ (t : Bool). cond t 0 1) (ne_eqb side 0 n))

-- ---- the verdict
module _ (bbs : List ℕ) where
  pub heavy_of : (a b c d e f : ℕ) → a ≡ count bbs 0 0 → b ≡ count bbs 0 1 → c ≡ count bbs 3 0 → d ≡ count bbs 3 1 → e ≡ count bbs 4 0 → f ≡ count bbs 4 1
      → a + b + (c + d) + (e + f) ≡ heavy bbs
  unfolding heavy
  heavy_of a b c d e f p q r s t u = cc

  kings : (a b : ℕ) → a ≡ count bbs 5 0 → b ≡ count bbs 5 1 → ltb (a + b) 2 ≡ few_kings bbs
  unfolding few_kings
  kings a b p q = ap₂ (λ (x y : ℕ). ltb (x + y) 2) p q

  pub few_kings_holds : (a b : ℕ) → a ≡ count bbs 5 0 → b ≡ count bbs 5 1 → a + b < 2 → few_kings bbs ≡ true
  few_kings_holds a b p q h = sym (kings a b p q) ∙ lt-ltb (a + b) 2 h

  pub two_kings_holds : (a b : ℕ) → a ≡ count bbs 5 0 → b ≡ count bbs 5 1 → 2 ≤ a + b → few_kings bbs ≡ false
  two_kings_holds a b p q h = sym (kings a b p q) ∙ le-ltb (a + b) 2 h

  pub many : (x : ℕ) → x ≡ pieces bbs → 4 ≤ x → bare bbs ≡ false
  unfolding bare
  many x e h = ap (λ (t : Bool). t && eqb (heavy bbs) 0) (ap (λ (n : ℕ). ltb n 4) (sym e) ∙ le-ltb x 4 h)

  pub some_heavy : (x n : ℕ) → x ≡ pieces bbs → x < 4 → n ≡ heavy bbs → (n ≡ 0 → ⊥) → bare bbs ≡ false
  unfolding bare
  some_heavy x n e h f m = ap₂ ◌&&◌ (ap (λ (k : ℕ). ltb k 4) (sym e) ∙ lt-ltb x 4 h) (ap (λ (k : ℕ). eqb k 0) (sym f) ∙ ne_eqb n 0 m)

  pub no_heavy : (x n : ℕ) → x ≡ pieces bbs → x < 4 → n ≡ heavy bbs → n ≡ 0 → bare bbs ≡ true
  unfolding bare
  no_heavy x n e h f m = ap₂ ◌&&◌ (ap (λ (k : ℕ). ltb k 4) (sym e) ∙ lt-ltb x 4 h) (ap (λ (k : ℕ). eqb k 0) (sym f) ∙ eq-eqb n 0 m)

  module _ (side : ℕ) where
    chosen : Bool → Bool → Bool → Verdict
    chosen a b c = cond a (cond b lost won) (cond c drawn none)

    king : Bool
    king = eqb (count bbs 5 (to_move side)) 0

    pub is_lost : few_kings bbs ≡ true → count bbs 5 (to_move side) ≡ 0 → lost ≡ verdict_of bbs side
    unfolding verdict_of chosen king
    is_lost k n = sym (ap₂ (λ (a b : Bool). chosen a b (bare bbs)) k (eq-eqb (count bbs 5 (to_move side)) 0 n))

    pub is_won : few_kings bbs ≡ true → (count bbs 5 (to_move side) ≡ 0 → ⊥) → won ≡ verdict_of bbs side
    unfolding verdict_of chosen king
    is_won k n = sym (ap₂ (λ (a b : Bool). chosen a b (bare bbs)) k (ne_eqb (count bbs 5 (to_move side)) 0 n))

    pub is_drawn : few_kings bbs ≡ false → bare bbs ≡ true → drawn ≡ verdict_of bbs side
    unfolding verdict_of chosen king
    is_drawn k b = sym (ap₂ (λ (a c : Bool). chosen a king c) k b)

    pub is_none : few_kings bbs ≡ false → bare bbs ≡ false → none ≡ verdict_of bbs side
    unfolding verdict_of chosen king
    is_none k b = sym (ap₂ (λ (a c : Bool). chosen a king c) k b)
