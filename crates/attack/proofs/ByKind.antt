-- What a number attacks, kind by kind, as the code finds it. Assumes nothing.
use mathlib.Core.Path.{◌≡◌, refl, sym, ap, ◌∙◌}
use mathlib.Core.Bool.{Bool, cond, and-false}
use mathlib.Core.List.{List, [], ◌++◌}
use Prim.Native.Nat.{ℕ, zero, suc}
use lib.Dec.{ltb}
use lib.ListN.{get_or}
use Rattle.bits.specs.Bitboard.{board}
use Rattle.attack_rays.specs.Rays.{seen, straight, slanted}
use Rattle.attack_steps.specs.Steps.{step_in, steps_of, reached, pawn_steps, knight_steps, king_steps}
use Rattle.attack_steps.proofs.Tables.{reached_none}
use Rattle.attack.specs.Attacks.{attacks_by, attacks}
use Rattle.attack.proofs.Lent.{pawn_steps_holds}
use Rattle.attack.specs.PrivateLent.{pawn_row, step_row, attacks_with}

-- ---- the row of a kind
pub row_pawn : (kind colour r : ℕ) → kind ≡ 0 → r ≡ pawn_row colour → r ≡ step_row kind colour
row_pawn kind colour r e h = h ∙ sym (ap (λ (k : ℕ). step_row k colour) e)

pub row_none : (kind colour : ℕ) → (kind ≡ 0 → ⊥) → (kind ≡ 1 → ⊥) → (kind ≡ 5 → ⊥) → 4 ≡ step_row kind colour
row_none zero colour p n k = absurd (p refl)
row_none (suc zero) colour p n k = absurd (n refl)
row_none (suc (suc zero)) colour p n k = refl
row_none (suc (suc (suc zero))) colour p n k = refl
row_none (suc (suc (suc (suc zero)))) colour p n k = refl
row_none (suc (suc (suc (suc (suc zero))))) colour p n k = absurd (k refl)
row_none (suc (suc (suc (suc (suc (suc kind)))))) colour p n k = refl

-- ---- a kind by the three sliders, and any other number by its row
module _ (pawn knight king colour s occ : ℕ) where
  abbrev here : ℕ → ℕ
  here = λ k. attacks_by pawn knight king k s occ

  pub slides : (kind k b : ℕ) → kind ≡ k → b ≡ here k → b ≡ here kind
  slides kind k b e h = h ∙ sym (ap here e)

  -- f is what a row gives
  walks : (f : ℕ → ℕ) → f (pawn_row colour) ≡ pawn → f 2 ≡ knight → f 3 ≡ king → f 4 ≡ 0
      → (kind : ℕ) → (kind ≡ 2 → ⊥) → (kind ≡ 3 → ⊥) → (kind ≡ 4 → ⊥) → f (step_row kind colour) ≡ here kind
  walks f p n k z zero b r q = p
  walks f p n k z (suc zero) b r q = n
  walks f p n k z (suc (suc zero)) b r q = absurd (b refl)
  walks f p n k z (suc (suc (suc zero))) b r q = absurd (r refl)
  walks f p n k z (suc (suc (suc (suc zero)))) b r q = absurd (q refl)
  walks f p n k z (suc (suc (suc (suc (suc zero))))) b r q = k
  walks f p n k z (suc (suc (suc (suc (suc (suc kind)))))) b r q = z

-- with the tables lent
module _ (tables : List (List ℕ)) (kind colour s occ b : ℕ) where
  pub bishops : kind ≡ 2 → b ≡ board (seen slanted s occ) → b ≡ attacks_with tables kind colour s occ
  unfolding attacks_with
  bishops = slides (step_in tables (pawn_row colour) s) (step_in tables 2 s) (step_in tables 3 s) colour s occ kind 2 b

  pub rooks : kind ≡ 3 → b ≡ board (seen straight s occ) → b ≡ attacks_with tables kind colour s occ
  unfolding attacks_with
  rooks = slides (step_in tables (pawn_row colour) s) (step_in tables 2 s) (step_in tables 3 s) colour s occ kind 3 b

  pub queens : kind ≡ 4 → b ≡ board (seen (straight ++ slanted) s occ) → b ≡ attacks_with tables kind colour s occ
  unfolding attacks_with
  queens = slides (step_in tables (pawn_row colour) s) (step_in tables 2 s) (step_in tables 3 s) colour s occ kind 4 b

  pub others : (row : ℕ) → (kind ≡ 2 → ⊥) → (kind ≡ 3 → ⊥) → (kind ≡ 4 → ⊥) → row ≡ step_row kind colour → b ≡ step_in tables row s
      → b ≡ attacks_with tables kind colour s occ
  unfolding attacks_with
  others row hb hr hq e h =
      h ∙ ap (λ (x : ℕ). step_in tables x s) e
      ∙ walks (step_in tables (pawn_row colour) s) (step_in tables 2 s) (step_in tables 3 s) colour s occ (λ x. step_in tables x s) refl refl refl
      (ap (λ (t : Bool). cond t (get_or (get_or tables 4 []) s 0) 0) (and-false (ltb s 64))) kind hb hr hq

-- with 01's own steps
module _ (kind colour s occ b : ℕ) where
  pub bishop : kind ≡ 2 → b ≡ board (seen slanted s occ) → b ≡ attacks kind colour s occ
  unfolding attacks
  bishop = slides (reached (pawn_steps colour) s) (reached knight_steps s) (reached king_steps s) colour s occ kind 2 b

  pub rook : kind ≡ 3 → b ≡ board (seen straight s occ) → b ≡ attacks kind colour s occ
  unfolding attacks
  rook = slides (reached (pawn_steps colour) s) (reached knight_steps s) (reached king_steps s) colour s occ kind 3 b

  pub queen : kind ≡ 4 → b ≡ board (seen (straight ++ slanted) s occ) → b ≡ attacks kind colour s occ
  unfolding attacks
  queen = slides (reached (pawn_steps colour) s) (reached knight_steps s) (reached king_steps s) colour s occ kind 4 b

  pub other_kind : (row : ℕ) → (kind ≡ 2 → ⊥) → (kind ≡ 3 → ⊥) → (kind ≡ 4 → ⊥) → row ≡ step_row kind colour → b ≡ reached (steps_of row) s
      → b ≡ attacks kind colour s occ
  unfolding attacks
  other_kind row hb hr hq e h =
      h ∙ ap (λ (x : ℕ). reached (steps_of x) s) e
      ∙ walks (reached (pawn_steps colour) s) (reached knight_steps s) (reached king_steps s) colour s occ (λ x. reached (steps_of x) s) pawn refl refl
      (reached_none s) kind hb hr hq
    where
      pawn : reached (steps_of (pawn_row colour)) s ≡ reached (pawn_steps colour) s
      pawn = ap (λ ds. reached ds s) (pawn_steps_holds colour)
