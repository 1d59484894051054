-- The first capture as the code works it out: who promotes, where the passed pawn stood, and what is listed from there on. Assumes nothing.
use mathlib.Core.Path.{◌≡◌, refl, sym, ap, ap₂, ◌∙◌}
use mathlib.Core.Bool.{Bool, true, false, cond, ◌&&◌}
use mathlib.Core.List.{List, ◌∷◌}
use Prim.Native.Nat.{ℕ, ◌+◌, ◌-◌, ◌^◌, ◌<◌}
use native.Mathlib.Omega.{arith}
use borrow.Author.Tests.{eq-eqb, ne_eqb}
use Rattle.chess.specs.Values.{value_of}
use Rattle.position_further.specs.Rule.{on_rank}
use Rattle.position.specs.declared.State.{State}
use Rattle.attack.specs.Attacks.{occupied, other}
use Rattle.attack_to.specs.Attackers.{attackers}
use Rattle.exchange_start.specs.Capture.{kind_on, takes_passing, passed_pawn}
use Rattle.exchange_start.specs.declared.Mode.{Mode}
use Rattle.exchange_start.specs.declared.Mode.TheVariants.{First, Second}
use Rattle.exchange.specs.Exchange.{Capture, emptied, last_rank, promotes, taken_by, becomes, recaptures, first_taken, first_there}
use Rattle.exchange.specs.Listed.{captures_with}
use Rattle.exchange.specs.PrivateFirst.{BeginsCaptures, followed}
use Rattle.exchange.specs.declared.inner.Begun.{Begun}
use Rattle.exchange.proofs.Forward.{off_board, forced}

-- ---- who promotes
pub no_pawn : (mode : Mode) (to colour kind : ℕ) → (kind ≡ 0 → ⊥) → false ≡ promotes mode to colour kind
no_pawn First to colour kind ne = refl
no_pawn Second to colour kind ne = sym (ap (λ (t : Bool). t && on_rank (last_rank colour) to) (ne_eqb kind 0 ne))

pub pawn_promotes : (to colour kind : ℕ) → kind ≡ 0 → on_rank (last_rank colour) to ≡ promotes Second to colour kind
pawn_promotes to colour kind e = sym (ap (λ (t : Bool). t && on_rank (last_rank colour) to) (eq-eqb kind 0 e))

-- ---- where the passed pawn stood
module _ (side to : ℕ) where
  pub white_passed : side ≡ 0 → to - 8 ≡ passed_pawn side to
  white_passed e = sym (ap (λ (t : Bool). cond t (to - 8) (to + 8)) (eq-eqb side 0 e))

  pub black_passed : (side ≡ 0 → ⊥) → to + 8 ≡ passed_pawn side to
  black_passed ne = sym (ap (λ (t : Bool). cond t (to - 8) (to + 8)) (ne_eqb side 0 ne))

  pub low_passed : side ≡ 0 → to < 8 → 0 ≡ passed_pawn side to
  low_passed e h = (let z : 0 ≡ to - 8 = omega arith in z) ∙ white_passed e

  pub off_passed : (b : ℕ) → b < 2 ^ 64 → (side ≡ 0 → ⊥) → 63 < to → b ≡ emptied b (passed_pawn side to)
  off_passed b hb ne h = off_board b (to + 8) hb (omega arith) ∙ ap (emptied b) (black_passed ne)

-- ---- what the first capture takes and leaves
module _ (mode : Mode) (bbs bytes : List ℕ) (state : State) (from to : ℕ) where
  pub passing_there : takes_passing mode bytes state from to ≡ true → emptied (occupied bbs) (passed_pawn state.side to)
      ≡ first_there mode bbs bytes state from to
  unfolding first_there
  passing_there e = sym (ap (λ (t : Bool). cond t (emptied (occupied bbs) (passed_pawn state.side to)) (occupied bbs)) e)

  pub all_there : takes_passing mode bytes state from to ≡ false → occupied bbs ≡ first_there mode bbs bytes state from to
  unfolding first_there
  all_there e = sym (ap (λ (t : Bool). cond t (emptied (occupied bbs) (passed_pawn state.side to)) (occupied bbs)) e)

  pub pawn_taken : takes_passing mode bytes state from to ≡ true → 0 ≡ first_taken mode bytes state from to
  pawn_taken e = sym (ap (λ (t : Bool). cond t 0 (kind_on bytes to)) e)

  pub target_taken : takes_passing mode bytes state from to ≡ false → kind_on bytes to ≡ first_taken mode bytes state from to
  target_taken e = sym (ap (λ (t : Bool). cond t 0 (kind_on bytes to)) e)

  abbrev promoted : ℕ → Bool
  promoted kind = promotes mode to state.side kind

  -- the parts of what was begun, each by the calls that gave it
  module _ (kind target all : ℕ) (p : Bool) (ek : kind ≡ kind_on bytes from) (ep : p ≡ promoted kind) (et : target ≡ first_taken mode bytes state from to)
      (ea : all ≡ first_there mode bbs bytes state from to) (taken last there : ℕ) (ew : taken ≡ taken_by p (value_of target))
      (eb : last ≡ becomes p kind) (el : there ≡ emptied all from) where
    pub begins : BeginsCaptures mode bbs bytes state from to (record { kind = kind; taken = taken; last = last; there = there })
    begins = record {
      by = ek;
      takes = ew ∙ ap₂ (λ (t : Bool) (k : ℕ). taken_by t (value_of k)) (ep ∙ ap promoted ek) et;
      stays = eb ∙ ap₂ becomes (ep ∙ ap promoted ek) ek;
      left = el ∙ ap (λ (o : ℕ). emptied o from) ea;
    }

-- ---- from there on
pub all_followed : (mode : Mode) (kinds bbs bytes : List ℕ) (state : State) (from to : ℕ) (b : Begun) → BeginsCaptures mode bbs bytes state from to b
    → followed mode kinds bbs state.side from to b ≡ captures_with mode kinds bbs bytes state from to
all_followed mode kinds bbs bytes state from to b h =
    let rest : ℕ → ℕ → List Capture = λ o k. recaptures kinds bbs (attackers bbs to) (promotes mode to) 31 o (other state.side) (value_of k) in
    ap₂ (λ (k t : ℕ). record { from = from; kind = k; taken = t } ∷ rest b.there b.last) h.by h.takes
    ∙ ap₂ (λ (o k : ℕ). record {
      from = from;
      kind = kind_on bytes from;
      taken =
          taken_by (promotes mode to state.side (kind_on bytes from)) (value_of (first_taken mode bytes state from to));
    } ∷ rest o k)
    h.left h.stays
    ∙ sym (forced kinds bbs (attackers bbs to) (promotes mode to) 31 (first_there mode bbs bytes state from to) state.side from (kind_on bytes from)
    (value_of (first_taken mode bytes state from to)))
