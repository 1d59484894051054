-- Where no pawn takes en passant and the target is on neither last rank, the second mode has the captures of the first. Assumes nothing.
use mathlib.Core.Path.{◌≡◌, refl, sym, ap, ap₂, ◌∙◌}
use mathlib.Core.Logic.{⊎_elim}
use mathlib.Core.Bool.{Bool, true, false, cond, ◌&&◌, and-false}
use mathlib.Core.List.{List, ◌∷◌, map}
use Prim.Native.Nat.{ℕ, zero, suc}
use lib.Dec.{eqb}
use Rattle.chess.specs.Values.{value_of}
use Rattle.position_further.specs.Rule.{on_rank}
use Rattle.position.specs.declared.State.{State}
use Rattle.attack.specs.Attacks.{other}
use Rattle.attack_to.specs.Attackers.{attackers}
use Rattle.exchange_start.specs.Capture.{kind_on, takes_passing}
use Rattle.exchange_start.specs.declared.Mode.TheVariants.{First, Second}
use Rattle.exchange_value.specs.Settled.{settled}
use Rattle.exchange.specs.Exchange.{Capture, emptied, promotes, taken_by, becomes, recaptures, captures, first_there, captures_of, exchange_of}
use Rattle.exchange.proofs.Forward.{next, made, stays, stops, goes, forced, spent}
use Rattle.exchange.proofs.Ending.{which}
use Rattle.exchange.proofs.First.{all_there, target_taken}
use Rattle.exchange.proofs.Room.{captures_are}

-- ---- the captures by who promotes
module _ (kinds bbs : List ℕ) (afresh : ℕ → ℕ) (p q : ℕ → ℕ → Bool) (same : (colour kind : ℕ) → p colour kind ≡ q colour kind) where
  same_later : (n occ colour value : ℕ) → recaptures kinds bbs afresh p n occ colour value ≡ recaptures kinds bbs afresh q n occ colour value
  same_later zero occ colour value = spent kinds bbs afresh p zero occ colour value refl ∙ sym (spent kinds bbs afresh q zero occ colour value refl)
  same_later (suc n) occ colour value =
      ⊎_elim
      (λ e. stops kinds bbs afresh p (suc n) occ colour value e ∙ sym (stops kinds bbs afresh q (suc n) occ colour value e))
      (λ w. goes kinds bbs afresh p n occ colour value w.square w.kind w.is
      ∙ ap (λ (t : Bool). record { from = w.square; kind = w.kind; taken = taken_by t value }
      ∷ recaptures kinds bbs afresh p n (emptied occ w.square) (other colour) (value_of (becomes t w.kind)))
      (same colour w.kind)
      ∙ ap (λ (l : List Capture). made kinds bbs afresh q colour w.square w.kind value ∷ l)
      (same_later n (emptied occ w.square) (other colour) (stays kinds bbs afresh q colour w.kind))
      ∙ sym (goes kinds bbs afresh q n occ colour value w.square w.kind w.is))
      (which (next kinds bbs afresh p colour occ))

  same_captures : (n occ colour from kind value : ℕ) → captures kinds bbs afresh p n occ colour from kind value
      ≡ captures kinds bbs afresh q n occ colour from kind value
  same_captures n occ colour from kind value =
      forced kinds bbs afresh p n occ colour from kind value
      ∙ ap (λ (t : Bool). record { from = from; kind = kind; taken = taken_by t value }
      ∷ recaptures kinds bbs afresh p n (emptied occ from) (other colour) (value_of (becomes t kind))) (same colour kind)
      ∙ ap (λ (l : List Capture). made kinds bbs afresh q colour from kind value ∷ l)
      (same_later n (emptied occ from) (other colour) (stays kinds bbs afresh q colour kind))
      ∙ sym (forced kinds bbs afresh q n occ colour from kind value)

-- ---- both modes
module _ (kinds bbs bytes : List ℕ) (state : State) (from to : ℕ) (not-8 : on_rank 8 to ≡ false) (not-1 : on_rank 1 to ≡ false)
    (not-passing : takes_passing Second bytes state from to ≡ false) where
  none_promotes : (colour kind : ℕ) → promotes Second to colour kind ≡ promotes First to colour kind
  none_promotes colour kind = ap (λ (t : Bool). eqb kind 0 && t) (go (eqb colour 0)) ∙ and-false (eqb kind 0)
    where
      go : (t : Bool) → on_rank (cond t 8 1) to ≡ false
      go true = not-8
      go false = not-1

  pub same_mode : captures_of Second kinds bbs bytes state from to ≡ captures_of First kinds bbs bytes state from to
  same_mode =
      captures_are Second kinds bbs bytes state from to
      ∙ same_captures kinds bbs (attackers bbs to) (promotes Second to) (promotes First to) none_promotes 64
      (first_there Second bbs bytes state from to) state.side from (kind_on bytes from) _
      ∙ ap₂ (λ (o k : ℕ). captures kinds bbs (attackers bbs to) (promotes First to) 64 o state.side from (kind_on bytes from) (value_of k))
      (sym (all_there Second bbs bytes state from to not-passing) ∙ all_there First bbs bytes state from to refl)
      (sym (target_taken Second bbs bytes state from to not-passing))
      ∙ sym (captures_are First kinds bbs bytes state from to)

  pub same_worth : exchange_of Second kinds bbs bytes state from to ≡ exchange_of First kinds bbs bytes state from to
  unfolding exchange_of
  same_worth = ap (λ (cs : List Capture). settled (map (λ c. c.taken) cs)) same_mode
