-- One byte of a part: what it comes to, case by case. Assumes nothing.
use mathlib.Core.Path.{◌≡◌, refl, sym, ap, ap₂, subst, ◌∙◌}
use mathlib.Core.Bool.{Bool, true, false, cond, ◌||◌}
use mathlib.Core.List.{List, [], ◌∷◌, ◌++◌, append-nil}
use Prim.Native.Nat.{ℕ, ◌+◌, ◌*◌, ◌≤◌, ◌<◌}
use native.Mathlib.Omega.{arith}
use lib.Dec.{eqb, leb}
use lib.ListN.{length, take, set, length-set}
use borrow.Author.Tests.{eq-eqb, ne_eqb, le-leb, lt-leb}
use Rattle.text_out.specs.Text.{Adds}
use Rattle.text_out.proofs.Added.{adds_none}
use Rattle.line_cut.specs.Lines.{lf, ends}
use Rattle.line_cut.proofs.Counted.{ends_one}
use Rattle.ledger_joined_row.specs.Promises.{row_is_rule}
use Rattle.ledger_joined_row.proofs.Laws.{text_fits}
use Rattle.ledger_joined_row.specs.declared.Kind.{Kind}
use Rattle.ledger_joined_row.specs.declared.Kind.TheVariants as K
use Rattle.ledger_join.specs.Machine.{Joint, joint, holds_more, halted, after_row, own_number, whole_number, row_ended, byte_held, byte_on}
use Rattle.ledger_join.specs.Promises.{RowReady, ClosesRow, HoldsByte, TakesByte}
use Rattle.ledger_join.specs.declared.Joining.{Joining}
use Rattle.ledger_join.specs.declared.ByteTaken.{ByteTaken}

-- ---- a byte that is held: the state after it, and what the row's end needs
pub stayed : {s u : Joining} {r : ByteTaken} (at : ℕ) → r ≡ record { state = u; end = at } → u ≡ s → r ≡ record { state = s; end = at }
stayed at e q = e ∙ ap (λ (x : Joining). record { state = x; end = at }) q

pub ready_more : (s next : Joining) (out : List ℕ) (at b : ℕ) → next ≡ holds_more s → b ≡ 10 → RowReady s out at (ends (b ∷ [])) → RowReady next out at 1
ready_more s next out at b e q r =
    let one = ends_one b q in
    subst (λ (x : Joining). RowReady x out at 1) (sym e) (record { all = omega (arith, r.all); own = omega (arith, r.own); room = omega (arith, r.room) })

pub held_fits : (s next : Joining) (row : List ℕ) (b : ℕ) → next ≡ holds_more s → length row ≡ 84 → s.held < 84 → next.held ≤ length (set row s.held b)
held_fits s next row b e q h = let k : next.held ≡ s.held + 1 = ap (λ (x : Joining). x.held) e in omega (arith, length-set row s.held b)

module _ (s : Joining) (row out : List ℕ) (b at : ℕ) where
  pub held_more : (b ≡ 10 → ⊥) → at ≤ length out → (r : ByteTaken) → r ≡ record { state = holds_more s; end = at }
      → HoldsByte s row out b at r (set row s.held b) out
  held_more n h r e =
      let q : byte_held s row [] b ≡ joint (set row s.held b) (holds_more s) [] =
      ap (λ (t : Bool). cond t (row_ended (holds_more s) (set row s.held b) []) (joint (set row s.held b) (holds_more s) [])) (ne_eqb b 10 n) in
      record {
        state = ap (λ (x : ByteTaken). x.state) e ∙ sym (ap (λ (m : Joint). m.state) q);
        kept = sym (ap (λ (m : Joint). m.row) q);
        text = subst (λ (m : Joint). Adds out at m.text out r.end) (sym q)
            (subst (λ (k : ℕ). Adds out at [] out k) (sym (ap (λ (x : ByteTaken). x.end) e)) (adds_none out at));
      }

  pub held_row : b ≡ 10 → (next : Joining) → next ≡ holds_more s → (r : ByteTaken) (out' : List ℕ) → ClosesRow next (set row s.held b) out at r out'
      → HoldsByte s row out b at r (set row s.held b) out'
  held_row e next n r out' p =
      let q : byte_held s row [] b ≡ row_ended next (set row s.held b) [] =
      ap (λ (t : Bool). cond t (row_ended (holds_more s) (set row s.held b) []) (joint (set row s.held b) (holds_more s) [])) (eq-eqb b 10 e)
      ∙ ap (λ (x : Joining). row_ended x (set row s.held b) []) (sym n) in
      record {
        state = p.state ∙ sym (ap (λ (m : Joint). m.state) q);
        kept = sym (ap (λ (m : Joint). m.row) q);
        text = subst (λ (m : Joint). Adds out at m.text out' r.end) (sym q) p.text;
      }

  -- ---- and any byte
  taken_as : (m : Joint) → byte_on (joint row s []) b ≡ m → (r : ByteTaken) (row' out' : List ℕ) → r.state ≡ m.state → row' ≡ m.row
      → Adds out at m.text out' r.end
      → TakesByte s row out b at r row' out'
  taken_as m e r row' out' p q t = record {
    state = p ∙ sym (ap (λ (x : Joint). x.state) e);
    kept = q ∙ sym (ap (λ (x : Joint). x.row) e);
    text = subst (λ (x : Joint). Adds out at x.text out' r.end) (sym e) t;
  }

  unchanged : (u : Joining) → byte_on (joint row s []) b ≡ joint row u [] → at ≤ length out → (r : ByteTaken) → r ≡ record { state = u; end = at }
      → TakesByte s row out b at r row out
  unchanged u e h r q =
      taken_as (joint row u []) e r row out (ap (λ (x : ByteTaken). x.state) q) refl
      (subst (λ (k : ℕ). Adds out at [] out k) (sym (ap (λ (x : ByteTaken). x.end) q)) (adds_none out at))

  pub byte_stopped : s.stopped ≡ true → at ≤ length out → (r : ByteTaken) → r ≡ record { state = s; end = at } → TakesByte s row out b at r row out
  unfolding byte_on
  byte_stopped e = unchanged s (rw e)

  module _ (go_on : s.stopped ≡ false) where
    pub byte_ended : s.ended ≡ true → at ≤ length out → (u : Joining) → u ≡ halted s → (r : ByteTaken) → r ≡ record { state = u; end = at }
        → TakesByte s row out b at r row out
    unfolding byte_on
    byte_ended e h u q =
        unchanged u
        (ap₂ (λ (x y : Bool). cond x (joint row s []) (cond (y || leb 84 s.held) (joint row (halted s) []) (byte_held s row [] b))) go_on e
        ∙ ap (λ (k : Joining). joint row k []) (sym q)) h

    module _ (more : s.ended ≡ false) where
      pub byte_long : 84 ≤ s.held → at ≤ length out → (u : Joining) → u ≡ halted s → (r : ByteTaken) → r ≡ record { state = u; end = at }
          → TakesByte s row out b at r row out
      unfolding byte_on
      byte_long k h u q =
          unchanged u
          (ap₂ (λ (x y : Bool). cond x (joint row s []) (cond (y || leb 84 s.held) (joint row (halted s) []) (byte_held s row [] b))) go_on more
          ∙ ap (λ (y : Bool). cond y (joint row (halted s) []) (byte_held s row [] b)) (le-leb 84 s.held k) ∙ ap (λ (k : Joining). joint row k []) (sym q)) h

      pub byte_held_holds : s.held < 84 → (r : ByteTaken) (row' out' : List ℕ) → HoldsByte s row out b at r row' out' → TakesByte s row out b at r row' out'
      unfolding byte_on
      byte_held_holds k r row' out' p = taken_as (byte_held s row [] b) (rw (go_on, more, lt-leb 84 s.held k)) r row' out' p.state p.kept p.text

-- ---- what a byte does, whatever was written before
pub byte_after : (row : List ℕ) (s : Joining) (t : List ℕ) (b : ℕ)
    → byte_on (joint row s t) b ≡ joint (byte_on (joint row s []) b).row (byte_on (joint row s []) b).state (t ++ (byte_on (joint row s []) b).text)
unfolding byte_on
byte_after row s t b = go s.stopped (s.ended || leb 84 s.held) (eqb b lf)
  where
    row' : List ℕ
    row' = set row s.held b

    at : Bool → Bool → Bool → List ℕ → Joint
    at x y z u = cond x (joint row s u) (cond y (joint row (halted s) u) (cond z (row_ended (holds_more s) row' u) (joint row' (holds_more s) u)))

    go : (x y z : Bool) → at x y z t ≡ joint (at x y z []).row (at x y z []).state (t ++ (at x y z []).text)
    go true y z = ap (joint row s) (sym (append-nil t))
    go false true z = ap (joint row (halted s)) (sym (append-nil t))
    go false false true = refl
    go false false false = ap (joint row' (holds_more s)) (sym (append-nil t))

-- ---- bounds: of the counts, the buffer and the text
after_all : (s : Joining) (k : Kind) → (after_row s k).loads + (after_row s k).refusals ≤ s.loads + s.refusals + 1
after_all s K.Loaded = omega arith
after_all s K.Refused = omega arith
after_all s K.Totals = omega arith
after_all s K.Neither = omega arith

after_own : (s : Joining) (k : Kind) → (after_row s k).loaded + (after_row s k).refused ≤ s.loaded + s.refused + 1
after_own s K.Loaded = omega arith
after_own s K.Refused = omega arith
after_own s K.Totals = omega arith
after_own s K.Neither = omega arith

pub record Bounds (row : List ℕ) (s : Joining) (b : ℕ) (m : Joint) : Type 0 where
  pub all : m.state.loads + m.state.refusals ≤ s.loads + s.refusals + ends (b ∷ [])
  pub own : m.state.loaded + m.state.refused ≤ s.loaded + s.refused + ends (b ∷ [])
  pub size : length m.row ≡ length row
  pub room : length m.text ≤ 64 * ends (b ∷ [])

ends_is : (b : ℕ) → ends (b ∷ []) ≡ cond (eqb b lf) (0 + 1) 0
unfolding ends
ends_is b = refl

pub byte_bounds : (row : List ℕ) (s : Joining) (b : ℕ) → Bounds row s b (byte_on (joint row s []) b)
unfolding byte_on
byte_bounds row s b = go s.stopped (s.ended || leb 84 s.held) (eqb b lf) (ends_is b)
  where
    row' : List ℕ
    row' = set row s.held b

    next : Joining
    next = holds_more s

    at : Bool → Bool → Bool → Joint
    at x y z = cond x (joint row s []) (cond y (joint row (halted s) []) (cond z (row_ended next row' []) (joint row' next [])))

    go : (x y z : Bool) → ends (b ∷ []) ≡ cond z (0 + 1) 0 → Bounds row s b (at x y z)
    go true y z e = record { all = omega arith; own = omega arith; size = refl; room = omega arith }
    go false true z e = record { all = omega arith; own = omega arith; size = refl; room = omega arith }
    go false false true e =
        let k : Kind = row_is_rule (own_number next) next.loaded next.refused (take next.held row') in
        record {
          all = omega (arith, after_all next k);
          own = omega (arith, after_own next k);
          size = length-set row s.held b;
          room = omega (arith, text_fits (own_number next) (whole_number next) (take next.held row'));
        }
    go false false false e = record { all = omega arith; own = omega arith; size = length-set row s.held b; room = omega arith }
