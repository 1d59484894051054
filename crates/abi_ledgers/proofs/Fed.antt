-- How the ledger's answers pass their doors. Assumes nothing.
use mathlib.Core.Path.{◌≡◌, refl, sym, ap, subst, ◌∙◌}
use mathlib.Core.List.{List}
use Prim.Native.Nat.{ℕ}
use lib.ListN.{length}
use Rattle.ledger_feed.specs.Machine.{Machine}
use Rattle.line_profile.specs.declared.Profile.TheVariants as P
use Rattle.ledger_feed.specs.Promises as Rows
use Rattle.ledger_feed.specs.Promises.{Came, turned, many, full, came, Feeds, feed_of, came_as}
use Rattle.ledger_feed.specs.declared.SoFar.{SoFar}
use Rattle.ledger_finish.specs.Promises.{Finishes, finish_of, length_of}
use Rattle.abi_ledgers.specs.Ledger.{state_from, state_numbers, came_number, lent_after_came}
use Rattle.abi_codes.specs.declared.Code.{Code}
use Rattle.abi_ledgers.specs.Promises.{FeedsLedger, FinishesLedger}
use Rattle.std.specs.Prelude.{Result}
use Rattle.ledger_feed.specs.declared.Unwritten.{Unwritten}

-- ---- what comes back by value is a part of what the machine has
value_code : (a : Came Machine) → came_number (Rows.came_by_value a) ≡ came_number a
value_code (came m) = refl
value_code (turned n l) = refl
value_code many = refl
value_code full = refl

state_after : (old : List ℕ) (a : Came Machine)
    → lent_after_came (λ (p : SoFar × ℕ). state_numbers p.0) old (Rows.came_by_value a) ≡ lent_after_came (λ (m : Machine). state_numbers (Rows.state_of m)) old a
state_after old (came m) = refl
state_after old (turned n l) = refl
state_after old many = refl
state_after old full = refl

wrote_after : (old : ℕ) (a : Came Machine) → lent_after_came (λ (p : SoFar × ℕ). p.1) old (Rows.came_by_value a)
    ≡ lent_after_came (λ (m : Machine). length m.text) old a
wrote_after old (came m) = refl
wrote_after old (turned n l) = refl
wrote_after old many = refl
wrote_after old full = refl

pub fed_through : (state line chunk out : List ℕ) (wrote : ℕ) {s : SoFar} {r x : Result (SoFar × ℕ) Unwritten} {n : Code} {state' line' out' : List ℕ} {wrote' : ℕ}
    → s ≡ state_from state → Feeds P.Any s line chunk out r line' out' → r ≡ x → n ≡ came_number (came_as x)
    → state' ≡ lent_after_came (λ (p : SoFar × ℕ). state_numbers p.0) state (came_as x) → wrote' ≡ lent_after_came (λ (p : SoFar × ℕ). p.1) wrote (came_as x)
    → FeedsLedger state line chunk out wrote n state' line' out' wrote'
fed_through state line chunk out wrote {r = r} {line' = line'} {out' = out'} q f m h g k =
    let a : Came Machine = feed_of P.Any (state_from state) line chunk out in
    let p : Feeds P.Any (state_from state) line chunk out r line' out' = subst (λ (t : SoFar). Feeds P.Any t line chunk out r line' out') q f in
    let e = sym (ap came_as m) ∙ p.answer in
    record {
      code = h ∙ ap came_number e ∙ value_code a;
      lent = g ∙ ap (lent_after_came (λ (z : SoFar × ℕ). state_numbers z.0) state) e ∙ state_after state a;
      kept = p.kept;
      rows = p.rows;
      lent2 = k ∙ ap (lent_after_came (λ (z : SoFar × ℕ). z.1) wrote) e ∙ wrote_after wrote a;
    }

-- ---- the last rows
length_code : (a : Came (List ℕ)) → came_number (length_of a) ≡ came_number a
length_code (came t) = refl
length_code (turned n l) = refl
length_code many = refl
length_code full = refl

length_after : (old : ℕ) (a : Came (List ℕ)) → lent_after_came (λ (n : ℕ). n) old (length_of a) ≡ lent_after_came length old a
length_after old (came t) = refl
length_after old (turned n l) = refl
length_after old many = refl
length_after old full = refl

pub finished_through : (state line out : List ℕ) (wrote : ℕ) {s : SoFar} {r x : Result ℕ Unwritten} {n : Code} {out' : List ℕ} {wrote' : ℕ}
    → s ≡ state_from state → Finishes P.Any s line out r out' → r ≡ x → n ≡ came_number (came_as x)
    → wrote' ≡ lent_after_came (λ (n : ℕ). n) wrote (came_as x)
    → FinishesLedger state line out wrote n out' wrote'
finished_through state line out wrote {r = r} {out' = out'} q f m h k =
    let a : Came (List ℕ) = finish_of P.Any (state_from state) line out in
    let p : Finishes P.Any (state_from state) line out r out' = subst (λ (t : SoFar). Finishes P.Any t line out r out') q f in
    let e = sym (ap came_as m) ∙ p.answer in
    record {
      code = h ∙ ap came_number e ∙ length_code a;
      rows = p.rows;
      lent = k ∙ ap (lent_after_came (λ (n : ℕ). n) wrote) e ∙ length_after wrote a;
    }
