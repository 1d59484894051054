-- How the answers of the sifting pass their doors. Assumes nothing.
use mathlib.Core.Path.{◌≡◌, refl, sym, ap, subst, ◌∙◌}
use mathlib.Core.List.{List}
use Prim.Native.Nat.{ℕ}
use lib.ListN.{length}
use Rattle.line_cut.specs.Cut.{CutSoFar}
use Rattle.ledger_feed.specs.Promises.{Came, turned, many, full, came, came_as}
use Rattle.ledger_feed.specs.declared.SoFar.{SoFar}
use Rattle.sift_form.specs.declared.Form.TheVariants as M
use Rattle.sift_feed.specs.Sifting.{Sifting, so_far_in}
use Rattle.sift_feed.specs.Promises.{sifted_by_value, Sifts}
use Rattle.sift_finish.specs.Last.{all_rows, last_lengths, FinishesSifted}
use Rattle.abi_codes.specs.declared.Code.{Code}
use Rattle.abi_ledgers.specs.Ledger.{state_from, state_numbers, came_number, lent_after_came}
use Rattle.abi_samples.specs.Promises.{samples_of, samples_last, FeedsSamples, FinishesSamples}
use Rattle.std.specs.Prelude.{Result}
use Rattle.ledger_feed.specs.declared.Unwritten.{Unwritten}

-- ---- what comes back by value is a part of what the machine has
value_code : (a : Came (CutSoFar Sifting)) → came_number (sifted_by_value a) ≡ came_number a
value_code (came m) = refl
value_code (turned n l) = refl
value_code many = refl
value_code full = refl

value_part : {B : Type 0} (part : SoFar × ℕ × ℕ → B) (old : B) (a : Came (CutSoFar Sifting))
    → lent_after_came part old (sifted_by_value a) ≡ lent_after_came (λ (m : CutSoFar Sifting). part
    (so_far_in m, length m.kept.made, length m.kept.rows)) old a
value_part part old (came m) = refl
value_part part old (turned n l) = refl
value_part part old many = refl
value_part part old full = refl

abbrev Part : Type 0
Part = SoFar × ℕ × ℕ

pub sifted_through : (state line chunk samples rows : List ℕ) (sampled wrote : ℕ) {s : SoFar} {r x : Result (SoFar × ℕ × ℕ) Unwritten} {n : Code}
    {state' line' samples' rows' : List ℕ} {sampled' wrote' : ℕ}
    → s ≡ state_from state → Sifts s M.Sample line chunk samples rows r line' samples' rows' → r ≡ x → n ≡ came_number (came_as x)
    → state' ≡ lent_after_came (λ (p : Part). state_numbers p.0) state (came_as x) → sampled' ≡ lent_after_came (λ (p : Part). p.1) sampled (came_as x)
    → wrote' ≡ lent_after_came (λ (p : Part). p.2) wrote (came_as x)
    → FeedsSamples state line chunk samples rows sampled wrote n state' line' samples' rows' sampled' wrote'
sifted_through state line chunk samples rows sampled wrote {r = r} {line' = line'} {samples' = samples'} {rows' = rows'} q f m h g k w =
    let a : Came (CutSoFar Sifting) = samples_of state line chunk samples rows in
    let p : Sifts (state_from state) M.Sample line chunk samples rows r line' samples' rows' =
    subst (λ (t : SoFar). Sifts t M.Sample line chunk samples rows r line' samples' rows') q f in
    let e = sym (ap came_as m) ∙ p.answer in
    record {
      code = h ∙ ap came_number e ∙ value_code a;
      lent = g ∙ ap (lent_after_came (λ (z : Part). state_numbers z.0) state) e ∙ value_part (λ (z : Part). state_numbers z.0) state a;
      kept = p.kept;
      making = p.making;
      rowing = p.rowing;
      lent2 = k ∙ ap (lent_after_came (λ (z : Part). z.1) sampled) e ∙ value_part (λ (z : Part). z.1) sampled a;
      lent3 = w ∙ ap (lent_after_came (λ (z : Part). z.2) wrote) e ∙ value_part (λ (z : Part). z.2) wrote a;
    }

-- ---- the end
end_code : (a : Came Sifting) → came_number (last_lengths a) ≡ came_number a
end_code (came s) = refl
end_code (turned n l) = refl
end_code many = refl
end_code full = refl

end_part : (part : ℕ × ℕ → ℕ) (old : ℕ) (a : Came Sifting) → lent_after_came part old (last_lengths a)
    ≡ lent_after_came (λ (s : Sifting). part (length s.made, length (all_rows s))) old a
end_part part old (came s) = refl
end_part part old (turned n l) = refl
end_part part old many = refl
end_part part old full = refl

pub ended_through : (state line samples rows : List ℕ) (sampled wrote : ℕ) {s : SoFar} {r x : Result (ℕ × ℕ) Unwritten} {n : Code} {samples' rows' : List ℕ}
    {sampled' wrote' : ℕ}
    → s ≡ state_from state → FinishesSifted s M.Sample line samples rows r samples' rows' → r ≡ x → n ≡ came_number (came_as x)
    → sampled' ≡ lent_after_came (λ (p : ℕ × ℕ). p.0) sampled (came_as x) → wrote' ≡ lent_after_came (λ (p : ℕ × ℕ). p.1) wrote (came_as x)
    → FinishesSamples state line samples rows sampled wrote n samples' rows' sampled' wrote'
ended_through state line samples rows sampled wrote {r = r} {samples' = samples'} {rows' = rows'} q f m h k w =
    let a : Came Sifting = samples_last state line samples rows in
    let p : FinishesSifted (state_from state) M.Sample line samples rows r samples' rows' =
    subst (λ (t : SoFar). FinishesSifted t M.Sample line samples rows r samples' rows') q f in
    let e = sym (ap came_as m) ∙ p.answer in
    record {
      code = h ∙ ap came_number e ∙ end_code a;
      making = p.making;
      rowing = p.rowing;
      lent = k ∙ ap (lent_after_came (λ (z : ℕ × ℕ). z.0) sampled) e ∙ end_part (λ (z : ℕ × ℕ). z.0) sampled a;
      lent2 = w ∙ ap (lent_after_came (λ (z : ℕ × ℕ). z.1) wrote) e ∙ end_part (λ (z : ℕ × ℕ). z.1) wrote a;
    }
