-- The table has each weight at its place, and no weight is farther than 117 from zero. Assumes nothing.
use mathlib.Core.Path.{◌≡◌, ap, ap₂, ◌∙◌}
use Prim.Native.Nat.{ℕ, ◌/◌, ◌%◌, ◌<◌, ◌≤◌}
use native.Mathlib.Omega.{arith}
use lib.Dec.{leb, leb→le}
use lib.IntN.{pos, nat_abs}
use Rattle.laws.specs.Tests.{all_below, all_below2}
use Rattle.laws.proofs.Tests.{all_at, all2_at}
use Rattle.laws.proofs.Tables.{entry}
use Rattle.score_pst.specs.Pst.{pst_of, pst_place, pst_table, weight_in}

pub table_at : (code square phase : ℕ) → code < 14 → square < 64 → phase < 2 → weight_in pst_table code square phase ≡ pst_of code square phase
unfolding pst_table
table_at code square phase hc hs hp =
    let i : ℕ = pst_place code square phase in
    let c : i / 128 ≡ code = omega arith in
    let s : i % 128 / 2 ≡ square = omega arith in
    let h : i % 2 ≡ phase = omega arith in
    entry 1792 (λ i. pst_of (i / 128) (i % 128 / 2) (i % 2)) (pos 0) i (omega arith) ∙ ap₂ (λ (c s : ℕ). pst_of c s (i % 2)) c s ∙ ap (pst_of code square) h

pub small : (code square phase : ℕ) → code < 14 → square < 64 → phase < 2 → nat_abs (pst_of code square phase) ≤ 117
unfolding all_below all_below2 pst_of
small code square phase hc hs hp =
    leb→le (nat_abs (pst_of code square phase)) 117
    (all2_at 14 64 (λ c s. leb (nat_abs (pst_of c s phase)) 117)
    (all_at 2 (λ h. all_below2 14 64 (λ c s. leb (nat_abs (pst_of c s h)) 117)) tt phase hp) code square hc hs)
