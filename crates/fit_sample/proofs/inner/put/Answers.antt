-- `fit_sample::inner::put` meets its contract: the sample is made, and then put. Assumes nothing.
use mathlib.Core.Path.{refl, subst, ◌∙◌}
use mathlib.Core.List.{List}
use Prim.Native.Nat.{ℕ}
use native.Mathlib.Omega.{arith}
use Rattle.text_out.specs.Text.{Puts}
use Rattle.text_out.proofs.Added.{adds_front}
use Rattle.fit_sample.proofs.Sampled.{list_long, sample_none, sample_some, mobility_12, sample_300}
use Rattle.fit_sample.proofs.inner.put.Goals as goal

pub returns-in-Err : goal.returns-in-Err
returns-in-Err c =
    let a = c.args in
    let l = c.compute_list-traced in
    let p = c.put in
    subst (λ (t : List ℕ). Puts a.out.now p.new.out a.at t p.result)
    (sample_none a.bitboards.now a.board.now a.state a.half _ l.result l.new.bytes l.ensures _ c.in-Err.is)
    p.ensures

pub returns : goal.returns
returns c =
    let a = c.args in
    let l = c.compute_list-traced in
    let fit = c.in_default.is in
    let m = mobility_12 a.bitboards.now a.board.now a.state a.half _ l.result l.new.bytes l.ensures fit in
    let n = list_long a.bitboards.now a.board.now a.state a.half _ l.result l.new.bytes l.ensures refl in
    let w = c.write-end in
    let s = sample_300 l.result.trace l.result.used a.half l.new.bytes m (n) in
    let p = c.put-2 in
    subst (λ (t : List ℕ). Puts a.out.now p.new.out a.at t p.result)
    (adds_front w.ensures (omega (arith, s)) ∙ sample_some a.bitboards.now a.board.now a.state a.half _ l.result
    l.new.bytes l.ensures fit) p.ensures
