-- `fit_sample::inner::write` meets its contract: the numbers, and then the bytes. Assumes nothing.
use Prim.Native.Nat.{◌+◌, ◌≤◌}
use native.Mathlib.Omega.{arith}
use lib.ListN.{length}
use Rattle.text_out.proofs.Added.{adds_to, adds_length, adds_then}
use Rattle.fit_sample.specs.Sample.{number_bytes}
use Rattle.fit_sample.proofs.Parts.{numbers_104, entries_long}
use Rattle.fit_sample.proofs.inner.write.Goals as goal

pub put_entries-requires : goal.put_entries-requires
put_entries-requires c =
    let a = c.args in
    let q = c.requires in
    let w = c.put_numbers-at in
    let h = numbers_104 a.trace q.1 in
    let fits : 0 + length (number_bytes a.trace) ≤ length a.out.now = omega (arith, h, q.0) in
    omega (arith, h, q.0, q.2, adds_to w.ensures fits, adds_length w.ensures fits)

pub returns : goal.returns
returns c =
    let a = c.args in
    let q = c.requires in
    let w = c.put_numbers-at in
    let h = numbers_104 a.trace q.1 in
    let fits : 0 + length (number_bytes a.trace) ≤ length a.out.now = omega (arith, h, q.0) in
    let e = c.put_entries in
    adds_then w.ensures e.ensures (omega (arith, h, q.0, q.2, entries_long a.used a.half a.list.now))
