-- `fit_sample::inner::put_numbers` meets its contract. Assumes nothing.
use mathlib.Core.Path.{refl}
use mathlib.Core.List.{[]}
use Rattle.abi_records.proofs.Read.{then}
use Rattle.fit_sample.proofs.Parts.{room_second, room_third, numbers_all}
use Rattle.fit_sample.proofs.inner.put_numbers.Goals as goal

pub put_words-b-requires : goal.put_words-b-requires
put_words-b-requires c =
    let a = c.args in
    let q = c.requires in
    let n = c.counts_of-counts in
    let p = c.put_words-a in
    room_second a.trace a.out.now p.new.out [] [] p.result 0 0 n.result q.0 q.1 n.ensures p.ensures

pub put_words-requires : goal.put_words-requires
put_words-requires c =
    let a = c.args in
    let q = c.requires in
    let n = c.counts_of-counts in
    let p = c.put_words-a in
    let r = c.put_words-b in
    room_third a.trace a.out.now p.new.out r.new.out [] p.result r.result 0 n.result q.0 q.1 n.ensures p.ensures r.ensures

pub returns : goal.returns
returns c =
    let struct_told = c.struct_told-1 in
    let a = c.args in
    let q = c.requires in
    let n = c.counts_of-counts in
    let p = c.put_words-a in
    let r = c.put_words-b in
    let l = c.put_words in
    numbers_all a.trace a.out.now p.new.out r.new.out l.new.out p.result r.result l.result n.result q.0 q.1
    n.ensures p.ensures r.ensures _ (then struct_told.given.1.1.1.1.1.1.1.0.1
    (then struct_told.given.1.1.1.1.1.1.1.1.0.1 refl)) l.ensures
