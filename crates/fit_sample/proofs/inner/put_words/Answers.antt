-- `fit_sample::inner::put_words` meets its contract: so far the words of the numbers before the place stand there. Assumes nothing.
use mathlib.Core.Path.{ap, ◌∙◌}
use Rattle.fit_sample.specs.Sample.{lowest_first}
use Rattle.fit_sample.proofs.Parts.{words_none, words_more}
use Rattle.fit_sample.proofs.inner.put_words.Goals as goal

pub loop-number-init : goal.loop-number-init
loop-number-init c = let a = c.args in words_none a.out.now a.at a.numbers.now

pub loop-number-preserved : goal.loop-number-preserved
loop-number-preserved c = let bytes_of = c.bytes_of-bytes in
    let a = c.args in
    let l = c.loop-number in
    let p = c.put in
    words_more a.out.now l.out p.new.out a.at l.end c.unwrap_or-end.result l.number-index a.numbers.now bytes_of.result p.result
    c.requires
    c.loop-number-test.true l.invariant
    c.bits-arg-1.given
    (bytes_of.ensures ∙ ap lowest_first c.bits.ensures) p.ensures c.unwrap_or-end.ensures
