use lib.ListN.{take}
use Rattle.text_out.specs.Text.{Adds}
use Rattle.fit_sample.specs.Sample.{words_of}
use Rattle.fit_sample.proofs.inner.put_words.Given as goal

abbrev pub invariant-loop-number : goal.invariant-loop-number
invariant-loop-number l = Adds l.initial.out l.at (words_of (take l.number-index l.numbers)) l.out l.end
