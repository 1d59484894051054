use Rattle.store_text.specs.Table.{in_column, file_word}
use Rattle.store_text.proofs.Laid.{Laying}
use Rattle.store_text.proofs.table.files.Given as goal

abbrev pub invariant-loop-file : goal.invariant-loop-file
invariant-loop-file l = Laying 8 (λ k. in_column l.width (file_word k)) l.initial.out l.at l.out l.end l.file
