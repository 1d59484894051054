-- `store_text::table::letters` meets its contract. Assumes nothing.
use Rattle.std.proofs.Common.{arith}
use Rattle.store_text.specs.Table.{in_column, file_word, letters_row}
use Rattle.text_out.proofs.Added.{adds_3}
use Rattle.store_text.proofs.Laid.{length_laid}
use Rattle.store_text.proofs.Fits.{length_files}
use Rattle.store_text.proofs.table.letters.Goals as goal

pub returns : goal.returns
unfolding letters_row
returns c =
    let a = c.args in
    let n = length_laid 8 21 (λ file. in_column a.width (file_word file))
    (length_files a.width c.requires.narrow) in
    adds_3 c.put-a.ensures
    c.files-b.ensures c.put.ensures
    (omega (arith, n, c.requires.room))
