-- `store_text::table::files` meets its contract. Assumes nothing.
use Rattle.std.proofs.Common.{arith}
use Rattle.store_text.specs.Table.{in_column, file_word}
use Rattle.store_text.proofs.Laid.{laying_none, laying_room, laying_more}
use Rattle.store_text.proofs.Fits.{length_files}
use Rattle.store_text.proofs.table.files.Goals as goal

pub loop-file-init : goal.loop-file-init
loop-file-init c =
    let a = c.args in
    laying_none 8 (λ file. in_column a.width (file_word file)) a.out.now a.at (omega (arith, c.requires.room))

pub column-end-requires : goal.column-end-requires
column-end-requires c =
    let a = c.args in
    let l = c.loop-file in
    let r = c.requires.room in (
      omega arith,
      record {
        narrow = c.requires.narrow;
        room =
            laying_room 8 21 (λ file. in_column a.width (file_word file)) (length_files a.width c.requires.narrow)
            a.out.now a.at l.out l.end l.file l.invariant (omega (arith, r, c.loop-file-test.true));
      },
    )

pub loop-file-preserved : goal.loop-file-preserved
loop-file-preserved c =
    let a = c.args in
    let l = c.loop-file in
    let r = c.requires.room in
    laying_more 8 21 (λ file. in_column a.width (file_word file)) (length_files a.width c.requires.narrow)
    a.out.now a.at l.out l.end l.file l.invariant (omega (arith, r, c.loop-file-test.true))
    c.loop-file-test.true c.column-end.new.out c.column-end.result c.column-end.ensures
