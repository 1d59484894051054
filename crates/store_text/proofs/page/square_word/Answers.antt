-- `store_text::page::square_word` meets its contract. Assumes nothing.
use Rattle.std.proofs.Common.{arith}
use Rattle.text_out.proofs.Added.{length_20}
use Rattle.store_text.proofs.page.square_word.Goals as goal

pub count-requires : goal.count-requires
count-requires c =
    let short = length_20 c.args.most in
    record { narrow = omega (arith, c.width.ensures); room = omega (arith, c.requires.room) }
