-- `store_text::page::board_end` meets its contract. Assumes nothing.
use Rattle.std.proofs.Common.{arith}
use Rattle.text_out.proofs.Added.{length_20}
use Rattle.store_text.proofs.page.board_end.Goals as goal

pub letters-requires : goal.letters-requires
letters-requires c =
    let short = length_20 c.args.most in
    record { narrow = omega (arith, c.width.ensures); room = omega (arith, c.requires) }
