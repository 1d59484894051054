-- `position_planes::words` meets its contract. Assumes nothing.
use Rattle.position_planes.specs.PrivatePlanes.{rank_word}
use Rattle.position_planes.proofs.Planes.{rows_8, words_8}
use Rattle.position_planes.proofs.words.Goals as goal

pub returns : goal.returns
returns c =
    let k = c in
    let b = k in
    let a = b in
    let bytes = a.args.board.now in (
      words_8 (rank_word bytes) _ _ _ _ _ _ _ _ a.word.ensures.0 b.word-2.ensures.0 k.word-3.ensures.0 c.word-4.ensures.0
          c.word-5.ensures.0 c.word-6.ensures.0 c.word-7.ensures.0 c.word-8.ensures.0,
      rows_8 bytes a.word.ensures.1 b.word-2.ensures.1 k.word-3.ensures.1 c.word-4.ensures.1 c.word-5.ensures.1 c.word-6.ensures.1
          c.word-7.ensures.1 c.word-8.ensures.1,
    )
