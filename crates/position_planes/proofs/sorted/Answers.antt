-- `position_planes::sorted` meets its contract. Assumes nothing.
use mathlib.Core.Path.{ap, ◌∙◌}
use mathlib.Core.List.{List}
use Prim.Native.Nat.{ℕ}
use lib.ListN.{get_or}
use Rattle.laws.proofs.Tables.{entry}
use Rattle.position_planes.specs.PrivatePlanes.{Sliced, rank_word}
use Rattle.position_planes.proofs.Planes.{sliced_same, sorted_from}
use Rattle.position_planes.proofs.sorted.Goals as goal

pub above-beyond-requires : goal.above-beyond-requires
above-beyond-requires c =
    let planes : Sliced (rank_word c.args.board.now) 8 c.sliced-digits.result.a c.sliced-digits.result.b c.sliced-digits.result.c c.sliced-digits.result.d c.sliced-digits.result.all = let bytes = c.args.board.now in
    let r = c.sliced-digits.result in
    sliced_same (λ i. get_or c.words-words.result i 0) (rank_word bytes) r.a r.b r.c r.d r.all
    (λ i h. ap (λ (l : List ℕ). get_or l i 0) c.words-words.ensures.0 ∙ entry 8 (rank_word bytes) 0 i h) c.sliced-digits.ensures in
    (c.words-words.ensures.1, (planes).covers)

pub returns : goal.returns
returns c =
    let planes : Sliced (rank_word c.args.board.now) 8 c.sliced-digits.result.a c.sliced-digits.result.b c.sliced-digits.result.c c.sliced-digits.result.d c.sliced-digits.result.all = let bytes = c.args.board.now in
    let r = c.sliced-digits.result in
    sliced_same (λ i. get_or c.words-words.result i 0) (rank_word bytes) r.a r.b r.c r.d r.all
    (λ i h. ap (λ (l : List ℕ). get_or l i 0) c.words-words.ensures.0 ∙ entry 8 (rank_word bytes) 0 i h) c.sliced-digits.ensures in
    let v = c.sliced-digits in
    let bytes = c.args.board.now in
    let t = planes in
    c.parted.ensures
    ∙ sorted_from bytes c.words-words.ensures.1 v.result.a v.result.b v.result.c v.result.d c.above-beyond.result
    t.first t.second t.third t.fourth c.above-beyond.ensures
