-- THE ROW OF A COLLECTION'S ERROR, however the collection is cut. Assumes nothing.
use mathlib.Core.Path.{ap, ◌∙◌}
use mathlib.Core.List.{List}
use Prim.Native.Nat.{ℕ}
use Rattle.score_collection.specs.declared.Gathered.{Gathered}
use Rattle.score_collected.specs.Collected.{PieceCall, whole_input, begun}
use Rattle.score_collected.proofs.Cut.{come, end_left}
use Rattle.score_row.specs.Rows.{row_place, row_buffer, WritesError, ErrorOfWhole}
use Rattle.std.specs.Prelude.{Result, Option}
use Rattle.refusal.specs.declared.Refusal.{Refusal}

-- the claim, for every line buffer, all calls and every room
pub error_of_whole : (line : List ℕ) (calls : List PieceCall) (out : List ℕ) (r : Result (Option ℕ) Refusal) (out' : List ℕ) → ErrorOfWhole line calls out r out'
error_of_whole line calls out r out' = record {
  row = λ size made.
      let p = come (λ (g : Gathered) (l : List ℕ). WritesError g l out r out') begun line calls size made in
      let e = end_left line (whole_input calls) size in
      (p.answer ∙ ap (row_place out) e, p.buffer ∙ ap (row_buffer out) e);
}
