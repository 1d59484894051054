-- A loaded line makes one whole sample: the samples are as many as the ledger counts. Assumes nothing.
use mathlib.Core.Path.{◌≡◌, refl, ap, ◌∙◌}
use mathlib.Core.Bool.{cond}
use mathlib.Core.List.{List, [], ◌∷◌, ◌++◌}
use Prim.Native.Nat.{ℕ, ◌+◌, ◌*◌}
use native.Mathlib.Omega.{arith}
use lib.ListN.{length, length-append}
use Rattle.refusal.specs.Answer.{Answer, given, refused}
use Rattle.position_boards.specs.Boards.{bitboards_of}
use Rattle.score_material.specs.Pieces.{pieces}
use Rattle.trace_counts.specs.declared.Trace.{Trace}
use Rattle.trace.specs.Trace.{trace_of, entries_of}
use Rattle.trace_list.specs.Form.{ones_in, list_bytes}
use Rattle.trace_list.proofs.Bytes.{bytes_length}
use Rattle.line_parse.specs.Line.{Line, line_of}
use Rattle.line_cut.specs.Lines.{lines_of}
use Rattle.line.proofs.Loaded.{loaded_checked}
use Rattle.line_profile.specs.declared.Profile.TheVariants as P
use Rattle.ledger_row.specs.Row.{is_loaded}
use Rattle.ledger_whole.specs.Ledger.{loaded_in}
use Rattle.fit_sample.specs.Sample.{sample_by, sample_of}
use Rattle.fit_sample.proofs.Sampled.{sample_300}
use Rattle.sift_form.specs.Forms.{made_of}
use Rattle.sift_form.specs.declared.Form.TheVariants as M
use Rattle.sift_close.specs.Ended.{made_by_rule}
use Rattle.sift_whole.specs.Sifted.{made_in}
use Rattle.sift_whole.specs.Calls.{SamplesCount}

moved : (bbs : List ℕ) (side : ℕ) → length (trace_of bbs side).mobility ≡ 12
unfolding trace_of
moved bbs side = refl

pub sampled : (line : List ℕ) (l : Line) → line_of line ≡ given l → length (made_of M.Sample l) ≡ 300
unfolding sample_of
sampled line l e =
    let bbs : List ℕ = bitboards_of l.board in
    let list : List ℕ = list_bytes (ones_in (entries_of bbs)) in
    let t : Trace = trace_of bbs l.state.side in
    ap (λ (a : Answer Trace). length (sample_by a (pieces bbs) l.half list)) (loaded_checked line l e (given t))
    ∙ sample_300 t (pieces bbs) l.half list (moved bbs l.state.side) (bytes_length (ones_in (entries_of bbs)))

all_sampled : (ls : List (List ℕ)) → length (made_in (made_of M.Sample) ls) ≡ 300 * loaded_in P.Any ls
unfolding made_in loaded_in
all_sampled [] = refl
all_sampled (l ∷ ls) = go (line_of l) refl (all_sampled ls)
  where
    go : (a : Answer Line) → line_of l ≡ a → length (made_in (made_of M.Sample) ls) ≡ 300 * loaded_in P.Any ls
        → length (made_by_rule (made_of M.Sample) a ++ made_in (made_of M.Sample) ls) ≡ 300 * (cond (is_loaded a) 1 0 + loaded_in P.Any ls)
    go (given x) e h = let s = sampled l x e in let k = length-append (made_of M.Sample x) (made_in (made_of M.Sample) ls) in omega arith
    go (refused n v) e h = omega arith

pub samples_count : (input : List ℕ) → SamplesCount input
samples_count input = all_sampled (lines_of input)
