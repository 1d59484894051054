-- The pieces of a run, record by record: the next 34 bytes are the next piece, and what is left over is the last one. Assumes nothing.
use mathlib.Core.Path.{◌≡◌, sym, ap, ◌∙◌}
use mathlib.Core.Bool.{Bool, cond}
use mathlib.Core.List.{List, [], ◌∷◌, ◌++◌, append_assoc, append-nil}
use Prim.Native.Nat.{ℕ, ◌+◌, ◌*◌, ◌/◌, ◌<◌}
use native.Mathlib.Omega.{arith}
use lib.ListN.{length, take, drop, length-append, length-drop, take-append-drop}
use lib.Seq.{drop-drop, length-take-le}
use borrow.Author.Tests.{lt-ltb}
use Rattle.line_cut.specs.Lines.{at_end}
use Rattle.store_record.specs.Record.{record_at}
use Rattle.store_cut.specs.Pieces.{records_from, pieces_of}
use Rattle.store_cut.proofs.Folded.{filled_up}
use Rattle.store_summary.specs.Promises.{with_record}

-- fewer bytes than a piece has are the last one
pub short_last : (begun t : List ℕ) → length begun + length t < 34 → records_from begun t ≡ at_end (begun ++ t)
unfolding records_from
short_last begun [] h = sym (ap at_end (append-nil begun))
short_last begun (b ∷ t) h =
    ap (λ (x : Bool). cond x (records_from (begun ++ (b ∷ [])) t) ((begun ++ (b ∷ [])) ∷ records_from [] t)) (lt-ltb (length begun) 33 (omega arith))
    ∙ short_last (begun ++ (b ∷ [])) t (let n = length-append begun (b ∷ []) in omega arith) ∙ ap at_end (append_assoc begun (b ∷ []) t)

module _ (run : List ℕ) (i : ℕ) where
  abbrev rest : List ℕ
  rest = drop (34 * i) run

  pub next_record : i < length run / 34 → pieces_of rest ≡ record_at run i ∷ pieces_of (drop (34 * (i + 1)) run)
  next_record h =
      let d = length-drop (34 * i) run in
      let n : length (take 34 rest) ≡ 34 = length-take-le 34 rest (omega arith) in
      let e : 34 * i + 34 ≡ 34 * (i + 1) = omega arith in
      ap pieces_of (sym (take-append-drop 34 rest)) ∙ filled_up [] (take 34 rest) (drop 34 rest) (omega arith) (omega arith)
      ∙ ap (λ (x : List ℕ). record_at run i ∷ pieces_of x) (drop-drop 34 (34 * i) run ∙ ap (λ (k : ℕ). drop k run) e)

  -- a record put where it stands
  pub record_again : with_record run i (record_at run i) ≡ run
  unfolding with_record
  record_again =
      ap (λ (x : List ℕ). take (34 * i) run ++ (take 34 rest ++ x)) (sym (drop-drop 34 (34 * i) run))
      ∙ ap (λ (x : List ℕ). take (34 * i) run ++ x) (take-append-drop 34 rest) ∙ take-append-drop (34 * i) run
