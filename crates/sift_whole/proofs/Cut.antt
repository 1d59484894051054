-- A COLLECTION SIFTED, however it is cut: the calls of `feed` and `finish` write what the machine writes over the whole input. Assumes nothing.
use mathlib.Core.Path.{◌≡◌, sym, ap, ap₂, subst, ◌∙◌}
use mathlib.Core.Bool.{Bool, true, false, cond, ◌&&◌}
use mathlib.Core.List.{List, [], ◌∷◌, ◌++◌, append_assoc}
use Prim.Native.Nat.{ℕ, ◌+◌, ◌*◌, ◌^◌, ◌≤◌, ◌<◌}
use native.Mathlib.Nat.{mul-one}
use native.Mathlib.Omega.{arith}
use lib.Dec.{ltb}
use lib.ListN.{length}
use borrow.Author.Tests.{lt-ltb, le-leb}
use Rattle.text_out.specs.Text.{written_of}
use Rattle.ledger_totals.specs.Totals.{last_row}
use Rattle.line_cut.specs.Lines.{ends}
use Rattle.line_cut.specs.Cut.{CutSoFar, run_by}
use Rattle.line_cut.proofs.Machine.{run_size}
use Rattle.line_cut.proofs.Counted.{ends_append}
use Rattle.ledger_feed.specs.Promises.{Came, came, came_as}
use Rattle.ledger_feed.specs.declared.SoFar.{SoFar}
use Rattle.ledger_feed.proofs.Doors.{fit_came}
use Rattle.ledger_finish.specs.Promises.{unfinished, last_lines}
use Rattle.ledger_whole.specs.Calls.{fresh}
use Rattle.ledger_whole.proofs.Cut.{taken, part_counts}
use Rattle.sift_form.specs.Forms.{room_of, made_of}
use Rattle.sift_form.specs.declared.Form.{Form}
use Rattle.sift_feed.specs.Sifting.{Sifting, close_sift, sifting_at, open_at, sift_run, so_far_in}
use Rattle.sift_feed.specs.Promises.{sift_room, sift_of, sifted_by_value, line_sifted, sifting_in, sifted_bytes, Sifts}
use Rattle.sift_finish.specs.Last.{sift_end, all_rows, last_room, sifted_last, last_lengths, last_made, last_rows, last_bytes, FinishesSifted}
use Rattle.sift_whole.specs.Calls.{SiftCall, SiftLast, next_so_far, made_is, rows_are, last_made_is, last_rows_are, SiftedBy, all_made, all_sift_rows}
use Rattle.sift_whole.specs.Calls.{sift_input, RoomToSift, SiftedWhole}
use Rattle.sift_whole.proofs.Machine.{counted, ended, rest, run_counts, end_counts, cut, ended_made, ended_rows, ended_counts}
use Rattle.std.specs.Prelude.{Result, Ok, Err}
use Rattle.ledger_feed.specs.declared.Unwritten.TheVariants as U
use Rattle.ledger_feed.specs.declared.Unwritten.{Unwritten}

-- ---- a call with room
lines_of_holds : (r : Result (SoFar × ℕ × ℕ) Unwritten) (state : SoFar) (m n : ℕ) → came_as r ≡ came (state, m, n) → r ≡ Ok (state, m, n)
lines_of_holds (Ok (s, k, l)) state m n e =
    let all : ◌≡◌ {A = SoFar × ℕ × ℕ} (s, k, l) (state, m, n) = cc in λ i. Ok ((all i).0, (all i).1, (all i).2)
lines_of_holds (Err U.Full) state m n e = absurd (let z : ◌≡◌ {A = ℕ} 0 1 = cc in omega arith)
lines_of_holds (Err U.Many) state m n e = absurd (let z : ◌≡◌ {A = ℕ} 0 1 = cc in omega arith)
lines_of_holds (Err (U.Refused q)) state m n e = absurd (let z : ◌≡◌ {A = ℕ} 0 1 = cc in omega arith)

rows_of_holds : (r : Result (ℕ × ℕ) Unwritten) (m n : ℕ) → came_as r ≡ came (m, n) → r ≡ Ok (m, n)
rows_of_holds (Ok (k, l)) m n e = let both : ◌≡◌ {A = ℕ × ℕ} (k, l) (m, n) = cc in λ i. Ok ((both i).0, (both i).1)
rows_of_holds (Err U.Full) m n e = absurd (let z : ◌≡◌ {A = ℕ} 0 1 = cc in omega arith)
rows_of_holds (Err U.Many) m n e = absurd (let z : ◌≡◌ {A = ℕ} 0 1 = cc in omega arith)
rows_of_holds (Err (U.Refused q)) m n e = absurd (let z : ◌≡◌ {A = ℕ} 0 1 = cc in omega arith)

-- what a call hands on
record Given (m : CutSoFar Sifting) (r : Result (SoFar × ℕ × ℕ) Unwritten) (line' made' rows' : List ℕ) : Type 0 where
  answer : r ≡ Ok (so_far_in m, (length m.kept.made), (length m.kept.rows))
  kept : line' ≡ m.left.line
  making : made_is r made' ≡ m.kept.made
  rowing : rows_are r rows' ≡ m.kept.rows

feed_given : (form : Form) (state : SoFar) (line chunk made rows : List ℕ) (r : Result (SoFar × ℕ × ℕ) Unwritten) (line' made' rows' : List ℕ)
    → Sifts state form line chunk made rows r line' made' rows'
    → length line ≡ 256 → state.loaded + state.refused + ends chunk < 2 ^ 64 → room_of form * ends chunk ≤ length made → 32 * ends chunk ≤ length rows
    → Given (sift_run (made_of form) state line chunk) r line' made' rows'
feed_given form state line chunk made rows r line' made' rows' f size counts wide long =
    let m : CutSoFar Sifting = sift_run (made_of form) state line chunk in
    let e : sift_of state form line chunk made rows ≡ came m =
    fit_came line (state.loaded + state.refused + ends chunk) (sift_room form chunk made rows) m size
    (lt-ltb (state.loaded + state.refused + ends chunk) (2 ^ 64) counts)
    (ap₂ ◌&&◌ (le-leb (room_of form * ends chunk) (length made) wide) (le-leb (32 * ends chunk) (length rows) long)) in
    let a : r ≡ Ok (so_far_in m, (length m.kept.made), (length m.kept.rows)) =
    lines_of_holds r (so_far_in m) (length m.kept.made) (length m.kept.rows) (f.answer ∙ ap sifted_by_value e) in
    let h : length m.kept.made ≤ length made = subst (λ (q : Result (SoFar × ℕ × ℕ) Unwritten). (sifted_bytes (came_as q)).0 ≤ length made) a f.made_within in
    let k : length m.kept.rows ≤ length rows = subst (λ (q : Result (SoFar × ℕ × ℕ) Unwritten). (sifted_bytes (came_as q)).1 ≤ length rows) a f.rows_within in
    record {
      answer = a;
      kept = f.kept ∙ ap (λ (x : Came (CutSoFar Sifting)). line_sifted x line) e;
      making = ap (λ (q : Result (SoFar × ℕ × ℕ) Unwritten). made_is q made') a ∙ taken made made' m.kept.made
          (f.making ∙ ap (λ (x : Came (CutSoFar Sifting)). written_of made 0 (sifting_in x).made) e) h;
      rowing = ap (λ (q : Result (SoFar × ℕ × ℕ) Unwritten). rows_are q rows') a ∙ taken rows rows' m.kept.rows
          (f.rowing ∙ ap (λ (x : Came (CutSoFar Sifting)). written_of rows 0 (sifting_in x).rows) e) k;
    }

one_at_most : (n k held : ℕ) → n ≤ k → n * unfinished held ≤ k
one_at_most n k held h = go (ltb 0 held)
  where
    go : (t : Bool) → n * cond t 1 0 ≤ k
    go true = subst (λ (m : ℕ). m ≤ k) (sym (mul-one n)) h
    go false = omega arith

module _ (form : Form) (state : SoFar) (line made rows : List ℕ) (r : Result (ℕ × ℕ) Unwritten) (made' rows' : List ℕ)
    (f : FinishesSifted state form line made rows r made' rows')
    (size : length line ≡ 256) (counts : last_lines state < 2 ^ 64) (wide : room_of form ≤ length made) (long : 116 ≤ length rows) where
  abbrev end : Sifting
  end = sift_end (made_of form) state line

  came_end : sifted_last state form line made rows ≡ came end
  came_end =
      fit_came line (last_lines state) (last_room state form made rows) end size (lt-ltb (last_lines state) (2 ^ 64) counts)
      (ap₂ ◌&&◌ (le-leb (room_of form * unfinished state.held) (length made) (one_at_most (room_of form) (length made) state.held wide))
      (le-leb 116 (length rows) long))

  is : r ≡ Ok (length end.made, length (all_rows end))
  is = rows_of_holds r (length end.made) (length (all_rows end)) (f.answer ∙ ap last_lengths came_end)

  finish_made : last_made_is r made' ≡ end.made
  finish_made =
      ap (λ (q : Result (ℕ × ℕ) Unwritten). last_made_is q made') is
      ∙ taken made made' end.made (f.making ∙ ap (λ (x : Came Sifting). written_of made 0 (last_made x)) came_end)
      (subst (λ (q : Result (ℕ × ℕ) Unwritten). (last_bytes (came_as q)).0 ≤ length made) is f.made_within)

  finish_rows : last_rows_are r rows' ≡ all_rows end
  finish_rows =
      ap (λ (q : Result (ℕ × ℕ) Unwritten). last_rows_are q rows') is
      ∙ taken rows rows' (all_rows end) (f.rowing ∙ ap (λ (x : Came Sifting). written_of rows 0 (last_rows x)) came_end)
      (subst (λ (q : Result (ℕ × ℕ) Unwritten). (last_bytes (came_as q)).1 ≤ length rows) is f.rows_within)

-- ---- all calls
all : (form : Form) (state : SoFar) (line : List ℕ) (calls : List SiftCall) (last : SiftLast) → length line ≡ 256 → RoomToSift form calls last
    → counted (ended (made_of form) state line (sift_input calls)) < 2 ^ 64 → SiftedBy form state line calls last
    → (all_made calls last ≡ (ended (made_of form) state line (sift_input calls)).made)
    × (all_sift_rows calls last ≡ all_rows (ended (made_of form) state line (sift_input calls)))
unfolding run_by sift_input RoomToSift SiftedBy all_made all_sift_rows
all form state line [] last size room counts made =
    let few : last_lines state < 2 ^ 64 = subst (λ (n : ℕ). n < 2 ^ 64)
    (end_counts (made_of form) (record { left = open_at state line; kept = sifting_at state })) counts in (
      finish_made form state line last.made last.rows last.finished last.made' last.rows' made size few room.0 room.1,
      finish_rows form state line last.made last.rows last.finished last.made' last.rows' made size few room.0 room.1,
    )
all form state line (c ∷ cs) last size room counts made =
    let make = made_of form in
    let m : CutSoFar Sifting = sift_run make state line c.chunk in
    let s : List ℕ = sift_input cs in
    let both = cut make state line c.chunk s in
    let whole = end_counts make (sift_run make state line (c.chunk ++ s)) in
    let total = run_counts make state line (c.chunk ++ s) ∙ ap (λ (n : ℕ). state.loaded + state.refused + n) (ends_append c.chunk s) in
    let g = feed_given form state line c.chunk c.made c.rows c.sifted c.line' c.made' c.rows' made.0 size
    (part_counts _ (state.loaded + state.refused) (ends c.chunk) (ends s) _ total (subst (λ (n : ℕ). n < 2 ^ 64) whole counts)) room.0 room.1 in
    let later : SiftedBy form (so_far_in m) m.left.line cs last =
    subst (λ (l : List ℕ). SiftedBy form (so_far_in m) l cs last) g.kept
    (subst (λ (r : Result (SoFar × ℕ × ℕ) Unwritten). SiftedBy form (next_so_far r state) c.line' cs last) g.answer made.1) in
    let ih = all form (so_far_in m) m.left.line cs last (run_size (close_sift make) (open_at state line) (sifting_at state) c.chunk ∙ size) room.2
    (subst (λ (n : ℕ). n < 2 ^ 64) (ap counted both) counts) later in
    let next : Sifting = rest make state line c.chunk s in (
      ap₂ ◌++◌ g.making ih.0 ∙ sym (ap (λ (x : Sifting). x.made) both),
      ap₂ ◌++◌ g.rowing ih.1
          ∙ sym (append_assoc m.kept.rows next.rows (last_row (next.loaded + next.refused) next.loaded next.refused))
          ∙ sym (ap all_rows both),
    )

-- the claim, for every form, every line buffer and all calls
pub whole : (form : Form) (line : List ℕ) (calls : List SiftCall) (last : SiftLast) → SiftedWhole form line calls last
whole form line calls last = record {
  making = λ size room few made.
      (all form fresh line calls last size room (subst (λ (n : ℕ). n < 2 ^ 64) (sym (ended_counts (made_of form) line (sift_input calls) size)) few) made).0
      ∙ ended_made (made_of form) line (sift_input calls) size;
  rowing = λ size room few made.
      (all form fresh line calls last size room (subst (λ (n : ℕ). n < 2 ^ 64) (sym (ended_counts (made_of form) line (sift_input calls) size)) few) made).1
      ∙ ended_rows (made_of form) line (sift_input calls) size;
}
