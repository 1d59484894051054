-- THE ROWS OF ALL QUESTIONS, however the input is cut: the calls of `feed` and `finish` write what the machine writes over the whole input. Assumes nothing.
use mathlib.Core.Path.{◌≡◌, refl, sym, ap, ap₂, subst, ◌∙◌}
use mathlib.Core.Bool.{Bool, true, false, cond, not}
use mathlib.Core.List.{List, [], ◌∷◌, ◌++◌, append_assoc}
use Prim.Native.Nat.{ℕ, suc, ◌+◌, ◌*◌, ◌^◌, ◌≤◌, ◌<◌}
use native.Mathlib.Nat.{add-zero}
use native.Mathlib.Omega.{arith}
use lib.Dec.{ltb, leb, eqb}
use lib.ListN.{length}
use borrow.Author.Tests.{lt-ltb, le-leb}
use Rattle.refusal.specs.Answer.{Answer}
use Rattle.exchange_start.specs.declared.Mode.{Mode}
use Rattle.exchange.specs.Exchange.{Capture, values_taken}
use Rattle.exchange_value.proofs.Stopping.{adds_up}
use Rattle.ledger_row.specs.Row.{is_loaded}
use Rattle.text_out.specs.Text.{written_of, room_for}
use Rattle.line_cut.specs.Lines.{lf, ends}
use Rattle.line_cut.specs.Cut.{Open, line_emptied, pushed, bare_of, CutSoFar, run_by}
use Rattle.line_cut.proofs.Machine.{run_append, run_told_holds, run_size}
use Rattle.line_cut.proofs.Counted.{ends_append}
use Rattle.ledger_feed.specs.Machine.{Machine, Kept, at, open_of, kept_of, machine_of, tally}
use Rattle.ledger_feed.specs.Promises.{Came, came, came_by_value, line_after, text_after, wrote, state_of, came_as}
use Rattle.ledger_feed.specs.declared.SoFar.{SoFar}
use Rattle.ledger_feed.proofs.Counted.{tally_both}
use Rattle.ledger_feed.proofs.Doors.{fit_came}
use Rattle.ledger_finish.specs.Promises.{last_lines, length_of, last_text}
use Rattle.ledger_whole.proofs.Machines.{lines_in}
use Rattle.ledger_whole.proofs.Cut.{shift, after_text, quiet, split, taken, rows_of_holds, last_of_holds, Given, part_counts}
use Rattle.ledger_whole.specs.Calls.{Call, Last, next, rows_of, last_rows_of, all_written, input, fresh}
use Rattle.captures_question.specs.Question.{question_of}
use Rattle.captures_row.specs.Rows.{counts_row}
use Rattle.captures_close.specs.Answered.{answer_rows, held_answer}
use Rattle.captures_feed.specs.Machine.{close_told, run_told, last_told, finished_told}
use Rattle.captures_feed.specs.Promises.{tell_of, TellsQuestions, last_of, TellsLast}
use Rattle.captures_feed.proofs.Turn.{finished_2132}
use Rattle.captures_whole.specs.Questions.{told_in, untold_in}
use Rattle.captures_whole.specs.Whole.{TellsMade, RoomyTold, WholeTold, Told}
use Rattle.captures_whole.proofs.Machines.{machine_answers, machine_lines}
use Rattle.std.specs.Prelude.{Result, Ok}
use Rattle.ledger_feed.specs.declared.Unwritten.{Unwritten}

-- ---- each call begins with no text: the texts that the calls write are joined
close_shift : (mode : Mode) (t : List ℕ) (r : Kept) (line : List ℕ) (size : ℕ) → close_told mode (shift t r) line size ≡ shift t (close_told mode r line size)
close_shift mode t r line size =
    let a : Answer (List Capture) = held_answer mode line size in
    ap (λ (u : List ℕ). record { loaded = tally r.loaded (is_loaded a); refused = tally r.refused (not (is_loaded a)); text = u })
    (append_assoc t r.text (answer_rows (r.loaded + r.refused + 1) a))

run_after : (mode : Mode) (t : List ℕ) (m : Machine) (s : List ℕ) → run_told mode (after_text t m) s ≡ after_text t (run_told mode m s)
run_after mode t m s = ap machine_of (run_told_holds (shift t) (close_told mode) (close_told mode) (close_shift mode t) (open_of m) (kept_of m) s)

finished_after : (mode : Mode) (t : List ℕ) (m : Machine) → finished_told mode (after_text t m) ≡ t ++ finished_told mode m
finished_after mode t m = go (ltb 0 m.held)
  where
    r : Kept
    r = close_told mode (kept_of m) m.line m.held

    go : (x : Bool) → last_told (cond x (close_told mode (shift t (kept_of m)) m.line m.held) (shift t (kept_of m))) ≡ t ++ last_told (cond x r (kept_of m))
    go true = ap last_told (close_shift mode t (kept_of m) m.line m.held)
        ∙ append_assoc t r.text (counts_row (r.loaded + r.refused) r.loaded r.refused)
    go false = append_assoc t m.text (counts_row (m.loaded + m.refused) m.loaded m.refused)

pieces : (mode : Mode) (m : Machine) (s t : List ℕ) → run_told mode m (s ++ t) ≡ after_text (run_told mode m s).text (run_told mode (quiet (run_told mode m s)) t)
pieces mode m s t =
    ap machine_of (run_append (close_told mode) (open_of m) (kept_of m) s t) ∙ ap (λ (x : Machine). run_told mode x t) (split (run_told mode m s))
    ∙ run_after mode (run_told mode m s).text (quiet (run_told mode m s)) t

-- ---- how many lines were counted
run_counts : (mode : Mode) (o : Open) (r : Kept) (s : List ℕ) → (run_by (close_told mode) o r s).kept.loaded
    + (run_by (close_told mode) o r s).kept.refused ≡ r.loaded + r.refused + ends s
unfolding run_by ends
run_counts mode o r [] = sym (add-zero (r.loaded + r.refused))
run_counts mode o r (b ∷ s) = go (eqb b lf) (run_counts mode (line_emptied o) (close_told mode r o.line (bare_of o.held o.cr)) s)
    (run_counts mode (pushed o b) r s)
  where
    a : Answer (List Capture)
    a = held_answer mode o.line (bare_of o.held o.cr)

    e : CutSoFar Kept
    e = run_by (close_told mode) (line_emptied o) (close_told mode r o.line (bare_of o.held o.cr)) s

    f : CutSoFar Kept
    f = run_by (close_told mode) (pushed o b) r s

    go : (x : Bool)
        → e.kept.loaded + e.kept.refused ≡ tally r.loaded (is_loaded a) + tally r.refused (not (is_loaded a)) + ends s
        → f.kept.loaded + f.kept.refused ≡ r.loaded + r.refused + ends s
        → (cond x e f).kept.loaded + (cond x e f).kept.refused ≡ r.loaded + r.refused + cond x (ends s + 1) (ends s)
    go true p q = p ∙ (let both = tally_both (is_loaded a) r.loaded r.refused in omega arith)
    go false p q = q

-- ---- a call with room
feed_given : (mode : Mode) (state : SoFar) (line chunk out : List ℕ) (r : Result (SoFar × ℕ) Unwritten) (line' out' : List ℕ) → TellsQuestions mode state line chunk out r line' out'
    → length line ≡ 256 → state.loaded + state.refused + ends chunk < 2 ^ 64 → 2048 * ends chunk ≤ length out
    → Given (run_told mode (at state line []) chunk) r line' out'
feed_given mode state line chunk out r line' out' f size counts room =
    let m : Machine = run_told mode (at state line []) chunk in
    let e : tell_of mode state line chunk out ≡ came m =
    fit_came line (state.loaded + state.refused + ends chunk) (leb (2048 * ends chunk) (length out)) m size
    (lt-ltb (state.loaded + state.refused + ends chunk) (2 ^ 64) counts) (le-leb (2048 * ends chunk) (length out) room) in
    let a : r ≡ Ok (state_of m, (length m.text)) = rows_of_holds r (state_of m) (length m.text) (f.answer ∙ ap came_by_value e) in
    let h : length m.text ≤ length out = subst (λ (q : Result (SoFar × ℕ) Unwritten). wrote (came_as q) ≤ length out) a f.within in
    record {
      answer = a;
      kept = f.kept ∙ ap (λ (x : Came Machine). line_after x line) e;
      rows =
          ap (λ (q : Result (SoFar × ℕ) Unwritten). rows_of q out') a
          ∙ taken out out' m.text (f.rows ∙ ap (λ (x : Came Machine). written_of out 0 (text_after x)) e) h;
    }

finish_given : (mode : Mode) (state : SoFar) (line out : List ℕ) (r : Result ℕ Unwritten) (out' : List ℕ) → TellsLast mode state line out r out'
    → length line ≡ 256 → last_lines state < 2 ^ 64 → 2132 ≤ length out → last_rows_of r out' ≡ finished_told mode (at state line [])
finish_given mode state line out r out' f size counts room =
    let t : List ℕ = finished_told mode (at state line []) in
    let h : 0 + length t ≤ 2132 = finished_2132 mode state line in
    let e : last_of mode state line out ≡ came t =
    fit_came line (last_lines state) (room_for out 0 t) t size (lt-ltb (last_lines state) (2 ^ 64) counts) (le-leb (0 + length t) (length out) (omega arith)) in
    ap (λ (q : Result ℕ Unwritten). last_rows_of q out') (last_of_holds r (length t) (f.answer ∙ ap length_of e))
    ∙ taken out out' t (f.rows ∙ ap (λ (x : Came (List ℕ)). written_of out 0 (last_text x)) e) (omega arith)

-- ---- all calls
all : (mode : Mode) (state : SoFar) (line : List ℕ) (calls : List Call) (last : Last) → length line ≡ 256 → RoomyTold calls last
    → lines_in (run_told mode (at state line []) (input calls)) < 2 ^ 64 → TellsMade mode state line calls last
    → all_written calls last ≡ finished_told mode (run_told mode (at state line []) (input calls))
unfolding run_by input RoomyTold TellsMade all_written
all mode state line [] last size room counts made = finish_given mode state line last.out last.finished last.out' made size counts room
all mode state line (c ∷ cs) last size room counts made =
    let m : Machine = run_told mode (at state line []) c.chunk in
    let s : List ℕ = input cs in
    let cut : run_told mode (at state line []) (c.chunk ++ s) ≡ after_text m.text (run_told mode (quiet m) s) = pieces mode (at state line []) c.chunk s in
    let total = run_counts mode (open_of (at state line [])) (kept_of (at state line [])) (c.chunk ++ s)
    ∙ ap (λ (n : ℕ). state.loaded + state.refused + n) (ends_append c.chunk s) in
    let g = feed_given mode state line c.chunk c.out c.fed c.line' c.out' made.0 size
    (part_counts _ (state.loaded + state.refused) (ends c.chunk) (ends s) _ total counts) room.0 in
    let rest : TellsMade mode (state_of m) m.line cs last =
    subst (λ (l : List ℕ). TellsMade mode (state_of m) l cs last) g.kept
    (subst (λ (r : Result (SoFar × ℕ) Unwritten). TellsMade mode (next r state) c.line' cs last) g.answer made.1) in
    ap₂ ◌++◌ g.rows
    (all mode (state_of m) m.line cs last (run_size (close_told mode) (open_of (at state line [])) (kept_of (at state line [])) c.chunk ∙ size)
    room.1 (subst (λ (n : ℕ). n < 2 ^ 64) (ap lines_in cut) counts) rest)
    ∙ sym (finished_after mode m.text (run_told mode (quiet m) s)) ∙ sym (ap (finished_told mode) cut)

-- the claim, for every line buffer and all calls
pub rows_of_whole : (mode : Mode) (line : List ℕ) (calls : List Call) (last : Last) → WholeTold mode line calls last
rows_of_whole mode line calls last = record {
  rows = λ size room few made. all mode fresh line calls last size room
      (subst (λ (n : ℕ). n < 2 ^ 64) (sym (machine_lines mode line (input calls) size)) few) made
      ∙ machine_answers mode line (input calls) size;
}

-- ---- every question is counted, told or refused
both_counts : (mode : Mode) (qs : List (List ℕ)) → told_in mode qs + untold_in mode qs ≡ length qs
unfolding told_in untold_in
both_counts mode [] = refl
both_counts mode (q ∷ qs) = go (is_loaded (question_of mode q)) (both_counts mode qs)
  where
    go : (t : Bool) → told_in mode qs + untold_in mode qs ≡ length qs → cond t 1 0 + told_in mode qs + (cond t 0 1 + untold_in mode qs) ≡ suc (length qs)
    go true e = omega arith
    go false e = omega arith

pub told : (mode : Mode) (questions : List (List ℕ)) → Told mode questions
told mode questions = record { counts = both_counts mode questions; worth = λ cs. adds_up (values_taken cs) }
