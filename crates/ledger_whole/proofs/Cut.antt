-- THE LEDGER, however it is cut: the calls of `feed` and `finish` write what the machine writes over the whole input. Assumes nothing.
use mathlib.Core.Path.{◌≡◌, sym, ap, ap₂, subst, ◌∙◌}
use mathlib.Core.Bool.{Bool, true, false, cond, not}
use mathlib.Core.List.{List, [], ◌∷◌, ◌++◌, append_assoc, append-nil}
use Prim.Native.Nat.{ℕ, ◌+◌, ◌*◌, ◌^◌, ◌≤◌, ◌<◌}
use native.Mathlib.Nat.{add-zero, zero-add}
use native.Mathlib.Omega.{arith}
use lib.Dec.{ltb, leb, eqb}
use lib.ListN.{length, take}
use borrow.Author.Tests.{lt-ltb, le-leb}
use Rattle.refusal.specs.Answer.{Answer}
use Rattle.line_parse.specs.Line.{Line}
use Rattle.ledger_row.specs.Row.{row_of, is_loaded}
use Rattle.text_out.specs.Text.{written_of, room_for}
use Rattle.text_out.proofs.Wrote.{written_front}
use Rattle.ledger_totals.specs.Totals.{last_row}
use Rattle.line_cut.specs.Lines.{lf, ends}
use Rattle.line_cut.specs.Cut.{Open, line_emptied, pushed, bare_of, CutSoFar, run_by}
use Rattle.line_cut.proofs.Machine.{run_append, run_told_holds, run_size}
use Rattle.line_cut.proofs.Counted.{ends_append}
use Rattle.line_profile.specs.Under.{said_under}
use Rattle.line_profile.specs.declared.Profile.{Profile}
use Rattle.ledger_feed.specs.Machine.{Machine, Kept, at, open_of, kept_of, machine_of, close_row, run, close, tally}
use Rattle.ledger_feed.specs.Promises.{Came, came, feed_of, came_by_value, line_after, text_after, wrote, state_of, Feeds, came_as}
use Rattle.ledger_feed.specs.declared.SoFar.{SoFar}
use Rattle.ledger_feed.proofs.Counted.{tally_both}
use Rattle.ledger_feed.proofs.Doors.{fit_came}
use Rattle.ledger_finish.specs.Last.{totals, finished}
use Rattle.ledger_finish.specs.Promises.{last_lines, finish_of, length_of, last_text, Finishes}
use Rattle.ledger_finish.proofs.Doors.{finished_116}
use Rattle.ledger_whole.specs.Calls.{Call, Last, next, rows_of, last_rows_of, CallsMade, all_written, input, Roomy, fresh}
use Rattle.ledger_whole.specs.Whole.{Whole}
use Rattle.ledger_whole.proofs.Machines.{lines_in, machine_ledger, machine_lines}
use Rattle.std.specs.Prelude.{Result, Ok, Err}
use Rattle.ledger_feed.specs.declared.Unwritten.TheVariants as U
use Rattle.ledger_feed.specs.declared.Unwritten.{Unwritten}

-- ---- each call begins with no text: the texts that the calls write are joined
abbrev pub shift : List ℕ → Kept → Kept
shift t r = record { loaded = r.loaded; refused = r.refused; text = t ++ r.text }

close_shift : (profile : Profile) (t : List ℕ) (r : Kept) (line : List ℕ) (size : ℕ)
    → close_row profile (shift t r) line size ≡ shift t (close_row profile r line size)
close_shift profile t r line size =
    let a : Answer Line = said_under profile line size in
    ap (λ (u : List ℕ). record { loaded = tally r.loaded (is_loaded a); refused = tally r.refused (not (is_loaded a)); text = u })
    (append_assoc t r.text (row_of (r.loaded + r.refused + 1) a))

abbrev pub after_text : List ℕ → Machine → Machine
after_text t m = record { line = m.line; held = m.held; cr = m.cr; loaded = m.loaded; refused = m.refused; text = t ++ m.text }

run_after : (profile : Profile) (t : List ℕ) (m : Machine) (s : List ℕ) → run profile (after_text t m) s ≡ after_text t (run profile m s)
run_after profile t m s = ap machine_of (run_told_holds (shift t) (close_row profile) (close_row profile) (close_shift profile t) (open_of m) (kept_of m) s)

finished_after : (profile : Profile) (t : List ℕ) (m : Machine) → finished profile (after_text t m) ≡ t ++ finished profile m
unfolding finished
finished_after profile t m = go (ltb 0 m.held)
  where
    r : Kept
    r = close_row profile (kept_of m) m.line m.held

    go : (x : Bool)
        → (cond x (close profile (after_text t m) m.held) (after_text t m)).text ++ totals (cond x (close profile (after_text t m) m.held) (after_text t m))
        ≡ t ++ ((cond x (close profile m m.held) m).text ++ totals (cond x (close profile m m.held) m))
    go true =
        ap (λ (x : Kept). x.text ++ last_row (x.loaded + x.refused) x.loaded x.refused) (close_shift profile t (kept_of m) m.line m.held)
        ∙ append_assoc t r.text (totals (close profile m m.held))
    go false = append_assoc t m.text (totals m)

-- a machine is what it has written, and the machine that has written nothing
abbrev pub quiet : Machine → Machine
quiet m = at (state_of m) m.line []

pub split : (m : Machine) → m ≡ after_text m.text (quiet m)
split m = ap (λ (t : List ℕ). record { line = m.line; held = m.held; cr = m.cr; loaded = m.loaded; refused = m.refused; text = t })
    (sym (append-nil m.text))

pieces : (profile : Profile) (m : Machine) (s t : List ℕ) → run profile m (s ++ t) ≡ after_text (run profile m s).text (run profile (quiet (run profile m s)) t)
pieces profile m s t =
    ap machine_of (run_append (close_row profile) (open_of m) (kept_of m) s t) ∙ ap (λ (x : Machine). run profile x t) (split (run profile m s))
    ∙ run_after profile (run profile m s).text (quiet (run profile m s)) t

-- ---- how many lines were counted
run_counts : (profile : Profile) (o : Open) (r : Kept) (s : List ℕ) → (run_by (close_row profile) o r s).kept.loaded
    + (run_by (close_row profile) o r s).kept.refused ≡ r.loaded + r.refused + ends s
unfolding run_by ends
run_counts profile o r [] = sym (add-zero (r.loaded + r.refused))
run_counts profile o r (b ∷ s) = go (eqb b lf) (run_counts profile (line_emptied o) (close_row profile r o.line (bare_of o.held o.cr)) s)
    (run_counts profile (pushed o b) r s)
  where
    a : Answer Line
    a = said_under profile o.line (bare_of o.held o.cr)

    e : CutSoFar Kept
    e = run_by (close_row profile) (line_emptied o) (close_row profile r o.line (bare_of o.held o.cr)) s

    f : CutSoFar Kept
    f = run_by (close_row profile) (pushed o b) r s

    go : (x : Bool)
        → e.kept.loaded + e.kept.refused ≡ tally r.loaded (is_loaded a) + tally r.refused (not (is_loaded a)) + ends s
        → f.kept.loaded + f.kept.refused ≡ r.loaded + r.refused + ends s
        → (cond x e f).kept.loaded + (cond x e f).kept.refused ≡ r.loaded + r.refused + cond x (ends s + 1) (ends s)
    go true p q = p ∙ (let both = tally_both (is_loaded a) r.loaded r.refused in omega arith)
    go false p q = q

-- ---- a call with room
pub taken : (out out' text : List ℕ) → out' ≡ written_of out 0 text → length text ≤ length out → take (length text) out' ≡ text
taken out out' text e h =
    ap (take (length text)) e ∙ ap (λ (n : ℕ). take n (written_of out 0 text)) (sym (zero-add (length text)))
    ∙ written_front out 0 text (let z : 0 + length text ≤ length out = omega arith in z)

pub rows_of_holds : (r : Result (SoFar × ℕ) Unwritten) (state : SoFar) (n : ℕ) → came_as r ≡ came (state, n) → r ≡ Ok (state, n)
rows_of_holds (Ok (s, k)) state n e =
    let both : ◌≡◌ {A = SoFar × ℕ} (s, k) (state, n) = cc in
    ap₂ (λ x n. Ok (x, n)) (ap (λ (p : SoFar × ℕ). p.0) both) (ap (λ (p : SoFar × ℕ). p.1) both)
rows_of_holds (Err U.Full) state n e = absurd (let z : ◌≡◌ {A = ℕ} 0 1 = cc in omega arith)
rows_of_holds (Err U.Many) state n e = absurd (let z : ◌≡◌ {A = ℕ} 0 1 = cc in omega arith)
rows_of_holds (Err (U.Refused q)) state n e = absurd (let z : ◌≡◌ {A = ℕ} 0 1 = cc in omega arith)

pub last_of_holds : (r : Result ℕ Unwritten) (n : ℕ) → came_as r ≡ came n → r ≡ Ok n
last_of_holds (Ok k) n e = ap Ok (cc)
last_of_holds (Err U.Full) n e = absurd (let z : ◌≡◌ {A = ℕ} 0 1 = cc in omega arith)
last_of_holds (Err U.Many) n e = absurd (let z : ◌≡◌ {A = ℕ} 0 1 = cc in omega arith)
last_of_holds (Err (U.Refused q)) n e = absurd (let z : ◌≡◌ {A = ℕ} 0 1 = cc in omega arith)

-- what a call hands on
pub record Given (m : Machine) (r : Result (SoFar × ℕ) Unwritten) (line' out' : List ℕ) : Type 0 where
  pub answer : r ≡ Ok (state_of m, (length m.text))
  pub kept : line' ≡ m.line
  pub rows : rows_of r out' ≡ m.text

feed_given : (profile : Profile) (state : SoFar) (line chunk out : List ℕ) (r : Result (SoFar × ℕ) Unwritten) (line' out' : List ℕ) → Feeds profile state line chunk out r line' out'
    → length line ≡ 256 → state.loaded + state.refused + ends chunk < 2 ^ 64 → 32 * ends chunk ≤ length out
    → Given (run profile (at state line []) chunk) r line' out'
feed_given profile state line chunk out r line' out' f size counts room =
    let m : Machine = run profile (at state line []) chunk in
    let e : feed_of profile state line chunk out ≡ came m =
    fit_came line (state.loaded + state.refused + ends chunk) (leb (32 * ends chunk) (length out)) m size
    (lt-ltb (state.loaded + state.refused + ends chunk) (2 ^ 64) counts) (le-leb (32 * ends chunk) (length out) room) in
    let a : r ≡ Ok (state_of m, (length m.text)) = rows_of_holds r (state_of m) (length m.text) (f.answer ∙ ap came_by_value e) in
    let h : length m.text ≤ length out = subst (λ (q : Result (SoFar × ℕ) Unwritten). wrote (came_as q) ≤ length out) a f.within in
    record {
      answer = a;
      kept = f.kept ∙ ap (λ (x : Came Machine). line_after x line) e;
      rows =
          ap (λ (q : Result (SoFar × ℕ) Unwritten). rows_of q out') a
          ∙ taken out out' m.text (f.rows ∙ ap (λ (x : Came Machine). written_of out 0 (text_after x)) e) h;
    }

finish_given : (profile : Profile) (state : SoFar) (line out : List ℕ) (r : Result ℕ Unwritten) (out' : List ℕ) → Finishes profile state line out r out'
    → length line ≡ 256 → last_lines state < 2 ^ 64 → 116 ≤ length out → last_rows_of r out' ≡ finished profile (at state line [])
finish_given profile state line out r out' f size counts room =
    let t : List ℕ = finished profile (at state line []) in
    let h : 0 + length t ≤ 116 = finished_116 profile state line in
    let e : finish_of profile state line out ≡ came t =
    fit_came line (last_lines state) (room_for out 0 t) t size (lt-ltb (last_lines state) (2 ^ 64) counts) (le-leb (0 + length t) (length out) (omega arith)) in
    ap (λ (q : Result ℕ Unwritten). last_rows_of q out') (last_of_holds r (length t) (f.answer ∙ ap length_of e))
    ∙ taken out out' t (f.rows ∙ ap (λ (x : Came (List ℕ)). written_of out 0 (last_text x)) e) (omega arith)

-- ---- all calls
pub part_counts : (a b c d : ℕ) (n : ℕ) → a ≡ b + (c + d) → a + n < 2 ^ 64 → b + c < 2 ^ 64
part_counts a b c d n e h = omega arith

all : (profile : Profile) (state : SoFar) (line : List ℕ) (calls : List Call) (last : Last) → length line ≡ 256 → Roomy calls last
    → lines_in (run profile (at state line []) (input calls)) < 2 ^ 64 → CallsMade profile state line calls last
    → all_written calls last ≡ finished profile (run profile (at state line []) (input calls))
unfolding run_by input Roomy CallsMade all_written
all profile state line [] last size room counts made = finish_given profile state line last.out last.finished last.out' made size counts room
all profile state line (c ∷ cs) last size room counts made =
    let m : Machine = run profile (at state line []) c.chunk in
    let s : List ℕ = input cs in
    let cut : run profile (at state line []) (c.chunk ++ s) ≡ after_text m.text (run profile (quiet m) s) = pieces profile (at state line []) c.chunk s in
    let total = run_counts profile (open_of (at state line [])) (kept_of (at state line [])) (c.chunk ++ s)
    ∙ ap (λ (n : ℕ). state.loaded + state.refused + n) (ends_append c.chunk s) in
    let g = feed_given profile state line c.chunk c.out c.fed c.line' c.out' made.0 size
    (part_counts _ (state.loaded + state.refused) (ends c.chunk) (ends s) _ total counts) room.0 in
    let rest : CallsMade profile (state_of m) m.line cs last =
    subst (λ (l : List ℕ). CallsMade profile (state_of m) l cs last) g.kept
    (subst (λ (r : Result (SoFar × ℕ) Unwritten). CallsMade profile (next r state) c.line' cs last) g.answer made.1) in
    ap₂ ◌++◌ g.rows
    (all profile (state_of m) m.line cs last (run_size (close_row profile) (open_of (at state line [])) (kept_of (at state line [])) c.chunk ∙ size)
    room.1 (subst (λ (n : ℕ). n < 2 ^ 64) (ap lines_in cut) counts) rest)
    ∙ sym (finished_after profile m.text (run profile (quiet m) s)) ∙ sym (ap (finished profile) cut)

-- the claim, for every line buffer and all calls
pub ledger : (profile : Profile) (line : List ℕ) (calls : List Call) (last : Last) → Whole profile line calls last
ledger profile line calls last = record {
  ledger = λ size room few made. all profile fresh line calls last size room
      (subst (λ (n : ℕ). n < 2 ^ 64) (sym (machine_lines profile line (input calls) size)) few) made
      ∙ machine_ledger profile line (input calls) size;
}
