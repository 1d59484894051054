-- What a line's end does to what is written, and one turn of the loop over a chunk's lines: that of every consumer of lines (line_cut's `Turn`), with
-- room for the
-- rows. Assumes nothing.
use mathlib.Core.Path.{◌≡◌, refl, sym, ap, ap₂, subst, ◌∙◌}
use mathlib.Core.Bool.{Bool, true, false, cond, not}
use mathlib.Core.List.{List, [], ◌++◌}
use Prim.Native.Nat.{ℕ, ◌+◌, ◌-◌, ◌*◌, ◌^◌, ◌≤◌, ◌<◌}
use native.Mathlib.Omega.{arith}
use lib.Dec.{ltb}
use lib.ListN.{length, take, drop, take-append-drop, length-append}
use lib.Seq.{drop-drop, length-take-le}
use Rattle.text_out.specs.Text.{written_of, after_of, Adds}
use Rattle.text_out.proofs.Added.{adds_to, adds_length, adds_front, adds_back, adds_then}
use Rattle.text_out.proofs.Wrote.{place_is, written_is}
use Rattle.line_cut.specs.Lines.{ends}
use Rattle.line_cut.specs.Cut.{CutSoFar, run_by}
use Rattle.line_cut.specs.Promises.{opened, CutsNext}
use Rattle.line_cut.specs.declared.Begun.{Begun}
use Rattle.line_cut.specs.declared.Cut.{Cut}
use Rattle.line_cut.proofs.Loop as Lines
use Rattle.exchange_start.specs.declared.Mode.{Mode}
use Rattle.ledger_row.specs.Row.{is_loaded}
use Rattle.ledger_feed.specs.Machine.{Machine, Kept, open_of, kept_of, machine_of, at, tally}
use Rattle.ledger_feed.specs.Promises.{state_of, MakesState}
use Rattle.ledger_feed.specs.declared.SoFar.{SoFar}
use Rattle.ledger_feed.proofs.Counted.{tally_both}
use Rattle.ledger_feed.proofs.Turn.{begun_in, rows, rows_same}
use Rattle.ledger_finish.specs.Promises.{last_lines}
use Rattle.captures_row.specs.Rows.{counts_row}
use Rattle.captures_row.proofs.Fits.{fits_counts}
use Rattle.captures_close.specs.Answered.{answer_rows, held_answer}
use Rattle.captures_close.proofs.Room.{held_2048}
use Rattle.captures_feed.specs.Machine.{close_told, run_told, last_told, finished_told}
use Rattle.captures_feed.specs.Promises.{kept_in, ReadyLine, CountsQuestion, ReadyChunk, TakesChunk}
use Rattle.captures_feed.specs.declared.Written.{Written}
use Rattle.std.specs.Prelude.{Ok}

-- what is alike from a place on is alike from any later one
beyond : (w k : ℕ) (x y : List ℕ) → w ≤ k → drop w x ≡ drop w y → drop k x ≡ drop k y
beyond w k x y h p =
    let e : k ≡ w + (k - w) = omega arith in
    rw e (sym (drop-drop (k - w) w x) ∙ ap (drop (k - w)) p ∙ drop-drop (k - w) w y)

-- ---- no line ended
pub count_none : (mode : Mode) (w : Written) (line : List ℕ) (ended : Bool) (size : ℕ) (out : List ℕ) → ended ≡ false
    → CountsQuestion mode w line ended size out (record { loaded = w.loaded; refused = w.refused; wrote = w.wrote }) out
count_none mode w line ended size out e =
    subst (λ (t : Bool). CountsQuestion mode w line t size out (record { loaded = w.loaded; refused = w.refused; wrote = w.wrote }) out) (sym e)
    (record { kept = refl; sum = omega arith; from = omega arith; to = omega arith; long = refl; rest = λ k g. refl })

pub ready_count : {w : Written} {ended : Bool} {out : List ℕ} → ReadyLine w ended out → ended ≡ true → w.loaded + w.refused + 1 < 2 ^ 64
ready_count {w} r e = subst (λ (t : Bool). w.loaded + w.refused + cond t 1 0 < 2 ^ 64) e r.counts

-- ---- a line ended
pub count_line : (mode : Mode) (w : Written) (line : List ℕ) (ended : Bool) (size : ℕ) (out : List ℕ) → ReadyLine w ended out → ended ≡ true
    → (out' : List ℕ) (w' : ℕ)
    → Adds out w.wrote (answer_rows (w.loaded + w.refused + 1) (held_answer mode line size)) out' w'
    → (is : Bool) → is ≡ is_loaded (held_answer mode line size) → (loaded refused : ℕ) → loaded ≡ tally w.loaded is → refused ≡ tally w.refused (not is)
    → CountsQuestion mode w line ended size out (record { loaded = loaded; refused = refused; wrote = w' }) out'
count_line mode w line ended size out ready e out' w' a is il loaded refused l q =
    let room : w.wrote + 2048 * 1 ≤ length out = subst (λ (t : Bool). w.wrote + 2048 * cond t 1 0 ≤ length out) e ready.room in
    let row : List ℕ = answer_rows (w.loaded + w.refused + 1) (held_answer mode line size) in
    let short : length row ≤ 2048 = held_2048 mode (w.loaded + w.refused + 1) line size in
    let fits : w.wrote + length row ≤ length out = omega arith in
    let to : w' ≡ w.wrote + length row = adds_to a fits in
    let both = tally_both is w.loaded w.refused in
    subst (λ (t : Bool). CountsQuestion mode w line t size out (record { loaded = loaded; refused = refused; wrote = w' }) out') (sym e)
    (record {
      kept = rows_same (l ∙ ap (tally w.loaded) il) (q ∙ ap (λ (x : Bool). tally w.refused (not x)) il) (adds_front a fits);
      sum = ap₂ ◌+◌ l q ∙ both;
      from = omega arith;
      to = omega arith;
      long = adds_length a fits;
      rest = λ k g. beyond w' k out' out g (adds_back a fits);
    })

-- ---- what was written from the start on
as_written : (out out' : List ℕ) (w : ℕ) → w ≤ length out → length out' ≡ length out → drop w out' ≡ drop w out → out' ≡ written_of out 0 (take w out')
as_written out out' w within size rest =
    let long : length (take w out') ≡ w = length-take-le w out' (omega arith) in
    sym (take-append-drop w out') ∙ ap (λ (l : List ℕ). take w out' ++ l)
    (rest ∙ ap (λ (k : ℕ). drop k out) (let z : w ≡ 0 + length (take w out') = omega arith in z))
    ∙ sym (written_is out 0 (take w out') (omega arith))

-- ---- the loop
pub record Turn (mode : Mode) (whole : CutSoFar Kept) (chunk out₀ line out : List ℕ) (begun : Begun) (w : Written) (i : ℕ) : Type 0 where
  pub lines : Lines.Turn (close_told mode) whole 256 chunk line begun (kept_in w out) i
  pub kept : length out ≡ length out₀
  pub room : w.wrote + 2048 * ends (drop i chunk) ≤ length out₀
  pub counts : w.loaded + w.refused + ends (drop i chunk) < 2 ^ 64
  pub rest : (k : ℕ) → w.wrote ≤ k → drop k out ≡ drop k out₀

module _ (mode : Mode) (whole : CutSoFar Kept) (chunk out₀ line out : List ℕ) (begun : Begun) (w : Written) (i : ℕ)
    (t : Turn mode whole chunk out₀ line out begun w i) (r : Cut) (line' : List ℕ) (p : CutsNext begun line chunk i r line') where
  passed : ends (drop i chunk) ≡ ends (drop r.at chunk) + cond r.ended 1 0
  passed = go r.ended refl
    where
      go : (x : Bool) → r.ended ≡ x → ends (drop i chunk) ≡ ends (drop r.at chunk) + cond x 1 0
      go true e = Lines.next_line begun line chunk i r line' p e
      go false e = omega (arith, Lines.next_none begun line chunk i r line' p e)

  -- there is room and a count for what ended
  pub turn_ready : ReadyLine w r.ended out
  turn_ready = record { counts = omega (arith, t.counts, passed); room = omega (arith, t.room, t.kept, passed) }

  module _ (h : i < length chunk) where
    -- it goes on by a byte at least
    pub turn_less : i < r.at
    turn_less = Lines.turn_less (close_told mode) whole 256 chunk line begun (kept_in w out) i t.lines h r line' p

    pub turn_next : (out' : List ℕ) (w' : Written) → CountsQuestion mode w line' r.ended r.size out w' out'
        → Turn mode whole chunk out₀ line' out' r.begun w' r.at
    turn_next out' w' k = record {
      lines = Lines.turn_next (close_told mode) whole 256 chunk line begun (kept_in w out) i t.lines h r line' p (kept_in w' out') k.kept;
      kept = k.long ∙ t.kept;
      room = omega (arith, t.room, k.to, passed);
      counts = omega (arith, t.counts, k.sum, passed);
      rest = λ j g. k.rest j g ∙ t.rest j (omega (arith, g, k.from));
    }

-- what the machine comes to over the chunk
abbrev pub ran_of : Mode → SoFar → List ℕ → List ℕ → CutSoFar Kept
ran_of mode state line chunk = run_by (close_told mode) (open_of (at state line [])) (kept_of (at state line [])) chunk

abbrev written_in : SoFar → Written
written_in state = record { loaded = state.loaded; refused = state.refused; wrote = 0 }

-- before the first byte
pub turn_none : (mode : Mode) (state : SoFar) (line chunk out : List ℕ) → ReadyChunk state line chunk out
    → Turn mode (ran_of mode state line chunk) chunk out line out (begun_in state) (written_in state) 0
turn_none mode state line chunk out r = record {
  lines = subst (λ (n : ℕ). Lines.Turn (close_told mode) (ran_of mode state line chunk) n chunk line (begun_in state)
      (rows state.loaded state.refused []) 0) r.size
      (Lines.turn_none (close_told mode) chunk line (begun_in state) (rows state.loaded state.refused []));
  kept = refl;
  room = omega (arith, r.room);
  counts = omega (arith, r.counts);
  rest = λ k g. refl;
}

-- after the last
pub turn_end : (mode : Mode) (state : SoFar) (line₀ chunk out₀ line out : List ℕ) (begun : Begun) (w : Written) (i : ℕ) → length chunk ≤ i
    → Turn mode (ran_of mode state line₀ chunk) chunk out₀ line out begun w i
    → (next : SoFar) → MakesState begun.held begun.cr w.loaded w.refused next
    → TakesChunk mode state line₀ chunk out₀ (Ok (next, w.wrote)) line out
turn_end mode state line₀ chunk out₀ line out begun w i h t next made =
    let ran = Lines.turn_end (close_told mode) (ran_of mode state line₀ chunk) 256 chunk line begun (kept_in w out) i t.lines h in
    let m : run_told mode (at state line₀ []) chunk ≡ machine_of (record { left = opened begun line; kept = kept_in w out }) = ap machine_of ran in
    let within : w.wrote ≤ length out₀ = omega (arith, t.room) in
    let size : length (take w.wrote out) ≡ w.wrote = length-take-le w.wrote out (omega (arith, t.kept)) in
    record {
      answer = ap₂ (λ x n. Ok (x, n)) (made ∙ sym (ap state_of m)) (sym (ap (λ (x : Machine). length x.text) m ∙ size));
      kept = sym (ap (λ (x : Machine). x.line) m);
      rows = as_written out₀ out w.wrote within t.kept (t.rest w.wrote (omega arith)) ∙ sym (ap (λ (x : Machine). written_of out₀ 0 x.text) m);
      within = subst (λ (x : Machine). length x.text ≤ length out₀) (sym m) (omega arith);
    }

-- ---- the end of the input
pub last_ready : (state : SoFar) (out : List ℕ) → 2132 ≤ length out → last_lines state < 2 ^ 64 → ReadyLine (written_in state) (ltb 0 state.held) out
last_ready state out room few = record { counts = few; room = go (ltb 0 state.held) }
  where
    go : (t : Bool) → 0 + 2048 * cond t 1 0 ≤ length out
    go true = omega arith
    go false = omega arith

pub last_adds : (mode : Mode) (state : SoFar) (line out mid new : List ℕ) (w : Written) (b : ℕ) → 2132 ≤ length out
    → CountsQuestion mode (written_in state) line (ltb 0 state.held) state.held out w mid
    → Adds mid w.wrote (counts_row (w.loaded + w.refused) w.loaded w.refused) new b
    → Adds out 0 (finished_told mode (at state line [])) new b
last_adds mode state line out mid new w b room k a =
    subst (λ (t : List ℕ). Adds out 0 t new b) (ap last_told k.kept)
    (adds_then first a (omega (arith, long, wrote, fits_counts (w.loaded + w.refused) w.loaded w.refused)))
  where
    most : (t : Bool) → 0 + 2048 * cond t 1 0 ≤ 2048
    most true = omega arith
    most false = omega arith

    wrote : w.wrote ≤ 2048
    wrote = omega (arith, k.to, most (ltb 0 state.held))

    long : length (take w.wrote mid) ≡ w.wrote
    long = length-take-le w.wrote mid (omega (arith, wrote, k.long))

    fits : 0 + length (take w.wrote mid) ≤ length out
    fits = omega (arith, long, wrote)

    first : Adds out 0 (take w.wrote mid) mid w.wrote
    first = record {
      place = sym (ap (λ (l : List ℕ). after_of l 0) (place_is out 0 (take w.wrote mid) fits)
          ∙ (let z : 0 + length (take w.wrote mid) ≡ w.wrote = omega (arith, long) in z));
      buffer = as_written out mid w.wrote (omega (arith, wrote)) k.long (k.rest w.wrote (omega arith));
    }

pub finished_2132 : (mode : Mode) (state : SoFar) (line : List ℕ) → 0 + length (finished_told mode (at state line [])) ≤ 2132
finished_2132 mode state line = go (ltb 0 state.held)
  where
    m : Kept
    m = kept_of (at state line [])

    n : Kept
    n = close_told mode m line state.held

    go : (t : Bool) → 0 + length (last_told (cond t n m)) ≤ 2132
    go true =
        let row : List ℕ = answer_rows (m.loaded + m.refused + 1) (held_answer mode line state.held) in
        omega (
          arith,
          length-append row (counts_row (n.loaded + n.refused) n.loaded n.refused),
          held_2048 mode (m.loaded + m.refused + 1) line state.held,
          fits_counts (n.loaded + n.refused) n.loaded n.refused,
        )
    go false = omega (arith, fits_counts (m.loaded + m.refused) m.loaded m.refused)

pub one_unfinished : (mode : Mode) (state : SoFar) (w : Written) (line out mid : List ℕ) → last_lines state < 2 ^ 64
    → CountsQuestion mode (written_in state) line (ltb 0 state.held) state.held out w mid → w.loaded + w.refused < 2 ^ 64
one_unfinished mode state w line out mid few k = omega (arith, k.sum)
