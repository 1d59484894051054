-- One turn of the loop over a chunk's lines: that of every consumer of lines (line_cut's `Turn`), with room for the rows. Assumes nothing.
use mathlib.Core.Path.{◌≡◌, refl, sym, ap, ap₂, subst, ◌∙◌}
use mathlib.Core.Bool.{Bool, true, false, cond, not}
use mathlib.Core.List.{List, [], ◌++◌}
use Prim.Native.Nat.{ℕ, ◌+◌, ◌*◌, ◌^◌, ◌≤◌, ◌<◌}
use native.Mathlib.Omega.{arith}
use lib.ListN.{length, take, drop, take-append-drop}
use lib.Seq.{drop-drop, length-take-le}
use Rattle.text_out.proofs.Added.{adds_to, adds_length, adds_front, adds_back}
use Rattle.text_out.specs.Text.{written_of, Adds}
use Rattle.text_out.proofs.Wrote.{written_is}
use Rattle.line_cut.specs.Lines.{ends}
use Rattle.line_cut.specs.Cut.{CutSoFar, run_by}
use Rattle.line_cut.specs.Promises.{opened, CutsNext}
use Rattle.line_cut.specs.declared.Begun.{Begun}
use Rattle.line_cut.specs.declared.Cut.{Cut}
use Rattle.line_cut.proofs.Loop as Lines
use Rattle.line_profile.specs.Under.{said_under}
use Rattle.line_profile.specs.declared.Profile.{Profile}
use Rattle.ledger_row.specs.Row.{row_of, is_loaded}
use Rattle.ledger_close.proofs.Closed.{said_32}
use Rattle.ledger_feed.specs.Machine.{Machine, Kept, open_of, kept_of, machine_of, close_row, run, at, tally}
use Rattle.ledger_feed.specs.Promises.{state_of, MakesState, Ready, Takes}
use Rattle.ledger_feed.specs.declared.SoFar.{SoFar}
use Rattle.ledger_feed.proofs.Counted.{tally_both}
use Rattle.std.specs.Prelude.{Ok}

abbrev pub begun_in : SoFar → Begun
begun_in state = record { held = state.held; cr = state.cr }

abbrev pub rows : ℕ → ℕ → List ℕ → Kept
rows loaded refused text = record { loaded = loaded; refused = refused; text = text }

pub record Turn (profile : Profile) (whole : CutSoFar Kept) (chunk out₀ line out : List ℕ) (begun : Begun) (loaded refused w i : ℕ) : Type 0 where
  pub lines : Lines.Turn (close_row profile) whole 256 chunk line begun (rows loaded refused (take w out)) i
  pub kept : length out ≡ length out₀
  pub room : w + 32 * ends (drop i chunk) ≤ length out₀
  pub counts : loaded + refused + ends (drop i chunk) < 2 ^ 64
  pub rest : drop w out ≡ drop w out₀

pub rows_same : {loaded loaded' refused refused' : ℕ} {text text' : List ℕ} → loaded ≡ loaded' → refused ≡ refused' → text ≡ text'
    → rows loaded refused text ≡ rows loaded' refused' text'
rows_same p q r = cc

module _ (profile : Profile) (whole : CutSoFar Kept) (chunk out₀ line out : List ℕ) (begun : Begun) (loaded refused w i : ℕ) (h : i < length chunk)
    (t : Turn profile whole chunk out₀ line out begun loaded refused w i) (r : Cut) (line' : List ℕ) (p : CutsNext begun line chunk i r line') where
  -- it goes on by a byte at least
  pub turn_less : i < r.at
  turn_less = Lines.turn_less (close_row profile) whole 256 chunk line begun (rows loaded refused (take w out)) i t.lines h r line' p

  -- the piece ended before the line did
  pub turn_on : r.ended ≡ false → Turn profile whole chunk out₀ line' out r.begun loaded refused w r.at
  turn_on e =
      let b = Lines.next_none begun line chunk i r line' p e in
      let s : Kept = rows loaded refused (take w out) in
      record {
        lines = Lines.turn_next (close_row profile) whole 256 chunk line begun s i t.lines h r line' p s
            (sym (ap (λ (x : Bool). cond x (close_row profile s line' r.size) s) e));
        kept = t.kept;
        room = omega (arith, t.room);
        counts = omega (arith, t.counts);
        rest = t.rest;
      }

  -- the line ended
  pub turn_close : r.ended ≡ true → (out' : List ℕ) (w' : ℕ) → Adds out w (row_of (loaded + refused + 1) (said_under profile line' r.size)) out' w'
      → (is : Bool) → is ≡ is_loaded (said_under profile line' r.size) → (loaded' refused' : ℕ) → loaded' ≡ tally loaded is → refused' ≡ tally refused (not is)
      → Turn profile whole chunk out₀ line' out' r.begun loaded' refused' w' r.at
  turn_close e out' w' a is il loaded' refused' l q =
      let b = Lines.next_line begun line chunk i r line' p e in
      let row : List ℕ = row_of (loaded + refused + 1) (said_under profile line' r.size) in
      let short : length row ≤ 32 = said_32 profile (loaded + refused + 1) line' r.size in
      let fits : w + length row ≤ length out = omega (arith, t.room, t.kept) in
      let to : w' ≡ w + length row = adds_to a fits in
      let both = tally_both is loaded refused in
      let s : Kept = rows loaded refused (take w out) in
      let s' : Kept = rows loaded' refused' (take w' out') in
      let now : s' ≡ close_row profile s line' r.size = rows_same (l ∙ ap (tally loaded) il) (q ∙ ap (λ (x : Bool). tally refused (not x)) il)
      (adds_front a fits) in
      record {
        lines = Lines.turn_next (close_row profile) whole 256 chunk line begun s i t.lines h r line' p s'
            (now ∙ sym (ap (λ (x : Bool). cond x (close_row profile s line' r.size) s) e));
        kept = adds_length a fits ∙ t.kept;
        room = omega (arith, t.room);
        counts = omega (arith, t.counts);
        rest = adds_back a fits ∙ later (length row) to;
      }
    where
      later : (k : ℕ) → w' ≡ w + k → drop w' out ≡ drop w' out₀
      later k e = rw e (sym (drop-drop k w out) ∙ ap (drop k) t.rest ∙ drop-drop k w out₀)

-- what the machine comes to over the chunk
abbrev pub ran_of : Profile → SoFar → List ℕ → List ℕ → CutSoFar Kept
ran_of profile state line chunk = run_by (close_row profile) (open_of (at state line [])) (kept_of (at state line [])) chunk

-- before the first byte
pub turn_none : (profile : Profile) (state : SoFar) (line chunk out : List ℕ) → Ready state line chunk out
    → Turn profile (ran_of profile state line chunk) chunk out line out (begun_in state) state.loaded state.refused 0 0
turn_none profile state line chunk out r = record {
  lines = subst (λ (n : ℕ). Lines.Turn (close_row profile) (ran_of profile state line chunk) n chunk line (begun_in state)
      (rows state.loaded state.refused []) 0) r.size
      (Lines.turn_none (close_row profile) chunk line (begun_in state) (rows state.loaded state.refused []));
  kept = refl;
  room = omega (arith, r.room);
  counts = omega (arith, r.counts);
  rest = refl;
}

-- after the last
pub turn_end : (profile : Profile) (state : SoFar) (line₀ chunk out₀ line out : List ℕ) (begun : Begun) (loaded refused w i : ℕ) → length chunk ≤ i
    → Turn profile (ran_of profile state line₀ chunk) chunk out₀ line out begun loaded refused w i
    → (next : SoFar) → MakesState begun.held begun.cr loaded refused next → Takes profile state line₀ chunk out₀ (Ok (next, w)) line out
turn_end profile state line₀ chunk out₀ line out begun loaded refused w i h t next made =
    let ran = Lines.turn_end (close_row profile) (ran_of profile state line₀ chunk) 256 chunk line begun (rows loaded refused (take w out)) i t.lines h in
    let m : run profile (at state line₀ []) chunk ≡ machine_of (record { left = opened begun line; kept = rows loaded refused (take w out) }) =
    ap machine_of ran in
    let within : w ≤ length out₀ = omega (arith, t.room) in
    let size : length (take w out) ≡ w = length-take-le w out (omega (arith, t.kept)) in
    let fits : 0 + length (take w out) ≤ length out₀ = omega arith in
    record {
      answer = ap₂ (λ x n. Ok (x, n)) (made ∙ sym (ap state_of m)) (sym (ap (λ (x : Machine). length x.text) m ∙ size));
      kept = sym (ap (λ (x : Machine). x.line) m);
      rows =
          sym (take-append-drop w out) ∙ ap (λ (l : List ℕ). take w out ++ l)
          (t.rest ∙ ap (λ (k : ℕ). drop k out₀) (let z : w ≡ 0 + length (take w out) = omega arith in z))
          ∙ sym (written_is out₀ 0 (take w out) fits) ∙ sym (ap (λ (x : Machine). written_of out₀ 0 x.text) m);
      within = subst (λ (x : Machine). length x.text ≤ length out₀) (sym m) (omega arith);
    }
