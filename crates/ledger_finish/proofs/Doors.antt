-- What `finish` answers, test by test, and what the last rows are. Assumes nothing.
use mathlib.Core.Path.{◌≡◌, refl, sym, ap, subst, ◌∙◌}
use mathlib.Core.Bool.{Bool, true, false, cond, not}
use mathlib.Core.List.{List, [], ◌∷◌, ◌++◌}
use Prim.Native.Nat.{ℕ, ◌+◌, ◌^◌, ◌≤◌}
use native.Mathlib.Nat.{zero-add}
use native.Mathlib.Omega.{arith}
use lib.Dec.{ltb}
use lib.ListN.{length, length-append}
use borrow.Author.Tests.{lt-ltb, le-ltb, leb-true}
use Rattle.refusal.specs.declared.Refusal.TheVariants as R
use Rattle.ledger_row.specs.Row.{row_of, is_loaded}
use Rattle.text_out.specs.Text.{Puts, Adds, place, place_of, written_of, room_for}
use Rattle.text_out.proofs.Added.{adds_then}
use Rattle.ledger_totals.specs.Totals.{last_row}
use Rattle.ledger_totals.proofs.Fits.{fits_last}
use Rattle.line_profile.specs.Under.{said_under}
use Rattle.line_profile.specs.declared.Profile.{Profile}
use Rattle.ledger_close.proofs.Closed.{said_32}
use Rattle.ledger_feed.specs.Machine.{Machine, at, close, tally}
use Rattle.ledger_feed.specs.Promises.{Came, turned_by, many, full, came, came_as}
use Rattle.ledger_feed.specs.declared.SoFar.{SoFar}
use Rattle.ledger_feed.proofs.Counted.{tally_both}
use Rattle.ledger_feed.proofs.Doors.{written_nothing, fit_shape, fit_many, fit_full, fit_came}
use Rattle.ledger_finish.specs.Last.{totals, finished}
use Rattle.ledger_finish.specs.Promises.{last_lines, finish_of, length_of, last_text, last_wrote, Finishes}
use Rattle.std.specs.Prelude.{Option, None, Some, Result, Ok, Err}
use Rattle.ledger_feed.specs.declared.Unwritten.TheVariants as U
use Rattle.ledger_feed.specs.declared.Unwritten.{Unwritten}

-- ---- what `put` answers
pub placed_at : (old : List ℕ) (at : ℕ) (text : List ℕ) (n : ℕ) → n ∷ [] ≡ place_of old at text → (room_for old at text ≡ true) × (n ≡ at + length text)
placed_at old at text n = go (room_for old at text)
  where
    go : (t : Bool) → n ∷ [] ≡ cond t ((at + length text) ∷ []) [] → (t ≡ true) × (n ≡ at + length text)
    go true e = (refl, cc)
    go false e = absurd (let k : ◌≡◌ {A = ℕ} 0 1 = cc in omega arith)

pub placed_full : (old : List ℕ) (at : ℕ) (text : List ℕ) → [] ≡ place_of old at text → room_for old at text ≡ false
placed_full old at text = go (room_for old at text)
  where
    go : (t : Bool) → [] ≡ cond t ((at + length text) ∷ []) [] → t ≡ false
    go true e = absurd (let k : ◌≡◌ {A = ℕ} 0 1 = cc in omega arith)
    go false e = refl

pub unwritten : (old : List ℕ) (at : ℕ) (text : List ℕ) → room_for old at text ≡ false → written_of old at text ≡ old
unwritten old at text e = rw e

-- ---- the last rows
pub finished_none : (profile : Profile) (state : SoFar) (line : List ℕ) → state.held ≡ 0
    → last_row (state.loaded + state.refused) state.loaded state.refused ≡ finished profile (at state line [])
unfolding finished
finished_none profile state line e = rw (le-ltb 0 state.held (omega arith))

module _ (profile : Profile) (state : SoFar) (line : List ℕ) (some : state.held ≡ 0 → ⊥) (t : Bool)
    (is : t ≡ is_loaded (said_under profile line state.held)) where
  finished_some : row_of (state.loaded + state.refused + 1) (said_under profile line state.held)
      ++ last_row (state.loaded + state.refused + 1) (tally state.loaded t) (tally state.refused (not t))
      ≡ finished profile (at state line [])
  unfolding finished
  finished_some = rw (lt-ltb 0 state.held (omega arith), is, tally_both (is_loaded (said_under profile line state.held)) state.loaded state.refused)

  pub finished_adds : (x y z : List ℕ) (b c : ℕ) → 116 ≤ length x
      → Adds x 0 (row_of (state.loaded + state.refused + 1) (said_under profile line state.held)) y b
      → Adds y b (last_row (state.loaded + state.refused + 1) (tally state.loaded t) (tally state.refused (not t))) z c
      → Adds x 0 (finished profile (at state line [])) z c
  finished_adds x y z b c h first second =
      subst (λ (u : List ℕ). Adds x 0 u z c) finished_some
      (adds_then first second
      (omega (
        arith,
        said_32 profile (state.loaded + state.refused + 1) line state.held,
        fits_last (state.loaded + state.refused + 1) (tally state.loaded t) (tally state.refused (not t)),
      )))

pub one_unfinished : (state : SoFar) → (state.held ≡ 0 → ⊥) → last_lines state ≡ state.loaded + state.refused + 1
one_unfinished state some = rw (lt-ltb 0 state.held (omega arith))

pub finished_116 : (profile : Profile) (state : SoFar) (line : List ℕ) → 0 + length (finished profile (at state line [])) ≤ 116
unfolding finished
finished_116 profile state line = go (ltb 0 state.held)
  where
    m : Machine
    m = at state line []

    go : (t : Bool) → 0 + length ((cond t (close profile m m.held) m).text ++ totals (cond t (close profile m m.held) m)) ≤ 116
    go true =
        let n : Machine = close profile m m.held in
        let row : List ℕ = row_of (m.loaded + m.refused + 1) (said_under profile m.line m.held) in
        omega (
          arith,
          length-append row (totals n),
          said_32 profile (m.loaded + m.refused + 1) line state.held,
          fits_last (n.loaded + n.refused) n.loaded n.refused,
        )
    go false = omega (arith, fits_last (m.loaded + m.refused) m.loaded m.refused)

-- ---- finish
module _ (profile : Profile) (state : SoFar) (line out : List ℕ) where
  last : List ℕ
  last = finished profile (at state line [])

  silent : (r : Result ℕ Unwritten) (a : Came (List ℕ)) → finish_of profile state line out ≡ a → came_as r ≡ length_of a → last_text a ≡ []
      → last_wrote (came_as r) ≡ 0
      → (out' : List ℕ) → out' ≡ out → Finishes profile state line out r out'
  silent r a e f t z out' o = record {
    answer = f ∙ sym (ap length_of e);
    rows = o ∙ written_nothing out ∙ sym (ap (λ (b : Came (List ℕ)). written_of out 0 (last_text b)) e ∙ ap (written_of out 0) t);
    within = omega arith;
  }

  pub finish_shape : (length line ≡ 256 → ⊥) → Finishes profile state line out (Err (U.Refused R.Shape)) out
  unfolding last
  finish_shape n = silent (Err (U.Refused R.Shape)) (turned_by R.Shape) (fit_shape line (last_lines state) (room_for out 0 last) last n) refl refl refl out refl

  module _ (size : length line ≡ 256) where
    pub finish_many : ltb (last_lines state) (2 ^ 64) ≡ false → Finishes profile state line out (Err U.Many) out
    unfolding last
    finish_many n = silent (Err U.Many) many (fit_many line (last_lines state) (room_for out 0 last) last size n) refl refl refl out refl

    module _ (counts : ltb (last_lines state) (2 ^ 64) ≡ true) (text : List ℕ) (is : text ≡ finished profile (at state line [])) (out' : List ℕ)
        (p : Option ℕ) (put : Puts out out' 0 text p) where
      puts : Puts out out' 0 (finished profile (at state line [])) p
      puts = subst (λ (t : List ℕ). Puts out out' 0 t p) is put

      pub finish_full : p ≡ None → Finishes profile state line out (Err U.Full) out'
      unfolding last
      finish_full told =
          let none = placed_full out 0 last (sym (ap place told) ∙ puts.0) in
          silent (Err U.Full) full (fit_full line (last_lines state) (room_for out 0 last) last size counts none) refl refl refl out'
          (puts.1 ∙ unwritten out 0 last none)

      pub finish_rows : (n : ℕ) → p ≡ Some n → Finishes profile state line out (Ok n) out'
      unfolding last
      finish_rows n told =
          let one = placed_at out 0 last n (sym (ap place told) ∙ puts.0) in
          let e : finish_of profile state line out ≡ came last = fit_came line (last_lines state) (room_for out 0 last) last size counts one.0 in
          record {
            answer = ap came (one.1 ∙ zero-add (length last)) ∙ sym (ap length_of e);
            rows = puts.1 ∙ sym (ap (λ (a : Came (List ℕ)). written_of out 0 (last_text a)) e);
            within = fits n one.1 (leb-true (0 + length last) (length out) one.0);
          }
        where
          fits : (n : ℕ) → n ≡ 0 + length last → 0 + length last ≤ length out → n ≤ length out
          fits n a b = omega arith
