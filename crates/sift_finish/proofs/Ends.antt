-- The end of the input, with a line that is unfinished and with none: what is made and the rows. Assumes nothing.
use mathlib.Core.Path.{◌≡◌, refl, sym, ap, subst, ◌∙◌}
use mathlib.Core.Bool.{Bool, true, false, cond, not}
use mathlib.Core.List.{List}
use Prim.Native.Nat.{ℕ, ◌+◌, ◌*◌, ◌^◌, ◌≤◌, ◌<◌}
use native.Mathlib.Nat.{mul-one}
use native.Mathlib.Omega.{arith}
use lib.Dec.{ltb}
use lib.ListN.{length, length-append}
use borrow.Author.Tests.{lt-ltb, le-ltb}
use Rattle.refusal.specs.Answer.{Answer}
use Rattle.text_out.specs.Text.{Puts, Adds}
use Rattle.text_out.proofs.Added.{adds_or, adds_then}
use Rattle.line_parse.specs.Line.{Line}
use Rattle.line_held.specs.Held.{said_of}
use Rattle.line_profile.specs.declared.Profile.TheVariants as P
use Rattle.ledger_totals.specs.Totals.{last_row}
use Rattle.ledger_totals.proofs.Fits.{fits_last}
use Rattle.ledger_row.specs.Row.{is_loaded}
use Rattle.ledger_close.proofs.Closed.{said_32}
use Rattle.ledger_feed.specs.Machine.{tally}
use Rattle.ledger_feed.specs.declared.SoFar.{SoFar}
use Rattle.ledger_feed.proofs.Counted.{tally_both}
use Rattle.ledger_finish.specs.Promises.{unfinished}
use Rattle.ledger_finish.proofs.Doors.{one_unfinished}
use Rattle.text_out.proofs.Added.{adds_none}
use Rattle.sift_form.specs.Forms.{room_of, made_of}
use Rattle.sift_form.specs.declared.Form.{Form}
use Rattle.sift_close.specs.Ended.{made_by_rule, refused_row_of, ClosesSifted}
use Rattle.sift_close.specs.declared.Closed.{Closed}
use Rattle.sift_close.proofs.Said.{made_most, row_most}
use Rattle.sift_feed.specs.Sifting.{Sifting, close_sift, sifting_at}
use Rattle.sift_feed.proofs.Turn.{tally_loaded, tally_refused, tally_either}
use Rattle.sift_finish.specs.Last.{sift_end, all_rows, ReadyToEnd, WritesLast, EndsSifted}
use Rattle.std.specs.Prelude.{Option, Ok}
use Rattle.std.specs.Option.{unwrap_or}

-- ---- how long they are
pub end_made : (form : Form) (state : SoFar) (line : List ℕ) → length (sift_end (made_of form) state line).made ≤ room_of form * unfinished state.held
end_made form state line = go (ltb 0 state.held)
  where
    go : (t : Bool) → length (cond t (close_sift (made_of form) (sifting_at state) line state.held) (sifting_at state)).made ≤ room_of form * cond t 1 0
    go true = subst (λ (n : ℕ). length (made_by_rule (made_of form) (said_of line state.held)) ≤ n) (sym (mul-one (room_of form)))
        (made_most form (said_of line state.held))
    go false = omega arith

pub end_rows : (form : Form) (state : SoFar) (line : List ℕ) → length (all_rows (sift_end (made_of form) state line)) ≤ 116
end_rows form state line = go (ltb 0 state.held)
  where
    go : (t : Bool) → length (all_rows (cond t (close_sift (made_of form) (sifting_at state) line state.held) (sifting_at state))) ≤ 116
    go true =
        let s : Sifting = close_sift (made_of form) (sifting_at state) line state.held in
        let row : List ℕ = refused_row_of (state.loaded + state.refused + 1) (said_of line state.held) in
        let low = row_most (state.loaded + state.refused + 1) (said_of line state.held)
        (said_32 P.Any (state.loaded + state.refused + 1) line state.held) in
        omega (
          arith,
          length-append row (last_row (s.loaded + s.refused) s.loaded s.refused),
          low,
          fits_last (s.loaded + s.refused) s.loaded s.refused,
        )
    go false = omega (arith, fits_last (state.loaded + state.refused) state.loaded state.refused)

-- ---- no line is unfinished
pub last_none : (form : Form) (state : SoFar) (line made rows rows' : List ℕ) → state.held ≡ 0 → (p : Option ℕ)
    → Puts rows rows' 0 (last_row (state.loaded + state.refused) state.loaded state.refused) p
    → (end : ℕ) → end ≡ unwrap_or p 0 → EndsSifted state form line made rows (Ok (0, end)) made rows'
last_none form state line made rows rows' none p puts end after =
    let s : sift_end (made_of form) state line ≡ sifting_at state =
    ap (λ (t : Bool). cond t (close_sift (made_of form) (sifting_at state) line state.held) (sifting_at state)) (le-ltb 0 state.held (omega arith)) in
    record {
      w = 0;
      v = end;
      is = refl;
      written = subst (λ (x : Sifting). WritesLast x made rows 0 end made rows') (sym s)
          (record {
            making = adds_none made 0;
            rowing = adds_or rows 0 (last_row (state.loaded + state.refused) state.loaded state.refused)
                rows' p end puts after;
          });
    }

-- ---- a line is unfinished
module _ (form : Form) (state : SoFar) (line made rows : List ℕ) (ready : ReadyToEnd state form made rows) (some : state.held ≡ 0 → ⊥) where
  pub last_counts : state.loaded + state.refused + 1 < 2 ^ 64
  last_counts = subst (λ (n : ℕ). n < 2 ^ 64) (one_unfinished state some) ready.counts

  module _ (c : Closed) (made' rows' : List ℕ) (k : ClosesSifted form line state.held (state.loaded + state.refused + 1) made 0 rows 0 c made' rows') where
    abbrev said : Answer Line
    said = said_of line state.held

    pub last_fits : (state.loaded + c.loaded < 2 ^ 64) × (state.refused + c.refused < 2 ^ 64)
    last_fits =
        let both = tally_either (is_loaded said) c.loaded c.refused state.loaded state.refused k.loaded k.refused in
        let h = last_counts in
        (omega arith, omega arith)

    pub last_some : (rows'' : List ℕ) (p : Option ℕ) → Puts rows' rows'' c.rows
        (last_row (state.loaded + state.refused + 1) (state.loaded + c.loaded) (state.refused + c.refused)) p
        → (end : ℕ) → end ≡ unwrap_or p c.rows → EndsSifted state form line made rows (Ok (c.made, end)) made' rows''
    last_some rows'' p puts end after =
        let t : Bool = is_loaded said in
        let row : List ℕ = refused_row_of (state.loaded + state.refused + 1) said in
        let x : ℕ = tally state.loaded t in
        let y : ℕ = tally state.refused (not t) in
        let a : state.loaded + c.loaded ≡ x = ap (λ (n : ℕ). state.loaded + n) k.loaded ∙ tally_loaded t state.loaded in
        let b : state.refused + c.refused ≡ y = ap (λ (n : ℕ). state.refused + n) k.refused ∙ tally_refused t state.refused in
        let same : last_row (state.loaded + state.refused + 1) (state.loaded + c.loaded) (state.refused + c.refused) ≡ last_row (x + y) x y =
        ap (λ (n : ℕ). last_row n (state.loaded + c.loaded) (state.refused + c.refused)) (sym (tally_both t state.loaded state.refused))
        ∙ ap (λ (n : ℕ). last_row (x + y) n (state.refused + c.refused)) a ∙ ap (last_row (x + y) x) b in
        let s : sift_end (made_of form) state line ≡ close_sift (made_of form) (sifting_at state) line state.held =
        ap (λ (u : Bool). cond u (close_sift (made_of form) (sifting_at state) line state.held) (sifting_at state)) (lt-ltb 0 state.held (omega arith)) in
        let second : Adds rows' c.rows (last_row (x + y) x y) rows'' end =
        subst (λ (l : List ℕ). Adds rows' c.rows l rows'' end) same
        (adds_or rows' c.rows (last_row (state.loaded + state.refused + 1) (state.loaded + c.loaded) (state.refused + c.refused)) rows'' p end
        puts after) in
        let low = row_most (state.loaded + state.refused + 1) said (said_32 P.Any (state.loaded + state.refused + 1) line state.held) in
        record {
          w = c.made;
          v = end;
          is = refl;
          written = subst (λ (q : Sifting). WritesLast q made rows c.made end made' rows'') (sym s)
              (record { making = k.making; rowing = adds_then k.rowing second (omega (arith, low, fits_last (x + y) x y, ready.rowing)) });
        }
