-- The first bytes of a chunk: one byte, or the row of a loaded line that is told at once. Assumes nothing.
use mathlib.Core.Path.{◌≡◌, refl, sym, ap, ap₂, subst, ◌∙◌}
use mathlib.Core.Bool.{Bool, true, false, cond, not, ◌&&◌, false≢true}
use mathlib.Core.List.{List, [], ◌∷◌, ◌++◌, append_assoc}
use Prim.Native.Nat.{ℕ, ◌+◌, ◌-◌, ◌^◌, ◌≤◌, ◌<◌}
use native.Mathlib.Omega.{arith}
use lib.Dec.{eqb, ltb}
use lib.ListN.{length, take, drop, get_or, take-append-drop}
use lib.Seq.{length-take-le}
use borrow.Author.Tests.{eqb-true, ltb-true}
use Rattle.text_in.specs.Text.{text}
use Rattle.text_out.specs.Text.{decimal_of, written_of, Adds}
use Rattle.line_cut.specs.Lines.{ends}
use Rattle.line_cut.proofs.Counted.{ends_one, ends_append}
use Rattle.ledger_joined_row.specs.Rows.{behind_number, after_number, says_refused, is_row}
use Rattle.ledger_joined_row.specs.Promises.{row_is_rule, text_of}
use Rattle.ledger_joined_row.specs.declared.Kind.TheVariants as K
use Rattle.ledger_joined_row.proofs.Laws.{and_left, and_right}
use Rattle.ledger_plain_row.specs.Plain.{no_row, plain_in}
use Rattle.ledger_plain_row.specs.declared.PlainRow.{PlainRow}
use Rattle.ledger_plain_row.proofs.Sound.{ToldRow, told_is_row}
use Rattle.ledger_join.specs.Machine.{Joint, joint, after_row, own_number, whole_number, byte_on, bytes_on}
use Rattle.ledger_join.specs.Promises.{RowReady, TakesByte, is_fresh, plain_at, PlainReady, TakesPlain, SomeReady, TakesSome}
use Rattle.ledger_join.specs.declared.Joining.{Joining}
use Rattle.ledger_join.specs.declared.ByteTaken.{ByteTaken}
use Rattle.ledger_join.proofs.Pieces.{row_on}

-- ---- where a row may begin
module _ (s : Joining) where
  pub record Fresh : Type 0 where
    pub held : s.held ≡ 0
    pub unended : s.ended ≡ false
    pub going : s.stopped ≡ false
    pub few : s.loaded + s.refused + 1 < 2 ^ 64

  not_is : (b : Bool) → not b ≡ true → b ≡ false
  not_is true e = absurd (false≢true e)
  not_is false e = refl

  pub fresh_is : is_fresh s ≡ true → Fresh
  fresh_is e =
      let a = and_right (eqb s.held 0) (not s.ended && (not s.stopped && ltb (s.loaded + s.refused) (2 ^ 64 - 1))) e in
      let b = and_right (not s.ended) (not s.stopped && ltb (s.loaded + s.refused) (2 ^ 64 - 1)) a in
      let h = ltb-true (s.loaded + s.refused) (2 ^ 64 - 1) (and_right (not s.stopped) (ltb (s.loaded + s.refused) (2 ^ 64 - 1)) b) in
      record {
        held = eqb-true s.held 0 (and_left (eqb s.held 0) (not s.ended && (not s.stopped && ltb (s.loaded + s.refused) (2 ^ 64 - 1))) e);
        unended = not_is s.ended (and_left (not s.ended) (not s.stopped && ltb (s.loaded + s.refused) (2 ^ 64 - 1)) a);
        going = not_is s.stopped (and_left (not s.stopped) (ltb (s.loaded + s.refused) (2 ^ 64 - 1)) b);
        few = omega (arith, h);
      }

  pub told_none : (chunk : List ℕ) → is_fresh s ≡ false → no_row ≡ plain_at s chunk
  told_none chunk e = sym (ap (λ (b : Bool). cond b (plain_in (own_number s) chunk) no_row) e)

  pub told_there : (chunk : List ℕ) → is_fresh s ≡ true → plain_in (own_number s) chunk ≡ plain_at s chunk
  told_there chunk e = sym (ap (λ (b : Bool). cond b (plain_in (own_number s) chunk) no_row) e)

  told_is : (chunk : List ℕ) (r : PlainRow) → r ≡ plain_at s chunk → (r.size ≡ 0 → ⊥) → (is_fresh s ≡ true) × (r ≡ plain_in (own_number s) chunk)
  told_is chunk r e h = go (is_fresh s) refl e
    where
      go : (b : Bool) → is_fresh s ≡ b → r ≡ cond b (plain_in (own_number s) chunk) no_row → (is_fresh s ≡ true) × (r ≡ plain_in (own_number s) chunk)
      go true q w = (q, w)
      go false q w = absurd (h (ap (λ (x : PlainRow). x.size) w))

-- ---- one byte
first_byte : (chunk : List ℕ) → 0 < length chunk → take 1 chunk ≡ get_or chunk 0 0 ∷ []
first_byte [] h = absurd (no h)
  where
    no : 0 < 0 → ⊥
    no q = omega arith
first_byte (b ∷ t) h = refl

pub byte_ready : (s : Joining) (row chunk whole out : List ℕ) (at : ℕ) → SomeReady s row chunk whole out at → RowReady s out at (ends (get_or chunk 0 0 ∷ []))
byte_ready s row chunk whole out at r =
    let e = ap ends (sym (take-append-drop 1 chunk)) ∙ ends_append (take 1 chunk) (drop 1 chunk) in
    let f = ap ends (first_byte chunk r.some) in
    record { all = omega (arith, r.ready.all); own = omega (arith, r.ready.own); room = omega (arith, r.ready.room) }

one_on : (m : Joint) (b : ℕ) → bytes_on m (b ∷ []) ≡ byte_on m b
unfolding bytes_on
one_on m b = refl

pub some_byte : (s : Joining) (row chunk out : List ℕ) (at : ℕ) → 0 < length chunk → (t : ByteTaken) (row' out' : List ℕ)
    → TakesByte s row out (get_or chunk 0 0) at t row' out'
    → TakesSome s row chunk out at (record { state = t.state; end = t.end; passed = 1 }) row' out'
some_byte s row chunk out at h t row' out' p =
    let e : byte_on (joint row s []) (get_or chunk 0 0) ≡ bytes_on (joint row s []) (take 1 chunk) =
    sym (ap (bytes_on (joint row s [])) (first_byte chunk h) ∙ one_on (joint row s []) (get_or chunk 0 0)) in
    record {
      some = omega arith;
      passed = h;
      state = p.state ∙ ap (λ (m : Joint). m.state) e;
      kept = p.kept ∙ ap (λ (m : Joint). m.row) e;
      text = subst (λ (m : Joint). Adds out at m.text out' t.end) e p.text;
    }

-- ---- a row
loaded_is : (number loaded others : ℕ) (row : List ℕ) → is_row number row ≡ true → says_refused (after_number number row) ≡ false
    → row_is_rule number loaded others row ≡ K.Loaded
unfolding row_is_rule
loaded_is number loaded others row e f = rw (e, f)

text_is : (number whole : ℕ) (row : List ℕ) → is_row number row ≡ true → text_of number whole row ≡ decimal_of whole ++ (text " " ++ behind_number number row)
unfolding text_of
text_is number whole row e = rw e (append_assoc (decimal_of whole) (text " ") (behind_number number row))

module _ (s : Joining) (row chunk whole out : List ℕ) (at : ℕ) (ready : SomeReady s row chunk whole out at) (r : PlainRow) (told : r ≡ plain_at s chunk)
    (some : r.size ≡ 0 → ⊥) where
  fresh : Fresh s
  fresh = fresh_is s (told_is s chunk r told some).0

  plain : ToldRow (own_number s) chunk r
  plain = told_is_row (own_number s) chunk r (told_is s chunk r told some).1 some

  one_ends : 1 ≤ ends chunk
  one_ends =
      let a = ap ends (sym (take-append-drop r.size chunk)) ∙ ends_append (take r.size chunk) (drop r.size chunk) in
      let b = ap ends plain.row ∙ ends_append plain.body (10 ∷ []) in
      omega (arith, ends_one 10 refl)

  pub some_fits : r.size ≤ length chunk
  some_fits = plain.fits

  pub some_ready : PlainReady s row (take r.size chunk) whole out r.front at
  some_ready =
      let l = length-take-le r.size chunk plain.fits in
      record {
        ready = record {
          all = omega (arith, ready.ready.all, one_ends);
          own = omega (arith, ready.ready.own, one_ends);
          room =
              omega (arith, ready.ready.room, one_ends);
        };
        size = ready.size;
        short = omega (arith, plain.short);
        within = omega (arith, plain.within);
        digits = ready.digits;
      }

  row_is : bytes_on (joint row s []) (take r.size chunk) ≡ joint (written_of row 0 (take r.size chunk))
      (after_row s (row_is_rule (own_number s) s.loaded s.refused (take r.size chunk))) (text_of (own_number s) (whole_number s) (take r.size chunk))
  row_is =
      subst (λ (p : List ℕ). bytes_on (joint row s []) p ≡ joint (written_of row 0 p) (after_row s (row_is_rule (own_number s) s.loaded s.refused p))
      (text_of (own_number s) (whole_number s) p))
      (sym plain.row) (row_on s fresh.going fresh.unended row plain.body fresh.held ready.size plain.unended
      (omega (arith, plain.size, plain.short)))

  pub some_row : (t : ByteTaken) (row' out' : List ℕ) → TakesPlain s row (take r.size chunk) whole out r.front at t row' out'
      → TakesSome s row chunk out at (record { state = t.state; end = t.end; passed = r.size }) row' out'
  some_row t row' out' p =
      let number : whole_number s < 2 ^ 64 = omega (arith, ready.ready.all, one_ends) in
      let e : whole ++ drop r.front (take r.size chunk) ≡ text_of (own_number s) (whole_number s) (take r.size chunk) =
      ap₂ ◌++◌ (ready.number number) plain.behind ∙ sym (text_is (own_number s) (whole_number s) (take r.size chunk) plain.is_row_holds) in
      record {
        some = omega (arith, plain.size);
        passed = plain.fits;
        state = p.state ∙ ap (after_row s) (sym (loaded_is (own_number s) s.loaded s.refused (take r.size chunk) plain.is_row_holds
            plain.loaded)) ∙ sym (ap (λ (m : Joint). m.state) row_is);
        kept = p.kept ∙ sym (ap (λ (m : Joint). m.row) row_is);
        text = subst (λ (x : List ℕ). Adds out at x out' t.end) (e ∙ sym (ap (λ (m : Joint). m.text) row_is)) p.put;
      }
