-- The machine over bytes does what the definition of the join asks, however a part is cut. Assumes nothing.
use mathlib.Core.Path.{◌≡◌, refl, sym, ap, ap₂, ◌∙◌}
use mathlib.Core.Bool.{Bool, true, false, cond, not, ◌&&◌, ◌||◌, true≢false}
use mathlib.Core.List.{List, [], ◌∷◌, ◌++◌, append_assoc}
use Prim.Native.Nat.{ℕ, suc, ◌+◌, ◌-◌, ◌≤◌, ◌<◌}
use native.Mathlib.Nat.{add-zero}
use native.Mathlib.Omega.{arith}
use lib.Dec.{eqb, leb}
use lib.ListN.{length, take, set, length-append, length-set}
use lib.Seq.{take-suc-set}
use borrow.Author.Tests.{eqb-true, lt-leb, leb-true, leb-false}
use Rattle.laws.specs.Tests.{same}
use Rattle.laws.proofs.Tests.{is_same}
use Rattle.laws.proofs.Truth.{true_T}
use Rattle.line_cut.specs.Lines.{lf, at_end}
use Rattle.ledger_row.specs.Row.{spaced}
use Rattle.ledger_totals.specs.Totals.{last_row}
use Rattle.ledger_totals.proofs.Fits.{fits_last}
use Rattle.ledger_feed.specs.Machine.{tally}
use Rattle.ledger_whole.specs.Whole.{pieces_from, ends_in_lf}
use Rattle.ledger_whole.proofs.Once.{lf_last}
use Rattle.ledger_joined_row.specs.Rows.{begins_with, behind_number, after_number, says_refused, says_loaded, is_row}
use Rattle.ledger_joined_row.specs.Promises.{row_is_rule, text_of}
use Rattle.ledger_joined_row.specs.declared.Kind.{Kind}
use Rattle.ledger_joined_row.specs.declared.Kind.TheVariants as K
use Rattle.ledger_join.specs.Join.{Checked, no_ledger, checked, JoinedPart, with_row, is_none, part_from, part_in, with_rows, and_then, join_from}
use Rattle.ledger_join.specs.Machine.{Joint, joint, holds_more, halted, after_row, own_number, whole_number, row_ended, byte_held, byte_on, bytes_on}
use Rattle.ledger_join.specs.Promises.{next_part}
use Rattle.ledger_join.specs.declared.Joining.{Joining}
use Rattle.ledger_join.proofs.Bytes.{byte_after, byte_bounds}
use Rattle.ledger_join.proofs.Pieces.{byte_then, bytes_cut, bytes_later}
use Rattle.ledger_joined.specs.Joined.{machine_from, Machined, AnyCut}
use Rattle.ledger_joined.proofs.Parts.{last_ends}

-- ---- however it is cut
pub any_cut : (m : Joint) (a b : List ℕ) → AnyCut m a b
any_cut m a b = record { cut = bytes_cut m a b; text = λ t. bytes_later t m a }

-- ---- a part that was found to be no ledger stays so
byte_stays : (row : List ℕ) (s : Joining) (x : List ℕ) (b : ℕ) → s.stopped ≡ true → byte_on (joint row s x) b ≡ joint row s x
unfolding byte_on
byte_stays row s x b e = ap (λ (t : Bool). cond t (joint row s x) (cond (s.ended || leb 84 s.held) (joint row (halted s) x) (byte_held s row x b))) e

bytes_stay : (row : List ℕ) (s : Joining) (x t : List ℕ) → s.stopped ≡ true → bytes_on (joint row s x) t ≡ joint row s x
unfolding bytes_on
bytes_stay row s x [] e = refl
bytes_stay row s x (b ∷ t) e = ap (λ (m : Joint). bytes_on m t) (byte_stays row s x b e) ∙ bytes_stay row s x t e

-- what a part comes to at its end
abbrev said_by : Joint → Checked JoinedPart
said_by m =
    cond (m.state.ended && not m.state.stopped) (checked (record { rows = m.text; loaded = m.state.loaded; refused = m.state.refused }))
    (no_ledger m.state.part (own_number m.state))

and_none : (a : Bool) → (a && false) ≡ false
and_none true = refl
and_none false = refl

said_halted : (row : List ℕ) (s : Joining) (x t : List ℕ) → said_by (bytes_on (joint row (halted s) x) t) ≡ no_ledger s.part (own_number s)
said_halted row s x t =
    ap said_by (bytes_stay row (halted s) x t refl)
    ∙ ap (λ (b : Bool). cond b (checked (record { rows = x; loaded = s.loaded; refused = s.refused })) (no_ledger s.part (own_number s)))
    (and_none s.ended)

-- ---- rows that are none
module _ (part before loaded others : ℕ) where
  part_none : (row : List ℕ) (rows : List (List ℕ)) → is_row (loaded + others + 1) row ≡ false → same row (last_row (loaded + others) loaded others) ≡ false
      → part_from part before loaded others (row ∷ rows) ≡ no_ledger part (loaded + others + 1)
  unfolding part_from
  part_none row rows e f = rw (e, f)

  no_totals : (row : List ℕ) → (row ≡ last_row (loaded + others) loaded others → ⊥) → same row (last_row (loaded + others) loaded others) ≡ false
  no_totals row h = go (same row (last_row (loaded + others) loaded others)) refl
    where
      go : (t : Bool) → same row (last_row (loaded + others) loaded others) ≡ t → t ≡ false
      go false e = refl
      go true e = absurd (h (is_same row (last_row (loaded + others) loaded others) (true_T e)))

  part_open : (row : List ℕ) (rows : List (List ℕ)) → ends_in_lf row ≡ false
      → part_from part before loaded others (row ∷ rows) ≡ no_ledger part (loaded + others + 1)
  part_open row rows e =
      part_none row rows (go (leb (length row) 32))
      (no_totals row (λ q. true≢false (sym (last_ends (loaded + others) loaded others) ∙ ap ends_in_lf (sym q) ∙ e)))
    where
      go : (a : Bool) → (a && (ends_in_lf row && (begins_with (spaced (loaded + others + 1)) row
          && (says_refused (after_number (loaded + others + 1) row) || says_loaded (after_number (loaded + others + 1) row))))) ≡ false
      go true = ap (λ (b : Bool). b && (begins_with (spaced (loaded + others + 1)) row
          && (says_refused (after_number (loaded + others + 1) row) || says_loaded (after_number (loaded + others + 1) row)))) e
      go false = refl

  part_long : (row : List ℕ) (rows : List (List ℕ)) → 84 < length row → part_from part before loaded others (row ∷ rows) ≡ no_ledger part (loaded + others + 1)
  part_long row rows h =
      part_none row rows
      (ap (λ (b : Bool). b && (ends_in_lf row && (begins_with (spaced (loaded + others + 1)) row
      && (says_refused (after_number (loaded + others + 1) row) || says_loaded (after_number (loaded + others + 1) row)))))
      (lt-leb (length row) 32 (omega arith)))
      (no_totals row (λ q. no (ap length q)))
    where
      no : length row ≡ length (last_row (loaded + others) loaded others) → ⊥
      no q = omega (arith, fits_last (loaded + others) loaded others)

  pieces_long : (l t : List ℕ) → 84 < length l → part_from part before loaded others (pieces_from l t) ≡ no_ledger part (loaded + others + 1)
  unfolding pieces_from
  pieces_long [] [] h = absurd (no h)
    where
      no : 84 < 0 → ⊥
      no q = omega arith
  pieces_long (a ∷ l) [] h = part_long (a ∷ l) [] h
  pieces_long l (b ∷ t) h = go (eqb b lf) (pieces_long (l ++ (b ∷ [])) t (omega (arith, length-append l (b ∷ []))))
    where
      go : (x : Bool) → part_from part before loaded others (pieces_from (l ++ (b ∷ [])) t) ≡ no_ledger part (loaded + others + 1)
          → part_from part before loaded others (cond x ((l ++ (lf ∷ [])) ∷ pieces_from [] t) (pieces_from (l ++ (b ∷ [])) t))
          ≡ no_ledger part (loaded + others + 1)
      go true r = part_long (l ++ (lf ∷ [])) (pieces_from [] t) (omega (arith, length-append l (lf ∷ [])))
      go false r = r

-- ---- one row more, by its kind
with_row_twice : (x y : List ℕ) (p : Checked JoinedPart) → with_row x (with_row y p) ≡ with_row (x ++ y) p
with_row_twice x y (no_ledger part n) = refl
with_row_twice x y (checked p) = ap (λ (l : List ℕ). checked (record { rows = l; loaded = p.loaded; refused = p.refused })) (sym (append_assoc x y p.rows))

with_row_none : (p : Checked JoinedPart) → with_row [] p ≡ p
with_row_none (no_ledger part n) = refl
with_row_none (checked p) = refl

-- what a row comes to
unfoldable on_kind : Kind → ℕ → ℕ → ℕ → ℕ → List ℕ → List (List ℕ) → Checked JoinedPart
on_kind K.Loaded part before loaded others text rows = with_row text (part_from part before (loaded + 1) others rows)
on_kind K.Refused part before loaded others text rows = with_row text (part_from part before loaded (others + 1) rows)
on_kind K.Totals part before loaded others text rows = cond (is_none rows) (checked (record { rows = text; loaded = loaded; refused = others }))
    (no_ledger part (loaded + others + 1))
on_kind K.Neither part before loaded others text rows = no_ledger part (loaded + others + 1)

by_kind : (fits turned last : Bool) (part before loaded others : ℕ) (text : List ℕ) (rows : List (List ℕ))
    → cond fits (with_row text (part_from part before (tally loaded (not turned)) (tally others turned) rows))
    (cond (last && is_none rows) (checked (record { rows = []; loaded = loaded; refused = others })) (no_ledger part (loaded + others + 1)))
    ≡ on_kind (cond fits (cond turned K.Refused K.Loaded) (cond last K.Totals K.Neither)) part before loaded others (cond fits text []) rows
unfolding on_kind
by_kind true true last part before loaded others text rows = refl
by_kind true false last part before loaded others text rows = refl
by_kind false turned true part before loaded others text rows = refl
by_kind false turned false part before loaded others text rows = refl

part_by_kind : (part before loaded others whole : ℕ) (row : List ℕ) (rows : List (List ℕ)) → whole ≡ before + (loaded + others + 1)
    → part_from part before loaded others (row ∷ rows) ≡ on_kind (row_is_rule (loaded + others + 1) loaded others row) part before loaded others
    (text_of (loaded + others + 1) whole row) rows
unfolding part_from row_is_rule text_of
part_by_kind part before loaded others whole row rows e =
    let n : ℕ = loaded + others + 1 in
    let k : n - 1 ≡ loaded + others = omega arith in
    by_kind (is_row n row) (says_refused (after_number n row)) (same row (last_row (loaded + others) loaded others)) part before loaded others
    (spaced (before + n) ++ behind_number n row) rows
    ∙ ap₂ (λ (w m : ℕ). on_kind (cond (is_row n row) (cond (says_refused (after_number n row)) K.Refused K.Loaded)
    (cond (same row (last_row m loaded others)) K.Totals K.Neither)) part before loaded others
    (cond (is_row n row) (spaced w ++ behind_number n row) []) rows) (sym e) (sym k)

-- ---- the bytes of a row are held
record View (row : List ℕ) (s : Joining) (begun : List ℕ) : Type 0 where
  size : length row ≡ 84
  count : s.held ≡ length begun
  front : take (length begun) row ≡ begun
  plain : ends_in_lf begun ≡ false
  unended : s.ended ≡ false
  going : s.stopped ≡ false

some_piece : (a : ℕ) (l t : List ℕ) → is_none (pieces_from (a ∷ l) t) ≡ false
unfolding pieces_from
some_piece a l [] = refl
some_piece a l (b ∷ t) = go (eqb b lf) (some_piece a (l ++ (b ∷ [])) t)
  where
    go : (x : Bool) → is_none (pieces_from (a ∷ (l ++ (b ∷ []))) t) ≡ false
        → is_none (cond x ((a ∷ (l ++ (lf ∷ []))) ∷ pieces_from [] t) (pieces_from (a ∷ (l ++ (b ∷ []))) t)) ≡ false
    go true e = refl
    go false e = e

first_piece : (b : ℕ) (t : List ℕ) → is_none (pieces_from [] (b ∷ t)) ≡ false
unfolding pieces_from
first_piece b t = go (eqb b lf)
  where
    go : (x : Bool) → is_none (cond x ((lf ∷ []) ∷ pieces_from [] t) (pieces_from (b ∷ []) t)) ≡ false
    go true = refl
    go false = some_piece b [] t

-- ---- a byte, case by case
byte_is : (row : List ℕ) (s : Joining) (x : List ℕ) (b : ℕ) (e l : Bool) → s.stopped ≡ false → s.ended ≡ e → leb 84 s.held ≡ l
    → byte_on (joint row s x) b ≡ cond (e || l) (joint row (halted s) x) (byte_held s row x b)
unfolding byte_on
byte_is row s x b e l p q r =
    ap (λ (y : Bool). cond y (joint row s x) (cond (s.ended || leb 84 s.held) (joint row (halted s) x) (byte_held s row x b))) p
    ∙ ap₂ (λ (y z : Bool). cond (y || z) (joint row (halted s) x) (byte_held s row x b)) q r

abbrev Said : List ℕ → Type 0
Said t = (row : List ℕ) (s : Joining) (x begun : List ℕ) (before : ℕ) → View row s begun → s.loads + s.refusals ≡ before + (s.loaded + s.refused)
    → said_by (bytes_on (joint row s x) t) ≡ with_row x (part_from s.part before s.loaded s.refused (pieces_from begun t))

-- after a row, by its kind
module _ (t : List ℕ) (rec : Said t) (row : List ℕ) (s : Joining) (x text : List ℕ) (before : ℕ) (size : length row ≡ 84) (unended : s.ended ≡ false)
    (going : s.stopped ≡ false)
    (sum : s.loads + s.refusals ≡ before + (s.loaded + s.refused)) where
  fresh_view : (u : Joining) → u.held ≡ 0 → u.ended ≡ false → u.stopped ≡ false → View row u []
  unfolding ends_in_lf
  fresh_view u h e g = record { size = size; count = h; front = refl; plain = refl; unended = e; going = g }

  after_totals : (t : List ℕ) → said_by (bytes_on (joint row (after_row s K.Totals) (x ++ text)) t)
      ≡ with_row x (cond (is_none (pieces_from [] t)) (checked (record { rows = text; loaded = s.loaded; refused = s.refused }))
      (no_ledger s.part (own_number s)))
  unfolding bytes_on pieces_from
  after_totals [] =
      ap (λ (b : Bool). cond (true && not b) (checked (record { rows = x ++ text; loaded = s.loaded; refused = s.refused }))
      (no_ledger s.part (own_number s))) going
  after_totals (b ∷ t) =
      ap (λ (m : Joint). said_by (bytes_on m t)) (byte_is row (after_row s K.Totals) (x ++ text) b true (leb 84 0) going refl refl)
      ∙ said_halted row (after_row s K.Totals) (x ++ text) t
      ∙ sym (ap (λ (y : Bool). with_row x (cond y (checked (record { rows = text; loaded = s.loaded; refused = s.refused }))
      (no_ledger s.part (own_number s)))) (first_piece b t))

  said_kind : (k : Kind) → said_by (bytes_on (joint row (after_row s k) (x ++ text)) t)
      ≡ with_row x (on_kind k s.part before s.loaded s.refused text (pieces_from [] t))
  unfolding on_kind
  said_kind K.Loaded =
      rec row (after_row s K.Loaded) (x ++ text) [] before (fresh_view (after_row s K.Loaded) refl unended going) (omega (arith, sum))
      ∙ sym (with_row_twice x text (part_from s.part before (s.loaded + 1) s.refused (pieces_from [] t)))
  said_kind K.Refused =
      rec row (after_row s K.Refused) (x ++ text) [] before (fresh_view (after_row s K.Refused) refl unended going) (omega (arith, sum))
      ∙ sym (with_row_twice x text (part_from s.part before s.loaded (s.refused + 1) (pieces_from [] t)))
  said_kind K.Totals = after_totals t
  said_kind K.Neither = said_halted row s (x ++ text) t

-- the end of a part
said_end : Said []
unfolding bytes_on pieces_from part_from
said_end row s x begun before v sum =
    ap (λ (b : Bool). cond (b && not s.stopped) (checked (record { rows = x; loaded = s.loaded; refused = s.refused }))
    (no_ledger s.part (own_number s))) v.unended
    ∙ sym (ap (with_row x) (go begun v.plain))
  where
    go : (l : List ℕ) → ends_in_lf l ≡ false → part_from s.part before s.loaded s.refused (at_end l) ≡ no_ledger s.part (own_number s)
    go [] e = refl
    go (a ∷ l) e = part_open s.part before s.loaded s.refused (a ∷ l) [] e

-- one byte more
module _ (t : List ℕ) (rec : Said t) (b : ℕ) (row : List ℕ) (s : Joining) (x begun : List ℕ) (before : ℕ) (v : View row s begun)
    (sum : s.loads + s.refusals ≡ before + (s.loaded + s.refused)) where
  held_front : s.held < 84 → take (length (begun ++ (b ∷ []))) (set row s.held b) ≡ begun ++ (b ∷ [])
  held_front h =
      let e : length (begun ++ (b ∷ [])) ≡ suc s.held = omega (arith, length-append begun (b ∷ []), v.count) in
      ap (λ (k : ℕ). take k (set row s.held b)) e
      ∙ take-suc-set row s.held b (omega (arith, v.size))
      ∙ ap (λ (l : List ℕ). l ++ (b ∷ [])) (ap (λ (k : ℕ). take k row) v.count ∙ v.front)

  said_full : 84 ≤ s.held → (y : Bool) → no_ledger s.part (own_number s)
      ≡ with_row x (part_from s.part before s.loaded s.refused (cond y ((begun ++ (lf ∷ [])) ∷ pieces_from [] t) (pieces_from (begun ++ (b ∷ [])) t)))
  said_full h true = sym (ap (with_row x) (part_long s.part before s.loaded s.refused (begun ++ (lf ∷ [])) (pieces_from [] t)
      (omega (arith, length-append begun (lf ∷ []), v.count))))
  said_full h false = sym (ap (with_row x) (pieces_long s.part before s.loaded s.refused (begun ++ (b ∷ [])) t
      (omega (arith, length-append begun (b ∷ []), v.count))))

  said_held : s.held < 84 → (y : Bool) → eqb b lf ≡ y
      → said_by (bytes_on (cond y (row_ended (holds_more s) (set row s.held b) x) (joint (set row s.held b) (holds_more s) x)) t)
      ≡ with_row x (part_from s.part before s.loaded s.refused (cond y ((begun ++ (lf ∷ [])) ∷ pieces_from [] t) (pieces_from (begun ++ (b ∷ [])) t)))
  said_held h false e =
      rec (set row s.held b) (holds_more s) x (begun ++ (b ∷ [])) before
      (record {
        size = length-set row s.held b ∙ v.size;
        count = omega (arith, length-append begun (b ∷ []), v.count);
        front = held_front h;
        plain = lf_last begun b ∙ e;
        unended = v.unended;
        going = v.going;
      })
      sum
  said_held h true e =
      let n : ℕ = own_number s in
      let r : List ℕ = take (s.held + 1) (set row s.held b) in
      let whole : ℕ = whole_number s in
      let k : s.held + 1 ≡ length (begun ++ (b ∷ [])) = omega (arith, length-append begun (b ∷ []), v.count) in
      let q : r ≡ begun ++ (lf ∷ []) = ap (λ (m : ℕ). take m (set row s.held b)) k ∙ held_front h ∙ ap (λ (c : ℕ). begun ++ (c ∷ [])) (eqb-true b lf e) in
      said_kind t rec (set row s.held b) (holds_more s) x (text_of n whole r) before (length-set row s.held b ∙ v.size) v.unended v.going
      sum (row_is_rule n s.loaded s.refused r)
      ∙ ap (λ (l : List ℕ). with_row x (on_kind (row_is_rule n s.loaded s.refused l) s.part before s.loaded s.refused (text_of n whole l)
      (pieces_from [] t))) q
      ∙ sym (ap (with_row x) (part_by_kind s.part before s.loaded s.refused whole (begun ++ (lf ∷ [])) (pieces_from [] t) (omega (arith, sum))))

  said_more : said_by (bytes_on (joint row s x) (b ∷ t)) ≡ with_row x (part_from s.part before s.loaded s.refused (pieces_from begun (b ∷ t)))
  unfolding pieces_from
  said_more = ap said_by (byte_then (joint row s x) b t) ∙ go (leb 84 s.held) refl
    where
      go : (l : Bool) → leb 84 s.held ≡ l → said_by (bytes_on (byte_on (joint row s x) b) t)
          ≡ with_row x (part_from s.part before s.loaded s.refused
          (cond (eqb b lf) ((begun ++ (lf ∷ [])) ∷ pieces_from [] t) (pieces_from (begun ++ (b ∷ [])) t)))
      go true e =
          ap (λ (m : Joint). said_by (bytes_on m t)) (byte_is row s x b false true v.going v.unended e) ∙ said_halted row s x t
          ∙ said_full (leb-true 84 s.held e) (eqb b lf)
      go false e =
          ap (λ (m : Joint). said_by (bytes_on m t)) (byte_is row s x b false false v.going v.unended e)
          ∙ said_held (leb-false 84 s.held e) (eqb b lf) refl

said_part : (t : List ℕ) → Said t
said_part [] row s x begun before v sum = said_end row s x begun before v sum
said_part (b ∷ t) row s x begun before v sum = said_more t (said_part t) b row s x begun before v sum

-- ---- what stays and what is added over a part
record Past (s u : Joining) : Type 0 where
  part : u.part ≡ s.part
  loads : u.loads + s.loaded ≡ s.loads + u.loaded
  refusals : u.refusals + s.refused ≡ s.refusals + u.refused

past_row : (s : Joining) (k : Kind) → Past s (after_row s k)
past_row s K.Loaded = record { part = refl; loads = omega arith; refusals = omega arith }
past_row s K.Refused = record { part = refl; loads = omega arith; refusals = omega arith }
past_row s K.Totals = record { part = refl; loads = refl; refusals = refl }
past_row s K.Neither = record { part = refl; loads = refl; refusals = refl }

past_byte : (row : List ℕ) (s : Joining) (x : List ℕ) (b : ℕ) → Past s (byte_on (joint row s x) b).state
unfolding byte_on
past_byte row s x b = go s.stopped (s.ended || leb 84 s.held) (eqb b lf)
  where
    at : Bool → Bool → Bool → Joint
    at p q r = cond p (joint row s x) (cond q (joint row (halted s) x)
        (cond r (row_ended (holds_more s) (set row s.held b) x) (joint (set row s.held b) (holds_more s) x)))

    go : (p q r : Bool) → Past s (at p q r).state
    go true q r = record { part = refl; loads = refl; refusals = refl }
    go false true r = record { part = refl; loads = refl; refusals = refl }
    go false false true = let e = past_row (holds_more s) (row_is_rule (own_number s) s.loaded s.refused (take (s.held + 1) (set row s.held b))) in
        record { part = e.part; loads = e.loads; refusals = e.refusals }
    go false false false = record { part = refl; loads = refl; refusals = refl }

past_then : (s u w : Joining) → Past s u → Past u w → Past s w
past_then s u w p q = record { part = q.part ∙ p.part; loads = omega (arith, p.loads, q.loads); refusals = omega (arith, p.refusals, q.refusals) }

past_bytes : (m : Joint) (t : List ℕ) → Past m.state (bytes_on m t).state
unfolding bytes_on
past_bytes m [] = record { part = refl; loads = refl; refusals = refl }
past_bytes m (b ∷ t) = past_then m.state (byte_on m b).state (bytes_on (byte_on m b) t).state (past_byte m.row m.state m.text b)
    (past_bytes (byte_on m b) t)

size_byte : (m : Joint) (b : ℕ) → length (byte_on m b).row ≡ length m.row
size_byte m b = ap (λ (u : Joint). length u.row) (byte_after m.row m.state m.text b) ∙ (byte_bounds m.row m.state b).size

size_bytes : (m : Joint) (t : List ℕ) → length (bytes_on m t).row ≡ length m.row
unfolding bytes_on
size_bytes m [] = refl
size_bytes m (b ∷ t) = size_bytes (byte_on m b) t ∙ size_byte m b

-- ---- all parts
abbrev part_start : ℕ → ℕ → ℕ → Joining
part_start part loads refusals = record { part = part; loads = loads; refusals = refusals; loaded = 0; refused = 0; held = 0; ended = false; stopped = false }

start_view : (row : List ℕ) (part loads refusals : ℕ) → length row ≡ 84 → View row (part_start part loads refusals) []
unfolding ends_in_lf
start_view row part loads refusals e = record { size = e; count = refl; front = refl; plain = refl; unended = refl; going = refl }

module _ (row : List ℕ) (part loads refusals : ℕ) (t : List ℕ) (size : length row ≡ 84) where
  part_said_holds : said_by (bytes_on (joint row (part_start part loads refusals) []) t) ≡ part_in part (loads + refusals) t
  part_said_holds =
      said_part t row (part_start part loads refusals) [] [] (loads + refusals) (start_view row part loads refusals size) (sym (add-zero (loads + refusals)))
      ∙ with_row_none (part_in part (loads + refusals) t)

machine_from_holds : (row : List ℕ) (part loads refusals : ℕ) (texts : List (List ℕ)) → length row ≡ 84
    → machine_from row (part_start part loads refusals) texts ≡ join_from part loads refusals texts
unfolding machine_from join_from
machine_from_holds row part loads refusals [] e = refl
machine_from_holds row part loads refusals (t ∷ ts) e =
    go (m.state.ended && not m.state.stopped) (part_said_holds row part loads refusals t e) (past_bytes (joint row (part_start part loads refusals) []) t)
    (machine_from_holds m.row (m.state.part + 1) m.state.loads m.state.refusals ts (size_bytes (joint row (part_start part loads refusals) []) t ∙ e))
  where
    m : Joint
    m = bytes_on (joint row (part_start part loads refusals) []) t

    on : JoinedPart → Checked (List ℕ)
    on p = join_from (part + 1) (loads + p.loaded) (refusals + p.refused) ts

    counts : Past (part_start part loads refusals) m.state → join_from (m.state.part + 1) m.state.loads m.state.refusals ts
        ≡ join_from (part + 1) (loads + m.state.loaded) (refusals + m.state.refused) ts
    counts p =
        ap (λ (n : ℕ). join_from (n + 1) m.state.loads m.state.refusals ts) p.part
        ∙ ap₂ (λ (x y : ℕ). join_from (part + 1) x y ts) (sym (add-zero m.state.loads) ∙ p.loads) (sym (add-zero m.state.refusals) ∙ p.refusals)

    go : (b : Bool)
        → cond b (checked (record { rows = m.text; loaded = m.state.loaded; refused = m.state.refused }))
        (no_ledger m.state.part (own_number m.state)) ≡ part_in part (loads + refusals) t
        → Past (part_start part loads refusals) m.state
        → machine_from m.row (part_start (m.state.part + 1) m.state.loads m.state.refusals) ts
        ≡ join_from (m.state.part + 1) m.state.loads m.state.refusals ts
        → cond b (with_rows m.text (machine_from m.row (next_part m.state) ts)) (no_ledger m.state.part (own_number m.state))
        ≡ and_then (part_in part (loads + refusals) t) on
    go true q p rec = ap (with_rows m.text) (rec ∙ counts p) ∙ ap (λ (a : Checked JoinedPart). and_then a on) q
    go false q p rec = ap (λ (a : Checked JoinedPart). and_then a on) q

pub machined : (row : List ℕ) (texts : List (List ℕ)) → Machined row texts
machined row texts = record { join = λ e. machine_from_holds row 1 0 0 texts e }
