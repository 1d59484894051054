-- No garbling: a single ledger that is taken comes out as it was. Assumes nothing.
use mathlib.Core.Path.{◌≡◌, refl, sym, ap, ap₂, ◌∙◌}
use mathlib.Core.Bool.{Bool, true, false, cond, not, ◌&&◌, ◌||◌, false≢true}
use mathlib.Core.List.{List, [], ◌∷◌, ◌++◌, append_assoc, append-nil}
use Prim.Native.Nat.{ℕ, ◌+◌}
use native.Mathlib.Nat.{zero-add}
use lib.Dec.{leb}
use lib.ListN.{length, take, take-append-drop}
use native.Mathlib.Omega.{arith}
use Rattle.laws.specs.Tests.{same}
use Rattle.laws.proofs.Tests.{is_same}
use Rattle.laws.proofs.Truth.{true_T}
use Rattle.line_profile.specs.declared.Profile.TheVariants as P
use Rattle.ledger_row.specs.Row.{spaced}
use Rattle.ledger_totals.specs.Totals.{last_row}
use Rattle.ledger_feed.specs.Machine.{tally}
use Rattle.ledger_whole.specs.Whole.{joined, pieces_from, ends_in_lf}
use Rattle.ledger_whole.proofs.Once.{once}
use Rattle.ledger_joined_row.specs.Rows.{begins_with, behind_number, says_refused, says_loaded, after_number, is_row}
use Rattle.ledger_join.specs.Join.{Checked, no_ledger, checked, is_none, JoinedPart, with_row, part_from, part_in, and_then, join_from, join_of}
use Rattle.ledger_joined.specs.Joined.{OneKept}

no_checked : {A : Type 0} {X : Type 0} {a : A} {part number : ℕ} → checked a ≡ no_ledger part number → X
no_checked e = absurd (let k : ◌≡◌ {A = ℕ} 0 1 = cc in omega arith)

same_true : (s t : List ℕ) → same s t ≡ true → s ≡ t
same_true s t e = is_same s t (true_T e)

row_whole : (number : ℕ) (row : List ℕ) → is_row number row ≡ true → spaced number ++ behind_number number row ≡ row
row_whole number row e = go (leb (length row) 32) (ends_in_lf row) (begins_with (spaced number) row) refl e
  where
    go : (a b c : Bool) → begins_with (spaced number) row ≡ c → (a && (b
        && (c && (says_refused (after_number number row) || says_loaded (after_number number row))))) ≡ true → spaced number ++ behind_number number row ≡ row
    go true true true h k =
        ap (λ (x : List ℕ). x ++ behind_number number row) (sym (same_true (take (length (spaced number)) row) (spaced number) h))
        ∙ take-append-drop (length (spaced number)) row
    go true true false h k = absurd (false≢true k)
    go true false c h k = absurd (false≢true k)
    go false b c h k = absurd (false≢true k)

-- what a part comes to with its totals
abbrev closed : JoinedPart → List ℕ
closed p = p.rows ++ last_row (p.loaded + p.refused) p.loaded p.refused

with_row_holds : (row rest : List ℕ) (a : Checked JoinedPart) (p : JoinedPart) → with_row row a ≡ checked p
    → ((q : JoinedPart) → a ≡ checked q → closed q ≡ rest) → closed p ≡ row ++ rest
with_row_holds row rest (no_ledger n v) p e h = no_checked (sym e)
with_row_holds row rest (checked q) p e h =
    let k : record { rows = row ++ q.rows; loaded = q.loaded; refused = q.refused } ≡ p = cc in
    ap closed (sym k) ∙ append_assoc row q.rows (last_row (q.loaded + q.refused) q.loaded q.refused) ∙ ap (λ (x : List ℕ). row ++ x) (h q refl)

ended : (loaded others part number : ℕ) (row : List ℕ) (rows : List (List ℕ)) (p : JoinedPart)
    → cond (same row (last_row (loaded + others) loaded others) && is_none rows) (checked (record { rows = []; loaded = loaded; refused = others }))
    (no_ledger part number) ≡ checked p
    → closed p ≡ row ++ joined rows
unfolding joined
ended loaded others part number row rows p e = go (same row (last_row (loaded + others) loaded others)) refl rows e
  where
    go : (b : Bool) → same row (last_row (loaded + others) loaded others) ≡ b → (rows : List (List ℕ))
        → cond (b && is_none rows) (checked (record { rows = []; loaded = loaded; refused = others })) (no_ledger part number) ≡ checked p
        → closed p ≡ row ++ joined rows
    go true h [] k =
        let q : record { rows = []; loaded = loaded; refused = others } ≡ p = cc in
        ap closed (sym q) ∙ sym (same_true row (last_row (loaded + others) loaded others) h) ∙ sym (append-nil row)
    go true h (r ∷ rs) k = no_checked (sym k)
    go false h rs k = no_checked (sym k)

part_kept : (part loaded others : ℕ) (rows : List (List ℕ)) (p : JoinedPart) → part_from part 0 loaded others rows ≡ checked p → closed p ≡ joined rows
unfolding part_from joined
part_kept part loaded others [] p e = no_checked (sym e)
part_kept part loaded others (row ∷ rows) p e =
    go (is_row (loaded + others + 1) row) refl e
    (part_kept part (tally loaded (not (says_refused (after_number (loaded + others + 1) row))))
    (tally others (says_refused (after_number (loaded + others + 1) row))) rows)
  where
    onward : Checked JoinedPart
    onward = part_from part 0 (tally loaded (not (says_refused (after_number (loaded + others + 1) row))))
        (tally others (says_refused (after_number (loaded + others + 1) row))) rows

    go : (b : Bool) → is_row (loaded + others + 1) row ≡ b
        → cond b (with_row (spaced (0 + (loaded + others + 1)) ++ behind_number (loaded + others + 1) row) onward)
        (cond (same row (last_row (loaded + others) loaded others) && is_none rows) (checked (record { rows = []; loaded = loaded; refused = others }))
        (no_ledger part (loaded + others + 1))) ≡ checked p
        → ((q : JoinedPart) → onward ≡ checked q → closed q ≡ joined rows) → closed p ≡ row ++ joined rows
    go true h k rec =
        with_row_holds (spaced (0 + (loaded + others + 1)) ++ behind_number (loaded + others + 1) row) (joined rows) onward p k rec
        ∙ ap (λ (x : List ℕ). x ++ joined rows) (ap (λ (n : ℕ). spaced n ++ behind_number (loaded + others + 1) row) (zero-add (loaded + others + 1))
        ∙ row_whole (loaded + others + 1) row h)
    go false h k rec = ended loaded others part (loaded + others + 1) row rows p k

one_is : (t : List ℕ) → join_of (t ∷ []) ≡ and_then (part_in 1 0 t) (λ (p : JoinedPart). checked
    (last_row (0 + p.loaded + (0 + p.refused)) (0 + p.loaded) (0 + p.refused)))
unfolding join_from
one_is t = refl

one_is_kept : (t u : List ℕ) → join_of (t ∷ []) ≡ checked u → u ≡ t
one_is_kept t u e = go (part_in 1 0 t) (sym (one_is t) ∙ e) (part_kept 1 0 0 (pieces_from [] t))
  where
    go : (a : Checked JoinedPart) → and_then a (λ (p : JoinedPart). checked
        (last_row (0 + p.loaded + (0 + p.refused)) (0 + p.loaded) (0 + p.refused))) ≡ checked u
        → ((p : JoinedPart) → a ≡ checked p → closed p ≡ joined (pieces_from [] t)) → u ≡ t
    go (no_ledger n v) k h = no_checked (sym k)
    go (checked p) k h =
        let q : p.rows ++ last_row (0 + p.loaded + (0 + p.refused)) (0 + p.loaded) (0 + p.refused) ≡ u = cc in
        sym q ∙ ap₂ (λ (x y : ℕ). p.rows ++ last_row (x + y) x y) (zero-add p.loaded) (zero-add p.refused) ∙ h p refl ∙ (once P.Any t).pieces

pub one_kept : (t u : List ℕ) → OneKept t u
one_kept t u = record { kept = one_is_kept t u }
