-- PARTS PUT TOGETHER ARE THE WHOLE. Assumes nothing.
use mathlib.Core.Path.{◌≡◌, refl, sym, ap, ◌∙◌}
use mathlib.Core.Bool.{Bool, true, false, not, ◌&&◌, ◌||◌, false≢true}
use mathlib.Core.List.{List, [], ◌∷◌, ◌++◌, append_assoc, append-nil, map, map-append}
use Prim.Native.Nat.{ℕ, suc, ◌+◌}
use native.Mathlib.Nat.{add-zero, zero-add}
use native.Mathlib.Omega.{arith}
use lib.ListN.{length}
use Rattle.line_parse.specs.Line.{line_of}
use Rattle.line_profile.specs.declared.Profile.TheVariants as P
use Rattle.ledger_row.specs.Row.{row_of, is_loaded}
use Rattle.ledger_totals.specs.Totals.{last_row}
use Rattle.ledger_feed.specs.Machine.{tally}
use Rattle.ledger_feed.proofs.Counted.{tally_both, loaded_more, refused_more_holds}
use Rattle.ledger_whole.specs.Ledger.{rows_from, loaded_in, refused_in, ledger_of}
use Rattle.ledger_whole.specs.Whole.{joined, ends_in_lf}
use Rattle.line_cut.specs.Lines.{lines_from, lines_of}
use Rattle.ledger_joined.specs.Joined.{is_empty, at_line_ends, Joins}
use Rattle.ledger_joined.proofs.Lines.{lines_both}
use Rattle.ledger_joined.proofs.Parts.{line_for_row}
use Rattle.ledger_joined.proofs.Said.{said_from, all_for_rows, join_said}

-- ---- a ledger is by what is said of its lines
rows_said_holds : (loaded others : ℕ) (ls : List (List ℕ))
    → rows_from P.Any (loaded + others + 1) ls ++ last_row (loaded + others + length ls) (loaded + loaded_in P.Any ls) (others + refused_in P.Any ls)
    ≡ said_from loaded others (map line_of ls)
unfolding rows_from loaded_in refused_in said_from
rows_said_holds loaded others [] = rw (add-zero (loaded + others), add-zero loaded, add-zero others)
rows_said_holds loaded others (l ∷ ls) =
    let t : Bool = is_loaded (line_of l) in
    let both : tally loaded t + tally others (not t) ≡ loaded + others + 1 = tally_both t loaded others in
    let many : loaded + others + 1 + length ls ≡ loaded + others + suc (length ls) = omega arith in
    let row : List ℕ = row_of (loaded + others + 1) (line_of l) in
    let last : List ℕ = last_row (loaded + others + suc (length ls)) (tally loaded t + loaded_in P.Any ls) (tally others (not t) + refused_in P.Any ls) in
    rw (sym (loaded_more t loaded (loaded_in P.Any ls)), sym (refused_more_holds t others (refused_in P.Any ls)))
    (append_assoc row (rows_from P.Any (loaded + others + 1 + 1) ls) last
    ∙ ap (λ (r : List ℕ). row ++ r) (rw (sym many, sym both) (rows_said_holds (tally loaded t) (tally others (not t)) ls)))

ledger_said : (t : List ℕ) → ledger_of P.Any t ≡ said_from 0 0 (map line_of (lines_of t))
unfolding ledger_of
ledger_said t =
    let ls : List (List ℕ) = lines_of t in
    sym (rw (zero-add (length ls), zero-add (loaded_in P.Any ls), zero-add (refused_in P.Any ls)) refl) ∙ rows_said_holds 0 0 ls

-- ---- the lines of the parts
pub lines_part : (p s : List ℕ) → (is_empty p || ends_in_lf p) ≡ true → lines_of (p ++ s) ≡ lines_of p ++ lines_of s
unfolding lines_from ends_in_lf
lines_part [] s e = refl
lines_part (b ∷ p) s e = lines_both [] (b ∷ p) s e

pub lines_joined : (p : List ℕ) (ps : List (List ℕ)) → at_line_ends (p ∷ ps) ≡ true
    → (lines_of (joined (p ∷ ps)) ≡ lines_of p ++ lines_of (joined ps)) × (at_line_ends ps ≡ true)
unfolding at_line_ends joined lines_from
lines_joined p [] e = (ap lines_of (append-nil p) ∙ sym (append-nil (lines_of p)), refl)
lines_joined p (q ∷ qs) e = go (is_empty p || ends_in_lf p) refl e
  where
    go : (t : Bool) → (is_empty p || ends_in_lf p) ≡ t → (t && at_line_ends (q ∷ qs)) ≡ true
        → (lines_of (p ++ joined (q ∷ qs)) ≡ lines_of p ++ lines_of (joined (q ∷ qs))) × (at_line_ends (q ∷ qs) ≡ true)
    go true h k = (lines_part p (joined (q ∷ qs)) h, k)
    go false h k = absurd (false≢true k)

pub lines_none : lines_of (joined []) ≡ []
unfolding lines_from joined
lines_none = refl

-- ---- all parts
said_joined : (p : List ℕ) (ps : List (List ℕ)) → at_line_ends (p ∷ ps) ≡ true
    → (map line_of (lines_of (joined (p ∷ ps))) ≡ map line_of (lines_of p) ++ map line_of (lines_of (joined ps))) × (at_line_ends ps ≡ true)
said_joined p ps e = let c = lines_joined p ps e in (ap (map line_of) c.0 ∙ map-append line_of (lines_of p) (lines_of (joined ps)), c.1)

said_none : map line_of (lines_of []) ≡ []
unfolding lines_from
said_none = refl

pub joins : (parts : List (List ℕ)) → Joins parts
joins parts = record {
  whole = λ e.
      join_said (λ (t : List ℕ). map line_of (lines_of t)) (λ (t : List ℕ). all_for_rows line_of line_for_row (lines_of t)) said_none at_line_ends said_joined
      (ledger_of P.Any) ledger_said parts e;
}
