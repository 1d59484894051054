-- The lines of what is fed are the lines of the files, one file after another. Assumes nothing.
use mathlib.Core.Path.{◌≡◌, refl, sym, ap, ap₂, subst, ◌∙◌}
use mathlib.Core.Bool.{Bool, true, false, cond}
use mathlib.Core.List.{List, [], ◌∷◌, ◌++◌, append_assoc}
use Prim.Native.Nat.{ℕ, suc, ◌-◌, ◌^◌, ◌<◌}
use native.Mathlib.Omega.{arith}
use lib.Dec.{eqb, ltb}
use lib.ListN.{length, take, length-append}
use lib.Seq.{take-append_seam}
use borrow.Author.Tests.{lt-ltb, le-ltb}
use Rattle.text_in.specs.Text.{cr}
use Rattle.line_cut.specs.Lines.{lf, ends_in_cr, without_cr, at_end, lines_from, lines_of}
use Rattle.line_cut.specs.Cut.{Open, line_emptied, pushed, bare_of, CutSoFar, run_by}
use Rattle.line_cut.proofs.Views.{View, view_none, view_push}
use Rattle.line_profile.specs.declared.Profile.{Profile}
use Rattle.ledger_feed.specs.Machine.{at, open_of, kept_of, close_row}
use Rattle.ledger_whole.specs.Ledger.{rows_from, totals_of, ledger_of}
use Rattle.ledger_whole.specs.Calls.{Call, Last, fresh}
use Rattle.ledger_whole.proofs.Cut.{ledger}
use Rattle.ledger_files.specs.Files.{closing_bytes, unfinished_from, closed, fed_of, lines_of_all, Files, Closed}
use Rattle.ledger_files.specs.declared.Ending.{Ending}

-- ---- a line that is closed is the line itself
cr_last : (l : List ℕ) → ends_in_cr (l ++ (cr ∷ [])) ≡ true
unfolding ends_in_cr
cr_last [] = refl
cr_last (x ∷ []) = refl
cr_last (x ∷ (y ∷ l)) = cr_last (y ∷ l)

without_last_holds : (l : List ℕ) → without_cr (l ++ (cr ∷ [])) ≡ l
without_last_holds l =
    let e : length (l ++ (cr ∷ [])) - 1 ≡ length l = omega (arith, length-append l (cr ∷ [])) in
    ap (λ (t : Bool). cond t (take (length (l ++ (cr ∷ [])) - 1) (l ++ (cr ∷ []))) (l ++ (cr ∷ []))) (cr_last l)
    ∙ ap (λ (n : ℕ). take n (l ++ (cr ∷ []))) e ∙ take-append_seam l (cr ∷ [])

abbrev ending : List ℕ → List ℕ
ending l = closing_bytes (ltb 0 (length l)) (ends_in_cr l)

some_bytes : (b : ℕ) (l : List ℕ) → ltb 0 (length (b ∷ l)) ≡ true
some_bytes b l = lt-ltb 0 (suc (length l)) (omega arith)

by_cr : (t : Bool) (l rest : List ℕ) → ends_in_cr l ≡ t → lines_from l (cond t (cr ∷ (lf ∷ [])) (lf ∷ []) ++ rest) ≡ l ∷ lines_from [] rest
unfolding lines_from
by_cr true l rest e = ap (λ (x : List ℕ). x ∷ lines_from [] rest) (without_last_holds l)
by_cr false l rest e = ap (λ (t : Bool). cond t (take (length l - 1) l) l ∷ lines_from [] rest) e

end_closed : (l rest : List ℕ) → lines_from l (ending l ++ rest) ≡ at_end l ++ lines_from [] rest
end_closed [] rest = refl
end_closed (b ∷ l) rest =
    ap (λ (t : Bool). lines_from (b ∷ l) (closing_bytes t (ends_in_cr (b ∷ l)) ++ rest)) (some_bytes b l)
    ∙ by_cr (ends_in_cr (b ∷ l)) (b ∷ l) rest refl

lines_closed : (l s rest : List ℕ) → lines_from l (s ++ (ending (unfinished_from l s) ++ rest)) ≡ lines_from l s ++ lines_from [] rest
unfolding lines_from unfinished_from
lines_closed l [] rest = end_closed l rest
lines_closed l (b ∷ s) rest = go (eqb b lf) (lines_closed [] s rest) (lines_closed (l ++ (b ∷ [])) s rest)
  where
    go : (t : Bool)
        → lines_from [] (s ++ (ending (unfinished_from [] s) ++ rest)) ≡ lines_from [] s ++ lines_from [] rest
        → lines_from (l ++ (b ∷ [])) (s ++ (ending (unfinished_from (l ++ (b ∷ [])) s) ++ rest)) ≡ lines_from (l ++ (b ∷ [])) s ++ lines_from [] rest
        → cond t (without_cr l ∷ lines_from [] (s ++ (ending (cond t (unfinished_from [] s) (unfinished_from (l ++ (b ∷ [])) s)) ++ rest)))
        (lines_from (l ++ (b ∷ [])) (s ++ (ending (cond t (unfinished_from [] s) (unfinished_from (l ++ (b ∷ [])) s)) ++ rest)))
        ≡ cond t (without_cr l ∷ lines_from [] s) (lines_from (l ++ (b ∷ [])) s) ++ lines_from [] rest
    go true p q = ap (λ (x : List (List ℕ)). without_cr l ∷ x) p
    go false p q = q

pub lines_fed : (files : List (List ℕ)) → lines_of (fed_of files) ≡ lines_of_all files
unfolding lines_from fed_of lines_of_all
lines_fed [] = refl
lines_fed (file ∷ files) =
    ap (lines_from []) (append_assoc file (ending (unfinished_from [] file)) (fed_of files))
    ∙ lines_closed [] file (fed_of files) ∙ ap (λ (x : List (List ℕ)). lines_of file ++ x) (lines_fed files)

-- ---- what is written
pub files : (profile : Profile) (line : List ℕ) (all : List (List ℕ)) (calls : List Call) (last : Last) → Files profile line all calls last
unfolding ledger_of
files profile line all calls last = record {
  ledger = λ size room few made is.
      (ledger profile line calls last).ledger size room (subst (λ (t : List ℕ). length (lines_of t) < 2 ^ 64) (sym is)
      (subst (λ (ls : List (List ℕ)). length ls < 2 ^ 64) (sym (lines_fed all)) few)) made
      ∙ ap (ledger_of profile) is ∙ ap (λ (ls : List (List ℕ)). rows_from profile 1 ls ++ totals_of profile ls) (lines_fed all);
}

-- ---- what the state tells of the file
view_run : {S : Type 0} (close : S → List ℕ → ℕ → S) (o : Open) (s : S) (l t : List ℕ) → View o l → View (run_by close o s t).left (unfinished_from l t)
unfolding run_by unfinished_from
view_run close o s l [] v = v
view_run {S} close o s l (b ∷ t) v =
    go (eqb b lf) (view_run close (line_emptied o) (close s o.line (bare_of o.held o.cr)) [] t (view_none (line_emptied o) refl refl v.size))
    (view_run close (pushed o b) s (l ++ (b ∷ [])) t (view_push o l b v))
  where
    e : CutSoFar S
    e = run_by close (line_emptied o) (close s o.line (bare_of o.held o.cr)) t

    f : CutSoFar S
    f = run_by close (pushed o b) s t

    go : (u : Bool) → View e.left (unfinished_from [] t) → View f.left (unfinished_from (l ++ (b ∷ [])) t)
        → View (cond u e f).left (cond u (unfinished_from [] t) (unfinished_from (l ++ (b ∷ [])) t))
    go true p q = p
    go false p q = q

held_some : (o : Open) (l : List ℕ) → View o l → ltb 0 o.held ≡ ltb 0 (length l)
held_some o [] v = le-ltb 0 o.held (omega (arith, v.count)) ∙ sym (le-ltb 0 0 (omega arith))
held_some o (b ∷ l) v = lt-ltb 0 o.held (omega (arith, v.count)) ∙ sym (some_bytes b l)

-- ---- what was fed before leaves nothing unfinished
unfinished_append : (l s t : List ℕ) → unfinished_from l (s ++ t) ≡ unfinished_from (unfinished_from l s) t
unfolding unfinished_from
unfinished_append l [] t = refl
unfinished_append l (b ∷ s) t = go (eqb b lf) (unfinished_append [] s t) (unfinished_append (l ++ (b ∷ [])) s t)
  where
    go : (u : Bool) → unfinished_from [] (s ++ t) ≡ unfinished_from (unfinished_from [] s) t
        → unfinished_from (l ++ (b ∷ [])) (s ++ t) ≡ unfinished_from (unfinished_from (l ++ (b ∷ [])) s) t
        → cond u (unfinished_from [] (s ++ t)) (unfinished_from (l ++ (b ∷ [])) (s ++ t))
        ≡ unfinished_from (cond u (unfinished_from [] s) (unfinished_from (l ++ (b ∷ [])) s)) t
    go true p q = p
    go false p q = q

none_by_cr : (t : Bool) (l : List ℕ) → unfinished_from l (cond t (cr ∷ (lf ∷ [])) (lf ∷ [])) ≡ []
unfolding unfinished_from
none_by_cr true l = refl
none_by_cr false l = refl

ending_none : (l : List ℕ) → unfinished_from l (ending l) ≡ []
unfolding unfinished_from
ending_none [] = refl
ending_none (b ∷ l) = ap (λ (t : Bool). unfinished_from (b ∷ l) (closing_bytes t (ends_in_cr (b ∷ l)))) (some_bytes b l) ∙ none_by_cr (ends_in_cr (b ∷ l)) (b ∷ l)

fed_none : (all : List (List ℕ)) → unfinished_from [] (fed_of all) ≡ []
unfolding unfinished_from fed_of
fed_none [] = refl
fed_none (file ∷ all) =
    unfinished_append [] (closed file) (fed_of all)
    ∙ ap (λ (l : List ℕ). unfinished_from l (fed_of all)) (unfinished_append [] file (ending (unfinished_from [] file)) ∙ ending_none (unfinished_from [] file))
    ∙ fed_none all

pub file_closed : (profile : Profile) (line : List ℕ) (before : List (List ℕ)) (file : List ℕ) (r : Ending) → Closed profile line before file r
file_closed profile line before file r = record {
  closing = λ size e.
      let o : Open = (run_by (close_row profile) (open_of (at fresh line [])) (kept_of (at fresh line [])) (fed_of before ++ file)).left in
      let l : List ℕ = unfinished_from [] (fed_of before ++ file) in
      let v = view_run (close_row profile) (open_of (at fresh line [])) (kept_of (at fresh line [])) [] (fed_of before ++ file)
      (view_none (open_of (at fresh line [])) refl refl size) in
      let is : l ≡ unfinished_from [] file = unfinished_append [] (fed_of before) file ∙ ap (λ (x : List ℕ). unfinished_from x file) (fed_none before) in
      ap (λ (x : List ℕ). file ++ x) (e ∙ ap₂ closing_bytes (held_some o l v) v.ends ∙ ap (λ (x : List ℕ). ending x) is);
}

-- ---- by the tests that the code makes
pub closes_none : (held : ℕ) (carriage : Bool) → held ≡ 0 → [] ≡ closing_bytes (ltb 0 held) carriage
closes_none held carriage e = rw (le-ltb 0 held (omega arith)) refl

pub closes_some : (held : ℕ) (carriage t : Bool) → (held ≡ 0 → ⊥) → carriage ≡ t → closing_bytes true t ≡ closing_bytes (ltb 0 held) carriage
closes_some held carriage t n e = ap₂ closing_bytes (sym (lt-ltb 0 held (omega (arith, n)))) (sym e)
