-- Each line appears once, in order, each is loaded or refused, and no byte of the input is lost. Assumes nothing.
use mathlib.Core.Path.{◌≡◌, refl, sym, ap, ap₂, ◌∙◌}
use mathlib.Core.Bool.{Bool, true, false, cond}
use mathlib.Core.List.{List, [], ◌∷◌, ◌++◌, append_assoc, map}
use Prim.Native.Nat.{ℕ, zero, suc, ◌+◌, ◌-◌, ◌<◌}
use native.Mathlib.Omega.{arith}
use lib.Dec.{eqb}
use lib.ListN.{length, take, get_or, length-append}
use lib.Seq.{take-append_seam}
use borrow.Author.Tests.{eqb-true}
use Rattle.line_profile.specs.Under.{line_under}
use Rattle.line_profile.specs.declared.Profile.{Profile}
use Rattle.ledger_row.specs.Row.{row_of, is_loaded}
use Rattle.line_cut.specs.Lines.{lf, without_cr, at_end, lines_from, lines_of}
use Rattle.ledger_whole.specs.Ledger.{rows_from, loaded_in, refused_in, totals_of, ledger_of}
use Rattle.ledger_whole.specs.Whole.{row_list, joined, pieces_from, ends_in_lf, line_in, Once}

rows_joined : (profile : Profile) (number : ℕ) (ls : List (List ℕ)) → rows_from profile number ls ≡ joined (row_list profile number ls)
unfolding rows_from row_list joined
rows_joined profile number [] = refl
rows_joined profile number (l ∷ ls) = ap (λ (x : List ℕ). row_of number (line_under profile l) ++ x) (rows_joined profile (number + 1) ls)

rows_many : (profile : Profile) (number : ℕ) (ls : List (List ℕ)) → length (row_list profile number ls) ≡ length ls
unfolding row_list
rows_many profile number [] = refl
rows_many profile number (l ∷ ls) = ap suc (rows_many profile (number + 1) ls)

rows_each : (profile : Profile) (number : ℕ) (ls : List (List ℕ)) (k : ℕ) → k < length ls
    → get_or (row_list profile number ls) k [] ≡ row_of (number + k) (line_under profile (get_or ls k []))
unfolding row_list
rows_each profile number [] k h = absurd (no k h)
  where
    no : (k : ℕ) → k < 0 → ⊥
    no k q = omega arith
rows_each profile number (l ∷ ls) zero h = ap (λ (n : ℕ). row_of n (line_under profile l)) (let e : number ≡ number + 0 = omega arith in e)
rows_each profile number (l ∷ ls) (suc k) h =
    rows_each profile (number + 1) ls k (omega arith) ∙ ap (λ (n : ℕ). row_of n (line_under profile (get_or ls k [])))
    (let e : number + 1 + k ≡ number + suc k = omega arith in e)

pub either : (profile : Profile) (ls : List (List ℕ)) → loaded_in profile ls + refused_in profile ls ≡ length ls
unfolding loaded_in refused_in
either profile [] = refl
either profile (l ∷ ls) = go (is_loaded (line_under profile l)) (either profile ls)
  where
    go : (t : Bool) → loaded_in profile ls + refused_in profile ls ≡ length ls
        → (cond t 1 0 + loaded_in profile ls) + (cond t 0 1 + refused_in profile ls) ≡ suc (length ls)
    go true e = omega arith
    go false e = omega arith

-- ---- the pieces are the input
end_joined : (l : List ℕ) → joined (at_end l) ≡ l ++ []
unfolding joined
end_joined [] = refl
end_joined (b ∷ l) = refl

pieces_joined : (l s : List ℕ) → joined (pieces_from l s) ≡ l ++ s
unfolding pieces_from joined
pieces_joined l [] = end_joined l
pieces_joined l (b ∷ s) = go (eqb b lf) refl (pieces_joined [] s) (pieces_joined (l ++ (b ∷ [])) s)
  where
    go : (t : Bool) → eqb b lf ≡ t → joined (pieces_from [] s) ≡ s → joined (pieces_from (l ++ (b ∷ [])) s) ≡ (l ++ (b ∷ [])) ++ s
        → joined (cond t ((l ++ (lf ∷ [])) ∷ pieces_from [] s) (pieces_from (l ++ (b ∷ [])) s)) ≡ l ++ (b ∷ s)
    go true e next longer =
        ap (λ (x : List ℕ). (l ++ (lf ∷ [])) ++ x) next ∙ append_assoc l (lf ∷ []) s
        ∙ ap (λ (k : ℕ). l ++ (k ∷ s)) (sym (eqb-true b lf e))
    go false e next longer = longer ∙ append_assoc l (b ∷ []) s

-- ---- and the lines are theirs
pub lf_last : (l : List ℕ) (b : ℕ) → ends_in_lf (l ++ (b ∷ [])) ≡ eqb b lf
unfolding ends_in_lf
lf_last [] b = refl
lf_last (x ∷ []) b = refl
lf_last (x ∷ (y ∷ l)) b = lf_last (y ∷ l) b

line_ended : (l : List ℕ) → line_in (l ++ (lf ∷ [])) ≡ without_cr l
line_ended l =
    let e : length (l ++ (lf ∷ [])) - 1 ≡ length l = omega (arith, length-append l (lf ∷ [])) in
    ap (λ (t : Bool). cond t (without_cr (take (length (l ++ (lf ∷ [])) - 1) (l ++ (lf ∷ [])))) (l ++ (lf ∷ []))) (lf_last l lf)
    ∙ ap (λ (n : ℕ). without_cr (take n (l ++ (lf ∷ [])))) e ∙ ap without_cr (take-append_seam l (lf ∷ []))

end_lines : (l : List ℕ) → ends_in_lf l ≡ false → at_end l ≡ map line_in (at_end l)
end_lines [] e = refl
end_lines (b ∷ l) e = ap (λ (x : List ℕ). x ∷ []) (sym (ap (λ (t : Bool). cond t (without_cr (take (length (b ∷ l) - 1) (b ∷ l))) (b ∷ l)) e))

pieces_lines : (l s : List ℕ) → ends_in_lf l ≡ false → lines_from l s ≡ map line_in (pieces_from l s)
unfolding lines_from pieces_from ends_in_lf
pieces_lines l [] n = end_lines l n
pieces_lines l (b ∷ s) n = go (eqb b lf) refl (pieces_lines [] s refl) (pieces_lines (l ++ (b ∷ [])) s)
  where
    go : (t : Bool) → eqb b lf ≡ t → lines_from [] s ≡ map line_in (pieces_from [] s)
        → (ends_in_lf (l ++ (b ∷ [])) ≡ false → lines_from (l ++ (b ∷ [])) s ≡ map line_in (pieces_from (l ++ (b ∷ [])) s))
        → cond t (without_cr l ∷ lines_from [] s) (lines_from (l ++ (b ∷ [])) s)
        ≡ map line_in (cond t ((l ++ (lf ∷ [])) ∷ pieces_from [] s) (pieces_from (l ++ (b ∷ [])) s))
    go true e next longer = ap₂ ◌∷◌ (sym (line_ended l)) next
    go false e next longer = longer (lf_last l b ∙ e)

pub once : (profile : Profile) (text : List ℕ) → Once profile text
unfolding ledger_of ends_in_lf
once profile text = record {
  pieces = pieces_joined [] text;
  lines = pieces_lines [] text refl;
  rows = ap (λ (x : List ℕ). x ++ totals_of profile (lines_of text)) (rows_joined profile 1 (lines_of text));
  many = rows_many profile 1 (lines_of text);
  each = rows_each profile 1 (lines_of text);
  counts = either profile (lines_of text);
}
