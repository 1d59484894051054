-- THE LINES, however the input is cut: the machine over a whole input does with each of its lines, in order, what its consumer does with a line.
-- Assumes nothing.
use mathlib.Core.Path.{◌≡◌, refl, ap, ◌∙◌}
use mathlib.Core.Bool.{Bool, true, false, cond}
use mathlib.Core.List.{List, [], ◌∷◌, ◌++◌}
use Prim.Native.Nat.{ℕ, ◌<◌, min}
use native.Mathlib.Omega.{arith}
use lib.Dec.{eqb}
use lib.ListN.{length}
use borrow.Author.Tests.{lt-ltb, le-ltb}
use Rattle.line_cut.specs.Lines.{lf, without_cr, at_end, lines_from, lines_of, fold_lines}
use Rattle.line_cut.specs.Cut.{Open, run_by, end_by, line_emptied, pushed, bare_of}
use Rattle.line_cut.specs.Promises.{fresh_line}
use Rattle.line_cut.proofs.Views.{Holds, View, view_none, view_push, view_line, view_end}

some_held : (n : ℕ) (x : ℕ) (l : List ℕ) → n ≡ min 258 (length (x ∷ l)) → 0 < n
some_held n x l e = omega arith

-- what a consumer does by the buffer is what it would do with the line
abbrev pub Follows : {S : Type 0} → (S → List ℕ → ℕ → S) → (S → List ℕ → S) → Type 0
Follows {S} close more = (s : S) (line : List ℕ) (size : ℕ) (l : List ℕ) → Holds line size l → close s line size ≡ more s l

module _ {S : Type 0} (close : S → List ℕ → ℕ → S) (more : S → List ℕ → S) (follows : Follows close more) where
  at_end_holds : (o : Open) (l : List ℕ) (s : S) → View o l → end_by close (record { left = o; kept = s }) ≡ fold_lines more s (at_end l)
  unfolding fold_lines
  at_end_holds o [] s v = rw (le-ltb 0 o.held (omega (arith, v.count)))
  at_end_holds o (x ∷ l) s v = rw (lt-ltb 0 o.held (some_held o.held x l v.count)) (follows s o.line o.held (x ∷ l) (view_end o (x ∷ l) v))

  folds : (o : Open) (l : List ℕ) (s : S) (t : List ℕ) → View o l → end_by close (run_by close o s t) ≡ fold_lines more s (lines_from l t)
  unfolding run_by lines_from fold_lines
  folds o l s [] v = at_end_holds o l s v
  folds o l s (b ∷ t) v =
      go (eqb b lf) (folds (pushed o b) (l ++ (b ∷ [])) s t (view_push o l b v))
      (folds (line_emptied o) [] (close s o.line (bare_of o.held o.cr)) t (view_none (line_emptied o) refl refl v.size))
    where
      go : (x : Bool)
          → end_by close (run_by close (pushed o b) s t) ≡ fold_lines more s (lines_from (l ++ (b ∷ [])) t)
          → end_by close (run_by close (line_emptied o) (close s o.line (bare_of o.held o.cr)) t)
          ≡ fold_lines more (close s o.line (bare_of o.held o.cr)) (lines_from [] t)
          → end_by close (cond x (run_by close (line_emptied o) (close s o.line (bare_of o.held o.cr)) t) (run_by close (pushed o b) s t))
          ≡ fold_lines more s (cond x (without_cr l ∷ lines_from [] t) (lines_from (l ++ (b ∷ [])) t))
      go false p q = p
      go true p q = q ∙ ap (λ (a : S). fold_lines more a (lines_from [] t)) (follows s o.line (bare_of o.held o.cr) (without_cr l) (view_line o l v))

  -- from nothing, whatever the buffer held
  pub folded : (line : List ℕ) (s : S) (t : List ℕ) → length line ≡ 256 → end_by close (run_by close (fresh_line line) s t) ≡ fold_lines more s (lines_of t)
  folded line s t h = folds (fresh_line line) [] s t (view_none (fresh_line line) refl refl h)
