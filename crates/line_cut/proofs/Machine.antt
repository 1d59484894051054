-- The machine goes on from line's end to line's end, and piece after piece, whatever is done with a line. Assumes nothing.
use mathlib.Core.Path.{◌≡◌, refl, sym, ap, ◌∙◌}
use mathlib.Core.Bool.{Bool, true, false, cond}
use mathlib.Core.List.{List, [], ◌∷◌, ◌++◌}
use Prim.Native.Nat.{ℕ, ◌≤◌, ◌<◌}
use native.Mathlib.Numerals.{add-one}
use native.Mathlib.Omega.{arith}
use lib.Dec.{eqb, ltb}
use lib.ListN.{length, drop, set, length-set}
use Rattle.line_cut.specs.Lines.{lf}
use Rattle.line_cut.specs.Cut.{Open, Found, found_later, pushed, line_emptied, bare_of, find_of, CutSoFar, run_by}

-- ---- one piece after another
pub run_append : {S : Type 0} (close : S → List ℕ → ℕ → S) (o : Open) (s : S) (a b : List ℕ)
    → run_by close o s (a ++ b) ≡ run_by close (run_by close o s a).left (run_by close o s a).kept b
unfolding run_by
run_append close o s [] b = refl
run_append {S} close o s (x ∷ a) b =
    go (eqb x lf) (run_append close (line_emptied o) (close s o.line (bare_of o.held o.cr)) a b) (run_append close (pushed o x) s a b)
  where
    e : CutSoFar S
    e = run_by close (line_emptied o) (close s o.line (bare_of o.held o.cr)) a

    f : CutSoFar S
    f = run_by close (pushed o x) s a

    go : (t : Bool)
        → run_by close (line_emptied o) (close s o.line (bare_of o.held o.cr)) (a ++ b) ≡ run_by close e.left e.kept b
        → run_by close (pushed o x) s (a ++ b) ≡ run_by close f.left f.kept b
        → cond t (run_by close (line_emptied o) (close s o.line (bare_of o.held o.cr)) (a ++ b)) (run_by close (pushed o x) s (a ++ b))
        ≡ run_by close (cond t e f).left (cond t e f).kept b
    go true p q = p
    go false p q = q

-- ---- from here to the next line's end: the line that ended is closed, by the buffer as it then is, and the machine goes on behind it
abbrev pub closed_by : {S : Type 0} → (S → List ℕ → ℕ → S) → S → Found → S
closed_by close s f = cond f.ended (close s f.left.line f.size) s

pub run_find : {S : Type 0} (close : S → List ℕ → ℕ → S) (o : Open) (s : S) (t : List ℕ)
    → run_by close o s t ≡ run_by close (find_of o t).left (closed_by close s (find_of o t)) (drop (find_of o t).passed t)
unfolding run_by find_of
run_find close o s [] = refl
run_find close o s (b ∷ t) = go (eqb b lf) (run_find close (pushed o b) s t)
  where
    f : Found
    f = find_of (pushed o b) t

    g : Found
    g = record { passed = 1; left = line_emptied o; ended = true; size = bare_of o.held o.cr }

    go : (x : Bool)
        → run_by close (pushed o b) s t ≡ run_by close f.left (closed_by close s f) (drop f.passed t)
        → cond x (run_by close (line_emptied o) (close s o.line (bare_of o.held o.cr)) t) (run_by close (pushed o b) s t)
        ≡ run_by close (cond x g (found_later f)).left (closed_by close s (cond x g (found_later f))) (drop (cond x g (found_later f)).passed (b ∷ t))
    go true p = refl
    go false p = p ∙ ap (λ (k : ℕ). run_by close f.left (closed_by close s f) (drop k (b ∷ t))) (sym (add-one f.passed))

-- it passes a byte, where there is one
pub find_some : (o : Open) (t : List ℕ) → 0 < length t → 1 ≤ (find_of o t).passed
unfolding find_of
find_some o [] h = h
find_some o (b ∷ t) h = go (eqb b lf)
  where
    f : Found
    f = find_of (pushed o b) t

    g : Found
    g = record { passed = 1; left = line_emptied o; ended = true; size = bare_of o.held o.cr }

    go : (x : Bool) → 1 ≤ (cond x g (found_later f)).passed
    go true = omega arith
    go false = omega arith

-- and no more bytes than there are
pub find_most : (o : Open) (t : List ℕ) → (find_of o t).passed ≤ length t
unfolding find_of
find_most o [] = omega arith
find_most o (b ∷ t) = go (eqb b lf) (find_most (pushed o b) t)
  where
    f : Found
    f = find_of (pushed o b) t

    g : Found
    g = record { passed = 1; left = line_emptied o; ended = true; size = bare_of o.held o.cr }

    go : (x : Bool) → f.passed ≤ length t → (cond x g (found_later f)).passed ≤ length (b ∷ t)
    go true h = omega arith
    go false h = omega arith

-- the line buffer keeps its length
pub kept_size : (t : Bool) (line : List ℕ) (held byte : ℕ) → length (cond t (set line held byte) line) ≡ length line
kept_size true line held byte = length-set line held byte
kept_size false line held byte = refl

pub find_size : (o : Open) (t : List ℕ) → length (find_of o t).left.line ≡ length o.line
unfolding find_of
find_size o [] = refl
find_size o (b ∷ t) = go (eqb b lf) (find_size (pushed o b) t ∙ kept_size (ltb o.held 256) o.line o.held b)
  where
    f : Found
    f = find_of (pushed o b) t

    g : Found
    g = record { passed = 1; left = line_emptied o; ended = true; size = bare_of o.held o.cr }

    go : (x : Bool) → length f.left.line ≡ length o.line → length (cond x g (found_later f)).left.line ≡ length o.line
    go true h = refl
    go false h = h

pub run_size : {S : Type 0} (close : S → List ℕ → ℕ → S) (o : Open) (s : S) (t : List ℕ) → length (run_by close o s t).left.line ≡ length o.line
unfolding run_by
run_size close o s [] = refl
run_size {S} close o s (b ∷ t) =
    go (eqb b lf) (run_size close (line_emptied o) (close s o.line (bare_of o.held o.cr)) t)
    (run_size close (pushed o b) s t ∙ kept_size (ltb o.held 256) o.line o.held b)
  where
    e : CutSoFar S
    e = run_by close (line_emptied o) (close s o.line (bare_of o.held o.cr)) t

    f : CutSoFar S
    f = run_by close (pushed o b) s t

    go : (x : Bool) → length e.left.line ≡ length o.line → length f.left.line ≡ length o.line → length (cond x e f).left.line ≡ length o.line
    go true p q = p
    go false p q = q

-- two machines of which one follows the other: what is kept in the one is told by what is kept in the other, line after line
abbrev pub told : {S R : Type 0} → (S → R) → CutSoFar S → CutSoFar R
told h r = record { left = r.left; kept = h r.kept }

pub run_told_holds : {S R : Type 0} (h : S → R) (c : S → List ℕ → ℕ → S) (d : R → List ℕ → ℕ → R)
    → ((s : S) (line : List ℕ) (size : ℕ) → d (h s) line size ≡ h (c s line size))
    → (o : Open) (s : S) (t : List ℕ) → run_by d o (h s) t ≡ told h (run_by c o s t)
unfolding run_by
run_told_holds h c d e o s [] = refl
run_told_holds {S} {R} h c d e o s (b ∷ t) =
    go (eqb b lf)
    (ap (λ (x : R). run_by d (line_emptied o) x t) (e s o.line (bare_of o.held o.cr))
    ∙ run_told_holds h c d e (line_emptied o) (c s o.line (bare_of o.held o.cr)) t)
    (run_told_holds h c d e (pushed o b) s t)
  where
    p : CutSoFar S
    p = run_by c (line_emptied o) (c s o.line (bare_of o.held o.cr)) t

    q : CutSoFar S
    q = run_by c (pushed o b) s t

    go : (x : Bool)
        → run_by d (line_emptied o) (d (h s) o.line (bare_of o.held o.cr)) t ≡ told h p
        → run_by d (pushed o b) (h s) t ≡ told h q
        → cond x (run_by d (line_emptied o) (d (h s) o.line (bare_of o.held o.cr)) t) (run_by d (pushed o b) (h s) t) ≡ told h (cond x p q)
    go true x y = x
    go false x y = y

-- two things done with a line that are the same
pub run_same : {S : Type 0} (c d : S → List ℕ → ℕ → S) → ((s : S) (line : List ℕ) (size : ℕ) → c s line size ≡ d s line size)
    → (o : Open) (s : S) (t : List ℕ) → run_by c o s t ≡ run_by d o s t
run_same {S} c d e o s t = run_told_holds (λ (x : S). x) d c e o s t
