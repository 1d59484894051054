-- The machine over a whole input, by whatever is made of a loaded line: its lines in order (line_cut/proofs/Folded), and one chunk after another.
-- Assumes nothing.
use mathlib.Core.Path.{◌≡◌, refl, sym, ap, ap₂, ◌∙◌}
use mathlib.Core.Bool.{Bool, true, false, cond, not}
use mathlib.Core.List.{List, [], ◌∷◌, ◌++◌, append_assoc, append-nil}
use Prim.Native.Nat.{ℕ, ◌+◌}
use native.Mathlib.Nat.{add-zero, zero-add}
use native.Mathlib.Omega.{arith}
use lib.Dec.{ltb, eqb}
use lib.ListN.{length}
use Rattle.refusal.specs.Answer.{Answer}
use Rattle.line_parse.specs.Line.{Line, line_of}
use Rattle.line_cut.specs.Lines.{lf, ends, lines_of, fold_lines}
use Rattle.line_cut.specs.Cut.{Open, line_emptied, pushed, CutSoFar, run_by, end_by}
use Rattle.line_cut.proofs.Machine.{run_append, run_told_holds}
use Rattle.line_cut.proofs.Folded.{folded}
use Rattle.line_held.specs.Held.{said_of}
use Rattle.line_held.proofs.Said.{follows}
use Rattle.line_profile.specs.declared.Profile.TheVariants as P
use Rattle.ledger_totals.specs.Totals.{last_row}
use Rattle.ledger_row.specs.Row.{is_loaded}
use Rattle.ledger_feed.specs.Machine.{tally}
use Rattle.ledger_feed.specs.declared.SoFar.{SoFar}
use Rattle.ledger_feed.proofs.Counted.{tally_both, loaded_more, refused_more_holds}
use Rattle.ledger_finish.specs.Promises.{unfinished}
use Rattle.ledger_whole.specs.Ledger.{loaded_in, refused_in}
use Rattle.ledger_whole.specs.Calls.{fresh}
use Rattle.ledger_whole.proofs.Once.{either}
use Rattle.sift_close.specs.Ended.{made_by_rule, refused_row_of}
use Rattle.sift_feed.specs.Sifting.{Sifting, sift_more, close_sift, sifting_at, open_at, sift_run, so_far_in}
use Rattle.sift_finish.specs.Last.{all_rows}
use Rattle.sift_whole.specs.Sifted.{made_in, refused_rows_from, made_of_all, rows_of_all}

abbrev pub counted : Sifting → ℕ
counted s = s.loaded + s.refused

-- ---- how many lines end
plain_run : (o : Open) (n : ℕ) (s : List ℕ) → (run_by (λ (k : ℕ) (line : List ℕ) (size : ℕ). k + 1) o n s).kept ≡ n + ends s
unfolding run_by ends
plain_run o n [] = sym (add-zero n)
plain_run o n (b ∷ s) = go (eqb b lf) (plain_run (line_emptied o) (n + 1) s) (plain_run (pushed o b) n s)
  where
    e : CutSoFar ℕ
    e = run_by (λ (k : ℕ) (line : List ℕ) (size : ℕ). k + 1) (line_emptied o) (n + 1) s

    f : CutSoFar ℕ
    f = run_by (λ (k : ℕ) (line : List ℕ) (size : ℕ). k + 1) (pushed o b) n s

    go : (x : Bool) → e.kept ≡ n + 1 + ends s → f.kept ≡ n + ends s → (cond x e f).kept ≡ n + cond x (ends s + 1) (ends s)
    go true p q = p ∙ (let z : n + 1 + ends s ≡ n + (ends s + 1) = omega arith in z)
    go false p q = q

module _ (make : Line → List ℕ) where
  abbrev close : Sifting → List ℕ → ℕ → Sifting
  close = close_sift make

  -- what the whole input comes to, from a state on
  abbrev pub ended : SoFar → List ℕ → List ℕ → Sifting
  ended state line input = end_by close (sift_run make state line input)

  pub run_counts : (state : SoFar) (line s : List ℕ) → counted (sift_run make state line s).kept ≡ state.loaded + state.refused + ends s
  run_counts state line s =
      sym (ap (λ (x : CutSoFar ℕ). x.kept)
      (run_told_holds counted close (λ (k : ℕ) (line : List ℕ) (size : ℕ). k + 1)
      (λ (x : Sifting) (line : List ℕ) (size : ℕ). sym (tally_both (is_loaded (said_of line size)) x.loaded x.refused))
      (open_at state line) (sifting_at state) s))
      ∙ plain_run (open_at state line) (state.loaded + state.refused) s

  pub end_counts : (r : CutSoFar Sifting) → counted (end_by close r) ≡ counted r.kept + unfinished r.left.held
  end_counts r = go (ltb 0 r.left.held)
    where
      go : (t : Bool) → counted (cond t (close r.kept r.left.line r.left.held) r.kept) ≡ counted r.kept + cond t 1 0
      go true = tally_both (is_loaded (said_of r.left.line r.left.held)) r.kept.loaded r.kept.refused
      go false = sym (add-zero (counted r.kept))

  -- ---- each call begins with empty buffers: what the calls write is joined
  abbrev shift : List ℕ → List ℕ → Sifting → Sifting
  shift m t s = record { loaded = s.loaded; refused = s.refused; made = m ++ s.made; rows = t ++ s.rows }

  close_shift : (m t : List ℕ) (s : Sifting) (line : List ℕ) (size : ℕ) → close (shift m t s) line size ≡ shift m t (close s line size)
  close_shift m t s line size =
      let a : Answer Line = said_of line size in
      ap₂ (λ (u v : List ℕ). record { loaded = tally s.loaded (is_loaded a); refused = tally s.refused (not (is_loaded a)); made = u; rows = v })
      (append_assoc m s.made (made_by_rule make a)) (append_assoc t s.rows (refused_row_of (s.loaded + s.refused + 1) a))

  end_shift : (m t : List ℕ) (r : CutSoFar Sifting) → end_by close (record { left = r.left; kept = shift m t r.kept }) ≡ shift m t (end_by close r)
  end_shift m t r = go (ltb 0 r.left.held)
    where
      go : (x : Bool) → cond x (close (shift m t r.kept) r.left.line r.left.held) (shift m t r.kept)
          ≡ shift m t (cond x (close r.kept r.left.line r.left.held) r.kept)
      go true = close_shift m t r.kept r.left.line r.left.held
      go false = refl

  split : (s : Sifting) → s ≡ shift s.made s.rows (record { loaded = s.loaded; refused = s.refused; made = []; rows = [] })
  split s = ap₂ (λ (u v : List ℕ). record { loaded = s.loaded; refused = s.refused; made = u; rows = v }) (sym (append-nil s.made))
      (sym (append-nil s.rows))

  module _ (state : SoFar) (line a b : List ℕ) where
    abbrev first : CutSoFar Sifting
    first = sift_run make state line a

    abbrev pub rest : Sifting
    rest = ended (so_far_in (sift_run make state line a)) (sift_run make state line a).left.line b

    pub cut : ended state line (a ++ b) ≡ shift first.kept.made first.kept.rows rest
    cut =
        ap (end_by close) (run_append close (open_at state line) (sifting_at state) a b)
        ∙ ap (λ (k : Sifting). end_by close (run_by close first.left k b)) (split first.kept)
        ∙ ap (end_by close) (run_told_holds (shift first.kept.made first.kept.rows) close close (close_shift first.kept.made first.kept.rows)
        first.left (sifting_at (so_far_in first)) b)
        ∙ end_shift first.kept.made first.kept.rows (run_by close first.left (sifting_at (so_far_in first)) b)

  -- ---- line after line
  abbrev more : Sifting → List ℕ → Sifting
  more s l = sift_more make s (line_of l)

  all_lines : (s : Sifting) (ls : List (List ℕ))
      → fold_lines more s ls ≡ record {
        loaded = s.loaded + loaded_in P.Any ls;
        refused = s.refused + refused_in P.Any ls;
        made =
            s.made ++ made_in make ls;
        rows = s.rows ++ refused_rows_from (counted s + 1) ls;
      }
  unfolding fold_lines loaded_in refused_in made_in refused_rows_from
  all_lines s [] =
      let p = add-zero s.loaded in
      let q = add-zero s.refused in
      let u = append-nil s.made in
      let v = append-nil s.rows in
      sym (λ i. record { loaded = p i; refused = q i; made = u i; rows = v i })
  all_lines s (l ∷ ls) =
      let a : Answer Line = line_of l in
      let t : Bool = is_loaded a in
      let row : List ℕ = refused_row_of (counted s + 1) a in
      let p : tally s.loaded t + loaded_in P.Any ls ≡ s.loaded + (cond t 1 0 + loaded_in P.Any ls) = loaded_more t s.loaded (loaded_in P.Any ls) in
      let q : tally s.refused (not t) + refused_in P.Any ls ≡ s.refused + (cond t 0 1 + refused_in P.Any ls) =
      refused_more_holds t s.refused (refused_in P.Any ls) in
      let u = append_assoc s.made (made_by_rule make a) (made_in make ls) in
      let v = ap (λ (n : ℕ). (s.rows ++ row) ++ refused_rows_from (n + 1) ls) (tally_both t s.loaded s.refused)
      ∙ append_assoc s.rows row (refused_rows_from (counted s + 1 + 1) ls) in
      all_lines (more s l) ls ∙ (λ i. record { loaded = p i; refused = q i; made = u i; rows = v i })

  -- THE MACHINE: from nothing, whatever the buffer held
  module _ (line input : List ℕ) (size : length line ≡ 256) where
    abbrev lines : List (List ℕ)
    lines = lines_of input

    all : ended fresh line input ≡ record {
      loaded = 0 + loaded_in P.Any lines;
      refused = 0 + refused_in P.Any lines;
      made =
          [] ++ made_in make lines;
      rows = [] ++ refused_rows_from (0 + 0 + 1) lines;
    }
    all = folded close more (follows (sift_more make)) line (sifting_at fresh) input size ∙ all_lines (sifting_at fresh) lines

    pub ended_made : (ended fresh line input).made ≡ made_of_all make input
    ended_made = ap (λ (s : Sifting). s.made) all

    pub ended_rows : all_rows (ended fresh line input) ≡ rows_of_all input
    ended_rows =
        ap all_rows all
        ∙ (let e = either P.Any lines in
        let p : (0 + loaded_in P.Any lines) + (0 + refused_in P.Any lines) ≡ length lines = omega arith in
        ap (λ (n : ℕ). refused_rows_from 1 lines ++ last_row n (0 + loaded_in P.Any lines) (0 + refused_in P.Any lines)) p
        ∙ ap₂ (λ (x y : ℕ). refused_rows_from 1 lines ++ last_row (length lines) x y) (zero-add (loaded_in P.Any lines)) (zero-add (refused_in P.Any lines)))

    pub ended_counts : counted (ended fresh line input) ≡ length lines
    ended_counts = ap counted all ∙ (let e = either P.Any lines in let p : (0 + loaded_in P.Any lines) + (0 + refused_in P.Any lines) ≡ length lines =
        omega arith in p)
