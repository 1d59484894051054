-- A loop over the lines of a piece, whatever it does with a line: the invariant of whoever calls `next` until the piece is read. Assumes nothing.
use mathlib.Core.Path.{◌≡◌, refl, sym, ap, ap₂, ◌∙◌}
use mathlib.Core.Bool.{Bool, true, false, cond}
use mathlib.Core.List.{List}
use Prim.Native.Nat.{ℕ, ◌+◌, ◌≤◌, ◌<◌}
use native.Mathlib.Nat.{add-zero}
use native.Mathlib.Omega.{arith}
use lib.ListN.{length, drop, length-drop, drop_of_length-le}
use lib.Seq.{drop-drop}
use Rattle.line_cut.specs.Lines.{ends}
use Rattle.line_cut.specs.Cut.{Open, Found, find_of, CutSoFar, run_by}
use Rattle.line_cut.specs.Promises.{opened, cut_of, CutsNext}
use Rattle.line_cut.specs.declared.Begun.{Begun}
use Rattle.line_cut.specs.declared.Cut.{Cut}
use Rattle.line_cut.proofs.Machine.{closed_by, run_find, find_some, find_most, find_size}
use Rattle.line_cut.proofs.Counted.{find_ends}

-- the machine's run from here on the rest is its run on the whole piece
pub record Turn {S : Type 0} (close : S → List ℕ → ℕ → S) (whole : CutSoFar S) (size : ℕ) (chunk line : List ℕ) (begun : Begun) (s : S) (at : ℕ) : Type 0 where
  pub most : at ≤ length chunk
  pub long : length line ≡ size
  pub runs : whole ≡ run_by close (opened begun line) s (drop at chunk)

pub turn_none : {S : Type 0} (close : S → List ℕ → ℕ → S) (chunk line : List ℕ) (begun : Begun) (s : S)
    → Turn close (run_by close (opened begun line) s chunk) (length line) chunk line begun s 0
turn_none close chunk line begun s = record { most = omega arith; long = refl; runs = refl }

module _ {S : Type 0} (close : S → List ℕ → ℕ → S) (whole : CutSoFar S) (n : ℕ) (chunk line : List ℕ) (begun : Begun) (s : S) (at : ℕ)
    (t : Turn close whole n chunk line begun s at) where
  found : Found
  found = find_of (opened begun line) (drop at chunk)

  pub turn_next : at < length chunk → (r : Cut) (line' : List ℕ) → CutsNext begun line chunk at r line' → (s' : S)
      → s' ≡ cond r.ended (close s line' r.size) s
      → Turn close whole n chunk line' r.begun s' r.at
  unfolding found
  turn_next h r line' p s' q =
      let e : r ≡ cut_of at found = p.answer in
      let a : r.at ≡ at + found.passed = ap (λ (x : Cut). x.at) e in
      let o : opened r.begun line' ≡ found.left = ap₂ opened (ap (λ (x : Cut). x.begun) e) p.kept in
      let c : s' ≡ closed_by close s found =
      q ∙ ap (λ (x : Cut). cond x.ended (close s line' x.size) s) e ∙ ap (λ (l : List ℕ). cond found.ended (close s l found.size) s) p.kept in
      record {
        most = omega (arith, find_most (opened begun line) (drop at chunk), length-drop at chunk);
        long = ap length p.kept ∙ find_size (opened begun line) (drop at chunk) ∙ t.long;
        runs =
            t.runs ∙ run_find close (opened begun line) s (drop at chunk)
            ∙ ap (run_by close found.left (closed_by close s found)) (drop-drop found.passed at chunk)
            ∙ sym (ap₂ (λ (x : Open) (y : S). run_by close x y (drop r.at chunk)) o c
            ∙ ap (λ (k : ℕ). run_by close found.left (closed_by close s found) (drop k chunk)) a);
      }

  -- it goes on by a byte at least
  pub turn_less : at < length chunk → (r : Cut) (line' : List ℕ) → CutsNext begun line chunk at r line' → at < r.at
  unfolding found
  turn_less h r line' p =
      let a : r.at ≡ at + found.passed = ap (λ (x : Cut). x.at) p.answer in
      let k : 0 < length (drop at chunk) = omega (arith, length-drop at chunk) in
      omega (arith, find_some (opened begun line) (drop at chunk) k)

  -- the piece is read
  pub turn_end : length chunk ≤ at → whole ≡ record { left = opened begun line; kept = s }
  unfolding run_by
  turn_end h = t.runs ∙ rw (drop_of_length-le chunk h)

-- ---- how many lines end from here on
module _ (begun : Begun) (line chunk : List ℕ) (at : ℕ) (r : Cut) (line' : List ℕ) (p : CutsNext begun line chunk at r line') where
  next_ends : ends (drop at chunk) ≡ ends (drop r.at chunk) + cond r.ended 1 0
  next_ends =
      let f : Found = find_of (opened begun line) (drop at chunk) in
      let e : r ≡ cut_of at f = p.answer in
      find_ends (opened begun line) (drop at chunk)
      ∙ ap (λ (s : List ℕ). ends s + cond f.ended 1 0) (drop-drop f.passed at chunk)
      ∙ sym (ap (λ (x : Cut). ends (drop x.at chunk) + cond x.ended 1 0) e)

  pub next_line : r.ended ≡ true → ends (drop at chunk) ≡ ends (drop r.at chunk) + 1
  next_line e = next_ends ∙ ap (λ (t : Bool). ends (drop r.at chunk) + cond t 1 0) e

  pub next_none : r.ended ≡ false → ends (drop at chunk) ≡ ends (drop r.at chunk)
  next_none e = next_ends ∙ ap (λ (t : Bool). ends (drop r.at chunk) + cond t 1 0) e ∙ add-zero (ends (drop r.at chunk))
