-- What the buffer tells of a line is what the line says: LONG comes first. Assumes nothing.
use mathlib.Core.Path.{◌≡◌, refl, sym, ap, subst, ◌∙◌}
use mathlib.Core.Bool.{Bool, true, false, cond}
use mathlib.Core.List.{List}
use Prim.Native.Nat.{ℕ, ◌≤◌, ◌<◌}
use lib.Dec.{ltb}
use lib.ListN.{length, take, replicate}
use borrow.Author.Tests.{lt-ltb, le-ltb, lt-leb, ltb-true, ltb-false}
use Rattle.laws.specs.Tables.{tabulate}
use Rattle.refusal.specs.Answer.{Answer, refusal_of}
use Rattle.refusal.specs.declared.Refusal.TheVariants as R
use Rattle.bits.specs.Bitboard.{those}
use Rattle.position_boards.specs.Boards.{bitboards_of}
use Rattle.line_ranks.specs.Promises.{empty_board}
use Rattle.line_parse.specs.Line.{Line, line_of}
use Rattle.line_cut.proofs.Views.{Holds}
use Rattle.line_cut.proofs.Folded.{Follows}
use Rattle.line.specs.Promises.{Reads, Loads}
use Rattle.line.specs.declared.inner.Loaded.{Loaded}
use Rattle.line_held.specs.Held.{said_of, ReadsHeld, ReadsLong}

-- no bitboard has a square of a bare board
pub bare_boards : replicate 14 0 ≡ bitboards_of empty_board
unfolding bitboards_of tabulate those
bare_boards = refl

module _ (line : List ℕ) (size : ℕ) where
  said_long : length line < size → refusal_of R.Long ≡ said_of line size
  said_long h = sym (ap (λ (t : Bool). cond t (refusal_of R.Long) (line_of (take size line))) (lt-ltb (length line) size h))

  said_held : size ≤ length line → line_of (take size line) ≡ said_of line size
  said_held h = sym (ap (λ (t : Bool). cond t (refusal_of R.Long) (line_of (take size line))) (le-ltb (length line) size h))

  abbrev Of : Loaded → Answer Line → Type 0
  Of r a = Reads a (bitboards_of empty_board) empty_board r.answer r.bitboards r.board

  pub read_long : length line < size → (r : Loaded) → ReadsLong r → ReadsHeld line size r
  read_long h r p = subst (Of r) (said_long h) p

  pub read_held : size ≤ length line → (r : Loaded) → Loads (take size line) r → ReadsHeld line size r
  read_held h r p = subst (Of r) (said_held h) p

-- ---- LONG comes first
pub long_line : (l : List ℕ) → 256 < length l → refusal_of R.Long ≡ line_of l
unfolding line_of
long_line l h = rw (lt-leb (length l) 256 h)

-- where a buffer and a number of bytes tell a line, they say what the line says
pub said_holds : (line : List ℕ) (size : ℕ) (l : List ℕ) → Holds line size l → said_of line size ≡ line_of l
said_holds line size l h =
    ap (λ (n : ℕ). cond (ltb n size) (refusal_of R.Long) (line_of (take size line))) h.whole ∙ go (ltb 256 size) refl
  where
    go : (u : Bool) → ltb 256 size ≡ u → cond u (refusal_of R.Long) (line_of (take size line)) ≡ line_of l
    go true q = long_line l (h.long (ltb-true 256 size q))
    go false q = ap line_of (h.front (ltb-false 256 size q))

-- a consumer that goes by what the buffer says goes by what the line says
pub follows : {S : Type 0} (more : S → Answer Line → S) → Follows (λ (s : S) (line : List ℕ) (size : ℕ). more s (said_of line size))
    (λ (s : S) (l : List ℕ). more s (line_of l))
follows more s line size l h = ap (more s) (said_holds line size l h)
