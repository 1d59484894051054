-- What each return of `read_line` leaves in lent memory. Assumes nothing.
use mathlib.Core.Path.{◌≡◌, sym, ap, subst, ◌∙◌}
use mathlib.Core.Bool.{◌&&◌}
use mathlib.Core.List.{List}
use Prim.Native.Nat.{ℕ}
use lib.Dec.{eqb}
use lib.ListN.{length}
use borrow.Author.Tests.{eq-eqb, ne_eqb}
use Rattle.refusal.specs.Answer.{Answer, or_refuse, answered}
use Rattle.refusal.specs.declared.Refusal.{Refusal}
use Rattle.refusal.specs.declared.Refusal.TheVariants as R
use Rattle.position_boards.specs.Boards.{bitboards_of}
use Rattle.position.specs.declared.State.{State}
use Rattle.line_ranks.specs.Promises.{empty_board}
use Rattle.line_parse.specs.Line.{Line, line_of}
use Rattle.line_parse.specs.Promises.{by_value}
use Rattle.line.specs.Promises.{Reads, ReadsLine, Loads}
use Rattle.line.specs.declared.inner.Loaded.{Loaded}
use Rattle.line.proofs.Memory.{kept, kept_boards}
use Rattle.line_profile.specs.Under.{line_under}
use Rattle.line_profile.specs.Promises.{ReadsLineUnder, JudgesRead, judged_read}
use Rattle.line_profile.specs.declared.Profile.{Profile}
use Rattle.line_profile.proofs.Judged.{judged_value, same_under}
use Rattle.std.specs.Prelude.{Result, Ok, Err}

module _ (profile : Profile) (line bitboards board : List ℕ) where
  pub not_14 : (length bitboards ≡ 14 → ⊥) → ReadsLineUnder profile line bitboards board (Err R.Shape) bitboards board
  not_14 n = let t = ne_eqb (length bitboards) 14 n in record { answer = rw t; boards = rw t; bytes = rw t }

  module _ (m : length bitboards ≡ 14) where
    pub not_64 : (length board ≡ 64 → ⊥) → ReadsLineUnder profile line bitboards board (Err R.Shape) bitboards board
    not_64 n =
        let s = eq-eqb (length bitboards) 14 m in
        let t = ne_eqb (length board) 64 n in
        record { answer = rw (s, t); boards = rw (s, t); bytes = rw (s, t) }

    module _ (n : length board ≡ 64) (l : Loaded) (loads : Loads line l) (r : Result (State × ℕ) Refusal) (judges : JudgesRead profile l.bitboards l.answer r) where
      shaped : (a : Answer Line) → a ≡ or_refuse (eqb (length bitboards) 14 && eqb (length board) 64) R.Shape a
      shaped a = rw (eq-eqb (length bitboards) 14 m, eq-eqb (length board) 64 n)

      value : answered r ≡ by_value (line_under profile line)
      value = judges ∙ ap (judged_read profile l.bitboards) loads.answer
          ∙ judged_value profile (line_of line) l.bitboards (bitboards_of empty_board) loads.boards

      pub turned_away : (q : Refusal) → r ≡ Err q → ReadsLineUnder profile line bitboards board r bitboards board
      turned_away q told =
          subst (λ (a : Answer Line). Reads a bitboards board r bitboards board) (shaped (line_under profile line))
          (record {
            answer = value;
            boards = kept_boards (line_under profile line) r value q told bitboards;
            bytes =
                kept (line_under profile line) r value q told board;
          })

      pub written : (state : State) (half : ℕ) → r ≡ Ok (state, half) → (s : Result (State × ℕ) Refusal) (bitboards' board' : List ℕ)
          → ReadsLine line bitboards board s bitboards' board'
          → ReadsLineUnder profile line bitboards board s bitboards' board'
      written state half told s bitboards' board' reads =
          subst (λ (a : Answer Line). Reads (or_refuse (eqb (length bitboards) 14 && eqb (length board) 64) R.Shape a) bitboards board s bitboards' board')
          (sym (same_under profile (line_of line) (state, half) (sym value ∙ ap answered told))) reads
