-- Each way through a piece, and through a run, gives what its definition says: "First in order wins." Assumes nothing.
use mathlib.Core.Path.{◌≡◌, refl, sym, ap, ap₂, subst, ◌∙◌}
use mathlib.Core.Bool.{Bool, true, false}
use mathlib.Core.List.{List}
use Prim.Native.Nat.{ℕ, ◌/◌, ◌%◌, ◌≤◌, ◌<◌}
use lib.Dec.{ltb, eqb}
use lib.ListN.{length}
use borrow.Author.Tests.{eq-eqb, ne_eqb, lt-ltb, le-ltb}
use Rattle.refusal.specs.Answer.{Answer, given, refusal_of, or_refuse}
use Rattle.refusal.specs.declared.Refusal.TheVariants as R
use Rattle.position_boards.specs.Boards.{coded, bitboards_of}
use Rattle.position_boards.specs.Promises.{Makes}
use Rattle.position_boards.specs.declared.Boards.{Boards}
use Rattle.position_odds.specs.Named.{lowest_wrong}
use Rattle.position.specs.Checked.{of_side}
use Rattle.position.specs.declared.State.{State}
use Rattle.line_parse.specs.Line.{Line}
use Rattle.line.specs.declared.inner.Loaded.{Loaded}
use Rattle.store_record.specs.Record.{board_in, side_in, half_in, is_code, position_in, record_says, piece_says, record_at, stored_says}
use Rattle.store_record.specs.Promises.{ReadsOver, SaysPiece, SaysStored}
use Rattle.std.specs.Prelude.{Ok}

-- a reader's answer, by an equal one
by_same : (a b : Answer Line) (r : Loaded) → a ≡ b → ReadsOver a r → ReadsOver b r
by_same a b r e p = subst (λ (x : Answer Line). ReadsOver x r) e p

module _ (piece : List ℕ) where
  -- the tests of a piece, whatever they come to
  tests : Bool → Bool → Bool → Bool → Answer Line
  tests length code side half =
      or_refuse length R.Length
      (or_refuse code (R.Code (lowest_wrong (is_code (board_in piece)))) (or_refuse side R.Side (or_refuse half R.Result (given (position_in piece)))))

  all_tests : (a b c d : Bool) → eqb (length piece) 34 ≡ a → coded (board_in piece) ≡ b → ltb (side_in piece) 2 ≡ c → ltb (half_in piece) 3 ≡ d
      → tests a b c d ≡ piece_says piece
  unfolding tests piece_says record_says coded
  all_tests a b c d p q r s = sym (ap₂ (λ (x y : Bool). tests x y (ltb (side_in piece) 2) (ltb (half_in piece) 3)) p q ∙ ap₂ (tests a b) r s)

  pub bad_length : (r : Loaded) → ReadsOver (refusal_of R.Length) r → (length piece ≡ 34 → ⊥) → SaysPiece piece r
  unfolding tests
  bad_length r h n = by_same (refusal_of R.Length) (piece_says piece) r (all_tests false _ _ _ (ne_eqb (length piece) 34 n) refl refl refl) h

  module _ (size : length piece ≡ 34) (board : List ℕ) (b : board ≡ board_in piece) (made : Boards) (m : Makes board made) where
    code_is : coded (board_in piece) ≡ made.coded
    code_is = sym (m.1 ∙ ap coded b)

    pub bad_code : made.coded ≡ false → (s : ℕ) → s ≡ lowest_wrong (is_code board) → (r : Loaded) → ReadsOver (refusal_of (R.Code s)) r → SaysPiece piece r
    unfolding tests
    bad_code e s q r h =
        by_same (refusal_of (R.Code s)) (piece_says piece) r
        (ap (λ (x : ℕ). refusal_of (R.Code x)) (q ∙ ap (λ (x : List ℕ). lowest_wrong (is_code x)) b)
        ∙ all_tests true false _ _ (eq-eqb (length piece) 34 size) (code_is ∙ e) refl refl) h

    module _ (fine : made.coded ≡ true) where
      pub bad_side : (r : Loaded) → ReadsOver (refusal_of R.Side) r → 2 ≤ side_in piece → SaysPiece piece r
      unfolding tests
      bad_side r h k =
          by_same (refusal_of R.Side) (piece_says piece) r (all_tests true true false _ (eq-eqb (length piece) 34 size) (code_is ∙ fine)
          (le-ltb (side_in piece) 2 k) refl) h

      module _ (k : side_in piece < 2) where
        pub bad_result : (r : Loaded) → ReadsOver (refusal_of R.Result) r → 3 ≤ half_in piece → SaysPiece piece r
        unfolding tests
        bad_result r h j =
            by_same (refusal_of R.Result) (piece_says piece) r
            (all_tests true true true false (eq-eqb (length piece) 34 size) (code_is ∙ fine) (lt-ltb (side_in piece) 2 k) (le-ltb (half_in piece) 3 j)) h

        pub good : half_in piece < 3 → (state : State) → state ≡ of_side (side_in piece)
            → SaysPiece piece (record { answer = Ok (state, (half_in piece)); bitboards = made.bitboards; board = board })
        unfolding tests
        good j state s =
            by_same (given (position_in piece)) (piece_says piece) (record { answer = Ok (state, (half_in piece)); bitboards = made.bitboards; board = board })
            (all_tests true true true true (eq-eqb (length piece) 34 size) (code_is ∙ fine) (lt-ltb (side_in piece) 2 k) (lt-ltb (half_in piece) 3 j))
            (record { answer = ap (λ (x : State). given (x, half_in piece)) s; boards = m.0 ∙ ap bitboards_of b; bytes = b })

-- ---- a record of a run
module _ (run : List ℕ) (number : ℕ) where
  runs : (a b : Bool) → eqb (length run % 34) 0 ≡ a → ltb number (length run / 34) ≡ b
      → or_refuse a R.Length (or_refuse b R.Absent (piece_says (record_at run number))) ≡ stored_says run number
  unfolding stored_says
  runs a b p q = sym (ap₂ (λ (x y : Bool). or_refuse x R.Length (or_refuse y R.Absent (piece_says (record_at run number)))) p q)

  pub bad_run : (r : Loaded) → ReadsOver (refusal_of R.Length) r → (length run % 34 ≡ 0 → ⊥) → SaysStored run number r
  bad_run r h n = by_same (refusal_of R.Length) (stored_says run number) r (runs false _ (ne_eqb (length run % 34) 0 n) refl) h

  module _ (l : length run % 34 ≡ 0) where
    pub no_record : (r : Loaded) → ReadsOver (refusal_of R.Absent) r → length run / 34 ≤ number → SaysStored run number r
    no_record r h n =
        by_same (refusal_of R.Absent) (stored_says run number) r (runs true false (eq-eqb (length run % 34) 0 l) (le-ltb number (length run / 34) n)) h

    pub its_record : number < length run / 34 → (piece : List ℕ) → piece ≡ record_at run number → (r : Loaded) → SaysPiece piece r → SaysStored run number r
    its_record n piece e r h =
        by_same (piece_says piece) (stored_says run number) r
        (ap piece_says e ∙ runs true true (eq-eqb (length run % 34) 0 l) (lt-ltb number (length run / 34) n)) h
