-- Each return of the tests gives what the rule says. Assumes nothing.
use mathlib.Core.Path.{◌≡◌}
use mathlib.Core.Bool.{Bool, true, false, ◌&&◌, and-false}
use mathlib.Core.List.{List}
use Prim.Native.Nat.{ℕ, ◌+◌, ◌-◌, ◌/◌, ◌≤◌, ◌<◌}
use native.Mathlib.Omega.{arith}
use lib.Dec.{leb}
use borrow.Author.Tests.{eq-eqb, ne_eqb, le-leb, lt-leb}
use Rattle.position_further.specs.Rule.{stands, home, at_home, just_passed, counters_fit}
use Rattle.position_further.specs.declared.Rights.{Rights}
use Rattle.std.specs.Prelude.{Option, None, Some}

-- ---- one right
module _ (bytes : List ℕ) (right : Bool) (at king corner rook : ℕ) where
  pub no_right : right ≡ false → true ≡ home bytes right at king corner rook
  unfolding home
  no_right e = rw e

  module _ (e : right ≡ true) (r : Bool) (p : r ≡ stands bytes at king) where
    pub king_away : r ≡ false → false ≡ home bytes right at king corner rook
    unfolding home
    king_away f = rw (e, ← p, f)

    pub king_there : r ≡ true → stands bytes corner rook ≡ home bytes right at king corner rook
    unfolding home
    king_there t = rw (e, ← p, t)

-- ---- the four rights: the first that fails, or the last
abbrev K : List ℕ → Rights → Bool
K bytes r = home bytes r.white_short 4 6 7 10

abbrev Q : List ℕ → Rights → Bool
Q bytes r = home bytes r.white_long 4 6 0 10

abbrev k : List ℕ → Rights → Bool
k bytes r = home bytes r.black_short 60 7 63 11

abbrev q : List ℕ → Rights → Bool
q bytes r = home bytes r.black_long 60 7 56 11

-- t is what the code was told of the right
module _ (bytes : List ℕ) (r : Rights) (t : Bool) where
  pub fails_K : t ≡ K bytes r → t ≡ false → false ≡ at_home bytes r
  unfolding at_home
  fails_K e f = rw (← e, f)

  pub fails_Q : t ≡ Q bytes r → t ≡ false → false ≡ at_home bytes r
  unfolding at_home
  fails_Q e f = rw (← e, f, and-false (K bytes r))

  pub fails_k : t ≡ k bytes r → t ≡ false → false ≡ at_home bytes r
  unfolding at_home
  fails_k e f = rw (← e, f, and-false (K bytes r && Q bytes r))

pub left_q : (bytes : List ℕ) (r : Rights) (t u v : Bool) → t ≡ K bytes r → u ≡ Q bytes r → v ≡ k bytes r → t ≡ true → u ≡ true → v ≡ true
    → q bytes r ≡ at_home bytes r
unfolding at_home
left_q bytes r t u v d e f g h i = rw (← d, ← e, ← f, g, h, i)

-- ---- the en passant square
module _ (bytes : List ℕ) (side : ℕ) (p : Option ℕ) where
  pub nowhere : p ≡ None → true ≡ just_passed bytes side p
  unfolding just_passed
  nowhere e = rw e

  module _ (s : ℕ) (e : p ≡ Some s) (r : Bool) (o : r ≡ stands bytes s 0) where
    pub not_empty : r ≡ false → false ≡ just_passed bytes side p
    unfolding just_passed
    not_empty f = rw (e, ← o, f)

    module _ (t : r ≡ true) where
      module _ (w : side ≡ 0) where
        pub not_sixth : (s / 8 ≡ 5 → ⊥) → false ≡ just_passed bytes side p
        unfolding just_passed
        not_sixth n = rw (e, ← o, t, eq-eqb side 0 w, ne_eqb (s / 8 + 1) 6 (λ h. n (omega arith)))

        pub on_sixth : s / 8 ≡ 5 → stands bytes (s - 8) 3 ≡ just_passed bytes side p
        unfolding just_passed
        on_sixth n = rw (e, ← o, t, eq-eqb side 0 w, eq-eqb (s / 8 + 1) 6 (omega arith))

      module _ (b : side ≡ 0 → ⊥) where
        pub not_third : (s / 8 ≡ 2 → ⊥) → false ≡ just_passed bytes side p
        unfolding just_passed
        not_third n = rw (e, ← o, t, ne_eqb side 0 b, ne_eqb (s / 8 + 1) 3 (λ h. n (omega arith)))

        pub on_third : s / 8 ≡ 2 → stands bytes (s + 8) 2 ≡ just_passed bytes side p
        unfolding just_passed
        on_third n = rw (e, ← o, t, ne_eqb side 0 b, eq-eqb (s / 8 + 1) 3 (omega arith))

-- ---- the counters
module _ (halfmoves moves : ℕ) where
  pub many_halfmoves : 9999 < halfmoves → false ≡ counters_fit halfmoves moves
  many_halfmoves h = rw (lt-leb halfmoves 9999 h)

  module _ (h : halfmoves ≤ 9999) where
    pub no_move : moves ≡ 0 → false ≡ counters_fit halfmoves moves
    no_move z = rw (le-leb halfmoves 9999 h, lt-leb 1 moves (omega arith))

    pub some_move : (moves ≡ 0 → ⊥) → leb moves 9999 ≡ counters_fit halfmoves moves
    some_move n = rw (le-leb halfmoves 9999 h, le-leb 1 moves (omega arith))
