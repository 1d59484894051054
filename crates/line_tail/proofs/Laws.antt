-- Each return of the small functions gives what its definition says. Assumes nothing.
use mathlib.Core.Path.{◌≡◌, refl, sym, ap, ◌∙◌}
use mathlib.Core.Bool.{Bool, true, false, cond, not, ◌||◌, ◌&&◌, and-false, or-true}
use mathlib.Core.List.{List, [], ◌∷◌}
use Prim.Native.Nat.{ℕ, zero, suc, ◌+◌, ◌*◌, ◌-◌, ◌^◌, ◌≤◌, ◌<◌}
use Prim.Native.Char.{code}
use native.Mathlib.Nat.{pow-suc}
use native.Mathlib.Numerals.{add-one}
use native.Mathlib.Omega.{arith}
use lib.Dec.{eqb, leb}
use lib.ListN.{length, get_or, take, drop, drop_of_length-le}
use lib.Seq.{drop-cons, take_all}
use borrow.Author.Tests.{eq-eqb, ne_eqb, le-leb, lt-leb}
use Rattle.laws.specs.Tests.{same}
use Rattle.chess.specs.Named.{square_of}
use Rattle.text_in.specs.Text.{text, every}
use Rattle.line_tail.specs.Words.{missing, starts_with, taken_off, after_kq, after_kqk, rights_of, are_rights, named_square, passant_of, is_figure}
use Rattle.line_tail.specs.Words.{decimal_from, counter_of, counter_or}
use Rattle.line_tail.specs.Tail.{both_given}
use Rattle.std.specs.Prelude.{None, Some}

-- ---- letters
pub starts_none : (letter : ℕ) (s : List ℕ) → length s ≡ 0 → false ≡ starts_with letter s
starts_none letter [] e = refl
starts_none letter (b ∷ s) e = absurd (omega arith)

pub starts_first : (letter : ℕ) (s : List ℕ) → (length s ≡ 0 → ⊥) → eqb (get_or s 0 0) letter ≡ starts_with letter s
starts_first letter [] n = absurd (n refl)
starts_first letter (b ∷ s) n = refl

pub off_none : (letter : ℕ) (s : List ℕ) → length s ≡ 0 → s ≡ taken_off letter s
off_none letter [] e = refl
off_none letter (b ∷ s) e = absurd (omega arith)

pub off_other : (letter : ℕ) (s : List ℕ) → (length s ≡ 0 → ⊥) → (get_or s 0 0 ≡ letter → ⊥) → s ≡ taken_off letter s
off_other letter [] n o = refl
off_other letter (b ∷ s) n o = rw (ne_eqb b letter o)

pub off_letter : (letter : ℕ) (s : List ℕ) → (length s ≡ 0 → ⊥) → get_or s 0 0 ≡ letter → take (length s - 1) (drop 1 s) ≡ taken_off letter s
off_letter letter [] n e = absurd (n refl)
off_letter letter (b ∷ s) n e = rw (eq-eqb b letter e, take_all (suc (length s) - 1) s (omega arith))

-- ---- rights
module _ (s a b c : List ℕ) (ea : a ≡ taken_off (code "K") s) (eb : b ≡ taken_off (code "Q") a) (ec : c ≡ taken_off (code "k") b) where
  pub white_left : b ≡ after_kq s
  white_left = eb ∙ ap (taken_off (code "Q")) ea

  pub three_left : c ≡ after_kqk s
  three_left = ec ∙ ap (taken_off (code "k")) white_left

  pub rights_are : (K Q k q : Bool) → K ≡ starts_with (code "K") s → Q ≡ starts_with (code "Q") a → k ≡ starts_with (code "k") b → q ≡ starts_with (code "q") c
      → record { white_short = K; white_long = Q; black_short = k; black_long = q } ≡ rights_of s
  unfolding rights_of
  rights_are K Q k q eK eQ ek eq =
      let x : Q ≡ starts_with (code "Q") (taken_off (code "K") s) = eQ ∙ ap (starts_with (code "Q")) ea in
      let y : k ≡ starts_with (code "k") (after_kq s) = ek ∙ ap (starts_with (code "k")) white_left in
      let z : q ≡ starts_with (code "q") (after_kqk s) = eq ∙ ap (starts_with (code "q")) three_left in
      λ i. record { white_short = eK i; white_long = x i; black_short = y i; black_long = z i }

  pub letters_left : (t : Bool) → t ≡ same s (text "-") → t ≡ false → (d : List ℕ) → d ≡ taken_off (code "q") c → eqb (length d) 0 ≡ are_rights s
  unfolding are_rights
  letters_left t e f d ed = ap missing (ed ∙ ap (taken_off (code "q")) three_left) ∙ rw (← e, f)

pub dash_rights : (s : List ℕ) (t : Bool) → t ≡ same s (text "-") → t ≡ true → true ≡ are_rights s
unfolding are_rights
dash_rights s t e h = rw (← e, h)

-- ---- a square
module _ (file rank : ℕ) where
  pub low_file : file < 97 → 64 ≡ square_of file rank
  low_file h = rw (lt-leb 97 file h) refl

  pub high_file : 104 < file → 64 ≡ square_of file rank
  high_file h = rw (lt-leb file 104 h, and-false (leb 97 file)) refl

  pub low_rank : rank < 49 → 64 ≡ square_of file rank
  low_rank h = rw (lt-leb 49 rank h, and-false (leb 97 file && leb file 104)) refl

  pub high_rank : 56 < rank → 64 ≡ square_of file rank
  high_rank h = rw (lt-leb rank 56 h, and-false (leb 49 rank), and-false (leb 97 file && leb file 104)) refl

  pub on_board_holds : 97 ≤ file → file ≤ 104 → 49 ≤ rank → rank ≤ 56 → 8 * (rank - 49) + (file - 97) ≡ square_of file rank
  on_board_holds a b c d = rw (le-leb 97 file a, le-leb file 104 b, le-leb 49 rank c, le-leb rank 56 d) refl

pub not_two : (s : List ℕ) → (length s ≡ 2 → ⊥) → 64 ≡ named_square s
not_two s n = rw (ne_eqb (length s) 2 n)

pub two : (s : List ℕ) → length s ≡ 2 → (r : ℕ) → r ≡ square_of (get_or s 0 0) (get_or s 1 0) → r ≡ named_square s
two s l r e = e ∙ rw (eq-eqb (length s) 2 l)

-- ---- the en passant square
module _ (s : List ℕ) where
  pub passant_none : length s ≡ 0 → None ≡ passant_of s
  unfolding passant_of
  passant_none e = rw (eq-eqb (length s) 0 e)

  module _ (n : length s ≡ 0 → ⊥) (t : Bool) (e : t ≡ same s (text "-")) where
    pub passant_dash : t ≡ true → None ≡ passant_of s
    unfolding passant_of
    passant_dash h = rw (ne_eqb (length s) 0 n, ← e, h)

    pub passant_named : t ≡ false → (k : ℕ) → k ≡ named_square s → Some k ≡ passant_of s
    unfolding passant_of
    passant_named h k q = ap Some q ∙ rw (ne_eqb (length s) 0 n, ← e, h)

-- ---- counters
-- what the digits from here on come to
abbrev pub read : List ℕ → ℕ → ℕ
read s n = cond (every is_figure s) (decimal_from n s) 10000

pub figures_stop : (s : List ℕ) (n i : ℕ) → i < length s → is_figure (get_or s i 0) ≡ false → 10000 ≡ read (drop i s) n
unfolding every
figures_stop s n i h f = rw (drop-cons s i 0, f)

pub figures_more : (s : List ℕ) (n i : ℕ) → i < length s → is_figure (get_or s i 0) ≡ true → read (drop i s) n ≡ read (drop (i + 1) s) (10 * n + (get_or s i 0 - 48))
unfolding every decimal_from
figures_more s n i h t = rw (drop-cons s i 0, t, add-one i)

pub figures_end : (s : List ℕ) (n i : ℕ) → length s ≤ i → n ≡ read (drop i s) n
unfolding every decimal_from
figures_end s n i h = rw (drop_of_length-le s h)

pub low_figure : (b : ℕ) → b < 48 → is_figure b ≡ false
low_figure b h = rw (lt-leb 48 b h)

pub high_figure : (b : ℕ) → 48 ≤ b → 57 < b → is_figure b ≡ false
high_figure b l h = rw (le-leb 48 b l, lt-leb b 57 h)

pub a_figure : (b : ℕ) → 48 ≤ b → b ≤ 57 → is_figure b ≡ true
a_figure b l h = rw (le-leb 48 b l, le-leb b 57 h)

-- so many digits make no more than this
pub thousand : (i : ℕ) → i < 4 → 10 ^ i ≤ 1000
thousand zero h = omega arith
thousand (suc zero) h = omega arith
thousand (suc (suc zero)) h = omega arith
thousand (suc (suc (suc zero))) h = omega arith
thousand (suc (suc (suc (suc i)))) h = absurd (omega arith)

pub one_more : (i n d : ℕ) → n < 10 ^ i → d ≤ 9 → 10 * n + d < 10 ^ (i + 1)
one_more i n d h l = rw (add-one i) (omega (arith, pow-suc 10 i))

-- the digits before i made n
pub record Read (s : List ℕ) (n i : ℕ) : Type 0 where
  pub most : i ≤ length s
  pub small : n < 10 ^ i
  pub same : read s 0 ≡ read (drop i s) n

pub read_none : (s : List ℕ) → Read s 0 0
read_none s = record { most = omega arith; small = omega arith; same = refl }

module _ (s : List ℕ) (n i : ℕ) (inv : Read s n i) where
  pub read_stop : i < length s → is_figure (get_or s i 0) ≡ false → 10000 ≡ read s 0
  read_stop h f = figures_stop s n i h f ∙ sym inv.same

  pub read_more : i < length s → 48 ≤ get_or s i 0 → get_or s i 0 ≤ 57 → (m : ℕ) → m ≡ 10 * n + (get_or s i 0 - 48) → Read s m (i + 1)
  read_more h l u m e = record {
    most = omega arith;
    small = rw e (one_more i n (get_or s i 0 - 48) inv.small (omega arith));
    same = inv.same ∙ figures_more s n i h (a_figure (get_or s i 0) l u) ∙ ap (read (drop (i + 1) s)) (sym e);
  }

  pub read_end : length s ≤ i → n ≡ read s 0
  read_end h = figures_end s n i h ∙ sym inv.same

module _ (s : List ℕ) where
  pub counter_none : length s ≡ 0 → 10000 ≡ counter_of s
  unfolding counter_of every
  counter_none e = rw (lt-leb 1 (length s) (omega arith), and-false (every is_figure s))

  module _ (n : length s ≡ 0 → ⊥) where
    pub counter_long : 4 < length s → 10000 ≡ counter_of s
    unfolding counter_of every
    counter_long h = rw (le-leb 1 (length s) (omega arith), lt-leb (length s) 4 h, and-false (every is_figure s))

    module _ (l : length s ≤ 4) where
      pub counter_zero : 1 < length s → get_or s 0 0 ≡ 48 → 10000 ≡ counter_of s
      unfolding counter_of every
      counter_zero h z =
          let q : starts_with 48 s ≡ true = sym (starts_first 48 s n) ∙ eq-eqb (get_or s 0 0) 48 z in
          rw (le-leb 1 (length s) (omega arith), le-leb (length s) 4 l, ne_eqb (length s) 1 (λ e. omega arith), q, and-false (every is_figure s && true))

      counter_read : (eqb (length s) 1 || not (starts_with 48 s)) ≡ true → (r : ℕ) → r ≡ read s 0 → r ≡ counter_of s
      unfolding counter_of every
      counter_read t r e = e ∙ go (every is_figure s) t
        where
          go : (a : Bool) → (eqb (length s) 1 || not (starts_with 48 s)) ≡ true
              → cond a (decimal_from 0 s) 10000 ≡ cond (a && (leb 1 (length s) && leb (length s) 4) && (eqb (length s) 1 || not (starts_with 48 s)))
              (decimal_from 0 s) 10000
          go true u = rw (le-leb 1 (length s) (omega arith), le-leb (length s) 4 l, u)
          go false u = refl

      pub counter_first : 1 < length s → (get_or s 0 0 ≡ 48 → ⊥) → (r : ℕ) → r ≡ read s 0 → r ≡ counter_of s
      counter_first h z r e =
          counter_read (ap (λ (t : Bool). eqb (length s) 1 || not t) (sym (starts_first 48 s n) ∙ ne_eqb (get_or s 0 0) 48 z) ∙ or-true (eqb (length s) 1)) r e

      pub counter_one : length s ≤ 1 → (r : ℕ) → r ≡ read s 0 → r ≡ counter_of s
      counter_one h r e = counter_read (ap (λ (t : Bool). t || not (starts_with 48 s)) (eq-eqb (length s) 1 (omega arith))) r e

-- a counter that is not given
pub absent_is : (otherwise : ℕ) (s : List ℕ) → length s ≡ 0 → otherwise ≡ counter_or otherwise s
absent_is otherwise s e = rw (eq-eqb (length s) 0 e)

pub present_is : (otherwise : ℕ) (s : List ℕ) → (length s ≡ 0 → ⊥) → (r : ℕ) → r ≡ counter_of s → r ≡ counter_or otherwise s
present_is otherwise s n r e = e ∙ rw (ne_eqb (length s) 0 n)

-- ---- two words
pub none_first : (s t : List ℕ) → length s ≡ 0 → true ≡ both_given s t
none_first s t e = rw (eq-eqb (length s) 0 e)

pub some_first : (s t : List ℕ) → (length s ≡ 0 → ⊥) → not (eqb (length t) 0) ≡ both_given s t
some_first s t n = rw (ne_eqb (length s) 0 n)
