-- A position's list, square by square: each square of a kind has two places in the trace, White's and then Black's, and where neither piece
-- stands nothing is added. So the walk over the squares of either leaves out nothing. Assumes nothing.
use mathlib.Core.Path.{◌≡◌, refl, sym, ap, ap₂, subst, ◌∙◌}
use mathlib.Core.Bool.{Bool, true, false, cond, ◌&&◌, ◌||◌, true≢false}
use mathlib.Mathlib.Data.Bool.Basic.{or-eq-false-eq-eq-false-and-eq-false}
use mathlib.Core.List.{List, [], ◌∷◌}
use Prim.Native.Nat.{ℕ, zero, suc, ◌+◌, ◌*◌, ◌/◌, ◌%◌, ◌^◌, ◌<◌, ◌≤◌}
use native.Mathlib.Omega.{arith}
use lib.Bits.{bit_or, or_lt}
use lib.IntN.{pos}
use lib.Signed.{lt_z}
use lib.Dec.{ltb}
use lib.ListN.{get_or, length, set, get_or-eq_default}
use lib.Seq.{get_or-set_other}
use borrow.Author.Tests.{le-ltb, ltb-true, ltb-false}
use Rattle.laws.proofs.Tables.{entry}
use Rattle.bits.specs.Bitboard.{has, digit}
use Rattle.bits.proofs.Digits.{has_or}
use Rattle.places.specs.Places.{entry_place, kind_at, square_at, colour_at}
use Rattle.chess.specs.Squares.{flip_of}
use Rattle.attack.specs.Attacks.{standing}
use Rattle.trace.specs.Trace.{entry_at, entries_of}
use Rattle.trace_exact.proofs.Entries.{entry_at_holds}
use Rattle.trace_marks.proofs.Walk as walk
use Rattle.trace_list.specs.Ones.{ones}
use Rattle.trace_list.specs.Form.{is_one_rule, ones_in, entry_byte, list_bytes}
use Rattle.trace_list.proofs.Bytes.{bytes_length, byte_at}
use Rattle.trace_list.proofs.Ones.{ones_zero, ones_no}
use Rattle.trace_list.proofs.There.{one_is}
use Rattle.trace_list_turn.proofs.Ways.{room, length_yes, length_no, bytes_yes, bytes_no}
use Rattle.trace_list_computed.specs.PrivateWalk.{Few, Padded, ones_before, entry_put, put_where, both_put, turned_over}
use Rattle.trace_list_computed.proofs.Flipped.{has_turned}

-- ---- what stands at a place
module _ (bbs : List ℕ) (kind s : ℕ) (hk : kind < 6) (hs : s < 64) where
  there : (colour : ℕ) → colour < 2 → is_one_rule (entries_of bbs) (entry_place kind s colour) ≡ has (standing bbs kind colour) (flip_of s colour)
  unfolding entries_of
  there colour hc =
      ap (lt_z (pos 0)) (entry 768 (λ i. pos (entry_at bbs i)) (pos 0) (entry_place kind s colour) (omega arith))
      ∙ ap (λ (n : ℕ). lt_z (pos 0) (pos n)) (entry_at_holds bbs kind s colour hs hc) ∙ one_is (has (standing bbs kind colour) (flip_of s colour))

  pub white_one : is_one_rule (entries_of bbs) (128 * kind + 2 * s) ≡ has (standing bbs kind 0) s
  white_one = let e : 128 * kind + 2 * s ≡ entry_place kind s 0 = omega arith in ap (is_one_rule (entries_of bbs)) e ∙ there 0 (omega arith)

  pub black_one : is_one_rule (entries_of bbs) (128 * kind + 2 * s + 1) ≡ has (turned_over (standing bbs kind 1)) s
  black_one = there 1 (omega arith) ∙ sym (has_turned (standing bbs kind 1) s hs)

-- ---- one place on
module _ (bbs : List ℕ) (n k : ℕ) (bytes : List ℕ) (q : n ≡ length (ones_before bbs k)) (b : bytes ≡ list_bytes (ones_before bbs k)) where
  place_yes : (kind square colour : ℕ) → kind ≡ kind_at k → square ≡ square_at k → colour ≡ colour_at k → is_one_rule (entries_of bbs) k ≡ true → n < 64
      → (n + 1 ≡ length (ones_before bbs (k + 1))) × (entry_put kind square colour n bytes ≡ list_bytes (ones_before bbs (k + 1)))
  unfolding ones_before
  place_yes kind square colour ek es ec e l =
      (length_yes (entries_of bbs) k e q, rw (ek, es, ec) (bytes_yes (entries_of bbs) k e q l b))

  place_no : is_one_rule (entries_of bbs) k ≡ false → (n + 0 ≡ length (ones_before bbs (k + 1))) × (bytes ≡ list_bytes (ones_before bbs (k + 1)))
  unfolding ones_before
  place_no e = (let z : n + 0 ≡ n = omega arith in z ∙ length_no (entries_of bbs) k e q, bytes_no (entries_of bbs) k e b)

  pub place_on_holds : (kind square colour : ℕ) → kind ≡ kind_at k → square ≡ square_at k → colour ≡ colour_at k → (t : Bool) → is_one_rule (entries_of bbs) k ≡ t
      → (t ≡ true → n < 64)
      → (n + digit t ≡ length (ones_before bbs (k + 1))) × (put_where t kind square colour n bytes ≡ list_bytes (ones_before bbs (k + 1)))
  place_on_holds kind square colour ek es ec true e l = place_yes kind square colour ek es ec e (l refl)
  place_on_holds kind square colour ek es ec false e l = place_no e

  pub has_room : k < 768 → Few bbs → {t : Bool} → is_one_rule (entries_of bbs) k ≡ t → t ≡ true → n < 64
  unfolding ones_before
  has_room l few e u = room (is_one_rule (entries_of bbs)) k l (e ∙ u) few.few q

-- ---- a square on: how many entries there are, and the bytes
abbrev pub Made : Type 0
Made = ℕ × List ℕ

abbrev pub made_to : List ℕ → ℕ → ℕ → Made
made_to bbs kind s = (length (ones_before bbs (128 * kind + 2 * s)), list_bytes (ones_before bbs (128 * kind + 2 * s)))

pub still : (bbs : List ℕ) (kind s w b : ℕ) → kind < 6 → s < 64 → w ≡ standing bbs kind 0 → b ≡ turned_over (standing bbs kind 1) → has (bit_or w b) s ≡ false
    → made_to bbs kind s ≡ made_to bbs kind (suc s)
unfolding ones_before
still bbs kind s w b hk hs ew eb e =
    let k : ℕ = 128 * kind + 2 * s in
    let f : ℕ → Bool = is_one_rule (entries_of bbs) in
    let both = (or-eq-false-eq-eq-false-and-eq-false (has w s) (has b s)).0 (sym (has_or w b s) ∙ e) in
    let a : f k ≡ false = white_one bbs kind s hk hs ∙ ap (λ (x : ℕ). has x s) (sym ew) ∙ both.0 in
    let c : f (suc k) ≡ false = ap f (let z : suc k ≡ k + 1 = omega arith in z) ∙ black_one bbs kind s hk hs ∙ ap (λ (x : ℕ). has x s) (sym eb) ∙ both.1 in
    let on : ones f (128 * kind + 2 * suc s) ≡ ones f k = ap (ones f) (let z : 128 * kind + 2 * suc s ≡ suc (suc k) = omega arith in z)
    ∙ ones_no f (suc k) c ∙ ones_no f k a in
    ap (λ (ks : List ℕ). (length ks, list_bytes ks)) (sym on)

-- where a loop stands at a square s of the two boards, with so many entries made: White's piece, then Black's
module _ (bbs : List ℕ) (kind s w b : ℕ) (hk : kind < 6) (hs : s < 64) (ew : w ≡ standing bbs kind 0) (eb : b ≡ turned_over (standing bbs kind 1))
    (few : Few bbs)
    (n : ℕ) (bytes : List ℕ) (e : (n, bytes) ≡ made_to bbs kind s) (tw : Bool) (qw : tw ≡ has w s) where
  is_white : is_one_rule (entries_of bbs) (128 * kind + 2 * s) ≡ tw
  is_white = white_one bbs kind s hk hs ∙ ap (λ (x : ℕ). has x s) (sym ew) ∙ sym qw

  many : n ≡ length (ones_before bbs (128 * kind + 2 * s))
  many = ap (λ (x : Made). x.0) e

  those_bytes : bytes ≡ list_bytes (ones_before bbs (128 * kind + 2 * s))
  those_bytes = ap (λ (x : Made). x.1) e

  pub white_room : tw ≡ true → n < 64
  white_room u = has_room bbs n (128 * kind + 2 * s) bytes many those_bytes (omega arith) few is_white u

  module _ (m : ℕ) (mid : List ℕ) (em : m ≡ n + digit tw) (emid : mid ≡ put_where tw kind s 0 n bytes) (tb : Bool) (qb : tb ≡ has b s) where
    is_black : is_one_rule (entries_of bbs) (128 * kind + 2 * s + 1) ≡ tb
    is_black = black_one bbs kind s hk hs ∙ ap (λ (x : ℕ). has x s) (sym eb) ∙ sym qb

    half : (m ≡ length (ones_before bbs (128 * kind + 2 * s + 1))) × (mid ≡ list_bytes (ones_before bbs (128 * kind + 2 * s + 1)))
    half =
        let one = place_on_holds bbs n (128 * kind + 2 * s) bytes many those_bytes kind s 0 (omega arith) (omega arith) (omega arith) tw is_white white_room in
        (em ∙ one.0, emid ∙ one.1)

    pub black_room : tb ≡ true → m < 64
    black_room u = has_room bbs m (128 * kind + 2 * s + 1) mid half.0 half.1 (omega arith) few is_black u

    pub square_on : (r : ℕ) (last : List ℕ) → r ≡ m + digit tb → last ≡ put_where tb kind s 1 m mid → (r, last) ≡ made_to bbs kind (suc s)
    square_on r last er elast =
        let two = place_on_holds bbs m (128 * kind + 2 * s + 1) mid half.0 half.1 kind s 1 (omega arith) (omega arith) (omega arith) tb is_black black_room in
        let z : 128 * kind + 2 * s + 1 + 1 ≡ 128 * kind + 2 * suc s = omega arith in
        ap₂ (λ (x : ℕ) (y : List ℕ). (x, y)) (er ∙ two.0) (elast ∙ two.1) ∙ ap (λ (i : ℕ). (length (ones_before bbs i), list_bytes (ones_before bbs i))) z

-- the walk begins
pub begun : (bbs : List ℕ) (kind w b n : ℕ) (bytes : List ℕ) → kind < 6 → w < 2 ^ 64 → w ≡ standing bbs kind 0 → b < 2 ^ 64
    → b ≡ turned_over (standing bbs kind 1)
    → n ≡ length (ones_before bbs (128 * kind)) → bytes ≡ list_bytes (ones_before bbs (128 * kind)) → walk.Walk (made_to bbs kind) 64 (n, bytes) (bit_or w b)
begun bbs kind w b n bytes hk lw ew lb eb en ebs =
    let z : 128 * kind ≡ 128 * kind + 2 * 0 = omega arith in
    record {
      at = 0;
      now = ap₂ (λ (x : ℕ) (y : List ℕ). (x, y)) en ebs ∙ ap (λ (i : ℕ). (length (ones_before bbs i), list_bytes (ones_before bbs i))) z;
      left = walk.skips (made_to bbs kind) (bit_or w b) 64 (λ i l h. absurd (omega arith)) (λ i l e. still bbs kind i w b hk l ew eb e) (omega arith);
      fits = or_lt 64 w b lw lb;
    }

-- and ends
pub ended : (bbs : List ℕ) (kind n : ℕ) (bytes : List ℕ) → (n, bytes) ≡ made_to bbs kind 64
    → (n ≡ length (ones_before bbs (128 * kind + 128))) × (bytes ≡ list_bytes (ones_before bbs (128 * kind + 128)))
ended bbs kind n bytes e = (ap (λ (x : Made). x.0) e, ap (λ (x : Made). x.1) e)

-- ---- all kinds
pub none_before : (bbs : List ℕ) {bytes : List ℕ} → bytes ≡ list_bytes [] → (0 ≡ length (ones_before bbs (128 * 0)))
    × (bytes ≡ list_bytes (ones_before bbs (128 * 0)))
unfolding ones_before
none_before bbs e = (ap length (sym (ones_zero (is_one_rule (entries_of bbs)))), e ∙ ap list_bytes (sym (ones_zero (is_one_rule (entries_of bbs)))))

pub all_before : (bbs : List ℕ) → ones_before bbs 768 ≡ ones_in (entries_of bbs)
unfolding ones_before ones_in
all_before bbs = refl

-- ---- what a square has, as the code puts it
module _ (kind square n : ℕ) (bytes : List ℕ) where
  pub both_room : (w b : Bool) → (w || b) ≡ true → (w ≡ true → n < 64) → (b ≡ true → n + digit w < 64) → n < 64
  both_room true b e p q = p refl
  both_room false true e p q = omega (arith, q refl)
  both_room false false e p q = absurd (true≢false (sym e))

  pub second_room : (w b : Bool) → (w && b) ≡ true → (b ≡ true → n + digit w < 64) → n + 1 < 64
  second_room true true e q = q refl
  second_room true false e q = absurd (true≢false (sym e))
  second_room false b e q = absurd (true≢false (sym e))

  pub both_put_holds : (w b : Bool) (col r : ℕ) (mid last : List ℕ) → (w || b) ≡ true → col ≡ cond w 0 1 → mid ≡ entry_put kind square col n bytes
      → r ≡ n + 1 + digit (w && b)
      → last ≡ put_where (w && b) kind square 1 (n + 1) mid → (r ≡ n + digit w + digit b) × (last ≡ both_put w b kind square n bytes)
  both_put_holds true true col r mid last e q p er l = (er, l ∙ ap (entry_put kind square 1 (n + 1)) (p ∙ ap (λ (c : ℕ). entry_put kind square c n bytes) q))
  both_put_holds true false col r mid last e q p er l = (er, l ∙ p ∙ ap (λ (c : ℕ). entry_put kind square c n bytes) q)
  both_put_holds false true col r mid last e q p er l =
      let z : n ≡ n + 0 = omega arith in
      (omega (arith, er), l ∙ p ∙ ap (λ (c : ℕ). entry_put kind square c n bytes) q ∙ ap (λ (m : ℕ). entry_put kind square 1 m bytes) z)
  both_put_holds false false col r mid last e q p er l = absurd (true≢false (sym e))

  pub none_put : (w b : Bool) → (w || b) ≡ false → (n ≡ n + digit w + digit b) × (bytes ≡ both_put w b kind square n bytes)
  none_put true b e = absurd (true≢false e)
  none_put false true e = absurd (true≢false e)
  none_put false false e = (omega arith, refl)

-- ---- zeros over zeros: an entry that is not there, written all the same
kept : (l : List ℕ) (i : ℕ) → get_or l i 0 ≡ 0 → set l i 0 ≡ l
kept [] i e = refl
kept (x ∷ l) zero e = ap (λ (y : ℕ). y ∷ l) (sym e)
kept (x ∷ l) (suc i) e = ap (λ (m : List ℕ). x ∷ m) (kept l i e)

module _ (n : ℕ) (bytes : List ℕ) (z : Padded n bytes) where
  pub second_put : (t : Bool) (kind square k s c : ℕ) (last : List ℕ) → k ≡ cond t kind 0 → s ≡ cond t square 0 → c ≡ cond t 1 0 → last ≡ entry_put k s c n bytes
      → last ≡ put_where t kind square 1 n bytes
  second_put true kind square k s c last ek es ec e = e ∙ ap₂ (λ (x y : ℕ). entry_put x y c n bytes) ek es ∙ ap (λ (x : ℕ). entry_put kind square x n bytes) ec
  second_put false kind square k s c last ek es ec e =
      e
      ∙ ap₂ (λ (x y : ℕ). entry_put x y c n bytes) ek es ∙ ap (λ (x : ℕ). entry_put 0 0 x n bytes) ec
      ∙ ap (λ (l : List ℕ). set (set l (3 * n + 1) 0) (3 * n + 2) 0) (kept bytes (3 * n) (z.zeros (3 * n) (omega arith)))
      ∙ ap (λ (l : List ℕ). set l (3 * n + 2) 0) (kept bytes (3 * n + 1) (z.zeros (3 * n + 1) (omega arith)))
      ∙ kept bytes (3 * n + 2) (z.zeros (3 * n + 2) (omega arith))

  pub past_end : (t : Bool) (kind square : ℕ) → (t ≡ true → n < 64) → 64 ≤ n → (n ≡ n + digit t) × (bytes ≡ put_where t kind square 1 n bytes)
  past_end true kind square h l = absurd (omega (arith, h refl))
  past_end false kind square h l = (omega arith, refl)

  pub padded_on : (kind square colour : ℕ) (mid : List ℕ) → mid ≡ entry_put kind square colour n bytes → Padded (n + 1) mid
  padded_on kind square colour mid e =
      record {
        zeros = λ j l.
            ap (λ (m : List ℕ). get_or m j 0) e
            ∙ get_or-set_other (set (set bytes (3 * n) kind) (3 * n + 1) square) (3 * n + 2) j colour 0 (λ q. omega arith)
            ∙ get_or-set_other (set bytes (3 * n) kind) (3 * n + 1) j square 0 (λ q. omega arith)
            ∙ get_or-set_other bytes (3 * n) j kind 0 (λ q. omega arith) ∙ z.zeros j (omega arith);
      }

pub padded_list : (n : ℕ) (bytes places : List ℕ) → n ≡ length places → bytes ≡ list_bytes places → Padded n bytes
padded_list n bytes places en eb = record { zeros = λ j l. ap (λ (m : List ℕ). get_or m j 0) eb ∙ go j (omega (arith, l, en)) (ltb j 192) refl }
  where
    go : (j : ℕ) → 3 * length places ≤ j → (t : Bool) → ltb j 192 ≡ t → get_or (list_bytes places) j 0 ≡ 0
    go j l true e =
        byte_at places j (ltb-true j 192 e) ∙ ap (λ (t : Bool). cond t (entry_byte (j % 3) (get_or places (j / 3) 0)) 0) (le-ltb j (3 * length places) l)
    go j l false e = get_or-eq_default (list_bytes places) 0 (subst (λ (m : ℕ). m ≤ j) (sym (bytes_length places)) (ltb-false j 192 e))
