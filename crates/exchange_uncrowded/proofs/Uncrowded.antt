-- "no position of the profile is refused as CROWD": sixteen pieces a colour are 32 together, and one king a colour is not two. Assumes nothing.
use mathlib.Core.Path.{◌≡◌, refl, sym, ap, ap₂, subst, ◌∙◌}
use mathlib.Core.Bool.{Bool, true, false, ◌&&◌, ◌||◌, true≢false}
use mathlib.Core.List.{List}
use Prim.Native.Nat.{ℕ, ◌+◌, ◌≤◌}
use native.Mathlib.Omega.{arith}
use lib.Dec.{eqb, leb}
use lib.ListN.{get_or}
use borrow.Author.Tests.{eqb-true, leb-true, le-leb}
use Rattle.laws.specs.Tests.{all_below}
use Rattle.laws.proofs.Truth.{true_T, T_true, and_l, and_r}
use Rattle.refusal.specs.Answer.{Answer, given, refused, or_refuse}
use Rattle.refusal.specs.declared.Refusal.TheVariants as R
use Rattle.refusal.proofs.Answers.{given_not}
use Rattle.bits.specs.Bitboard.{has, how_many}
use Rattle.bits.proofs.Counts.{many_same, many_or}
use Rattle.bits.proofs.Those.{has_those}
use Rattle.position_boards.specs.Boards.{bitboards_of}
use Rattle.position_boards.specs.Sound.{apart, united}
use Rattle.position_consistent.specs.Consistent.{agrees}
use Rattle.position_odds.specs.Named.{lowest_wrong}
use Rattle.position_odds.specs.Odds.{or_odds}
use Rattle.position_further.specs.Rule.{at_home, just_passed, counters_fit}
use Rattle.position.specs.Checked.{shaped, checked}
use Rattle.attack.specs.Attacks.{standing, occupied}
use Rattle.score_material.specs.Pieces.{count}
use Rattle.position_profile.specs.Profile.{one_king, few_pieces, of_both}
use Rattle.position_profile.specs.RealPlay.{FromRealPlay}
use Rattle.position_profile.proofs.Exactly.{exactly}
use Rattle.exchange_order.specs.Orders.{each_once}
use Rattle.exchange_start.specs.Capture.{may_capture, uncrowded}
use Rattle.exchange_start.specs.Answers.{both_on_board}
use Rattle.exchange.specs.Exchange.{exchange_of}
use Rattle.exchange.specs.Answers.{see_of}
use Rattle.line_parse.specs.Line.{Line, line_of}
use Rattle.line_profile.specs.Under.{played_line}
use Rattle.exchange_uncrowded.specs.Uncrowded.{NotCrowd, NeverCrowd, LineNeverCrowd}

-- ---- at most 32 pieces
add_up : (x y w b : ℕ) → x ≡ y → y ≤ w + b → w ≤ 16 → b ≤ 16 → x ≤ 32
add_up x y w b e l m n = omega arith

one_le : (x : ℕ) → x ≡ 1 → x ≤ 1
one_le x e = omega arith

first : (f : ℕ → Bool) → of_both f ≡ true → f 0 ≡ true
first f e = T_true (f 0) (and_l (f 0) (f 1) (true_T e))

second : (f : ℕ → Bool) → of_both f ≡ true → f 1 ≡ true
second f e = T_true (f 1) (and_r (f 0) (f 1) (true_T e))

module _ (bbs : List ℕ) where
  few_men : (colour : ℕ) → few_pieces bbs colour ≡ true → how_many 64 (has (get_or bbs colour 0)) ≤ 16
  unfolding few_pieces
  few_men colour e = leb-true (how_many 64 (has (get_or bbs colour 0))) 16 e

  one_man : (colour : ℕ) → one_king bbs colour ≡ true → leb (how_many 64 (has (standing bbs 5 colour))) 1 ≡ true
  unfolding one_king count
  one_man colour e = le-leb (how_many 64 (has (standing bbs 5 colour))) 1
      (one_le (how_many 64 (has (standing bbs 5 colour))) (eqb-true (how_many 64 (has (standing bbs 5 colour))) 1 e))

  both : how_many 64 (has (occupied bbs)) ≡ how_many 64 (λ k. has (get_or bbs 0 0) k || has (get_or bbs 1 0) k)
  unfolding occupied
  both =
      many_same 64 (has (occupied bbs)) (λ k. has (get_or bbs 0 0) k || has (get_or bbs 1 0) k)
      (λ k h. has_those 64 (λ j. has (get_or bbs 0 0) j || has (get_or bbs 1 0) j) k h)

  no_crowd : of_both (one_king bbs) ≡ true → of_both (few_pieces bbs) ≡ true → uncrowded bbs ≡ true
  unfolding uncrowded
  no_crowd k p =
      ap₂ ◌&&◌
      (ap₂ ◌&&◌
      (le-leb (how_many 64 (has (occupied bbs))) 32
      (add_up (how_many 64 (has (occupied bbs))) (how_many 64 (λ k. has (get_or bbs 0 0) k || has (get_or bbs 1 0) k)) (how_many 64 (has (get_or bbs 0 0)))
      (how_many 64 (has (get_or bbs 1 0))) both
      (many_or 64 (has (get_or bbs 0 0)) (has (get_or bbs 1 0))) (few_men 0 (first (few_pieces bbs) p)) (few_men 1 (second (few_pieces bbs) p))))
      (one_man 0 (first (one_king bbs) k)))
      (one_man 1 (second (one_king bbs) k))

-- ---- so no test of an exchange comes to CROWD
abbrev is_crowd : {A : Type 0} → Answer A → Bool
is_crowd (given a) = false
is_crowd (refused n l) = eqb n 6

not_crowd : {A : Type 0} (a : Answer A) → is_crowd a ≡ false → NotCrowd a
not_crowd a e q = true≢false (sym (ap is_crowd q) ∙ e)

pub never_crowd : NeverCrowd
unfolding checked or_odds
never_crowd mode kinds bbs bytes state from to f =
    not_crowd (see_of mode kinds bbs bytes state from to)
    (go (shaped bbs bytes state) (all_below 64 (apart bbs)) (all_below 64 (united bbs)) (all_below 64 (agrees bbs bytes))
    (at_home bytes state.rights) (just_passed bytes state.side state.passant) (counters_fit state.halfmoves state.moves)
    (both_on_board from to) (each_once kinds) (may_capture mode bbs bytes state from to) (uncrowded bbs) (no_crowd bbs f.kings f.pieces))
  where
    go : (z o u b r p n t k m c : Bool) → c ≡ true
        → is_crowd
        (or_refuse z R.Shape
        (or_refuse o (R.Overlap (lowest_wrong (apart bbs)))
        (or_refuse u (R.Union (lowest_wrong (united bbs)))
        (or_refuse b (R.Byteboard (lowest_wrong (agrees bbs bytes)))
        (or_refuse r R.Rights
        (or_refuse p R.Passant
        (or_refuse n R.Counter
        (or_refuse t R.Square
        (or_refuse k R.Order (or_refuse m R.Move (or_refuse c R.Crowd (given (exchange_of mode kinds bbs bytes state from to))))))))))))) ≡ false
    go true true true true true true true true true true true e = refl
    go true true true true true true true true true true false e = sym e
    go true true true true true true true true true false c e = refl
    go true true true true true true true true false m c e = refl
    go true true true true true true true false k m c e = refl
    go true true true true true true false t k m c e = refl
    go true true true true true false n t k m c e = refl
    go true true true true false p n t k m c e = refl
    go true true true false r p n t k m c e = refl
    go true true false b r p n t k m c e = refl
    go true false u b r p n t k m c e = refl
    go false o u b r p n t k m c e = refl

-- ---- of a line
played : (said : Answer Line) (l : Line) → played_line said ≡ given l → FromRealPlay (bitboards_of l.board) l.state
played (given m) l e =
    let f : FromRealPlay (bitboards_of m.board) m.state = (exactly (bitboards_of m.board) m.state).passes m l e in
    let same : m ≡ l = given_same m l (sym ((exactly (bitboards_of m.board) m.state).all_hold (given m) f) ∙ e) in
    subst (λ (x : Line). FromRealPlay (bitboards_of x.board) x.state) same f
  where
    given_same : (m l : Line) → given m ≡ given l → m ≡ l
    given_same m l q = cc
played (refused n v) l e = given_not (sym e)

pub line_never_crowd : LineNeverCrowd
line_never_crowd line l e mode kinds from to = never_crowd mode kinds (bitboards_of l.board) l.board l.state from to (played (line_of line) l e)
