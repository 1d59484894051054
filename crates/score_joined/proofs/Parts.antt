-- THE SUMS OVER PARTS, JOINED, ARE THE SUM OVER THE WHOLE: each total of the lines of both is the two parts' put together, and the sum of squared
-- distances stays within 64 bits wherever the lines are few enough. Assumes nothing.
use mathlib.Core.Path.{◌≡◌, refl, sym, ap, ap₂, subst, ◌∙◌}
use mathlib.Core.Bool.{Bool, true, false, ◌&&◌, false≢true}
use mathlib.Core.List.{List, [], ◌∷◌, ◌++◌, append_assoc, append-nil, map}
use Prim.Native.Nat.{ℕ, ◌+◌, ◌^◌, ◌≤◌, ◌<◌}
use native.Mathlib.Nat.{zero-add}
use native.Mathlib.Omega.{arith}
use lib.Dec.{leb, ltb}
use borrow.Author.Tests.{leb-true, ltb-true, le-leb, lt-ltb}
use Rattle.refusal.specs.Answer.{Answer, given, refused, or_refuse, refusal_of}
use Rattle.refusal.specs.declared.Refusal.TheVariants as R
use Rattle.line_parse.specs.Line.{Line, line_of}
use Rattle.line_cut.specs.Lines.{lines_of}
use Rattle.line_profile.specs.declared.Profile.TheVariants as P
use Rattle.score_errors.specs.Collection.{LoadedLine, is_scored, is_apart, squared, scored_in, apart_in, sum_in, fresh_of}
use Rattle.score_errors.specs.Promises.{none}
use Rattle.score_errors.specs.declared.Totals.{Totals}
use Rattle.score_errors.proofs.Fresh.{fresh_holds}
use Rattle.ledger_whole.specs.Ledger.{refused_in}
use Rattle.ledger_whole.specs.Whole.{joined}
use Rattle.ledger_joined.specs.Joined.{at_line_ends}
use Rattle.ledger_joined.proofs.Lines.{refused_both}
use Rattle.ledger_joined.proofs.Joins.{lines_part, lines_joined, lines_none}
use Rattle.score_collected.specs.Collected.{shown_before, shown_in, collection_totals, collected_of}
use Rattle.score_collected.proofs.Totals.{all_shaped}
use Rattle.score_joined.specs.Sums.{totals_of_both, sums_joined, sums_joined_from}
use Rattle.score_joined.specs.Parts.{SumsOfParts, SumsOfTwo}

-- ---- whether there is room for so many lines with a score, apart, and refused
abbrev few : ℕ → ℕ → ℕ → Bool
few s a r = (leb s 1000000 && leb a 1000000) && ltb r (2 ^ 64)

record Few (s a r : ℕ) : Type 0 where
  scored : s ≤ 1000000
  apart : a ≤ 1000000
  others : r < 2 ^ 64

few_are : (s a r : ℕ) → few s a r ≡ true → Few s a r
few_are s a r e = go (leb s 1000000) (leb a 1000000) (ltb r (2 ^ 64)) refl refl refl e
  where
    go : (x y z : Bool) → leb s 1000000 ≡ x → leb a 1000000 ≡ y → ltb r (2 ^ 64) ≡ z → ((x && y) && z) ≡ true → Few s a r
    go true true true p q o h = record { scored = leb-true s 1000000 p; apart = leb-true a 1000000 q; others = ltb-true r (2 ^ 64) o }
    go true true false p q o h = absurd (false≢true h)
    go true false z p q o h = absurd (false≢true h)
    go false y z p q o h = absurd (false≢true h)

are_few : (s a r : ℕ) → s ≤ 1000000 → a ≤ 1000000 → r < 2 ^ 64 → few s a r ≡ true
are_few s a r h k l = ap₂ ◌&&◌ (ap₂ ◌&&◌ (le-leb s 1000000 h) (le-leb a 1000000 k)) (lt-ltb r (2 ^ 64) l)

-- ---- two sums, over whatever was counted
abbrev told : Totals → ℕ → Answer (Totals × ℕ)
told x m = or_refuse (few x.scored x.apart m) R.Many (given (x, m))

-- one test of four fails
four : {A : Type 0} (w x y z : Bool) (g : A) → ((w && x) && z) ≡ false
    → or_refuse w R.Many (or_refuse x R.Many (or_refuse y R.Many (or_refuse z R.Many (given g)))) ≡ refusal_of R.Many
four false x y z g e = refl
four true false y z g e = refl
four true true false z g e = refl
four true true true false g e = refl
four true true true true g e = absurd (false≢true (sym e))

two_sums : (x y : Totals) (m n : ℕ) → (x.scored + y.scored ≤ 1000000 → x.sum + y.sum < 2 ^ 64) → sums_joined (told x m) (told y n)
    ≡ told (totals_of_both x y) (m + n)
two_sums x y m n small = go (few (x.scored + y.scored) (x.apart + y.apart) (m + n)) refl
  where
    go : (t : Bool) → few (x.scored + y.scored) (x.apart + y.apart) (m + n) ≡ t → sums_joined (told x m) (told y n)
        ≡ or_refuse t R.Many (given (totals_of_both x y, m + n))
    go true e =
        let f = few_are (x.scored + y.scored) (x.apart + y.apart) (m + n) e in
        let fx : few x.scored x.apart m ≡ true = are_few x.scored x.apart m (omega (arith, f.scored)) (omega (arith, f.apart))
        (omega (arith, f.others)) in
        let fy : few y.scored y.apart n ≡ true = are_few y.scored y.apart n (omega (arith, f.scored)) (omega (arith, f.apart))
        (omega (arith, f.others)) in
        ap₂ (λ (s t : Bool). sums_joined (or_refuse s R.Many (given (x, m))) (or_refuse t R.Many (given (y, n)))) fx fy
        ∙ rw (
          le-leb (x.scored + y.scored) 1000000 f.scored,
          le-leb (x.apart + y.apart) 1000000 f.apart,
          lt-ltb (x.sum + y.sum) (2 ^ 64) (small f.scored),
          lt-ltb (m + n) (2 ^ 64) f.others,
        )
    go false e = parts (few x.scored x.apart m) (few y.scored y.apart n)
      where
        parts : (s t : Bool) → sums_joined (or_refuse s R.Many (given (x, m))) (or_refuse t R.Many (given (y, n))) ≡ refusal_of R.Many
        parts false t = refl
        parts true false = refl
        parts true true =
            four (leb (x.scored + y.scored) 1000000) (leb (x.apart + y.apart) 1000000) (ltb (x.sum + y.sum) (2 ^ 64)) (ltb (m + n) (2 ^ 64))
            (totals_of_both x y, m + n) e

-- ---- what is counted of the lines of both
shown_both : (ls ms : List (List ℕ)) → shown_in (ls ++ ms) ≡ shown_in ls ++ shown_in ms
unfolding shown_in
shown_both [] ms = refl
shown_both (l ∷ ls) ms = go (line_of l) (shown_both ls ms)
  where
    go : (a : Answer Line) → shown_in (ls ++ ms) ≡ shown_in ls ++ shown_in ms → shown_before a (shown_in (ls ++ ms)) ≡ shown_before a (shown_in ls) ++ shown_in ms
    go (given x) e = ap (shown_before (given x)) e
    go (refused n v) e = e

fresh_both : (ls ms : List LoadedLine) → fresh_of (ls ++ ms) ≡ totals_of_both (fresh_of ls) (fresh_of ms)
unfolding scored_in apart_in sum_in
fresh_both [] ms = rw (zero-add (scored_in ms), zero-add (apart_in ms), zero-add (sum_in ms))
fresh_both (l ∷ ls) ms =
    let e = fresh_both ls ms in
    let s : is_scored l.answer + scored_in (ls ++ ms) ≡ is_scored l.answer + scored_in ls + scored_in ms =
    (let k : scored_in (ls ++ ms) ≡ scored_in ls + scored_in ms = ap (λ (t : Totals). t.scored) e in omega arith) in
    let a : is_apart l.answer + apart_in (ls ++ ms) ≡ is_apart l.answer + apart_in ls + apart_in ms =
    (let k : apart_in (ls ++ ms) ≡ apart_in ls + apart_in ms = ap (λ (t : Totals). t.apart) e in omega arith) in
    let q : squared l.side l.answer l.half + sum_in (ls ++ ms) ≡ squared l.side l.answer l.half + sum_in ls + sum_in ms =
    (let k : sum_in (ls ++ ms) ≡ sum_in ls + sum_in ms = ap (λ (t : Totals). t.sum) e in omega arith) in
    rw (s, a, q)

two : (ls ms : List (List ℕ)) → sums_joined (collection_totals ls) (collection_totals ms) ≡ collection_totals (ls ++ ms)
two ls ms =
    let e : fresh_of (shown_in (ls ++ ms)) ≡ totals_of_both (fresh_of (shown_in ls)) (fresh_of (shown_in ms)) = ap fresh_of (shown_both ls ms)
    ∙ fresh_both (shown_in ls) (shown_in ms) in
    let small : scored_in (shown_in ls) + scored_in (shown_in ms) ≤ 1000000 → sum_in (shown_in ls) + sum_in (shown_in ms) < 2 ^ 64 =
    subst (λ (t : Totals). t.scored ≤ 1000000 → t.sum < 2 ^ 64) e ((fresh_holds (shown_in (ls ++ ms))).small (all_shaped (ls ++ ms))) in
    two_sums (fresh_of (shown_in ls)) (fresh_of (shown_in ms)) (refused_in P.Any ls) (refused_in P.Any ms) small
    ∙ sym (ap₂ told e (refused_both ls ms))

pub sums_of_two : (a b : List ℕ) → SumsOfTwo a b
sums_of_two a b = record { whole = λ e. two (lines_of a) (lines_of b) ∙ ap collection_totals (sym (lines_part a b e)) }

-- ---- any number of parts, after the lines before them
onward : (ls : List (List ℕ)) (parts : List (List ℕ)) → at_line_ends parts ≡ true
    → sums_joined_from (collection_totals ls) (map collected_of parts) ≡ collection_totals (ls ++ lines_of (joined parts))
unfolding sums_joined_from
onward ls [] e = ap collection_totals (sym (append-nil ls) ∙ ap (λ (x : List (List ℕ)). ls ++ x) (sym lines_none))
onward ls (p ∷ ps) e =
    let cut = lines_joined p ps e in
    ap (λ (a : Answer (Totals × ℕ)). sums_joined_from a (map collected_of ps)) (two ls (lines_of p))
    ∙ onward (ls ++ lines_of p) ps cut.1
    ∙ ap collection_totals (append_assoc ls (lines_of p) (lines_of (joined ps)) ∙ ap (λ (x : List (List ℕ)). ls ++ x) (sym cut.0))

before_any : collection_totals [] ≡ given (none, 0)
unfolding shown_in scored_in apart_in sum_in refused_in
before_any = refl

pub sums_of_parts : (parts : List (List ℕ)) → SumsOfParts parts
sums_of_parts parts = record {
  whole = λ e. ap (λ (a : Answer (Totals × ℕ)). sums_joined_from a (map collected_of parts)) (sym before_any) ∙ onward [] parts e;
}
