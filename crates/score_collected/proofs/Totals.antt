-- What is kept, line after line, comes to the totals worked out afresh: a line that found no room is never forgotten. Assumes nothing.
use mathlib.Core.Path.{◌≡◌, refl, sym, ap, ◌∙◌}
use mathlib.Core.Bool.{Bool, true, false, cond, ◌&&◌}
use mathlib.Core.List.{List, [], ◌∷◌}
use Prim.Native.Nat.{ℕ, ◌+◌, ◌^◌, ◌≤◌, ◌<◌}
use native.Mathlib.Omega.{arith}
use lib.Dec.{leb, ltb}
use borrow.Author.Tests.{lt-ltb, le-ltb, ltb-true, ltb-false}
use Rattle.refusal.specs.Answer.{Answer, given, refused, or_refuse, refusal_of}
use Rattle.refusal.specs.declared.Refusal.TheVariants as R
use Rattle.position_boards.specs.Boards.{bitboards_of}
use Rattle.line_parse.specs.Line.{Line, line_of}
use Rattle.line_parse.proofs.Given.{given_spells}
use Rattle.line_cut.specs.Lines.{fold_lines}
use Rattle.ledger_row.specs.Row.{is_loaded}
use Rattle.score.specs.Score.{score_of}
use Rattle.score_errors.specs.Errors.{totals_with}
use Rattle.score_errors.specs.Promises.{none}
use Rattle.score_errors.specs.Collection.{scored_in, apart_in, fresh_of, go_on, add_all, well_loaded}
use Rattle.score_errors.specs.declared.Totals.{Totals}
use Rattle.score_errors.proofs.Fresh.{fresh_holds}
use Rattle.line_profile.specs.declared.Profile.TheVariants as P
use Rattle.ledger_whole.specs.Ledger.{refused_in}
use Rattle.score_collection.specs.Gather.{noted, line_more}
use Rattle.score_collection.specs.Promises.{nothing, outcome_of}
use Rattle.score_collection.specs.declared.Sum.{Sum}
use Rattle.score_collected.specs.Collected.{shown_before, shown_in, collection_totals}

-- ---- what a loaded line shows is in range
pub all_shaped : (ls : List (List ℕ)) → well_loaded (shown_in ls) ≡ true
unfolding well_loaded shown_in
all_shaped [] = refl
all_shaped (l ∷ ls) = go (line_of l) refl (all_shaped ls)
  where
    go : (a : Answer Line) → line_of l ≡ a → well_loaded (shown_in ls) ≡ true → well_loaded (shown_before a (shown_in ls)) ≡ true
    go (given x) e h =
        let s = given_spells l x e in
        rw (lt-ltb x.state.side 2 s.side, lt-ltb x.half 3 s.half) h
    go (refused n v) e h = h

abbrev sum_of : Totals → ℕ → Bool → Sum
sum_of t n full = record { totals = t; refused = n; full = full }

abbrev more : Sum → List ℕ → Sum
more s l = line_more s (line_of l)

-- ---- once a line found no room, it is MANY whatever follows
full_stays : (ls : List (List ℕ)) (t : Totals) (n : ℕ) → outcome_of (fold_lines more (sum_of t n true) ls) ≡ refusal_of R.Many
unfolding fold_lines
full_stays [] t n = refl
full_stays (l ∷ ls) t n = go (line_of l) (full_stays ls)
  where
    go : (a : Answer Line) → ((u : Totals) (k : ℕ) → outcome_of (fold_lines more (sum_of u k true) ls) ≡ refusal_of R.Many)
        → outcome_of (fold_lines more (line_more (sum_of t n true) a) ls) ≡ refusal_of R.Many
    go (refused k v) f = room (ltb (n + 1) (2 ^ 64))
      where
        room : (b : Bool) → outcome_of (fold_lines more (cond b (sum_of t (n + 1) true) (sum_of t n true)) ls) ≡ refusal_of R.Many
        room true = f t (n + 1)
        room false = f t n
    go (given x) f = took (totals_with t x.state.side (score_of (bitboards_of x.board) x.state) x.half)
      where
        took : (a : Answer Totals) → outcome_of (fold_lines more (noted (sum_of t n true) a) ls) ≡ refusal_of R.Many
        took (given u) = f u n
        took (refused k v) = f t n

-- ---- line after line: the lines added, and the refused ones counted
abbrev joined : Answer Totals → ℕ → Answer (Totals × ℕ)
joined (given u) k = or_refuse (ltb k (2 ^ 64)) R.Many (given (u, k))
joined (refused n v) k = refusal_of R.Many

joined_past : (a : Answer Totals) (k : ℕ) → 2 ^ 64 ≤ k → refusal_of R.Many ≡ joined a k
joined_past (given u) k h = sym (ap (λ (t : Bool). or_refuse t R.Many (given (u, k))) (le-ltb k (2 ^ 64) h))
joined_past (refused n v) k h = refl

joined_within : (u : Totals) (k : ℕ) → k < 2 ^ 64 → given (u, k) ≡ joined (given u) k
joined_within u k h = sym (ap (λ (t : Bool). or_refuse t R.Many (given (u, k))) (lt-ltb k (2 ^ 64) h))

on : (ls : List (List ℕ)) (t : Totals) (n : ℕ) → n < 2 ^ 64 → outcome_of (fold_lines more (sum_of t n false) ls)
    ≡ joined (add_all t (shown_in ls)) (n + refused_in P.Any ls)
unfolding add_all shown_in fold_lines refused_in
on [] t n h = joined_within t n h ∙ ap (joined (given t)) (let s : n ≡ n + 0 = omega arith in s)
on (l ∷ ls) t n h = go (line_of l) (on ls)
  where
    go : (a : Answer Line) → ((u : Totals) (k : ℕ) → k < 2 ^ 64 → outcome_of (fold_lines more (sum_of u k false) ls)
        ≡ joined (add_all u (shown_in ls)) (k + refused_in P.Any ls))
        → outcome_of (fold_lines more (line_more (sum_of t n false) a) ls)
        ≡ joined (add_all t (shown_before a (shown_in ls))) (n + (cond (is_loaded a) 0 1 + refused_in P.Any ls))
    go (refused k v) f = room (ltb (n + 1) (2 ^ 64)) refl
      where
        room : (b : Bool) → ltb (n + 1) (2 ^ 64) ≡ b
            → outcome_of (fold_lines more (cond b (sum_of t (n + 1) false) (sum_of t n true)) ls) ≡ joined (add_all t (shown_in ls)) (n + (1 + refused_in P.Any ls))
        room true e =
            f t (n + 1) (ltb-true (n + 1) (2 ^ 64) e) ∙ ap (joined (add_all t (shown_in ls)))
            (let s : n + 1 + refused_in P.Any ls ≡ n + (1 + refused_in P.Any ls) = omega arith in s)
        room false e = full_stays ls t n ∙ joined_past (add_all t (shown_in ls)) (n + (1 + refused_in P.Any ls))
            (past (refused_in P.Any ls) (ltb-false (n + 1) (2 ^ 64) e))
          where
            past : (r : ℕ) → 2 ^ 64 ≤ n + 1 → 2 ^ 64 ≤ n + (1 + r)
            past r q = omega arith
    go (given x) f = took (totals_with t x.state.side (score_of (bitboards_of x.board) x.state) x.half)
      where
        took : (a : Answer Totals) → outcome_of (fold_lines more (noted (sum_of t n false) a) ls)
            ≡ joined (go_on a (λ u. add_all u (shown_in ls))) (n + (0 + refused_in P.Any ls))
        took (given u) = f u n h ∙ ap (joined (add_all u (shown_in ls))) (let s : n + refused_in P.Any ls ≡ n + (0 + refused_in P.Any ls) = omega arith in s)
        took (refused k v) = full_stays ls t n

-- MANY by either count, or by the refused lines
both : (b : Bool) (u : Totals) (k : ℕ) → joined (or_refuse b R.Many (given u)) k ≡ or_refuse (b && ltb k (2 ^ 64)) R.Many (given (u, k))
both true u k = refl
both false u k = refl

pub all_lines : (ls : List (List ℕ)) → outcome_of (fold_lines more nothing ls) ≡ collection_totals ls
all_lines ls =
    on ls none 0 (omega arith)
    ∙ ap (joined (add_all none (shown_in ls))) (let s : 0 + refused_in P.Any ls ≡ refused_in P.Any ls = omega arith in s)
    ∙ ap (λ (a : Answer Totals). joined a (refused_in P.Any ls)) ((fresh_holds (shown_in ls)).totals (all_shaped ls))
    ∙ both (leb (scored_in (shown_in ls)) 1000000 && leb (apart_in (shown_in ls)) 1000000) (fresh_of (shown_in ls)) (refused_in P.Any ls)
