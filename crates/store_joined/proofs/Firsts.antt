-- The first piece that is refused: of two lists one after the other, and of a list that is numbered from further on. Assumes nothing.
use Rattle.std.proofs.Common.{◌≡◌, ℕ, suc, ◌+◌, ◌<◌, ◌≤◌, Bool, true, false, cond, eqb, ltb, leb, List, [], ◌∷◌, ◌++◌, length, sym, refl, ap, ◌∙◌, le_refl, arith, ltb-false, ltb-true, le-ltb, lt-ltb, ne_eqb, eqb-true, le-leb}
use borrow.Author.Tests.{lt-leb, eqb-false}
use Rattle.refusal.specs.Answer.{Answer, given, refused, or_refuse}
use Rattle.refusal.specs.declared.Refusal.TheVariants as R
use Rattle.line_parse.specs.Line.{Line}
use Rattle.store_record.specs.Record.{piece_says}
use Rattle.store_gather.specs.declared.First.{First}
use Rattle.store_gathered.specs.Gathered.{says_at, or_later, first_refused}

abbrev pub no_first : First
no_first = record { number = 0; refusal = 0 }

abbrev pub many_first : First
many_first = record { number = 10000001; refusal = 22 }

-- none, or from where the numbers begin
pub first_none : (i : ℕ) (ps : List (List ℕ)) → 0 < i → (first_refused i ps).number ≡ 0 → first_refused i ps ≡ no_first
unfolding first_refused
first_none i [] h e = refl
first_none i (p ∷ ps) h e = go (says_at i p) (first_none (i + 1) ps (omega arith)) e
  where
    go : (a : Answer Line) → ((first_refused (i + 1) ps).number ≡ 0 → first_refused (i + 1) ps ≡ no_first)
        → (or_later i a (first_refused (i + 1) ps)).number ≡ 0 → or_later i a (first_refused (i + 1) ps) ≡ no_first
    go (given l) r q = r q
    go (refused n v) r q = absurd (omega arith)

pub first_from_holds : (i : ℕ) (ps : List (List ℕ)) → ((first_refused i ps).number ≡ 0 → ⊥) → i ≤ (first_refused i ps).number
unfolding first_refused
first_from_holds i [] n = absurd (n refl)
first_from_holds i (p ∷ ps) n = go (says_at i p) (first_from_holds (i + 1) ps) n
  where
    go : (a : Answer Line) → (((first_refused (i + 1) ps).number ≡ 0 → ⊥) → i + 1 ≤ (first_refused (i + 1) ps).number)
        → ((or_later i a (first_refused (i + 1) ps)).number ≡ 0 → ⊥) → i ≤ (or_later i a (first_refused (i + 1) ps)).number
    go (given l) r q = let k = r q in omega arith
    go (refused k v) r q = le_refl i

-- of both
pub firsts_both : (i : ℕ) (ps qs : List (List ℕ)) → 0 < i
    → first_refused i (ps ++ qs) ≡ cond (eqb (first_refused i ps).number 0) (first_refused (i + length ps) qs) (first_refused i ps)
unfolding first_refused
firsts_both i [] qs h = ap (λ (n : ℕ). first_refused n qs) (let e : i ≡ i + 0 = omega arith in e)
firsts_both i (p ∷ ps) qs h =
    go (says_at i p) (firsts_both (i + 1) ps qs (omega arith) ∙ ap (λ (n : ℕ). cond (eqb (first_refused (i + 1) ps).number 0) (first_refused n qs)
    (first_refused (i + 1) ps)) on)
  where
    on : i + 1 + length ps ≡ i + suc (length ps)
    on = omega arith

    here : First
    here = first_refused (i + 1) ps

    go : (a : Answer Line) → first_refused (i + 1) (ps ++ qs) ≡ cond (eqb here.number 0) (first_refused (i + suc (length ps)) qs) here
        → or_later i a (first_refused (i + 1) (ps ++ qs)) ≡ cond (eqb (or_later i a here).number 0) (first_refused (i + suc (length ps)) qs) (or_later i a here)
    go (given l) e = e
    go (refused n v) e =
        sym (ap (λ (t : Bool). cond t (first_refused (i + suc (length ps)) qs) (record { number = i; refusal = n })) (ne_eqb i 0 (λ z. omega arith)))

-- ---- numbered from k further on: the same piece, unless the 10,000,001st comes first
abbrev pub moved_on : ℕ → ℕ → First → First
moved_on k past f =
    cond (eqb f.number 0) (cond (leb (past + k) 10000001) no_first many_first)
    (cond (ltb (f.number + k) 10000001) (record { number = f.number + k; refusal = f.refusal }) many_first)

-- the piece that comes first is the 10,000,001st
pub at_most : (k past : ℕ) (f : First) → (f.number ≡ 0 → 10000001 < past + k) → ((f.number ≡ 0 → ⊥) → 10000001 ≤ f.number + k) → many_first ≡ moved_on k past f
at_most k past f p q = go (eqb f.number 0) refl
  where
    go : (t : Bool) → eqb f.number 0 ≡ t
        → many_first ≡ cond t (cond (leb (past + k) 10000001) no_first many_first)
        (cond (ltb (f.number + k) 10000001) (record { number = f.number + k; refusal = f.refusal }) many_first)
    go true e = sym (ap (λ (t : Bool). cond t no_first many_first) (lt-leb (past + k) 10000001 (p (eqb-true f.number 0 e))))
    go false e =
        sym (ap (λ (t : Bool). cond t (record { number = f.number + k; refusal = f.refusal }) many_first)
        (le-ltb (f.number + k) 10000001 (q (eqb-false f.number 0 e))))

pub first_moved : (k i : ℕ) (ps : List (List ℕ)) → 0 < i → i + k ≤ 10000001 → first_refused (i + k) ps ≡ moved_on k (i + length ps) (first_refused i ps)
unfolding first_refused
first_moved k i [] h m =
    let e : i + 0 + k ≤ 10000001 = omega arith in
    sym (ap (λ (t : Bool). cond t no_first many_first) (le-leb (i + 0 + k) 10000001 e))
first_moved k i (p ∷ ps) h m = room (ltb (i + k) 10000001) refl (first_moved k (i + 1) ps (omega arith))
  where
    later : First
    later = first_refused (i + 1) ps

    on : i + k + 1 ≡ i + 1 + k
    on = omega arith

    over : i + 1 + length ps ≡ i + suc (length ps)
    over = omega arith

    -- what the piece says, below the bound for both numbers
    here : (a : Answer Line) → i + k < 10000001 → first_refused (i + k + 1) ps ≡ moved_on k (i + suc (length ps)) later
        → or_later (i + k) a (first_refused (i + k + 1) ps) ≡ moved_on k (i + suc (length ps)) (or_later i a later)
    here (given l) b e = e
    here (refused n v) b e =
        sym (ap (λ (t : Bool). cond t (cond (leb (i + suc (length ps) + k) 10000001) no_first many_first)
        (cond (ltb (i + k) 10000001) (record { number = i + k; refusal = n }) many_first)) (ne_eqb i 0 (λ z. omega arith))
        ∙ ap (λ (t : Bool). cond t (record { number = i + k; refusal = n }) many_first) (lt-ltb (i + k) 10000001 b))

    room : (t : Bool) → ltb (i + k) 10000001 ≡ t → (i + 1 + k ≤ 10000001 → first_refused (i + 1 + k) ps ≡ moved_on k (i + 1 + length ps) later)
        → or_later (i + k) (or_refuse t R.Many (piece_says p)) (first_refused (i + k + 1) ps) ≡ moved_on k (i + suc (length ps)) (or_later i (says_at i p) later)
    room true e r =
        let b = ltb-true (i + k) 10000001 e in
        let low : ltb i 10000001 ≡ true = lt-ltb i 10000001 (omega arith) in
        here (piece_says p) b (ap (λ (n : ℕ). first_refused n ps) on ∙ r (omega arith) ∙ ap (λ (n : ℕ). moved_on k n later) over)
        ∙ sym (ap (λ (t : Bool). moved_on k (i + suc (length ps)) (or_later i (or_refuse t R.Many (piece_says p)) later)) low)
    room false e r =
        let b = ltb-false (i + k) 10000001 e in
        let at : i + k ≡ 10000001 = omega arith in
        ap (λ (n : ℕ). record { number = n; refusal = 22 }) at
        ∙ at_most k (i + suc (length ps)) (or_later i (says_at i p) later) (λ z. omega arith) (λ z. let q = first_from_holds i (p ∷ ps) z in omega arith)
