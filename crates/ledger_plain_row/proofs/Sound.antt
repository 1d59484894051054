-- What is told at the front of a text is the row of a loaded line. Assumes nothing.
use mathlib.Core.Path.{◌≡◌, refl, sym, ap, ap₂, subst, ◌∙◌}
use mathlib.Core.Bool.{Bool, true, false, cond, ◌&&◌, ◌||◌, false≢true, true≢false}
use mathlib.Core.List.{List, [], ◌∷◌, ◌++◌, append_assoc}
use Prim.Native.Nat.{ℕ, zero, suc, ◌+◌, ◌-◌, ◌≤◌, ◌<◌}
use native.Mathlib.Omega.{arith}
use lib.Dec.{T, eqb, leb}
use lib.ListN.{length, take, drop, get_or, length-append, take-append-drop}
use lib.Seq.{drop-append_seam, drop-append-add, take_at}
use borrow.Author.Tests.{eq-eqb, eqb-true, leb-true}
use Rattle.laws.proofs.Truth.{T_true, true_T, and_l, and_r, and_i}
use Rattle.text_in.specs.Text.{text, every}
use Rattle.text_out.specs.Text.{digits_up_to, decimal_of}
use Rattle.text_out.proofs.Spelled.{length_below}
use Rattle.line_cut.specs.Lines.{lf, ends}
use Rattle.line_cut.proofs.Counted.{ends_append}
use Rattle.line_tail.specs.Words.{is_figure, starts_with, decimal_from}
use Rattle.line_again.proofs.Decimals.{own_alone, own_more}
use Rattle.ledger_row.specs.Row.{spaced}
use Rattle.ledger_joined_row.specs.Rows.{behind_number, is_score, is_word, is_shown, says_refused, says_loaded, after_number, is_row}
use Rattle.ledger_joined_row.proofs.Own.{plus_own, minus_own, half_kind, behind_own, said_own, row_own}
use Rattle.ledger_plain_row.specs.Plain.{figures_of, number_in, number_read, sign_in, is_points, score_in, is_half, half_between, is_own, no_row, plain_in}
use Rattle.ledger_plain_row.specs.declared.PlainRow.{PlainRow}
use Rattle.ledger_plain_row.proofs.Laws.{both_true}

-- ---- figures at the front
figures_front : (k : ℕ) (s : List ℕ) → take (length (figures_of k s)) s ≡ figures_of k s
unfolding figures_of
figures_front zero s = refl
figures_front (suc k) [] = refl
figures_front (suc k) (b ∷ s) = go (is_figure b) (figures_front k s)
  where
    go : (t : Bool) → take (length (figures_of k s)) s ≡ figures_of k s → take (length (cond t (b ∷ figures_of k s) [])) (b ∷ s) ≡ cond t (b ∷ figures_of k s) []
    go true e = ap (λ (l : List ℕ). b ∷ l) e
    go false e = refl

figures_each : (k : ℕ) (s : List ℕ) → T (every is_figure (figures_of k s))
unfolding figures_of every
figures_each zero s = tt
figures_each (suc k) [] = tt
figures_each (suc k) (b ∷ s) = go (is_figure b) refl (figures_each k s)
  where
    go : (t : Bool) → is_figure b ≡ t → T (every is_figure (figures_of k s)) → T (every is_figure (cond t (b ∷ figures_of k s) []))
    go true e m = and_i (is_figure b) (every is_figure (figures_of k s)) (true_T e) m
    go false e m = tt

figures_few : (k : ℕ) (s : List ℕ) → length (figures_of k s) ≤ k
unfolding figures_of
figures_few zero s = omega arith
figures_few (suc k) [] = omega arith
figures_few (suc k) (b ∷ s) = go (is_figure b) (figures_few k s)
  where
    go : (t : Bool) → length (figures_of k s) ≤ k → length (cond t (b ∷ figures_of k s) []) ≤ suc k
    go true h = omega arith
    go false h = omega arith

no_lf : (b : ℕ) → T (is_figure b) → eqb b lf ≡ false
no_lf b t = go (eqb b lf) refl
  where
    low : 48 ≤ b
    low = leb-true 48 b (T_true (leb 48 b) (and_l (leb 48 b) (leb b 57) t))

    no : b ≡ 10 → ⊥
    no q = omega (arith, low)

    go : (x : Bool) → eqb b lf ≡ x → x ≡ false
    go false e = refl
    go true e = absurd (no (eqb-true b 10 e))

figures_open : (s : List ℕ) → T (every is_figure s) → ends s ≡ 0
unfolding every ends
figures_open [] m = refl
figures_open (b ∷ s) m =
    ap (λ (x : Bool). cond x (ends s + 1) (ends s)) (no_lf b (and_l (is_figure b) (every is_figure s) m))
    ∙ figures_open s (and_r (is_figure b) (every is_figure s) m)

-- ---- a number at the front: the decimal of what it comes to
record Own (s : List ℕ) : Type 0 where
  front : take (length (number_in s)) s ≡ number_in s
  unended : ends (number_in s) ≡ 0
  few : length (number_in s) ≤ 18
  decimal : 1 ≤ length (number_in s) → decimal_of (decimal_from 0 (number_in s)) ≡ number_in s

own_is : (s : List ℕ) → Own s
unfolding figures_of ends
own_is [] = record { front = refl; unended = refl; few = omega arith; decimal = λ h. absurd (no h) }
  where
    no : 1 ≤ 0 → ⊥
    no h = omega arith
own_is (b ∷ s) = record {
  front = fronted (eqb b 48) refl;
  unended = opened (eqb b 48);
  few = few_of (eqb b 48);
  decimal = of_zero (eqb b 48) refl;
}
  where
    fronted : (t : Bool) → eqb b 48 ≡ t → take (length (cond t (text "0") (figures_of 18 (b ∷ s)))) (b ∷ s) ≡ cond t (text "0") (figures_of 18 (b ∷ s))
    fronted true e = ap (λ (x : ℕ). x ∷ []) (eqb-true b 48 e)
    fronted false e = figures_front 18 (b ∷ s)

    opened : (t : Bool) → ends (cond t (text "0") (figures_of 18 (b ∷ s))) ≡ 0
    opened true = refl
    opened false = figures_open (figures_of 18 (b ∷ s)) (figures_each 18 (b ∷ s))

    few_of : (t : Bool) → length (cond t (text "0") (figures_of 18 (b ∷ s))) ≤ 18
    few_of true = omega arith
    few_of false = figures_few 18 (b ∷ s)

    of_figure : eqb b 48 ≡ false → (t : Bool) → is_figure b ≡ t → 1 ≤ length (cond t (b ∷ figures_of 17 s) [])
        → decimal_of (decimal_from 0 (cond t (b ∷ figures_of 17 s) [])) ≡ cond t (b ∷ figures_of 17 s) []
    of_figure n true e h =
        own_more b (figures_of 17 s) (true_T e) (λ q. true≢false (sym (eq-eqb b 48 q) ∙ n)) (figures_each 17 s) (omega (arith, figures_few 17 s))
    of_figure n false e h = absurd (no h)
      where
        no : 1 ≤ 0 → ⊥
        no h = omega arith

    of_zero : (t : Bool) → eqb b 48 ≡ t → 1 ≤ length (cond t (text "0") (figures_of 18 (b ∷ s)))
        → decimal_of (decimal_from 0 (cond t (text "0") (figures_of 18 (b ∷ s)))) ≡ cond t (text "0") (figures_of 18 (b ∷ s))
    of_zero true e h = own_alone 48 tt
    of_zero false e h = of_figure e (is_figure b) refl h

-- the front and what follows it
own_then : (s : List ℕ) → number_in s ++ drop (length (number_in s)) s ≡ s
own_then s = ap (λ (l : List ℕ). l ++ drop (length (number_in s)) s) (sym (own_is s).front) ∙ take-append-drop (length (number_in s)) s

-- ---- a score and LF
starts_then : (byte : ℕ) (s : List ℕ) → starts_with byte s ≡ true → s ≡ byte ∷ drop 1 s
starts_then byte [] e = absurd (false≢true e)
starts_then byte (b ∷ s) e = ap (λ (x : ℕ). x ∷ s) (eqb-true b byte e)

record Shown (s : List ℕ) : Type 0 where
  score : List ℕ
  is : is_score score ≡ true
  few : length score ≤ 6
  unended : ends score ≡ 0
  size : score_in s ≡ length score + 1
  then : s ≡ score ++ (10 ∷ drop (score_in s) s)

-- by the sign
module _ (s : List ℕ) where
  after_sign : (sign : ℕ) → sign ≤ 1 → (front : List ℕ) → length front ≡ sign → s ≡ front ++ drop sign s
      → is_points sign (number_read (number_in (drop sign s))) ≡ true → starts_with 10 (drop (length (number_in (drop sign s))) (drop sign s)) ≡ true
      → score_in s ≡ sign + length (number_in (drop sign s)) + 1
      → ((n : ℕ) → sign ≤ n → n ≤ 32767 → is_score (front ++ decimal_of n) ≡ true) → ends front ≡ 0 → Shown s
  after_sign sign one front size whole p e is good plain =
      let t : List ℕ = drop sign s in
      let own : List ℕ = number_in t in
      let o = own_is t in
      let q = both_true (leb 1 (length own)) (leb sign (decimal_from 0 own) && leb (decimal_from 0 own) 32767) p in
      let v = both_true (leb sign (decimal_from 0 own)) (leb (decimal_from 0 own) 32767) q.1 in
      let few = leb-true (decimal_from 0 own) 32767 v.1 in
      let d = o.decimal (leb-true 1 (length own) q.0) in
      let k = length-append front own in
      let five : length own ≤ 5 = subst (λ (l : List ℕ). length l ≤ 5) d (length_below 20 4 (decimal_from 0 own) (omega (arith, few))) in
      let at : score_in s ≡ length (front ++ own) + 1 = omega (arith, is, size) in
      let all : s ≡ (front ++ own) ++ drop (length own) t =
      whole ∙ ap (λ (l : List ℕ). front ++ l) (sym (own_then t)) ∙ sym (append_assoc front own (drop (length own) t)) in
      let next : drop (length own) t ≡ 10 ∷ drop 1 (drop (length own) t) = starts_then 10 (drop (length own) t) e in
      record {
        score = front ++ own;
        is = ap (λ (l : List ℕ). is_score (front ++ l)) (sym d) ∙ good (decimal_from 0 own) (leb-true sign (decimal_from 0 own) v.0) few;
        few = omega (arith, size);
        unended = ends_append front own ∙ ap₂ ◌+◌ plain o.unended;
        size = at;
        then = all ∙ ap (λ (l : List ℕ). (front ++ own) ++ l) (next ∙ ap (λ (l : List ℕ). 10 ∷ l) (rest_is (front ++ own) (drop (length own) t) all at));
      }
    where
      rest_is : (a b : List ℕ) → s ≡ a ++ b → score_in s ≡ length a + 1 → drop 1 b ≡ drop (score_in s) s
      rest_is a b w k = sym (ap₂ (λ (j : ℕ) (l : List ℕ). drop j l) k w ∙ drop-append-add a b 1)

score_at : List ℕ → ℕ → ℕ
score_at s sign = cond (is_points sign (number_read (number_in (drop sign s))) && starts_with 10 (drop (length (number_in (drop sign s))) (drop sign s)))
    (sign + length (number_in (drop sign s)) + 1) 0

score_at_holds : (s : List ℕ) (sign : ℕ) → sign_in s ≡ sign → score_in s ≡ score_at s sign
unfolding score_in score_at
score_at_holds s sign e = ap (score_at s) e

some_both : (a b : Bool) (n : ℕ) → (cond (a && b) n 0 ≡ 0 → ⊥) → (a ≡ true) × (b ≡ true)
some_both true true n h = (refl, refl)
some_both true false n h = absurd (h refl)
some_both false b n h = absurd (h refl)

shown_at : (s : List ℕ) (sign : ℕ) → sign ≤ 1 → sign_in s ≡ sign → (front : List ℕ) → length front ≡ sign → s ≡ front ++ drop sign s
    → ((n : ℕ) → sign ≤ n → n ≤ 32767 → is_score (front ++ decimal_of n) ≡ true) → ends front ≡ 0 → (score_in s ≡ 0 → ⊥) → Shown s
unfolding score_at
shown_at s sign one e front size whole good plain h =
    let a : Bool = is_points sign (number_read (number_in (drop sign s))) in
    let b : Bool = starts_with 10 (drop (length (number_in (drop sign s))) (drop sign s)) in
    let n : ℕ = sign + length (number_in (drop sign s)) + 1 in
    let q = some_both a b n (λ z. h (score_at_holds s sign e ∙ z)) in
    after_sign s sign one front size whole q.0 q.1 (score_at_holds s sign e ∙ ap₂ (λ (x y : Bool). cond (x && y) n 0) q.0 q.1) good plain

shown_is : (s : List ℕ) → (score_in s ≡ 0 → ⊥) → Shown s
unfolding ends
shown_is s h = go (starts_with 45 s) refl
  where
    go : (t : Bool) → starts_with 45 s ≡ t → Shown s
    go true e = shown_at s 1 (omega arith) (ap (λ (b : Bool). cond b 1 0) e) (45 ∷ []) refl (starts_then 45 s e) (λ n l u. minus_own n l (omega arith)) refl h
    go false e = shown_at s 0 (omega arith) (ap (λ (b : Bool). cond b 1 0) e) [] refl refl (λ n l u. plus_own n u) refl h

-- ---- half points
half_of : (d : ℕ) → d < 3 → (spaced d ≡ (48 + d) ∷ (32 ∷ [])) × (ends ((48 + d) ∷ (32 ∷ [])) ≡ 0)
unfolding digits_up_to ends
half_of zero h = (refl, refl)
half_of (suc zero) h = (refl, refl)
half_of (suc (suc zero)) h = (refl, refl)
half_of (suc (suc (suc d))) h = absurd (no h)
  where
    no : suc (suc (suc d)) < 3 → ⊥
    no q = omega arith

three : (l : List ℕ) → 3 ≤ length l → l ≡ get_or l 0 0 ∷ (get_or l 1 0 ∷ (get_or l 2 0 ∷ drop 3 l))
three [] h = absurd (no h)
  where
    no : 3 ≤ 0 → ⊥
    no q = omega arith
three (a ∷ []) h = absurd (no h)
  where
    no : 3 ≤ 1 → ⊥
    no q = omega arith
three (a ∷ (b ∷ [])) h = absurd (no h)
  where
    no : 3 ≤ 2 → ⊥
    no q = omega arith
three (a ∷ (b ∷ (c ∷ l))) h = refl

record Half (said : List ℕ) : Type 0 where
  half : ℕ
  few : half < 3
  then : said ≡ 32 ∷ ((48 + half) ∷ (32 ∷ drop 3 said))

half_is : (said : List ℕ) → half_between said ≡ true → Half said
half_is said e =
    let b : ℕ = get_or said 1 0 in
    let p = both_true (leb 3 (length said)) _ e in
    let q = both_true (eqb (get_or said 0 0) 32) (is_half b && eqb (get_or said 2 0) 32) p.1 in
    let r = both_true (is_half b) (eqb (get_or said 2 0) 32) q.1 in
    let l = both_true (leb 48 b) (leb b 50) r.0 in
    let low = leb-true 48 b l.0 in
    let high = leb-true b 50 l.1 in
    record {
      half = b - 48;
      few = omega (arith, low, high);
      then =
          three said (leb-true 3 (length said) p.0)
          ∙ bytes (eqb-true (get_or said 0 0) 32 q.0) (let z : b ≡ 48 + (b - 48) = omega (arith, low) in z) (eqb-true (get_or said 2 0) 32 r.1) (drop 3 said);
    }
  where
    bytes : {x y z u v w : ℕ} → x ≡ u → y ≡ v → z ≡ w → (t : List ℕ) → x ∷ (y ∷ (z ∷ t)) ≡ u ∷ (v ∷ (w ∷ t))
    bytes a b d t = cc

-- ---- THE ROW
space_open : ends (text " ") ≡ 0
unfolding ends
space_open = refl

pub record ToldRow (number : ℕ) (s : List ℕ) (r : PlainRow) : Type 0 where
  pub body : List ℕ
  pub row : take r.size s ≡ body ++ (10 ∷ [])
  pub unended : ends body ≡ 0
  pub size : r.size ≡ length body + 1
  pub short : r.size ≤ 32
  pub fits : r.size ≤ length s
  pub within : r.front ≤ r.size
  pub is_row_holds : is_row number (take r.size s) ≡ true
  pub loaded : says_refused (after_number number (take r.size s)) ≡ false
  pub behind : drop r.front (take r.size s) ≡ text " " ++ behind_number number (take r.size s)

module _ (number : ℕ) (s : List ℕ) (own : is_own number (number_read (number_in s)) ≡ true) (half : half_between (drop (length (number_in s)) s) ≡ true)
    (some : leb 1 (score_in (drop 3 (drop (length (number_in s)) s))) ≡ true) where
  told_is_row_at : Half (drop (length (number_in s)) s) → Shown (drop 3 (drop (length (number_in s)) s))
      → ToldRow number s (record { front = length (number_in s); size = length (number_in s) + 3 + score_in (drop 3 (drop (length (number_in s)) s)) })
  told_is_row_at h w =
      let t : List ℕ = drop 3 (drop (length (number_in s)) s) in
      let o = own_is s in
      let q = both_true (leb 1 (length (number_in s))) (eqb (decimal_from 0 (number_in s)) number) own in
      let d : decimal_of number ≡ number_in s =
      ap decimal_of (sym (eqb-true (decimal_from 0 (number_in s)) number q.1)) ∙ o.decimal (leb-true 1 (length (number_in s)) q.0) in
      let k : ℕ = h.half in
      let tail : List ℕ = (48 + k) ∷ (32 ∷ w.score) in
      let rest : List ℕ = drop (score_in t) t in
      let sp = half_of k h.few in
      let kinds = half_kind k w.score h.few (shown_score w.score w.is) in
      let same : spaced k ++ w.score ≡ tail = ap (λ (l : List ℕ). l ++ w.score) sp.0 in
      let refused : says_refused tail ≡ false = sym (ap says_refused same) ∙ kinds.0 in
      let loaded : says_loaded tail ≡ true = sym (ap says_loaded same) ∙ kinds.1 in
      let whole : s ≡ (spaced number ++ (tail ++ text "\n")) ++ rest =
      sym (own_then s) ∙ ap₂ ◌++◌ (sym d) (h.then ∙ ap (λ (l : List ℕ). 32 ∷ ((48 + k) ∷ (32 ∷ l))) w.then)
      ∙ sym (append_assoc (decimal_of number) (text " ") ((48 + k) ∷ (32 ∷ (w.score ++ (10 ∷ rest)))))
      ∙ ap (λ (l : List ℕ). spaced number ++ ((48 + k) ∷ (32 ∷ l))) (sym (append_assoc w.score (text "\n") rest))
      ∙ sym (append_assoc (spaced number) (tail ++ text "\n") rest) in
      let a = length-append (decimal_of number) (text " ") in
      let b = length-append (spaced number) (tail ++ text "\n") in
      let c = length-append w.score (text "\n") in
      let len = ap length d in
      let size : length (spaced number ++ (tail ++ text "\n")) ≡ length (number_in s) + 3 + score_in t = omega (arith, w.size) in
      let row : take (length (number_in s) + 3 + score_in t) s ≡ spaced number ++ (tail ++ text "\n") =
      ap (take (length (number_in s) + 3 + score_in t)) whole ∙ take_at (spaced number ++ (tail ++ text "\n")) rest (length (number_in s) + 3 + score_in t) size in
      let lens = ap length whole ∙ length-append (spaced number ++ (tail ++ text "\n")) rest in
      let bodies = length-append (spaced number) tail in
      record {
        body = spaced number ++ tail;
        row = row ∙ sym (append_assoc (spaced number) tail (text "\n"));
        unended = ends_append (spaced number) tail
            ∙ ap₂ ◌+◌ (ends_append (decimal_of number) (text " ") ∙ ap₂ ◌+◌ (ap ends d ∙ o.unended) space_open)
            (ends_append ((48 + k) ∷ (32 ∷ [])) w.score ∙ ap₂ ◌+◌ sp.1 w.unended);
        size = omega (arith, size);
        short = omega (arith, size, o.few, w.few);
        fits = omega (arith, size, lens);
        within = omega arith;
        is_row_holds = ap (is_row number) row ∙ row_own number tail (omega (arith, size, o.few, w.few)) (ap₂ ◌||◌ refused loaded);
        loaded = ap (λ (x : List ℕ). says_refused (after_number number x)) row ∙ ap says_refused (said_own number tail) ∙ refused;
        behind = ap₂ (λ (j : ℕ) (x : List ℕ). drop j x) (sym len) (row ∙ append_assoc (decimal_of number) (text " ") (tail ++ text "\n"))
            ∙ drop-append_seam (decimal_of number) (text " " ++ (tail ++ text "\n"))
            ∙ ap (λ (x : List ℕ). text " " ++ x) (sym (ap (behind_number number) row ∙ behind_own number tail));
      }
    where
      shown_score : (x : List ℕ) → is_score x ≡ true → is_shown x ≡ true
      shown_score x e = go (is_word x)
        where
          go : (v : Bool) → (v || is_score x) ≡ true
          go true = refl
          go false = e

  at_row : ToldRow number s (record { front = length (number_in s); size = length (number_in s) + 3 + score_in (drop 3 (drop (length (number_in s)) s)) })
  at_row =
      told_is_row_at (half_is (drop (length (number_in s)) s) half)
      (shown_is (drop 3 (drop (length (number_in s)) s)) (λ z. no (leb-true 1 (score_in (drop 3 (drop (length (number_in s)) s))) some) z))
    where
      no : {k : ℕ} → 1 ≤ k → k ≡ 0 → ⊥
      no a b = omega arith

pub told_is_row : (number : ℕ) (s : List ℕ) (r : PlainRow) → r ≡ plain_in number s → (r.size ≡ 0 → ⊥) → ToldRow number s r
unfolding plain_in
told_is_row number s r e h =
    go (is_own number (number_read (number_in s))) (half_between (drop (length (number_in s)) s)) (leb 1 (score_in (drop 3 (drop (length (number_in s)) s))))
    refl refl refl e
  where
    row : PlainRow
    row = record { front = length (number_in s); size = length (number_in s) + 3 + score_in (drop 3 (drop (length (number_in s)) s)) }

    no : r ≡ no_row → ⊥
    no q = h (ap (λ (x : PlainRow). x.size) q)

    go : (a b c : Bool) → is_own number (number_read (number_in s)) ≡ a → half_between (drop (length (number_in s)) s) ≡ b
        → leb 1 (score_in (drop 3 (drop (length (number_in s)) s))) ≡ c
        → r ≡ cond (a && (b && c)) row no_row → ToldRow number s r
    go true true true p q o w = subst (ToldRow number s) (sym w) (at_row number s p q o)
    go true true false p q o w = absurd (no w)
    go true false c p q o w = absurd (no w)
    go false b c p q o w = absurd (no w)
