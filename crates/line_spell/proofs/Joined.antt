-- One text after another, and the ranks of a board one below the other. Assumes nothing.
use mathlib.Core.Path.{◌≡◌, refl, sym, ap, subst, ◌∙◌}
use mathlib.Core.List.{List, [], ◌∷◌, ◌++◌, append_assoc}
use Prim.Native.Nat.{ℕ, zero, suc, ◌+◌, ◌-◌, ◌*◌, ◌≤◌, ◌<◌}
use native.Mathlib.Omega.{arith}
use lib.ListN.{length, take, drop, set, length-append, length-set, length-drop, drop_of_length-le}
use lib.Seq.{drop-drop, take_all, length-take-le}
use Rattle.text_out.specs.Text.{Wrote, Adds, after_of}
use Rattle.text_out.proofs.Wrote.{wrote_none, wrote_more, with_room}
use Rattle.text_out.proofs.Added.{adds_to, adds_length, adds_front}
use Rattle.text_in.specs.Text.{slash}
use Rattle.line_parse.specs.Line.{sides, results}
use Rattle.line_text.specs.Spelt.{rank_text, ranks_text, placement}
use Rattle.line_text.specs.Lines.{text_at}
use Rattle.line_text.proofs.Lengths.{rank_length}

pub wrote_then : {old mid new : List ℕ} {at a b : ℕ} {t u : List ℕ} → length mid ≡ length old → Wrote old mid at a t → Wrote mid new a b u
    → Wrote old new at b (t ++ u)
wrote_then {old} {mid} {new} {at} {a} {b} {t} {u} l p q =
    let far : a + (b - a) ≡ b = omega (arith, q.to) in
    record {
      to = omega (arith, p.to, q.to, length-append t u);
      fits = omega (arith, q.fits);
      front = q.front ∙ ap (λ (x : List ℕ). x ++ u) p.front ∙ append_assoc (take at old) t u;
      back =
          q.back ∙ ap (λ (n : ℕ). drop n mid) (sym far) ∙ sym (drop-drop (b - a) a mid) ∙ ap (drop (b - a)) p.back
          ∙ drop-drop (b - a) a old ∙ ap (λ (n : ℕ). drop n old) far;
    }

-- what was written was added
wrote_adds : {old new : List ℕ} {at r : ℕ} {text : List ℕ} → Wrote old new at r text → Adds old at text new r
wrote_adds {old} {new} {at} {r} {text} w =
    let a = with_room old new at r text w in record { place = ap (λ (l : List ℕ). after_of l at) a.0; buffer = a.1 }

-- what was made at the front of a buffer with room for it
module _ {old new : List ℕ} {r : ℕ} {text : List ℕ} (a : Adds old 0 text new r) (room : length text ≤ length old) where
  from_front : 0 + length text ≤ length old
  from_front = omega (arith, room)

  pub made_within_holds : r ≤ length new
  made_within_holds = omega (arith, adds_to a from_front, adds_length a from_front)

  pub made_long : r ≡ length (take r new)
  made_long = sym (length-take-le r new made_within_holds)

  pub made_text : take r new ≡ text
  made_text = adds_front a from_front

-- ---- a number that stands for no side, and one for no result
pub no_side : (side : ℕ) → (side ≡ 0 → ⊥) → (side ≡ 1 → ⊥) → text_at sides side ≡ []
no_side zero a b = absurd (a refl)
no_side (suc zero) a b = absurd (b refl)
no_side (suc (suc n)) a b = refl

pub no_result : (half : ℕ) → (half ≡ 0 → ⊥) → (half ≡ 1 → ⊥) → (half ≡ 2 → ⊥) → text_at results half ≡ []
no_result zero a b c = absurd (a refl)
no_result (suc zero) a b c = absurd (b refl)
no_result (suc (suc zero)) a b c = absurd (c refl)
no_result (suc (suc (suc n))) a b c = refl

-- ---- the squares of a rank, where the board has none of them, some, or all
module _ (board : List ℕ) (from : ℕ) where
  pub none_there : length board < from → [] ≡ take 8 (drop from board)
  none_there h = sym (ap (take 8) (drop_of_length-le board (let q : length board ≤ from = omega arith in q)))

  all_of : take (length board - from) (drop from board) ≡ drop from board
  all_of = take_all (length board - from) (drop from board) (omega (arith, length-drop from board))

  pub some_there : length (take (length board - from) (drop from board)) < 8 → take (length board - from) (drop from board) ≡ take 8 (drop from board)
  some_there h = all_of ∙ sym (take_all 8 (drop from board) (omega (arith, ap length all_of)))

  pub eight_there : 8 ≤ length (take (length board - from) (drop from board)) → length (take 8 (take (length board - from) (drop from board))) ≡ 8
  eight_there h = length-take-le 8 (take (length board - from) (drop from board)) h

  pub all_there : take 8 (take (length board - from) (drop from board)) ≡ take 8 (drop from board)
  all_there = ap (take 8) all_of

-- ---- the ranks: `rank` more are to come below this one
pub record Down (board old line : List ℕ) (end rank : ℕ) : Type 0 where
  pub text : List ℕ
  pub low : rank ≤ 7
  pub size : length line ≡ length old
  pub wrote : Wrote old line 0 end text
  pub left : placement board ≡ text ++ ranks_text rank board
  pub room : end + (9 * rank + 8) ≤ 71

pub down_first : (board old : List ℕ) → 71 ≤ length old → Down board old old 0 7
down_first board old h = record { text = []; low = omega arith; size = refl; wrote = wrote_none old 0 (omega arith); left = refl; room = omega arith }

module _ (board old line : List ℕ) (h : 71 ≤ length old) (new : List ℕ) (end a : ℕ) (l : length new ≡ length line) where
  -- one more rank and a `/`
  pub down_room : (rank : ℕ) → 0 < rank → Down board old line end rank → Wrote line new end a (rank_text rank board) → a < length new
  down_room rank p d w = omega (arith, d.room, w.to, rank_length rank board, d.size)

  down : (k : ℕ) → Down board old line end (suc k) → Wrote line new end a (rank_text (suc k) board) → Down board old (set new a 47) (a + 1) k
  unfolding ranks_text
  down k d w =
      let both = wrote_then d.size d.wrote w in
      let t : List ℕ = d.text ++ rank_text (suc k) board in
      let sized : length new ≡ length old = l ∙ d.size in
      record {
        text = t ++ (47 ∷ []);
        low = omega (arith, d.low);
        size = length-set new a 47 ∙ sized;
        wrote = wrote_more old new 0 a t 47 sized (omega (arith, down_room (suc k) (omega arith) d w, sized)) both;
        left =
            d.left ∙ sym (append_assoc d.text (rank_text (suc k) board) (slash ∷ ranks_text k board))
            ∙ sym (append_assoc t (47 ∷ []) (ranks_text k board));
        room = omega (arith, d.room, w.to, rank_length (suc k) board);
      }

  pub down_again : (rank : ℕ) → 0 < rank → Down board old line end rank → Wrote line new end a (rank_text rank board)
      → Down board old (set new a 47) (a + 1) (rank - 1)
  down_again (suc k) p d w = subst (λ (n : ℕ). Down board old (set new a 47) (a + 1) n) (let q : k ≡ suc k - 1 = omega arith in q) (down k d w)
  down_again zero p d w = absurd (omega arith)

  pub down_last : (rank : ℕ) → rank ≤ 0 → Down board old line end rank → Wrote line new end a (rank_text 0 board) → Adds old 0 (placement board) new a
  unfolding ranks_text
  down_last zero p d w = wrote_adds (subst (λ (t : List ℕ). Wrote old new 0 a t) (sym d.left) (wrote_then d.size d.wrote w))
  down_last (suc k) p d w = absurd (omega arith)
