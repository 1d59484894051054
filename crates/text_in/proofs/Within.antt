-- What stands before a byte, and what is left when a text is trimmed, are parts of the text; a text is cut at its first mark. Assumes nothing.
use mathlib.Core.Path.{◌≡◌, refl, sym, ap, ◌∙◌}
use mathlib.Core.Bool.{Bool, true, false, cond}
use mathlib.Core.List.{List, [], ◌∷◌, ◌++◌, reverse, append_assoc, append-nil, reverse-append, reverse-reverse}
use Prim.Native.Nat.{ℕ}
use lib.Dec.{eqb}
use lib.ListN.{length, take, drop, take-append-drop}
use lib.Seq.{take-append_seam, drop-append_seam}
use borrow.Author.Tests.{eqb-true}
use Rattle.text_in.specs.Text.{is_blank, before, after, without, without_last, trim}
use Rattle.text_in.proofs.Parts.{before_take}

-- the whole is the part with something in front of it and something behind
pub record Within (whole part : List ℕ) : Type 0 where
  pub front : List ℕ
  pub back : List ℕ
  pub is : whole ≡ front ++ (part ++ back)

-- a part of a part
pub inner : {s t u : List ℕ} → Within s t → Within t u → Within s u
inner {s} {t} {u} p q =
    record {
      front = p.front ++ q.front;
      back = q.back ++ p.back;
      is =
          p.is ∙ ap (λ (l : List ℕ). p.front ++ (l ++ p.back)) q.is
          ∙ ap (λ (l : List ℕ). p.front ++ l) (append_assoc q.front (u ++ q.back) p.back
          ∙ ap (λ (l : List ℕ). q.front ++ l) (append_assoc u q.back p.back))
          ∙ sym (append_assoc p.front q.front (u ++ (q.back ++ p.back)));
    }

-- as a program would cut it
pub record Part (whole part : List ℕ) : Type 0 where
  pub from : ℕ
  pub size : ℕ
  pub is : part ≡ take size (drop from whole)

pub cut : {s t : List ℕ} → Within s t → Part s t
cut {s} {t} w =
    record {
      from = length w.front;
      size = length t;
      is = sym (ap (λ (l : List ℕ). take (length t) (drop (length w.front) l)) w.is
          ∙ ap (take (length t)) (drop-append_seam w.front (t ++ w.back)) ∙ take-append_seam t w.back);
    }

pub before_within : (mark : ℕ) (s : List ℕ) → Within s (before mark s)
before_within mark s =
    record {
      front = [];
      back = drop (length (before mark s)) s;
      is = sym (take-append-drop (length (before mark s)) s) ∙ ap (λ (l : List ℕ). l ++ drop (length (before mark s)) s) (before_take mark s);
    }

-- a text is what stands before its first mark, the mark, and what comes after it, where something does
pub cut_at : (mark : ℕ) (s : List ℕ) → (after mark s ≡ [] → ⊥) → before mark s ++ (mark ∷ after mark s) ≡ s
unfolding before after
cut_at mark [] n = absurd (n refl)
cut_at mark (b ∷ s) n = go (λ m. cut_at mark s m) (eqb b mark) refl n
  where
    go : ((after mark s ≡ [] → ⊥) → before mark s ++ (mark ∷ after mark s) ≡ s)
        → (t : Bool) → eqb b mark ≡ t → (cond t s (after mark s) ≡ [] → ⊥) → cond t [] (b ∷ before mark s) ++ (mark ∷ cond t s (after mark s)) ≡ b ∷ s
    go h true e m = ap (λ (x : ℕ). x ∷ s) (sym (eqb-true b mark e))
    go h false e m = ap (λ (l : List ℕ). b ∷ l) (h m)

module _ (test : ℕ → Bool) where
  skipped : (s : List ℕ) → (front : List ℕ) × (s ≡ front ++ without test s)
  unfolding without
  skipped [] = ([], refl)
  skipped (b ∷ s) = go (test b) (skipped s)
    where
      go : (t : Bool) → (front : List ℕ) × (s ≡ front ++ without test s) → (front : List ℕ) × (b ∷ s ≡ front ++ cond t (without test s) (b ∷ s))
      go true h = (b ∷ h.0, ap (λ (l : List ℕ). b ∷ l) h.1)
      go false h = ([], refl)

  pub without_within : (s : List ℕ) → Within s (without test s)
  without_within s =
      record { front = (skipped s).0; back = []; is = (skipped s).1 ∙ ap (λ (l : List ℕ). (skipped s).0 ++ l) (sym (append-nil (without test s))) }

  pub last_within : (s : List ℕ) → Within s (without_last test s)
  unfolding without_last
  last_within s =
      let h = skipped (reverse s) in
      record { front = []; back = reverse h.0; is = sym (reverse-reverse s) ∙ ap reverse h.1 ∙ reverse-append h.0 (without test (reverse s)) }

pub trim_within : (s : List ℕ) → Within s (trim s)
unfolding trim
trim_within s = inner (without_within is_blank s) (last_within is_blank (without is_blank s))
