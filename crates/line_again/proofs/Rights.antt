-- Castling rights there and back: what is written is read as the rights, and rights that are read are written by the same letters. Assumes nothing.
use mathlib.Core.Path.{◌≡◌, refl, sym, ap, ◌∙◌}
use mathlib.Core.Logic.{◌⊎◌, inl, inr}
use mathlib.Core.Bool.{Bool, true, false, cond}
use mathlib.Core.List.{List, [], ◌∷◌, ◌++◌, append-nil}
use Prim.Native.Nat.{ℕ}
use Prim.Native.Char.{code}
use native.Mathlib.Omega.{arith}
use lib.Dec.{T, eqb, eqb→eq}
use lib.ListN.{length}
use borrow.Author.Tests.{eqb-true}
use Rattle.laws.specs.Tests.{same}
use Rattle.laws.proofs.Tests.{is_same}
use Rattle.laws.proofs.Truth.{true_T, or_case}
use Rattle.position_further.specs.declared.Rights.{Rights}
use Rattle.text_in.specs.Text.{text, every}
use Rattle.line_tail.specs.Words.{missing, starts_with, taken_off, after_k, after_kq, after_kqk, rights_of, are_rights}
use Rattle.line_text.specs.Words.{or_else, letter_for, rights_letters, rights_text}
use Rattle.line_again.proofs.Fields.{IsWord}

-- ---- what is written is read
pub record RightsBack (r : Rights) : Type 0 where
  pub taken : are_rights (rights_text r) ≡ true
  pub same : rights_of (rights_text r) ≡ r
  pub word : IsWord (rights_text r)

sixteen : (a b c d : Bool) → RightsBack (record { white_short = a; white_long = b; black_short = c; black_long = d })
unfolding are_rights rights_of every
sixteen true true true true = record { taken = refl; same = refl; word = record { some = tt; solid = tt } }
sixteen true true true false = record { taken = refl; same = refl; word = record { some = tt; solid = tt } }
sixteen true true false true = record { taken = refl; same = refl; word = record { some = tt; solid = tt } }
sixteen true true false false = record { taken = refl; same = refl; word = record { some = tt; solid = tt } }
sixteen true false true true = record { taken = refl; same = refl; word = record { some = tt; solid = tt } }
sixteen true false true false = record { taken = refl; same = refl; word = record { some = tt; solid = tt } }
sixteen true false false true = record { taken = refl; same = refl; word = record { some = tt; solid = tt } }
sixteen true false false false = record { taken = refl; same = refl; word = record { some = tt; solid = tt } }
sixteen false true true true = record { taken = refl; same = refl; word = record { some = tt; solid = tt } }
sixteen false true true false = record { taken = refl; same = refl; word = record { some = tt; solid = tt } }
sixteen false true false true = record { taken = refl; same = refl; word = record { some = tt; solid = tt } }
sixteen false true false false = record { taken = refl; same = refl; word = record { some = tt; solid = tt } }
sixteen false false true true = record { taken = refl; same = refl; word = record { some = tt; solid = tt } }
sixteen false false true false = record { taken = refl; same = refl; word = record { some = tt; solid = tt } }
sixteen false false false true = record { taken = refl; same = refl; word = record { some = tt; solid = tt } }
sixteen false false false false = record { taken = refl; same = refl; word = record { some = tt; solid = tt } }

pub rights_back : (r : Rights) → RightsBack r
rights_back r = sixteen r.white_short r.white_long r.black_short r.black_long

-- ---- what is read is written so
-- a letter at the front, and what is left without it
led : (letter : ℕ) (s : List ℕ) → letter_for (starts_with letter s) letter ++ taken_off letter s ≡ s
led letter [] = refl
led letter (b ∷ s) = go (eqb b letter) refl
  where
    go : (t : Bool) → eqb b letter ≡ t → letter_for t letter ++ cond t s (b ∷ s) ≡ b ∷ s
    go true e = ap (λ (k : ℕ). k ∷ s) (sym (eqb-true b letter e))
    go false e = refl

nothing_left : (s : List ℕ) → T (missing s) → s ≡ []
nothing_left [] e = refl
nothing_left (b ∷ s) e = absurd (let k = eqb→eq (length (b ∷ s)) 0 e in omega arith)

letters_own : (s : List ℕ) → T (missing (taken_off (code "q") (after_kqk s))) → rights_letters (rights_of s) ≡ s
unfolding rights_of
letters_own s e =
    let K : List ℕ = letter_for (starts_with (code "K") s) (code "K") in
    let Q : List ℕ = letter_for (starts_with (code "Q") (after_k s)) (code "Q") in
    let k : List ℕ = letter_for (starts_with (code "k") (after_kq s)) (code "k") in
    let q : List ℕ = letter_for (starts_with (code "q") (after_kqk s)) (code "q") in
    let last : q ≡ after_kqk s =
    sym (append-nil q) ∙ ap (λ (l : List ℕ). q ++ l) (sym (nothing_left (taken_off (code "q") (after_kqk s)) e)) ∙ led (code "q") (after_kqk s)
    in
    ap (λ (l : List ℕ). K ++ (Q ++ (k ++ l))) last
    ∙ ap (λ (l : List ℕ). K ++ (Q ++ l)) (led (code "k") (after_kq s))
    ∙ ap (λ (l : List ℕ). K ++ l) (led (code "Q") (after_k s))
    ∙ led (code "K") s

pub rights_own : (s : List ℕ) → are_rights s ≡ true → rights_text (rights_of s) ≡ or_else (text "-") s
unfolding are_rights rights_of
rights_own s e = go (or_case (same s (text "-")) (missing (taken_off (code "q") (after_kqk s))) (true_T e))
  where
    go : T (same s (text "-")) ⊎ T (missing (taken_off (code "q") (after_kqk s))) → rights_text (rights_of s) ≡ or_else (text "-") s
    go (inl d) = let i = is_same s (text "-") d in ap (λ (l : List ℕ). rights_text (rights_of l)) i ∙ sym (ap (or_else (text "-")) i)
    go (inr d) = ap (or_else (text "-")) (letters_own s d)
