-- Words with one space between two: which word stands where, and that they are a field of a line as they stand. Assumes nothing.
use mathlib.Core.Path.{◌≡◌, refl, sym, ap, ◌∙◌}
use mathlib.Core.Bool.{Bool, true, false, not, ◌||◌, ◌&&◌}
use mathlib.Core.List.{List, [], ◌∷◌, ◌++◌, append-nil, append_assoc, reverse, reverse-append, reverse-reverse}
use Prim.Native.Nat.{ℕ, zero, suc, ◌+◌, ◌<◌}
use native.Mathlib.Omega.{arith}
use lib.Dec.{T, eqb}
use lib.ListN.{length}
use borrow.Author.Tests.{ne_eqb}
use Rattle.laws.specs.Tests.{all_below}
use Rattle.laws.proofs.Tests.{all_at}
use Rattle.laws.proofs.Truth.{T_true, and_l, and_r, and_i, not_i, not_e}
use Rattle.chess.specs.Codes.{is_piece}
use Rattle.position_boards.proofs.Apart.{code_to}
use Rattle.text_in.specs.Text.{space, semicolon, is_text, tab, cr, is_blank, is_space, every, before, after, without, without_last, trim}
use Rattle.text_in.proofs.Every.{every_both}
use Rattle.line_tail.specs.Words.{word_of, nth_word, missing}
use Rattle.line_parse.specs.Line.{position_field, result_field, ranks_of, side_word}
use Rattle.line_text.specs.Spelt.{letter_of}
use Rattle.line_text.specs.Lines.{text_at, parted}
use Rattle.line_again.proofs.Cuts.{before_mark, after_mark, before_none, after_none}

-- a byte of a line that is no blank and no `;`
abbrev pub is_solid : ℕ → Bool
is_solid b = is_text b && (not (is_blank b) && not (eqb b semicolon))

letters_tried : T (all_below 14 (λ k. not (is_piece k) || is_solid (letter_of k)))
unfolding all_below letter_of
letters_tried = tt

digits_tried : T (all_below 8 (λ k. is_solid (48 + suc k)))
unfolding all_below
digits_tried = tt

pub solid_letter : (c : ℕ) → T (is_piece c) → T (is_solid (letter_of c))
solid_letter c p = go (is_piece c) (T_true (is_piece c) p) (all_at 14 (λ k. not (is_piece k) || is_solid (letter_of k)) letters_tried c (omega (arith, code_to c p)))
  where
    go : (t : Bool) → t ≡ true → T (not t || is_solid (letter_of c)) → T (is_solid (letter_of c))
    go true e h = h
    go false e h = absurd (let z : ◌≡◌ {A = ℕ} 0 1 = cc in omega arith)

pub solid_digit : (n : ℕ) → n < 8 → T (is_solid (48 + suc n))
solid_digit n h = all_at 8 (λ k. is_solid (48 + suc k)) digits_tried n h

-- ---- weaker tests
pub weaken : (f g : ℕ → Bool) → ((b : ℕ) → T (f b) → T (g b)) → (s : List ℕ) → T (every f s) → T (every g s)
unfolding every
weaken f g w [] m = tt
weaken f g w (b ∷ s) m = and_i (g b) (every g s) (w b (and_l (f b) (every f s) m)) (weaken f g w s (and_r (f b) (every f s) m))

solid_text : (b : ℕ) → T (is_solid b) → T (is_text b)
solid_text b t = and_l (is_text b) (not (is_blank b) && not (eqb b semicolon)) t

solid_blank : (b : ℕ) → T (is_solid b) → T (not (is_blank b))
solid_blank b t = and_l (not (is_blank b)) (not (eqb b semicolon)) (and_r (is_text b) (not (is_blank b) && not (eqb b semicolon)) t)

solid_mark : (b : ℕ) → T (is_solid b) → T (not (eqb b semicolon))
solid_mark b t = and_r (not (is_blank b)) (not (eqb b semicolon)) (and_r (is_text b) (not (is_blank b) && not (eqb b semicolon)) t)

solid_space : (b : ℕ) → T (is_solid b) → T (not (is_space b))
solid_space b t = go (is_space b) (eqb b tab || eqb b cr) (solid_blank b t)
  where
    go : (p q : Bool) → T (not (p || q)) → T (not p)
    go true q h = h
    go false q h = tt

-- ---- words: no blank and no `;` in them, and something
pub not_missing : (b : ℕ) (s : List ℕ) → T (not (missing (b ∷ s)))
not_missing b s = not_i (missing (b ∷ s)) (ne_eqb (length (b ∷ s)) 0 (λ e. omega arith))

pub something : (s : List ℕ) → (s ≡ [] → ⊥) → T (not (missing s))
something [] n = absurd (n refl)
something (b ∷ s) n = not_missing b s

pub record IsWord (w : List ℕ) : Type 0 where
  pub some : T (not (missing w))
  pub solid : T (every is_solid w)

abbrev pub AreWords : List (List ℕ) → Type 0
AreWords [] = Unit {0}
AreWords (w ∷ ws) = IsWord w × AreWords ws

module _ (w : List ℕ) (m : IsWord w) where
  no_space : T (every (λ b. not (is_space b)) w)
  no_space = weaken is_solid (λ b. not (is_space b)) solid_space w m.solid

  -- nothing is skipped before a word
  pub kept : (test : ℕ → Bool) → ((b : ℕ) → T (is_solid b) → T (not (test b))) → (t : List ℕ) → without test (w ++ t) ≡ w ++ t
  unfolding every without
  kept test f t = go w m.some m.solid
    where
      go : (s : List ℕ) → T (not (missing s)) → T (every is_solid s) → without test (s ++ t) ≡ s ++ t
      go [] n k = absurd n
      go (b ∷ s) n k = rw (not_e (test b) (f b (and_l (is_solid b) (every is_solid s) k)))

  -- a word before a space, and a word alone
  pub before_word : (t : List ℕ) → before space (w ++ (space ∷ t)) ≡ w
  before_word t = before_mark (λ b. not (is_space b)) space refl w t no_space

  pub after_word_holds : (t : List ℕ) → after space (w ++ (space ∷ t)) ≡ t
  after_word_holds t = after_mark (λ b. not (is_space b)) space refl w t no_space

  kept_alone : without is_space w ≡ w
  kept_alone = ap (without is_space) (sym (append-nil w)) ∙ kept is_space solid_space [] ∙ append-nil w

  first_alone : before space (without is_space w) ≡ w
  first_alone = ap (before space) kept_alone ∙ before_none (λ b. not (is_space b)) space refl w no_space

  rest_alone : after space (without is_space w) ≡ []
  rest_alone = ap (after space) kept_alone ∙ after_none (λ b. not (is_space b)) space refl w no_space

-- ---- which word stands where: the empty one past the last
no_word : (n : ℕ) → nth_word n [] ≡ []
unfolding nth_word before after without
no_word zero = refl
no_word (suc n) = no_word n

pub word_at : (ws : List (List ℕ)) → AreWords ws → (n : ℕ) → nth_word n (parted ws) ≡ text_at ws n
unfolding nth_word
word_at [] m n = no_word n
word_at (w ∷ []) m zero = first_alone w m.0
word_at (w ∷ []) m (suc n) = ap (nth_word n) (rest_alone w m.0) ∙ no_word n
word_at (w ∷ (x ∷ xs)) m zero =
    ap (before space) (kept w m.0 is_space solid_space (space ∷ parted (x ∷ xs))) ∙ before_word w m.0 (parted (x ∷ xs))
word_at (w ∷ (x ∷ xs)) m (suc n) =
    ap (λ (s : List ℕ). nth_word n (after space s)) (kept w m.0 is_space solid_space (space ∷ parted (x ∷ xs)))
    ∙ ap (nth_word n) (after_word_holds w m.0 (parted (x ∷ xs)))
    ∙ word_at (x ∷ xs) m.1 n

-- ---- the words as a field
pub parted_passes : (test : ℕ → Bool) → ((b : ℕ) → T (is_solid b) → T (test b)) → T (test space) → (ws : List (List ℕ)) → AreWords ws
    → T (every test (parted ws))
unfolding every
parted_passes test f p [] m = tt
parted_passes test f p (w ∷ []) m = weaken is_solid test f w m.0.solid
parted_passes test f p (w ∷ (x ∷ xs)) m =
    every_both test w (space ∷ parted (x ∷ xs)) (weaken is_solid test f w m.0.solid)
    (and_i (test space) (every test (parted (x ∷ xs))) p (parted_passes test f p (x ∷ xs) m.1))

-- a text that ends in a solid byte
record Ends (s : List ℕ) : Type 0 where
  pub front : List ℕ
  pub byte : ℕ
  pub is : s ≡ front ++ (byte ∷ [])
  pub solid : T (is_solid byte)

ends_behind : (s t : List ℕ) → Ends t → Ends (s ++ t)
ends_behind s t e =
    let is : s ++ t ≡ (s ++ e.front) ++ (e.byte ∷ []) = ap (λ (l : List ℕ). s ++ l) e.is ∙ sym (append_assoc s e.front (e.byte ∷ [])) in
    record { front = s ++ e.front; byte = e.byte; is = is; solid = e.solid }

ends_solid : (s : List ℕ) → T (not (missing s)) → T (every is_solid s) → Ends s
unfolding every
ends_solid [] n m = absurd n
ends_solid (b ∷ []) n m = record { front = []; byte = b; is = refl; solid = and_l (is_solid b) true m }
ends_solid (b ∷ (c ∷ s)) n m = ends_behind (b ∷ []) (c ∷ s) (ends_solid (c ∷ s) (not_missing c s) (and_r (is_solid b) (every is_solid (c ∷ s)) m))

ends_parted : (w : List ℕ) (ws : List (List ℕ)) → AreWords (w ∷ ws) → Ends (parted (w ∷ ws))
ends_parted w [] m = ends_solid w m.0.some m.0.solid
ends_parted w (x ∷ xs) m = ends_behind w (space ∷ parted (x ∷ xs)) (ends_behind (space ∷ []) (parted (x ∷ xs)) (ends_parted x xs m.1))

-- nothing is trimmed
last_kept : (s : List ℕ) → Ends s → without_last is_blank s ≡ s
unfolding without without_last
last_kept s e =
    ap (without_last is_blank) e.is
    ∙ ap (λ (l : List ℕ). reverse (without is_blank l)) (reverse-append e.front (e.byte ∷ []))
    ∙ rw (not_e (is_blank e.byte) (solid_blank e.byte e.solid))
    (ap reverse (sym (reverse-append e.front (e.byte ∷ []))) ∙ reverse-reverse (e.front ++ (e.byte ∷ [])) ∙ sym e.is)

module _ (w x : List ℕ) (xs : List (List ℕ)) (m : AreWords (w ∷ (x ∷ xs))) where
  abbrev field : List ℕ
  field = parted (w ∷ (x ∷ xs))

  trimmed : trim field ≡ field
  unfolding trim
  trimmed = ap (without_last is_blank) (kept w m.0 is_blank solid_blank (space ∷ parted (x ∷ xs))) ∙ last_kept field (ends_parted w (x ∷ xs) m)

  no_semicolon : T (every (λ b. not (eqb b semicolon)) field)
  no_semicolon = parted_passes (λ b. not (eqb b semicolon)) solid_mark tt (w ∷ (x ∷ xs)) m

  pub ranks_of_holds : ranks_of field ≡ w
  ranks_of_holds = before_word w m.0 (parted (x ∷ xs))

  pub behind_ranks : after space field ≡ parted (x ∷ xs)
  behind_ranks = after_word_holds w m.0 (parted (x ∷ xs))

  pub side_word_holds : side_word field ≡ x
  unfolding nth_word
  side_word_holds = ap word_of behind_ranks ∙ word_at (x ∷ xs) m.1 0

  module _ (rest : List ℕ) where
    pub position_field_holds : position_field (field ++ (semicolon ∷ rest)) ≡ field
    position_field_holds = ap trim (before_mark (λ b. not (eqb b semicolon)) semicolon refl field rest no_semicolon) ∙ trimmed

    pub result_field_holds : result_field (field ++ (semicolon ∷ rest)) ≡ trim (before semicolon rest)
    result_field_holds = ap (λ (l : List ℕ). trim (before semicolon l)) (after_mark (λ b. not (eqb b semicolon)) semicolon refl field rest no_semicolon)

    pub all_text : T (every is_text rest) → T (every is_text (field ++ (semicolon ∷ rest)))
    unfolding every
    all_text r = every_both is_text field (semicolon ∷ rest) (parted_passes is_text solid_text tt (w ∷ (x ∷ xs)) m) r
