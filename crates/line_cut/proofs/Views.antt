-- What is kept of an unfinished line is enough: where the line ends, the buffer holds it, or its length tells that it is too long. Assumes nothing.
use mathlib.Core.Path.{◌≡◌, refl, sym, ap, subst, ◌∙◌}
use mathlib.Core.Bool.{Bool, true, false, cond}
use mathlib.Core.List.{List, [], ◌∷◌, ◌++◌}
use Prim.Native.Nat.{ℕ, zero, suc, ◌+◌, ◌-◌, ◌≤◌, ◌<◌, min}
use native.Mathlib.Omega.{arith}
use lib.Dec.{ltb, eqb}
use lib.ListN.{length, take, set, length-append, length-take}
use lib.Seq.{take-suc-set, take-set-le, take-append-le, take_all, take-length}
use borrow.Author.Tests.{lt-ltb, ltb-true, ltb-false}
use Rattle.line_cut.specs.Lines.{ends_in_cr, without_cr}
use Rattle.line_cut.specs.Cut.{Open, kept_byte, one_more_rule, bare_of, pushed}
use Rattle.line_cut.proofs.Machine.{kept_size}

-- a buffer and a number of bytes that tell a line: the buffer holds it, or both are longer than any line that is read
pub record Holds (line : List ℕ) (size : ℕ) (l : List ℕ) : Type 0 where
  pub whole : length line ≡ 256
  pub long : 256 < size → 256 < length l
  pub front : size ≤ 256 → take size line ≡ l

-- what is kept of the line so far
pub record View (o : Open) (begun : List ℕ) : Type 0 where
  pub count : o.held ≡ min 258 (length begun)
  pub ends : o.cr ≡ ends_in_cr begun
  pub size : length o.line ≡ 256
  pub front : (n : ℕ) → n ≤ length begun → n ≤ 256 → take n o.line ≡ take n begun

-- ---- before a line's first byte
pub view_none : (o : Open) → o.held ≡ 0 → o.cr ≡ false → length o.line ≡ 256 → View o []
unfolding ends_in_cr
view_none o h e s = record { count = h; ends = e; size = s; front = none }
  where
    none : (n : ℕ) → n ≤ 0 → n ≤ 256 → take n o.line ≡ take n []
    none zero a b = refl
    none (suc n) a b = absurd (no a)
      where
        no : suc n ≤ 0 → ⊥
        no q = omega arith

-- ---- a byte more
ends_snoc : (l : List ℕ) (b : ℕ) → ends_in_cr (l ++ (b ∷ [])) ≡ eqb b 13
unfolding ends_in_cr
ends_snoc [] b = refl
ends_snoc (x ∷ []) b = refl
ends_snoc (x ∷ (y ∷ l)) b = ends_snoc (y ∷ l) b

more_min : (n k : ℕ) → n ≡ min 258 k → one_more_rule n ≡ min 258 (k + 1)
more_min n k e = go (ltb n 258) refl
  where
    go : (t : Bool) → ltb n 258 ≡ t → cond t (n + 1) n ≡ min 258 (k + 1)
    go true q = omega (arith, ltb-true n 258 q)
    go false q = omega (arith, ltb-false n 258 q)

module _ (o : Open) (l : List ℕ) (b : ℕ) (v : View o l) where
  -- a part that was there before
  before : (n : ℕ) → n ≤ length l → n ≤ 256 → take n (kept_byte o.line o.held b) ≡ take n (l ++ (b ∷ []))
  before n h k = go (ltb o.held 256) refl ∙ v.front n h k ∙ sym (take-append-le n l (b ∷ []) h)
    where
      go : (t : Bool) → ltb o.held 256 ≡ t → take n (cond t (set o.line o.held b) o.line) ≡ take n o.line
      go true q = take-set-le n o.line o.held b (omega (arith, ltb-true o.held 256 q, v.count))
      go false q = refl

  -- the byte itself, where it is one of the first 256
  itself : length l < 256 → take (suc (length l)) (kept_byte o.line o.held b) ≡ take (suc (length l)) (l ++ (b ∷ []))
  itself h =
      let e : o.held ≡ length l = omega (arith, v.count) in
      let s : length (l ++ (b ∷ [])) ≡ length l + 1 = length-append l (b ∷ []) in
      ap (λ (t : Bool). take (suc (length l)) (cond t (set o.line o.held b) o.line)) (lt-ltb o.held 256 (omega arith))
      ∙ ap (λ (n : ℕ). take (suc (length l)) (set o.line n b)) e
      ∙ take-suc-set o.line (length l) b (omega (arith, v.size))
      ∙ ap (λ (x : List ℕ). x ++ (b ∷ [])) (v.front (length l) (omega arith) (omega arith) ∙ take-length l)
      ∙ sym (take_all (suc (length l)) (l ++ (b ∷ [])) (omega arith))

  pub view_push : View (pushed o b) (l ++ (b ∷ []))
  view_push = record {
    count = more_min o.held (length l) v.count ∙ ap (min 258) (sym (length-append l (b ∷ [])));
    ends = sym (ends_snoc l b);
    size = kept_size (ltb o.held 256) o.line o.held b ∙ v.size;
    front = λ n h k. at n (ltb (length l) n) refl (fits n h) k;
  }
    where
      fits : (n : ℕ) → n ≤ length (l ++ (b ∷ [])) → n ≤ length l + 1
      fits n h = omega (arith, length-append l (b ∷ []))

      at : (n : ℕ) (t : Bool) → ltb (length l) n ≡ t → n ≤ length l + 1 → n ≤ 256 → take n (kept_byte o.line o.held b) ≡ take n (l ++ (b ∷ []))
      at n false q h k = before n (ltb-false (length l) n q) k
      at n true q h k =
          let g = ltb-true (length l) n q in
          let e : n ≡ suc (length l) = omega arith in
          rw e (itself (omega arith))

-- ---- the line ends
-- what is handed over: the line, without its last byte where that is dropped
abbrev handed : Bool → List ℕ → List ℕ
handed t l = cond t (take (length l - 1) l) l

size_of : (t : Bool) (l : List ℕ) (n : ℕ) → n ≡ min 258 (length l) → bare_of n t ≤ 256 → bare_of n t ≡ length (handed t l)
size_of true l n e h = omega (arith, length-take (length l - 1) l)
size_of false l n e h = omega arith

long_of : (t : Bool) (l : List ℕ) (n : ℕ) → n ≡ min 258 (length l) → 256 < bare_of n t → 256 < length (handed t l)
long_of true l n e h = omega (arith, length-take (length l - 1) l)
long_of false l n e h = omega arith

module _ (o : Open) (l : List ℕ) (v : View o l) where
  handed_is : (t : Bool) → length (handed t l) ≤ 256 → take (length (handed t l)) o.line ≡ handed t l
  handed_is false h = v.front (length l) (omega arith) h ∙ take-length l
  handed_is true h =
      let e : length (take (length l - 1) l) ≡ length l - 1 = omega (arith, length-take (length l - 1) l) in
      rw e (v.front (length l - 1) (omega arith) (omega arith))

  holds : (t : Bool) → Holds o.line (bare_of o.held t) (handed t l)
  holds t = record {
    whole = v.size;
    long = λ h. long_of t l o.held v.count h;
    front = λ h. let e = size_of t l o.held v.count h in ap (λ (n : ℕ). take n o.line) e ∙ handed_is t (small e h);
  }
    where
      small : bare_of o.held t ≡ length (handed t l) → bare_of o.held t ≤ 256 → length (handed t l) ≤ 256
      small e h = omega arith

  -- before an LF, and at the end of the input
  pub view_line : Holds o.line (bare_of o.held o.cr) (without_cr l)
  view_line = subst (λ (t : Bool). Holds o.line (bare_of o.held o.cr) (handed t l)) v.ends (holds o.cr)

  pub view_end : Holds o.line o.held l
  view_end = holds false
