-- Bytes taken together: however a text is cut, what they bring at most, and a row that is whole. Assumes nothing.
use mathlib.Core.Path.{◌≡◌, refl, sym, ap, ap₂, subst, ◌∙◌}
use mathlib.Core.Bool.{Bool, true, false, cond}
use mathlib.Core.List.{List, [], ◌∷◌, ◌++◌, append_assoc, append-nil}
use Prim.Native.Nat.{ℕ, suc, ◌+◌, ◌*◌, ◌≤◌, ◌<◌}
use native.Mathlib.Omega.{arith}
use lib.Dec.{eqb}
use lib.ListN.{length, take, set, length-append, length-set}
use borrow.Author.Tests.{lt-leb}
use Rattle.text_out.specs.Text.{Wrote, written_of}
use Rattle.text_out.proofs.Wrote.{wrote_none, wrote_more, with_room, written_front}
use Rattle.line_cut.specs.Lines.{lf, ends}
use Rattle.line_cut.proofs.Counted.{ends_append}
use Rattle.ledger_joined_row.specs.Promises.{row_is_rule, text_of}
use Rattle.ledger_joined_row.specs.declared.Kind.{Kind}
use Rattle.ledger_joined_row.specs.declared.Kind.TheVariants as K
use Rattle.ledger_join.specs.Machine.{Joint, joint, after_row, own_number, whole_number, row_ended, byte_held, byte_on, bytes_on}
use Rattle.ledger_join.specs.declared.Joining.{Joining}
use Rattle.ledger_join.proofs.Bytes.{byte_after, byte_bounds}

-- ---- however it is cut
pub byte_then : (m : Joint) (b : ℕ) (t : List ℕ) → bytes_on m (b ∷ t) ≡ bytes_on (byte_on m b) t
unfolding bytes_on
byte_then m b t = refl

pub bytes_cut : (m : Joint) (a b : List ℕ) → bytes_on m (a ++ b) ≡ bytes_on (bytes_on m a) b
unfolding bytes_on
bytes_cut m [] b = refl
bytes_cut m (x ∷ a) b = bytes_cut (byte_on m x) a b

abbrev pub later : List ℕ → Joint → Joint
later t m = joint m.row m.state (t ++ m.text)

byte_later : (t : List ℕ) (m : Joint) (b : ℕ) → byte_on (later t m) b ≡ later t (byte_on m b)
byte_later t m b =
    let u : Joint = byte_on (joint m.row m.state []) b in
    byte_after m.row m.state (t ++ m.text) b ∙ ap (joint u.row u.state) (append_assoc t m.text u.text)
    ∙ sym (ap (later t) (byte_after m.row m.state m.text b))

pub bytes_later : (t : List ℕ) (m : Joint) (a : List ℕ) → bytes_on (later t m) a ≡ later t (bytes_on m a)
unfolding bytes_on
bytes_later t m [] = refl
bytes_later t m (b ∷ a) = ap (λ (x : Joint). bytes_on x a) (byte_later t m b) ∙ bytes_later t (byte_on m b) a

pub bytes_after : (row : List ℕ) (s : Joining) (t a : List ℕ) → bytes_on (joint row s t) a ≡ later t (bytes_on (joint row s []) a)
bytes_after row s t a = ap (λ (x : List ℕ). bytes_on (joint row s x) a) (sym (append-nil t)) ∙ bytes_later t (joint row s []) a

-- ---- what they bring at most
pub record Bounds (row : List ℕ) (s : Joining) (a : List ℕ) (m : Joint) : Type 0 where
  pub all : m.state.loads + m.state.refusals ≤ s.loads + s.refusals + ends a
  pub own : m.state.loaded + m.state.refused ≤ s.loaded + s.refused + ends a
  pub size : length m.row ≡ length row
  pub room : length m.text ≤ 64 * ends a

pub bytes_bounds : (row : List ℕ) (s : Joining) (a : List ℕ) → Bounds row s a (bytes_on (joint row s []) a)
unfolding bytes_on
bytes_bounds row s [] = record { all = omega arith; own = omega arith; size = refl; room = omega arith }
bytes_bounds row s (b ∷ a) =
    let u : Joint = byte_on (joint row s []) b in
    let p = byte_bounds row s b in
    let q = bytes_bounds u.row u.state a in
    let e : bytes_on u a ≡ later u.text (bytes_on (joint u.row u.state []) a) = bytes_after u.row u.state u.text a in
    let n : ends (b ∷ a) ≡ ends (b ∷ []) + ends a = ends_append (b ∷ []) a in
    let v : Joint = bytes_on (joint u.row u.state []) a in
    let l = length-append u.text v.text in
    moved (sym e) (record {
      all = omega (arith, p.all, q.all);
      own = omega (arith, p.own, q.own);
      size = q.size ∙ p.size;
      room = omega (arith, p.room, q.room);
    })
  where
    moved : {x y : Joint} → x ≡ y → Bounds row s (b ∷ a) x → Bounds row s (b ∷ a) y
    moved e h = subst (Bounds row s (b ∷ a)) e h

-- ---- bytes without LF are held
-- the state with so many bytes held
abbrev holding : Joining → ℕ → Joining
holding s n = record {
  part = s.part;
  loads = s.loads;
  refusals = s.refusals;
  loaded = s.loaded;
  refused = s.refused;
  held = n;
  ended = s.ended;
  stopped = s.stopped;
}

unfoldable laid : List ℕ → ℕ → List ℕ → List ℕ
laid row n [] = row
laid row n (b ∷ a) = laid (set row n b) (n + 1) a

laid_cut : (row : List ℕ) (n : ℕ) (a : List ℕ) (b : ℕ) → laid row n (a ++ (b ∷ [])) ≡ set (laid row n a) (n + length a) b
unfolding laid
laid_cut row n [] b = ap (λ (k : ℕ). set row k b) (let e : n ≡ n + 0 = omega arith in e)
laid_cut row n (c ∷ a) b = laid_cut (set row n c) (n + 1) a b ∙ ap (λ (k : ℕ). set (laid (set row n c) (n + 1) a) k b)
    (let e : n + 1 + length a ≡ n + suc (length a) = omega arith in e)

laid_wrote : (old row : List ℕ) (n : ℕ) (q a : List ℕ) → length row ≡ length old → n + length a ≤ length old → Wrote old row 0 n q
    → Wrote old (laid row n a) 0 (n + length a) (q ++ a)
unfolding laid
laid_wrote old row n q [] l h w = subst (λ (x : List ℕ). Wrote old row 0 (n + 0) x) (sym (append-nil q))
    (subst (λ (k : ℕ). Wrote old row 0 k q) (let e : n ≡ n + 0 = omega arith in e) w)
laid_wrote old row n q (b ∷ a) l h w =
    let next = laid_wrote old (set row n b) (n + 1) (q ++ (b ∷ [])) a (length-set row n b ∙ l) (omega arith) (wrote_more old row 0 n q b l (omega arith) w) in
    subst (λ (x : List ℕ). Wrote old (laid (set row n b) (n + 1) a) 0 (n + suc (length a)) x) (append_assoc q (b ∷ []) a)
    (subst (λ (k : ℕ). Wrote old (laid (set row n b) (n + 1) a) 0 k ((q ++ (b ∷ [])) ++ a))
    (let e : n + 1 + length a ≡ n + suc (length a) = omega arith in e) next)

-- all of a row, put at the buffer's front
laid_is : (row a : List ℕ) → length a ≤ length row → laid row 0 a ≡ written_of row 0 a
laid_is row a h = (with_room row (laid row 0 a) 0 (0 + length a) a (laid_wrote row row 0 [] a refl (omega arith) (wrote_none row 0 (omega arith)))).1

none_first : (b : ℕ) (a : List ℕ) → ends (b ∷ a) ≡ 0 → (eqb b lf ≡ false) × (ends a ≡ 0)
unfolding ends
none_first b a e = go (eqb b lf) e
  where
    go : (t : Bool) → cond t (ends a + 1) (ends a) ≡ 0 → (t ≡ false) × (ends a ≡ 0)
    go true q = absurd (no q)
      where
        no : ends a + 1 ≡ 0 → ⊥
        no q = omega arith
    go false q = (refl, q)

module _ (s : Joining) (going : s.stopped ≡ false) (unended : s.ended ≡ false) where
  byte_going : (row : List ℕ) (n b : ℕ) → n < 84 → byte_on (joint row (holding s n) []) b ≡ byte_held (holding s n) row [] b
  unfolding byte_on
  byte_going row n b h = rw (going, unended, lt-leb 84 n h)

  held_on : (row : List ℕ) (n : ℕ) (a : List ℕ) → ends a ≡ 0 → n + length a ≤ 84
      → bytes_on (joint row (holding s n) []) a ≡ joint (laid row n a) (holding s (n + length a)) []
  unfolding bytes_on laid
  held_on row n [] e h = ap (λ (k : ℕ). joint row (holding s k) []) (let z : n ≡ n + 0 = omega arith in z)
  held_on row n (b ∷ a) e h =
      let f = none_first b a e in
      let row' : List ℕ = set row n b in
      ap (λ (m : Joint). bytes_on m a)
      (byte_going row n b (omega arith) ∙ ap (λ (t : Bool). cond t (row_ended (holding s (n + 1)) row' []) (joint row' (holding s (n + 1)) [])) f.0)
      ∙ held_on row' (n + 1) a f.1 (omega arith)
      ∙ ap (λ (k : ℕ). joint (laid row' (n + 1) a) (holding s k) []) (let z : n + 1 + length a ≡ n + suc (length a) = omega arith in z)

  -- a row that begins and ends there
  after_holding : (n : ℕ) (k : Kind) → after_row (holding s n) k ≡ after_row s k
  after_holding n K.Loaded = refl
  after_holding n K.Refused = refl
  after_holding n K.Totals = refl
  after_holding n K.Neither = refl

  pub row_on : (row body : List ℕ) → s.held ≡ 0 → length row ≡ 84 → ends body ≡ 0 → length body < 84
      → bytes_on (joint row s []) (body ++ (10 ∷ [])) ≡ joint (written_of row 0 (body ++ (10 ∷ [])))
      (after_row s (row_is_rule (own_number s) s.loaded s.refused (body ++ (10 ∷ [])))) (text_of (own_number s) (whole_number s) (body ++ (10 ∷ [])))
  unfolding bytes_on
  row_on row body fresh size e h =
      let n : ℕ = length body in
      let piece : List ℕ = body ++ (10 ∷ []) in
      let l = length-append body (10 ∷ []) in
      let last : List ℕ = set (laid row 0 body) (0 + n) 10 in
      let written : last ≡ written_of row 0 piece = sym (laid_cut row 0 body 10) ∙ laid_is row piece (omega (arith, size)) in
      let front : take (0 + n + 1) last ≡ piece =
      ap₂ (λ (k : ℕ) (x : List ℕ). take k x) (let z : 0 + n + 1 ≡ 0 + length piece = omega arith in z) written
      ∙ written_front row 0 piece (omega (arith, size)) in
      ap (λ (k : ℕ). bytes_on (joint row (holding s k) []) piece) fresh
      ∙ bytes_cut (joint row (holding s 0) []) body (10 ∷ [])
      ∙ ap (λ (m : Joint). byte_on m 10) (held_on row 0 body e (omega arith))
      ∙ byte_going (laid row 0 body) (0 + n) 10 (omega arith)
      ∙ ap₂ (λ (x : Joining) (y : List ℕ). joint last x y)
      (after_holding (0 + n + 1) (row_is_rule (own_number s) s.loaded s.refused (take (0 + n + 1) last))
      ∙ ap (λ (x : List ℕ). after_row s (row_is_rule (own_number s) s.loaded s.refused x)) front)
      (ap (text_of (own_number s) (whole_number s)) front)
      ∙ ap (λ (x : List ℕ). joint x (after_row s (row_is_rule (own_number s) s.loaded s.refused piece)) (text_of (own_number s) (whole_number s) piece)) written
