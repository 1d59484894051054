-- The pieces of two runs, of which the first has no short last piece: those of the one and then of the other. Assumes nothing.
use Rattle.std.proofs.Common.{◌≡◌, ℕ, zero, suc, ◌+◌, ◌*◌, ◌/◌, ◌<◌, List, [], ◌∷◌, ◌++◌, length, get_or, take, drop, sym, refl, ap, ◌∙◌, append_assoc, arith, length-append, length-drop, take-append-drop, length-take-le, get_or-append-add, ext_get_or}
use lib.ListN.{get_or-append}
use Rattle.store_record.specs.Record.{record_at}
use Rattle.store_cut.specs.Pieces.{records_from, pieces_of}
use Rattle.store_cut.proofs.Folded.{filled_up}
use Rattle.store_summary.proofs.Keeping.{record_size}
use Rattle.store_totals.proofs.Runs.{record_byte}

pub pieces_both : (k : ℕ) (a b : List ℕ) → length a ≡ 34 * k → (pieces_of (a ++ b) ≡ pieces_of a ++ pieces_of b) × (length (pieces_of a) ≡ k)
unfolding records_from
pieces_both zero [] b e = (refl, refl)
pieces_both zero (x ∷ a) b e = absurd (omega arith)
pieces_both (suc k) a b e =
    let n : length (take 34 a) ≡ 34 = length-take-le 34 a (omega arith) in
    let d = length-drop 34 a in
    let r = pieces_both k (drop 34 a) b (omega arith) in
    let own : pieces_of a ≡ take 34 a ∷ pieces_of (drop 34 a) =
    ap pieces_of (sym (take-append-drop 34 a)) ∙ filled_up [] (take 34 a) (drop 34 a) (omega arith) (omega arith) in
    let all : pieces_of (a ++ b) ≡ take 34 a ∷ pieces_of (drop 34 a ++ b) =
    ap (λ (x : List ℕ). pieces_of (x ++ b)) (sym (take-append-drop 34 a)) ∙ ap pieces_of (append_assoc (take 34 a) (drop 34 a) b)
    ∙ filled_up [] (take 34 a) (drop 34 a ++ b) (omega arith) (omega arith) in
    (all ∙ ap (λ (x : List (List ℕ)). take 34 a ∷ x) r.0 ∙ sym (ap (λ (x : List (List ℕ)). x ++ pieces_of b) own), ap length own ∙ ap suc r.1)

module _ (a b : List ℕ) where
  -- a record of the first
  pub record_first : (i : ℕ) → i < length a / 34 → record_at (a ++ b) i ≡ record_at a i
  record_first i h =
      let s = length-append a b in
      let n : length (record_at (a ++ b) i) ≡ 34 = record_size (a ++ b) i (omega arith) in
      ext_get_or 0 (record_at (a ++ b) i) (record_at a i) (n ∙ sym (record_size a i h))
      (λ j l.
      let g : j < 34 = omega arith in
      record_byte (a ++ b) i j g ∙ get_or-append a b 0 (34 * i + j) (omega arith) ∙ sym (record_byte a i j g))

  -- and of the second
  pub record_second : (k i : ℕ) → length a ≡ 34 * k → i < length b / 34 → record_at (a ++ b) (k + i) ≡ record_at b i
  record_second k i e h =
      let s = length-append a b in
      let n : length (record_at (a ++ b) (k + i)) ≡ 34 = record_size (a ++ b) (k + i) (omega arith) in
      ext_get_or 0 (record_at (a ++ b) (k + i)) (record_at b i) (n ∙ sym (record_size b i h))
      (λ j l.
      let g : j < 34 = omega arith in
      let p : 34 * (k + i) + j ≡ length a + (34 * i + j) = omega arith in
      record_byte (a ++ b) (k + i) j g ∙ ap (λ (q : ℕ). get_or (a ++ b) q 0) p ∙ get_or-append-add a b (34 * i + j) 0 ∙ sym (record_byte b i j g))
