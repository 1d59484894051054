-- The records of a run before the first that is refused: 10,000,000 at most, and of each the half points are 2 at most. Assumes nothing.
use Rattle.std.proofs.Common.{◌≡◌, ℕ, zero, suc, ◌+◌, ◌-◌, ◌*◌, ◌/◌, ◌<◌, ◌≤◌, Bool, true, false, cond, eqb, ltb, List, [], ◌∷◌, length, drop, sym, refl, ap, ◌∙◌, subst, zero-add, arith, length-drop, take_all, ltb-true, ne_eqb, eqb-true}
use borrow.Author.Tests.{eqb-false}
use Rattle.refusal.specs.Answer.{Answer, given, refused, refusal_of, or_refuse}
use Rattle.refusal.specs.declared.Refusal.TheVariants as R
use Rattle.refusal.proofs.Answers.{passed}
use Rattle.line_parse.specs.Line.{Line}
use Rattle.store_record.specs.Record.{half_in, record_at, piece_says}
use Rattle.store_same.proofs.Trips.{halves_back}
use Rattle.store_cut.specs.Pieces.{records_from, pieces_of}
use Rattle.store_whole.proofs.Cut.{short_piece}
use Rattle.store_gather.specs.declared.First.{First}
use Rattle.store_gathered.specs.Gathered.{says_at, or_later, first_refused, read_before}
use Rattle.store_gathered.proofs.Pieces.{short_last, next_record}

module _ (run : List ℕ) where
  abbrev Halves : ℕ → Type 0
  Halves n = (j : ℕ) → j < n → half_in (record_at run j) ≤ 2

  -- what is read before a first one, of pieces from record i on
  pub record ReadTo (i : ℕ) (ps : List (List ℕ)) (first : First) : Type 0 where
    pub few : read_before first run ≤ 10000000
    pub there : read_before first run ≤ length run / 34
    pub halves : Halves (read_before first run)
    pub every : first.number ≡ 0 → i + length ps ≡ length run / 34

  stopped : (i n : ℕ) (ps : List (List ℕ)) → i ≤ 10000000 → i ≤ length run / 34 → Halves i → ReadTo i ps (record { number = i + 1; refusal = n })
  stopped i n ps few there halves =
      let e : read_before (record { number = i + 1; refusal = n }) run ≡ i =
      ap (λ (t : Bool). cond t (length run / 34) (i + 1 - 1)) (ne_eqb (i + 1) 0 (λ z. omega arith)) ∙ (let b : i + 1 - 1 ≡ i = omega arith in b) in
      record {
        few = subst (λ (k : ℕ). k ≤ 10000000) (sym e) few;
        there = subst (λ (k : ℕ). k ≤ length run / 34) (sym e) there;
        halves = subst Halves (sym e) halves;
        every = λ z. absurd (omega arith);
      }

  refused_here : (i : ℕ) (p : List ℕ) (ps : List (List ℕ)) (n : ℕ) (v : List ℕ) → says_at (i + 1) p ≡ refused n v → i ≤ 10000000 → i ≤ length run / 34 → Halves i
      → ReadTo i (p ∷ ps) (first_refused (i + 1) (p ∷ ps))
  unfolding first_refused
  refused_here i p ps n v s few there halves =
      subst (ReadTo i (p ∷ ps)) (sym (ap (λ (a : Answer Line). or_later (i + 1) a (first_refused (i + 1 + 1) ps)) s)) (stopped i n (p ∷ ps) few there halves)

  given_here : (i : ℕ) (p : List ℕ) (ps : List (List ℕ)) (l : Line) → says_at (i + 1) p ≡ given l → ReadTo (i + 1) ps (first_refused (i + 1 + 1) ps)
      → ReadTo i (p ∷ ps) (first_refused (i + 1) (p ∷ ps))
  unfolding first_refused
  given_here i p ps l s z =
      subst (ReadTo i (p ∷ ps)) (sym (ap (λ (a : Answer Line). or_later (i + 1) a (first_refused (i + 1 + 1) ps)) s))
      (record { few = z.few; there = z.there; halves = z.halves; every = λ y. let k = z.every y in omega arith })

  -- what is left over at the end
  left_over : (i : ℕ) (l : List ℕ) → length l < 34 → i ≡ length run / 34 → i ≤ 10000000 → Halves i → ReadTo i (pieces_of l) (first_refused (i + 1) (pieces_of l))
  unfolding records_from first_refused
  left_over i [] h e few halves =
      record { few = subst (λ (k : ℕ). k ≤ 10000000) e few; there = omega arith; halves = subst Halves e halves; every = λ z. omega arith }
  left_over i (b ∷ t) h e few halves =
      subst (λ (ps : List (List ℕ)). ReadTo i ps (first_refused (i + 1) ps)) (sym (short_last [] (b ∷ t) (omega arith))) (go (ltb (i + 1) 10000001) refl)
    where
      says : piece_says (b ∷ t) ≡ refusal_of R.Length
      says = ap piece_says (sym (take_all (length (b ∷ t)) (b ∷ t) (omega arith))) ∙ short_piece (b ∷ t) (length (b ∷ t)) h

      go : (x : Bool) → ltb (i + 1) 10000001 ≡ x → ReadTo i ((b ∷ t) ∷ []) (first_refused (i + 1) ((b ∷ t) ∷ []))
      go true q = refused_here i (b ∷ t) [] 18 [] (ap (λ (x : Bool). or_refuse x R.Many (piece_says (b ∷ t))) q ∙ says) few (omega arith) halves
      go false q = refused_here i (b ∷ t) [] 22 [] (ap (λ (x : Bool). or_refuse x R.Many (piece_says (b ∷ t))) q) few (omega arith) halves

  from : (m i : ℕ) → i + m ≡ length run / 34 → i ≤ 10000000 → Halves i → ReadTo i (pieces_of (drop (34 * i) run))
      (first_refused (i + 1) (pieces_of (drop (34 * i) run)))
  from zero i e few halves =
      let d = length-drop (34 * i) run in
      left_over i (drop (34 * i) run) (omega arith) (omega arith) few halves
  from (suc m) i e few halves =
      subst (λ (ps : List (List ℕ)). ReadTo i ps (first_refused (i + 1) ps)) (sym (next_record run i (omega arith)))
      (go (says_at (i + 1) p) refl (from m (i + 1) (omega arith)))
    where
      p : List ℕ
      p = record_at run i

      ps : List (List ℕ)
      ps = pieces_of (drop (34 * (i + 1)) run)

      go : (a : Answer Line) → says_at (i + 1) p ≡ a → (i + 1 ≤ 10000000 → Halves (i + 1) → ReadTo (i + 1) ps (first_refused (i + 1 + 1) ps))
          → ReadTo i (p ∷ ps) (first_refused (i + 1) (p ∷ ps))
      go (refused n v) s r = refused_here i p ps n v s few (omega arith) halves
      go (given l) s r =
          let t = passed (ltb (i + 1) 10000001) R.Many l (piece_says p) s in
          let low = ltb-true (i + 1) 10000001 t.0 in
          given_here i p ps l s (r (omega arith) more)
        where
          half : half_in p ≤ 2
          half =
              let z = halves_back p l (passed (ltb (i + 1) 10000001) R.Many l (piece_says p) s).1 in
              omega (arith, z.half_3)

          more : Halves (i + 1)
          more j h = at (eqb j i) refl
            where
              at : (x : Bool) → eqb j i ≡ x → half_in (record_at run j) ≤ 2
              at true q = subst (λ (k : ℕ). half_in (record_at run k) ≤ 2) (sym (eqb-true j i q)) half
              at false q = let d = eqb-false j i q in halves j (omega arith)

  -- the whole run
  pub all_read : ReadTo 0 (pieces_of run) (first_refused 1 (pieces_of run))
  all_read = from (length run / 34) 0 (zero-add (length run / 34)) (omega arith) (λ j h. absurd (omega arith))
