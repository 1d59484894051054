-- What the machine makes of the pieces of a run, from any record on: it counts up to the first that is refused. Assumes nothing.
use mathlib.Core.Path.{◌≡◌, refl, sym, ap, ap₂, subst, ◌∙◌}
use mathlib.Core.Bool.{Bool, true, false, cond, ◌&&◌}
use mathlib.Core.List.{List, [], ◌∷◌}
use Prim.Native.Nat.{ℕ, zero, suc, ◌+◌, ◌*◌, ◌-◌, ◌/◌, ◌%◌, ◌^◌, ◌≤◌, ◌<◌}
use native.Mathlib.Nat.{mod-eq_of_lt}
use native.Mathlib.Omega.{arith}
use lib.Dec.{eqb, ltb}
use lib.ListN.{length, get_or, drop, length-drop}
use lib.Seq.{take_all}
use borrow.Author.Tests.{ltb-true, ltb-false, lt-ltb, le-ltb, eq-eqb, ne_eqb}
use Rattle.laws.specs.Sums.{sum_n}
use Rattle.laws.proofs.Tables.{entry, tabulate_length}
use Rattle.refusal.specs.Answer.{Answer, given, refused, refusal_of, or_refuse}
use Rattle.refusal.specs.declared.Refusal.TheVariants as R
use Rattle.line_parse.specs.Line.{Line}
use Rattle.line_cut.specs.Lines.{fold_lines}
use Rattle.store_record.specs.Record.{half_in, record_at, piece_says}
use Rattle.store_same.proofs.Trips.{halves_back}
use Rattle.store_cut.specs.Pieces.{records_from, pieces_of}
use Rattle.store_counts.specs.Summary.{record_brings, summary_afresh, moved_by, summary_moved, summary_more, wrapped_sum}
use Rattle.store_summary.specs.Promises.{records_in, with_record}
use Rattle.store_summary.proofs.Keeping.{record_size}
use Rattle.store_totals.proofs.Kept.{KeptAfresh, records_are, kept_added}
use Rattle.store_whole.proofs.Cut.{short_piece}
use Rattle.store_gather.specs.Gather.{Gathered, gathered, or_first, count_piece}
use Rattle.store_gather.specs.declared.First.{First}
use Rattle.store_gathered.specs.Gathered.{says_at, or_later, first_refused, read_before}
use Rattle.store_gathered.proofs.Pieces.{short_last, next_record, record_again}

-- after the first that is refused nothing is counted
stays : (summary : List ℕ) (number refusal : ℕ) (ps : List (List ℕ)) → (number ≡ 0 → ⊥)
    → fold_lines count_piece (gathered summary number refusal) ps ≡ gathered summary number refusal
unfolding fold_lines
stays summary number refusal [] n = refl
stays summary number refusal (p ∷ ps) n =
    ap (λ (t : Bool). fold_lines count_piece (cond t (cond (ltb (records_in summary) 10000000) (or_first summary p (piece_says p))
    (gathered summary 10000001 22)) (gathered summary number refusal)) ps)
    (ne_eqb number 0 n)
    ∙ stays summary number refusal ps n

module _ (input : List ℕ) where
  -- the machine's end, by the first record that is refused
  abbrev pub up_to : First → Gathered
  up_to first = gathered (summary_afresh input (read_before first input)) first.number first.refusal

  module _ (i : ℕ) (summary : List ℕ) (k : KeptAfresh input summary) (at : k.n ≡ i) where
    counts_i : records_in summary ≡ i
    counts_i = ap records_in k.is ∙ records_are input k.n ∙ at

    few : i ≤ 10000000
    few = omega (arith, k.few)

    abbrev ended : List (List ℕ) → Type 0
    ended ps = fold_lines count_piece (gathered summary 0 0) ps ≡ up_to (first_refused (i + 1) ps)

    -- a piece that is refused is the first
    first_here : (p : List ℕ) (ps : List (List ℕ)) (n : ℕ) (v : List ℕ) → count_piece (gathered summary 0 0) p ≡ gathered summary (i + 1) n
        → says_at (i + 1) p ≡ refused n v → ended (p ∷ ps)
    unfolding fold_lines first_refused
    first_here p ps n v c s =
        let here : First = record { number = i + 1; refusal = n } in
        let none : eqb (i + 1) 0 ≡ false = ne_eqb (i + 1) 0 (λ e. omega arith) in
        let back : i + 1 - 1 ≡ i = omega arith in
        ap (λ (g : Gathered). fold_lines count_piece g ps) c ∙ stays summary (i + 1) n ps (λ e. omega arith)
        ∙ ap (λ (x : List ℕ). gathered x (i + 1) n)
        (k.is ∙ ap (summary_afresh input) (at ∙ sym back) ∙ sym (ap (λ (t : Bool). summary_afresh input (cond t (length input / 34) (i + 1 - 1))) none))
        ∙ sym (ap (λ (a : Answer Line). up_to (or_later (i + 1) a (first_refused (i + 1 + 1) ps))) s)

    -- by whether there is room for one more
    says_by : (t : Bool) → ltb i 10000000 ≡ t → (p : List ℕ) → says_at (i + 1) p ≡ or_refuse t R.Many (piece_says p)
    says_by true e p = let l = ltb-true i 10000000 e in ap (λ (t : Bool). or_refuse t R.Many (piece_says p)) (lt-ltb (i + 1) 10000001 (omega arith))
    says_by false e p = let l = ltb-false i 10000000 e in ap (λ (t : Bool). or_refuse t R.Many (piece_says p)) (le-ltb (i + 1) 10000001 (omega arith))

    piece_by : (t : Bool) → ltb i 10000000 ≡ t → (p : List ℕ) → count_piece (gathered summary 0 0) p
        ≡ cond t (or_first summary p (piece_says p)) (gathered summary 10000001 22)
    piece_by t e p = ap (λ (x : Bool). cond x (or_first summary p (piece_says p)) (gathered summary 10000001 22)) (ap (λ (n : ℕ). ltb n 10000000) counts_i ∙ e)

    past_most : ltb i 10000000 ≡ false → (p : List ℕ) (ps : List (List ℕ)) → ended (p ∷ ps)
    past_most e p ps =
        let l = ltb-false i 10000000 e in
        let n : 10000001 ≡ i + 1 = omega (arith, few) in
        first_here p ps 22 [] (piece_by false e p ∙ ap (λ (j : ℕ). gathered summary j 22) n) (says_by false e p)

    refused_here : ltb i 10000000 ≡ true → (p : List ℕ) (ps : List (List ℕ)) (n : ℕ) (v : List ℕ) → piece_says p ≡ refused n v → ended (p ∷ ps)
    refused_here e p ps n v s =
        first_here p ps n v (piece_by true e p ∙ ap (or_first summary p) s ∙ ap (λ (j : ℕ). gathered summary (j + 1) n) counts_i) (says_by true e p ∙ s)

    -- a piece that is read is counted
    module _ (there : i < length input / 34) where
      abbrev here : List ℕ
      here = record_at input i

      size : length here ≡ 34
      size = record_size input i there

      numbers : length summary ≡ 770
      unfolding summary_afresh
      numbers = ap length k.is ∙ tabulate_length 770 (λ place. sum_n k.n (λ j. record_brings (record_at input j) place))

      one_more : ltb i 10000000 ≡ true → (l : Line) → piece_says here ≡ given l → KeptAfresh input (summary_more summary here)
      one_more e l s =
          let z = halves_back here l s in
          let room = ltb-true i 10000000 e in
          subst (λ (r : List ℕ). KeptAfresh r (summary_more summary here)) (ap (λ (j : ℕ). with_record input j here) at ∙ record_again input i)
          (kept_added input summary k here size (omega (arith, z.half_3)) (omega arith) (omega arith))

      read_here : ltb i 10000000 ≡ true → (l : Line) → piece_says here ≡ given l → (ps : List (List ℕ))
          → fold_lines count_piece (gathered (summary_more summary here) 0 0) ps ≡ up_to (first_refused (i + 1 + 1) ps) → ended (here ∷ ps)
      unfolding fold_lines first_refused
      read_here e l s ps r =
          let both = ap₂ (λ (x y : Bool). cond (x && y) (summary_more summary here) summary) (eq-eqb (length summary) 770 numbers)
          (eq-eqb (length here) 34 size) in
          ap (λ (g : Gathered). fold_lines count_piece g ps)
          (piece_by true e here ∙ ap (or_first summary here) s ∙ ap (λ (x : List ℕ). gathered x 0 0) both) ∙ r
          ∙ sym (ap (λ (a : Answer Line). up_to (or_later (i + 1) a (first_refused (i + 1 + 1) ps))) (says_by true e here ∙ s))

      one_more_is : (z : KeptAfresh input (summary_more summary here)) → z.n ≡ i + 1
      unfolding summary_moved
      one_more_is z =
          let room : i + 1 < 2 ^ 64 = omega (arith, few) in
          sym (ap records_in z.is ∙ records_are input z.n)
          ∙ entry 770 (λ p. wrapped_sum (get_or summary p 0) (moved_by 1 (half_in here) here p)) 0 0 (omega arith)
          ∙ ap (λ (j : ℕ). (j + 1) % 2 ^ 64) counts_i ∙ mod-eq_of_lt room

    -- what is left over at the end
    left_over : length input / 34 ≡ i → (l : List ℕ) → length l < 34 → ended (pieces_of l)
    unfolding records_from fold_lines first_refused
    left_over e [] h = ap (λ (x : List ℕ). gathered x 0 0) (k.is ∙ ap (summary_afresh input) (at ∙ sym e))
    left_over e (b ∷ t) h =
        subst ended (sym (short_last [] (b ∷ t) (omega arith))) (go (ltb i 10000000) refl)
      where
        says : piece_says (b ∷ t) ≡ refusal_of R.Length
        says = ap piece_says (sym (take_all (length (b ∷ t)) (b ∷ t) (omega arith))) ∙ short_piece (b ∷ t) (length (b ∷ t)) h

        go : (x : Bool) → ltb i 10000000 ≡ x → ended ((b ∷ t) ∷ [])
        go true q = refused_here q (b ∷ t) [] 18 [] says
        go false q = past_most q (b ∷ t) []

  -- from any record on
  pub from : (m i : ℕ) (summary : List ℕ) (k : KeptAfresh input summary) → k.n ≡ i → i + m ≡ length input / 34
      → fold_lines count_piece (gathered summary 0 0) (pieces_of (drop (34 * i) input)) ≡ up_to (first_refused (i + 1) (pieces_of (drop (34 * i) input)))
  from zero i summary k at e =
      let d = length-drop (34 * i) input in
      left_over i summary k at (omega arith) (drop (34 * i) input) (omega arith)
  from (suc m) i summary k at e =
      subst (λ (ps : List (List ℕ)). fold_lines count_piece (gathered summary 0 0) ps ≡ up_to (first_refused (i + 1) ps)) (sym (next_record input i there))
      (go (ltb i 10000000) refl (piece_says p) refl (λ z. from m (i + 1) (summary_more summary p) z (one_more_is i summary k at there z) (omega arith)))
    where
      there : i < length input / 34
      there = omega arith

      p : List ℕ
      p = record_at input i

      ps : List (List ℕ)
      ps = pieces_of (drop (34 * (i + 1)) input)

      go : (t : Bool) → ltb i 10000000 ≡ t → (a : Answer Line) → piece_says p ≡ a
          → (KeptAfresh input (summary_more summary p) → fold_lines count_piece (gathered (summary_more summary p) 0 0) ps ≡ up_to (first_refused (i + 1 + 1) ps))
          → fold_lines count_piece (gathered summary 0 0) (p ∷ ps) ≡ up_to (first_refused (i + 1) (p ∷ ps))
      go true q (given l) s r = read_here i summary k at there q l s ps (r (one_more i summary k at there q l s))
      go true q (refused n v) s r = refused_here i summary k at q p ps n v s
      go false q a s r = past_most i summary k at q p ps
