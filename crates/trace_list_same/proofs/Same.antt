-- The claims of a trace's list. A list that is turned flat was tested, and so was a flat trace that is listed; the laws of trace_list do the
-- rest. Assumes nothing.
use mathlib.Core.Path.{◌≡◌, sym, ap, subst, ◌∙◌}
use mathlib.Core.Bool.{true, ◌&&◌}
use mathlib.Core.List.{List}
use mathlib.Core.Logic.{◌⊎◌, inl, inr, ⊎_elim}
use Prim.Native.Nat.{ℕ, ◌<◌, ◌≤◌}
use native.Mathlib.Decide.{dec_lt}
use native.Mathlib.Omega.{arith}
use borrow.Author.Tests.{eq-eqb, le-leb, eqb-true}
use lib.Dec.{T, eqb, leb, leb→le}
use lib.IntN.{ℤ, pos, nat_abs, ◌-ℤ◌, ◌*ℤ◌}
use lib.ListN.{length}
use Rattle.chess.specs.Named.{turned_for_black}
use Rattle.refusal.specs.Answer.{Answer, given, or_refuse}
use Rattle.refusal.specs.declared.Refusal.TheVariants as R
use Rattle.refusal.proofs.Answers.{passed}
use Rattle.laws.proofs.Truth.{true_T, T_true, and_l, and_r}
use Rattle.places.specs.Places.{entry_place}
use Rattle.position_consistent.specs.Consistent.{consistent}
use Rattle.position.specs.Checked.{checked}
use Rattle.position.proofs.Doors.{through}
use Rattle.position.specs.declared.State.{State}
use Rattle.score_material.specs.Pieces.{pieces}
use Rattle.score.specs.Score.{eval_of, score_of, score}
use Rattle.trace_counts.specs.Ranges.{in_ranges, are_entries}
use Rattle.trace_counts.specs.declared.Trace.{Trace}
use Rattle.trace_double.specs.Double.{double}
use Rattle.trace.specs.Trace.{trace_of, entries_of}
use Rattle.trace.proofs.Planes.{entries_length}
use Rattle.trace_exact.specs.Exact.{shipped_whole, exact_sum}
use Rattle.trace_exact.proofs.Ranges.{in_ranges_holds, are_entries_holds, pieces_few}
use Rattle.claims.proofs.Agreed.{agreement}
use Rattle.fit_gradient.specs.Gradient.{line_added}
use Rattle.trace_list.specs.Form.{is_one_rule, is_list, list_places, flat_of, ones_in, list_bytes}
use Rattle.trace_list.proofs.There.{Listed, is_listed, back, how_many_holds}
use Rattle.trace_list.proofs.Flat.{flat_length, flat_entries}
use Rattle.trace_list.proofs.Back.{bytes_back, places_back, made, flat_back}
use Rattle.trace_list_turn.specs.Promises.{listed_of, bytes_after_rule, flattened_of}
use Rattle.trace_list_computed.proofs.Sums.{ones_are_pieces}
use Rattle.trace_list_same.specs.Lists.{EntryBefore, SortedByThree, ListBack, FlatBack, SameBits, SameLine, OfPositions, Carried}

-- ---- the order
pub sorted_by_three : SortedByThree
unfolding EntryBefore
sorted_by_three k s c l t d hs hc ht hd = record { rises = up; before = down }
  where
    rest : k ≡ l → ((s < t) ⊎ ((s ≡ t) × (c < d))) → entry_place k s c < entry_place l t d
    rest e b = ⊎_elim (λ (a : s < t). omega arith) (λ (a : (s ≡ t) × (c < d)). let x : s ≡ t = a.0 in let y : c < d = a.1 in omega arith) b

    up : EntryBefore k s c l t d → entry_place k s c < entry_place l t d
    up b = ⊎_elim (λ (a : k < l). omega arith) (λ (a : (k ≡ l) × ((s < t) ⊎ ((s ≡ t) × (c < d)))). rest a.0 a.1) b

    within : k ≡ l → entry_place k s c < entry_place l t d → (s < t) ⊎ ((s ≡ t) × (c < d))
    within e h = elim (dec_lt s t) [ yes a ↦ inl a | no a ↦ inr (omega arith, omega arith) ]

    down : entry_place k s c < entry_place l t d → EntryBefore k s c l t d
    down h = elim (dec_lt k l) [ yes a ↦ inl a | no a ↦ inr (omega arith, within (omega arith) h) ]

-- ---- what was tested
pub record Turned (t : Trace) (used : ℕ) (list : List ℕ) (flat : List ℤ) : Type 0 where
  pub ranges : in_ranges t ≡ true
  pub is : is_list used list ≡ true
  pub flat_is : flat ≡ flat_of (list_places list used)

was_turned : (t : Trace) (used : ℕ) (list : List ℕ) (entries flat : List ℤ) → flattened_of t used list entries ≡ given flat → Turned t used list flat
was_turned t used list entries flat e =
    let a = passed (eqb (length entries) 768) R.Shape flat (or_refuse (in_ranges t) R.Trace
    (or_refuse (is_list used list) R.Entry (given (flat_of (list_places list used))))) e in
    let b = passed (in_ranges t) R.Trace flat (or_refuse (is_list used list) R.Entry (given (flat_of (list_places list used)))) a.1 in
    let c = passed (is_list used list) R.Entry flat (given (flat_of (list_places list used))) b.1 in
    record { ranges = b.0; is = c.0; flat_is = cc }

marked : (t : Trace) (used : ℕ) (list : List ℕ) (flat : List ℤ) → Turned t used list flat → are_entries flat ≡ true
marked t used list flat h = ap are_entries h.flat_is ∙ T_true (are_entries (flat_of (list_places list used))) (flat_entries (list_places list used))

long : (t : Trace) (used : ℕ) (list : List ℕ) (flat : List ℤ) → Turned t used list flat → length flat ≡ 768
long t used list flat h = ap length h.flat_is ∙ flat_length (list_places list used)

-- ---- there and back
module _ (t : Trace) (used : ℕ) (list : List ℕ) (flat : List ℤ) (h : Turned t used list flat) where
  were : Listed used list
  were = is_listed used list (true_T h.is)

  places : ones_in flat ≡ list_places list used
  places = ap ones_in h.flat_is ∙ back used list were

  many : length (ones_in flat) ≡ used
  many = ap length places ∙ how_many_holds used list

  again : listed_of t flat ≡ given used
  again = simp (eq-eqb (length flat) 768 (long t used list flat h), h.ranges, marked t used list flat h, many, le-leb used 64 were.few)

pub list_back : ListBack
list_back t used list lent entries flat l e =
    let h = was_turned t used list entries flat e in (
      again t used list flat h,
      ap (λ (a : Answer ℕ). bytes_after_rule a flat lent) (again t used list flat h) ∙ ap list_bytes (places t used list flat h)
          ∙ bytes_back used list (were t used list flat h) l,
    )

pub record Made (t : Trace) (entries : List ℤ) (used : ℕ) : Type 0 where
  pub shape : length entries ≡ 768
  pub ranges : in_ranges t ≡ true
  pub marks : T (are_entries entries)
  pub few : length (ones_in entries) ≤ 64
  pub used_is : used ≡ length (ones_in entries)

was_made : (t : Trace) (entries : List ℤ) (used : ℕ) → listed_of t entries ≡ given used → Made t entries used
was_made t entries used e =
    let n : ℕ = length (ones_in entries) in
    let a = passed (eqb (length entries) 768) R.Shape used (or_refuse (in_ranges t && are_entries entries) R.Trace (or_refuse (leb n 64) R.Entry (given n))) e in
    let b = passed (in_ranges t && are_entries entries) R.Trace used (or_refuse (leb n 64) R.Entry (given n)) a.1 in
    let c = passed (leb n 64) R.Entry used (given n) b.1 in
    record {
      shape = eqb-true (length entries) 768 a.0;
      ranges = T_true (in_ranges t) (and_l (in_ranges t) (are_entries entries) (true_T b.0));
      marks = and_r (in_ranges t) (are_entries entries) (true_T b.0);
      few = leb→le (length (ones_in entries)) 64 (true_T c.0);
      used_is = cc;
    }

is_made : (entries : List ℤ) → length (ones_in entries) ≤ 64 → is_list (length (ones_in entries)) (list_bytes (ones_in entries)) ≡ true
unfolding ones_in
is_made entries few = T_true (is_list (length (ones_in entries)) (list_bytes (ones_in entries))) (made (is_one_rule entries) few)

flat_again : (entries : List ℤ) → length entries ≡ 768 → T (are_entries entries) → length (ones_in entries) ≤ 64
    → flat_of (list_places (list_bytes (ones_in entries)) (length (ones_in entries))) ≡ entries
flat_again entries l m few = ap flat_of (places_back (ones_in entries) few) ∙ flat_back entries l m

pub flat_back_again : FlatBack
flat_back_again t used list entries lent l e =
    let h = was_made t entries used e in
    let ks : List ℕ = ones_in entries in
    ap (λ (a : Answer ℕ). flattened_of t used (bytes_after_rule a entries list) lent) e
    ∙ ap (λ (n : ℕ). flattened_of t n (list_bytes (ones_in entries)) lent) h.used_is
    ∙ simp (eq-eqb (length lent) 768 l, h.ranges, is_made entries h.few) (ap given (flat_again entries h.shape h.marks h.few))

-- ---- the same bits
pub same_bits : SameBits
same_bits t used list entries flat w squares e =
    let h = was_turned t used list entries flat e in
    simp (eq-eqb (length flat) 768 (long t used list flat h), h.ranges, marked t used list flat h, h.is)
    (ap (λ (es : List ℤ). or_refuse (eqb (length squares) 768) R.Shape (given (double t es w squares))) (sym h.flat_is))

pub same_line : SameLine
same_line t used list entries flat c g e =
    let h = was_turned t used list entries flat e in
    simp (eq-eqb (length flat) 768 (long t used list flat h), h.ranges, marked t used list flat h, h.is)
    (ap (λ (es : List ℤ). or_refuse (eqb (length g) 779) R.Shape (given (line_added t es c g))) (sym h.flat_is))

-- ---- a position's
was_consistent : {A : Type 0} (bbs board : List ℕ) (state : State) (a : A) (rest : Answer A) → checked bbs board state rest ≡ given a
    → (consistent bbs board ≡ true) × (rest ≡ given a)
was_consistent bbs board state a rest e = let w = through bbs board state rest a e in (w.0.pieces, w.1)

few_ones : (bbs board : List ℕ) → consistent bbs board ≡ true → length (ones_in (entries_of bbs)) ≤ 64
few_ones bbs board e = subst (λ (m : ℕ). m ≤ 64) (sym (ones_are_pieces bbs board e)) (pieces_few bbs)

listed_position : (bbs board : List ℕ) (side : ℕ) → consistent bbs board ≡ true → listed_of (trace_of bbs side) (entries_of bbs) ≡ given (pieces bbs)
listed_position bbs board side e =
    let n : length (ones_in (entries_of bbs)) ≡ pieces bbs = ones_are_pieces bbs board e in
    simp (eq-eqb (length (entries_of bbs)) 768 (entries_length bbs), in_ranges_holds bbs side, are_entries_holds bbs, n, le-leb (pieces bbs) 64 (pieces_few bbs))

pub of_positions : OfPositions
of_positions bbs board lent state t e =
    let w = was_consistent bbs board state t (given (trace_of bbs state.side)) e in
    let q : trace_of bbs state.side ≡ t = let z = w.1 in cc in
    let l : listed_of t (entries_of bbs) ≡ given (pieces bbs) = ap (λ (x : Trace). listed_of x (entries_of bbs)) (sym q)
    ∙ listed_position bbs board state.side w.0 in
    (l, ap (λ (a : Answer ℕ). bytes_after_rule a (entries_of bbs) lent) l)

-- ---- demand 3
position_flat : (bbs board : List ℕ) → consistent bbs board ≡ true → flat_of (list_places (list_bytes (ones_in (entries_of bbs))) (pieces bbs)) ≡ entries_of bbs
position_flat bbs board e =
    ap (λ (m : ℕ). flat_of (list_places (list_bytes (ones_in (entries_of bbs))) m)) (sym (ones_are_pieces bbs board e))
    ∙ flat_again (entries_of bbs) (entries_length bbs) (true_T (are_entries_holds bbs)) (few_ones bbs board e)

scored_consistent : (bbs board : List ℕ) (state : State) (s : ℤ) → eval_of bbs board state ≡ given (score s) → consistent bbs board ≡ true
unfolding eval_of
scored_consistent bbs board state s e = (was_consistent bbs board state (score s) (score_of bbs state) e).0

pub carried : Carried
carried bbs board state s kings e =
    subst (λ (es : List ℤ). nat_abs (s *ℤ pos 30 -ℤ turned_for_black state.side (exact_sum shipped_whole (trace_of bbs state.side) es)) ≤ 85)
    (sym (position_flat bbs board (scored_consistent bbs board state s e))) (agreement bbs board state s kings e)
