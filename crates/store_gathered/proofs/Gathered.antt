-- Whatever chunks a store is cut into, the calls give the summary of the whole store, up to the first record that is refused. Assumes nothing.
use mathlib.Core.Path.{◌≡◌, refl, sym, ap, ap₂, subst, subst₂, ◌∙◌}
use mathlib.Core.Bool.{Bool, true, false, cond, ◌&&◌}
use mathlib.Core.List.{List, [], ◌∷◌}
use Prim.Native.Nat.{ℕ, ◌+◌, ◌/◌, ◌<◌}
use native.Mathlib.Omega.{arith}
use lib.Dec.{eqb, ltb}
use lib.ListN.{length, take}
use native.Mathlib.Nat.{zero-add}
use borrow.Author.Tests.{lt-ltb, le-ltb, eq-eqb, ne_eqb, eqb-true, eqb-false}
use Rattle.refusal.specs.Answer.{Answer, given, refused, refusal_of, or_refuse, answered}
use Rattle.refusal.specs.declared.Refusal.TheVariants as R
use Rattle.refusal.proofs.Answers.{given_not}
use Rattle.line_parse.specs.Line.{Line}
use Rattle.store_record.specs.Record.{piece_says}
use Rattle.store_cut.specs.Pieces.{pieces_of}
use Rattle.store_cut.specs.Cut.{OpenPiece, filled, piece_emptied, PiecesSoFar, run_pieces, end_pieces}
use Rattle.store_cut.specs.Promises.{holding_piece}
use Rattle.store_cut.proofs.Machine.{pieces_append, left_piece}
use Rattle.store_cut.proofs.Folded.{folded_pieces}
use Rattle.store_counts.specs.Summary.{summary_afresh}
use Rattle.store_summary.specs.Promises.{records_in}
use Rattle.store_totals.specs.Totals.{empty_summary}
use Rattle.store_totals.proofs.Kept.{records_are, kept_none}
use Rattle.store_whole.proofs.Cut.{short_piece}
use Rattle.store_gather.specs.Gather.{Gathered, gathered, or_first, count_piece}
use Rattle.store_gather.specs.Promises.{run_gather, so_far, pieces_gathered, state_in, gathered_piece, summary_after, FeedsSummary, end_first}
use Rattle.store_gather.specs.declared.First.{First}
use Rattle.store_gather.specs.declared.GatheredSoFar.{GatheredSoFar}
use Rattle.store_gather.proofs.Pieces.{still_770}
use Rattle.store_gathered.specs.Calls.{GatherCall, gather_next, GatherCallsMade, gather_input, fresh_gather}
use Rattle.store_gathered.specs.Gathered.{says_at, or_later, first_refused, read_before, GatheredWhole}
use Rattle.store_gathered.proofs.Read.{up_to, from}
use Rattle.std.specs.Prelude.{Result, Ok, Err}
use Rattle.refusal.specs.declared.Refusal.{Refusal}

-- ---- a summary stays one
run_770 : (o : OpenPiece) (s : Gathered) (t : List ℕ) → length s.summary ≡ 770 → length (run_pieces count_piece o s t).kept.summary ≡ 770
unfolding run_pieces
run_770 o s [] n = n
run_770 o s (b ∷ t) n =
    go (ltb o.held 33) (run_770 (filled o b) s t n)
    (run_770 (piece_emptied (filled o b)) (count_piece s (filled o b).piece) t (still_770 s.number s.refusal (filled o b).piece s.summary n))
  where
    f : PiecesSoFar Gathered
    f = run_pieces count_piece (filled o b) s t

    e : PiecesSoFar Gathered
    e = run_pieces count_piece (piece_emptied (filled o b)) (count_piece s (filled o b).piece) t

    go : (x : Bool) → length f.kept.summary ≡ 770 → length e.kept.summary ≡ 770 → length (cond x f e).kept.summary ≡ 770
    go true p q = p
    go false p q = q

-- ---- the last call: a short last piece is refused, as the machine does with one that ends there
-- the number and the refusal of a machine's end, both 0 where there is no number
abbrev first_in : Gathered → First
first_in g = cond (eqb g.number 0) (record { number = 0; refusal = 0 }) (record { number = g.number; refusal = g.refusal })

record Ended (g : Gathered) (first : First) (last : List ℕ) : Type 0 where
  told : first ≡ first_in g
  counts : last ≡ g.summary

module _ (state : GatheredSoFar) (piece summary : List ℕ) (short : state.held < 34) where
  abbrev s : Gathered
  s = gathered summary state.number state.refusal

  abbrev last_piece : List ℕ
  last_piece = take state.held piece

  -- by how its tests came out
  closed : (x z : Bool) → eqb state.number 0 ≡ x
      → Ended (cond x (cond z (gathered summary (records_in summary + 1) 18) (gathered summary 10000001 22)) s)
      (cond x (cond z (record { number = records_in summary + 1; refusal = 18 }) (record { number = 10000001; refusal = 22 }))
      (record { number = state.number; refusal = state.refusal })) summary
  closed true true e =
      let here : First = record { number = records_in summary + 1; refusal = 18 } in
      record {
        told = sym (ap (λ (t : Bool). cond t (record { number = 0; refusal = 0 }) here) (ne_eqb (records_in summary + 1) 0 (λ n. omega arith)));
        counts = refl;
      }
  closed true false e = record { told = refl; counts = refl }
  closed false z e = record {
    told = sym (ap (λ (t : Bool). cond t (record { number = 0; refusal = 0 })
        (record { number = state.number; refusal = state.refusal })) e);
    counts = refl;
  }

  finished : (y : Bool) → eqb state.held 0 ≡ y → Ended (end_pieces count_piece (record { left = holding_piece piece state.held; kept = s }))
      (end_first state (records_in summary)) summary
  finished true e =
      let none : state.held ≡ 0 = eqb-true state.held 0 e in
      subst₂ (λ (t u : Bool). Ended (cond t (count_piece s last_piece) s)
      (cond (eqb state.number 0)
      (cond u (record { number = 0; refusal = 0 }) (cond (ltb (records_in summary) 10000000) (record { number = records_in summary + 1; refusal = 18 })
      (record { number = 10000001; refusal = 22 })))
      (record { number = state.number; refusal = state.refusal })) summary)
      (sym (le-ltb 0 state.held (omega arith))) (sym e)
      (record { told = refl; counts = refl })
  finished false e =
      let some = eqb-false state.held 0 e in
      let says : piece_says last_piece ≡ refusal_of R.Length = short_piece piece state.held short in
      subst₂ (λ (t u : Bool). Ended (cond t (count_piece s last_piece) s)
      (cond (eqb state.number 0)
      (cond u (record { number = 0; refusal = 0 }) (cond (ltb (records_in summary) 10000000) (record { number = records_in summary + 1; refusal = 18 })
      (record { number = 10000001; refusal = 22 })))
      (record { number = state.number; refusal = state.refusal })) summary)
      (sym (lt-ltb 0 state.held (omega arith))) (sym e)
      (subst (λ (a : Answer Line). Ended (cond (eqb state.number 0)
      (cond (ltb (records_in summary) 10000000) (or_first summary last_piece a) (gathered summary 10000001 22)) s)
      (cond (eqb state.number 0) (cond (ltb (records_in summary) 10000000) (record { number = records_in summary + 1; refusal = 18 })
      (record { number = 10000001; refusal = 22 }))
      (record { number = state.number; refusal = state.refusal })) summary)
      (sym says) (closed (eqb state.number 0) (ltb (records_in summary) 10000000) refl))

-- ---- a call of `feed`
more_of : (r : Result GatheredSoFar Refusal) (state : GatheredSoFar) → answered r ≡ given state → r ≡ Ok state
more_of (Ok t) state e = ap Ok (let z : t ≡ state = cc in z)
more_of (Err q) state e = given_not (sym e)

record Fed (m : PiecesSoFar Gathered) (r : Result GatheredSoFar Refusal) (piece' summary' : List ℕ) : Type 0 where
  answer : r ≡ Ok (so_far m)
  kept : piece' ≡ m.left.piece
  counts : summary' ≡ m.kept.summary

fed : (state : GatheredSoFar) (piece chunk summary : List ℕ) (r : Result GatheredSoFar Refusal) (piece' summary' : List ℕ)
    → FeedsSummary state piece chunk summary r piece' summary'
    → length piece ≡ 34 → state.held < 34 → length summary ≡ 770 → Fed (run_gather state piece chunk summary) r piece' summary'
fed state piece chunk summary r piece' summary' f size short numbers =
    let m : PiecesSoFar Gathered = run_gather state piece chunk summary in
    let all : (eqb (length piece) 34 && eqb (length summary) 770) && ltb state.held 34 ≡ true =
    ap₂ ◌&&◌ (ap₂ ◌&&◌ (eq-eqb (length piece) 34 size) (eq-eqb (length summary) 770 numbers)) (lt-ltb state.held 34 short) in
    let e : pieces_gathered state piece chunk summary ≡ given m = ap (λ (t : Bool). or_refuse t R.Shape (given m)) all in
    record {
      answer = more_of r (so_far m) (f.answer ∙ ap state_in e);
      kept = f.kept ∙ ap (λ (x : Answer (PiecesSoFar Gathered)). gathered_piece x piece) e;
      counts = f.counts ∙ ap (λ (x : Answer (PiecesSoFar Gathered)). summary_after x summary) e;
    }

-- ---- all calls
all : (state : GatheredSoFar) (piece summary : List ℕ) (calls : List GatherCall) (first : First) (last : List ℕ) → length piece ≡ 34 → state.held < 34
    → length summary ≡ 770
    → GatherCallsMade state piece summary calls first last → Ended (end_pieces count_piece (run_gather state piece (gather_input calls) summary)) first last
unfolding run_pieces gather_input GatherCallsMade
all state piece summary [] first last size short numbers made =
    subst₂ (Ended (end_pieces count_piece (record {
      left = holding_piece piece state.held;
      kept =
          gathered summary state.number state.refusal;
    }))) (sym made.0) made.1
    (finished state piece summary short (eqb state.held 0) refl)
all state piece summary (c ∷ cs) first last size short numbers made =
    let m : PiecesSoFar Gathered = run_gather state piece c.chunk summary in
    let o : OpenPiece = holding_piece piece state.held in
    let s : Gathered = gathered summary state.number state.refusal in
    let f = fed state piece c.chunk summary c.fed c.piece' c.summary' made.0 size short numbers in
    let l = left_piece count_piece o s c.chunk short in
    let rest : GatherCallsMade (so_far m) m.left.piece m.kept.summary cs first last =
    subst₂ (λ (p q : List ℕ). GatherCallsMade (so_far m) p q cs first last) f.kept f.counts
    (subst (λ (r : Result GatheredSoFar Refusal). GatherCallsMade (gather_next r state) c.piece' c.summary' cs first last) f.answer made.1) in
    subst (λ (r : PiecesSoFar Gathered). Ended (end_pieces count_piece r) first last) (sym (pieces_append count_piece o s c.chunk (gather_input cs)))
    (all (so_far m) m.left.piece m.kept.summary cs first last (l.size ∙ size) l.short (run_770 o s c.chunk numbers) rest)

-- ---- the first record that is refused has a number
first_has : (number : ℕ) (ps : List (List ℕ)) (summary : List ℕ) → (number ≡ 0 → ⊥)
    → first_in (gathered summary (first_refused number ps).number (first_refused number ps).refusal) ≡ first_refused number ps
unfolding first_refused
first_has number [] summary n = refl
first_has number (p ∷ ps) summary n = go (says_at number p) (first_has (number + 1) ps summary (λ e. omega arith))
  where
    later : First
    later = first_refused (number + 1) ps

    go : (a : Answer Line) → first_in (gathered summary later.number later.refusal) ≡ later
        → first_in (gathered summary (or_later number a later).number (or_later number a later).refusal) ≡ or_later number a later
    go (given l) e = e
    go (refused k v) e = ap (λ (t : Bool). cond t (record { number = 0; refusal = 0 }) (record { number = number; refusal = k })) (ne_eqb number 0 n)

-- THE CLAIM, for every piece buffer and all calls
pub whole : GatheredWhole
whole piece calls first last size made =
    let input : List ℕ = gather_input calls in
    let f : First = first_refused 1 (pieces_of input) in
    let none = kept_none input in
    let e : end_pieces count_piece (run_gather fresh_gather piece input empty_summary) ≡ up_to input f =
    folded_pieces count_piece piece (gathered empty_summary 0 0) input size
    ∙ from input (length input / 34) 0 empty_summary none (sym (ap records_in none.is ∙ records_are input none.n)) (zero-add (length input / 34)) in
    let g = subst (λ (x : Gathered). Ended x first last) e (all fresh_gather piece empty_summary calls first last size (omega arith) refl made) in
    let told : first ≡ f = g.told ∙ first_has 1 (pieces_of input) (summary_afresh input (read_before f input)) (λ z. omega arith) in
    record { told = told; afresh = g.counts ∙ ap (λ (x : First). summary_afresh input (read_before x input)) (sym told) }
