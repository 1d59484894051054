-- One turn of the loop over a chunk, with room for its rows. Assumes nothing.
use mathlib.Core.Path.{◌≡◌, refl, sym, ap, ap₂, subst, ◌∙◌}
use mathlib.Core.List.{List, [], ◌++◌}
use Prim.Native.Nat.{ℕ, ◌+◌, ◌-◌, ◌^◌, ◌≤◌, ◌<◌}
use native.Mathlib.Omega.{arith}
use lib.ListN.{length, take, drop, length-take, length-drop, take-append-drop, drop_of_length-le}
use lib.Seq.{drop-drop, length-take-le}
use Rattle.text_in.proofs.Parts.{rest}
use Rattle.text_out.specs.Text.{written_of}
use Rattle.text_out.proofs.Added.{adds_to, adds_length, adds_front, adds_back}
use Rattle.text_out.proofs.Wrote.{written_is}
use Rattle.line_cut.specs.Lines.{ends}
use Rattle.line_cut.proofs.Counted.{ends_append}
use Rattle.ledger_join.specs.Machine.{Joint, joint, bytes_on}
use Rattle.ledger_join.specs.Promises.{RowReady, SomeReady, TakesSome, KeepsNumber, TakesBytes}
use Rattle.ledger_join.specs.declared.Joining.{Joining}
use Rattle.ledger_join.specs.declared.SomeTaken.{SomeTaken}
use Rattle.ledger_join.proofs.Pieces.{bytes_cut, bytes_after, bytes_bounds}
use Rattle.std.specs.Prelude.{Ok}

pub record Turn (whole : Joint) (chunk out₀ row out text : List ℕ) (s : Joining) (w i k : ℕ) : Type 0 where
  pub ran : bytes_on (joint row s (take w out)) (drop i chunk) ≡ whole
  pub size : length row ≡ 84
  pub kept : length out ≡ length out₀
  pub ready : RowReady s out₀ w (ends (drop i chunk))
  pub rest : drop w out ≡ drop w out₀
  pub within : i ≤ length chunk
  pub number : KeepsNumber text k (s.loads + s.refusals)

bytes_none : (m : Joint) → bytes_on m [] ≡ m
unfolding bytes_on
bytes_none m = refl

module _ (whole : Joint) (chunk out₀ row out text : List ℕ) (s : Joining) (w i k : ℕ) (h : i < length chunk)
    (t : Turn whole chunk out₀ row out text s w i k) where
  -- what the call needs
  pub turn_ready : SomeReady s row (take (length chunk - i) (drop i chunk)) (take k text) out w
  turn_ready = subst (λ (x : List ℕ). SomeReady s row x (take k text) out w) (sym (rest i chunk)) (record {
    ready = record { all = t.ready.all; own = t.ready.own; room = omega (arith, t.ready.room, t.kept) };
    size = t.size;
    some = omega (arith, length-drop i chunk);
    digits = omega (arith, length-take k text, t.number.size);
    number = t.number.number;
  })

  module _ (r : SomeTaken) (row' out' : List ℕ) (q : TakesSome s row (take (length chunk - i) (drop i chunk)) out w r row' out') where
    taken : TakesSome s row (drop i chunk) out w r row' out'
    taken = subst (λ (x : List ℕ). TakesSome s row x out w r row' out') (rest i chunk) q

    apart : drop i chunk ≡ take r.passed (drop i chunk) ++ drop (i + r.passed) chunk
    apart = sym (take-append-drop r.passed (drop i chunk)) ∙ ap (λ (x : List ℕ). take r.passed (drop i chunk) ++ x) (drop-drop r.passed i chunk)

    pub turn_passed : i + r.passed ≤ length chunk
    turn_passed = omega (arith, taken.passed, length-drop i chunk)

    pub turn_more : 0 < r.passed
    turn_more = taken.some

    pub turn_count : r.state.loads + r.state.refusals < 2 ^ 64
    turn_count =
        let e = ap ends apart ∙ ends_append (take r.passed (drop i chunk)) (drop (i + r.passed) chunk) in
        let b = bytes_bounds row s (take r.passed (drop i chunk)) in
        let z = ap (λ (x : Joining). x.loads + x.refusals) taken.state in
        omega (arith, t.ready.all, b.all)

    pub turn_next : (text' : List ℕ) (k' : ℕ) → KeepsNumber text' k' (r.state.loads + r.state.refusals)
        → Turn whole chunk out₀ row' out' text' r.state r.end (i + r.passed) k'
    turn_next text' k' n =
        let p : List ℕ = take r.passed (drop i chunk) in
        let m : Joint = bytes_on (joint row s []) p in
        let e = ap ends apart ∙ ends_append p (drop (i + r.passed) chunk) in
        let b = bytes_bounds row s p in
        let fits : w + length m.text ≤ length out = omega (arith, b.room, t.ready.room, t.kept) in
        let to : r.end ≡ w + length m.text = adds_to taken.text fits in
        record {
          ran =
              ap (λ (x : Joint). bytes_on x (drop (i + r.passed) chunk))
              (same taken.kept taken.state (adds_front taken.text fits) ∙ sym (bytes_after row s (take w out) p))
              ∙ sym (bytes_cut (joint row s (take w out)) p (drop (i + r.passed) chunk)) ∙ sym (ap (bytes_on (joint row s (take w out))) apart) ∙ t.ran;
          size = ap length taken.kept ∙ b.size ∙ t.size;
          kept = adds_length taken.text fits ∙ t.kept;
          ready = subst (λ (x : Joining). RowReady x out₀ r.end (ends (drop (i + r.passed) chunk))) (sym taken.state)
              (record {
                all = omega (arith, t.ready.all, b.all);
                own = omega (arith, t.ready.own, b.own);
                room =
                    omega (arith, t.ready.room, b.room);
              });
          rest = adds_back taken.text fits ∙ later_rest (length m.text) to;
          within = turn_passed;
          number = n;
        }
      where
        same : {x x' : List ℕ} {y y' : Joining} {z z' : List ℕ} → x ≡ x' → y ≡ y' → z ≡ z' → joint x y z ≡ joint x' y' z'
        same a c d = cc

        later_rest : (n : ℕ) → r.end ≡ w + n → drop r.end out ≡ drop r.end out₀
        later_rest n e = rw e (sym (drop-drop n w out) ∙ ap (drop n) t.rest ∙ drop-drop n w out₀)

-- before the first byte, and after the last
pub turn_none : (s : Joining) (row chunk out text : List ℕ) (k : ℕ) → RowReady s out 0 (ends chunk) → length row ≡ 84
    → KeepsNumber text k (s.loads + s.refusals)
    → Turn (bytes_on (joint row s []) chunk) chunk out row out text s 0 0 k
turn_none s row chunk out text k r e n = record { ran = refl; size = e; kept = refl; ready = r; rest = refl; within = omega arith; number = n }

pub turn_end : (s₀ : Joining) (row₀ chunk out₀ row out text : List ℕ) (s : Joining) (w i k : ℕ) → length chunk ≤ i
    → Turn (bytes_on (joint row₀ s₀ []) chunk) chunk out₀ row out text s w i k → TakesBytes s₀ row₀ chunk out₀ (Ok (s, w)) row out
turn_end s₀ row₀ chunk out₀ row out text s w i k h t =
    let m : bytes_on (joint row₀ s₀ []) chunk ≡ joint row s (take w out) =
    sym t.ran ∙ ap (bytes_on (joint row s (take w out))) (drop_of_length-le chunk h) ∙ bytes_none (joint row s (take w out)) in
    let within : w ≤ length out₀ = omega (arith, t.ready.room) in
    let size : length (take w out) ≡ w = length-take-le w out (omega (arith, t.kept)) in
    let fits : 0 + length (take w out) ≤ length out₀ = omega arith in
    record {
      answer = ap₂ (λ x n. Ok (x, n)) (sym (ap (λ (x : Joint). x.state) m)) (sym (ap (λ (x : Joint). length x.text) m ∙ size));
      kept = sym (ap (λ (x : Joint). x.row) m);
      rows =
          sym (take-append-drop w out) ∙ ap (λ (l : List ℕ). take w out ++ l)
          (t.rest ∙ ap (λ (k : ℕ). drop k out₀) (let z : w ≡ 0 + length (take w out) = omega arith in z))
          ∙ sym (written_is out₀ 0 (take w out) fits) ∙ sym (ap (λ (x : Joint). written_of out₀ 0 x.text) m);
      within = subst (λ (x : Joint). length x.text ≤ length out₀) (sym m) (omega arith);
    }
