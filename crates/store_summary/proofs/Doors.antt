-- What `add_record` and `replace_record` answer, test by test. Assumes nothing.
use mathlib.Core.Path.{◌≡◌, refl, sym, ap, ◌∙◌}
use mathlib.Core.Bool.{Bool}
use mathlib.Core.List.{List}
use Prim.Native.Nat.{ℕ, ◌/◌, ◌%◌, ◌≤◌, ◌<◌}
use lib.Dec.{eqb, ltb}
use lib.ListN.{length}
use borrow.Author.Tests.{eq-eqb, ne_eqb, lt-ltb, le-ltb, ltb-true}
use Rattle.refusal.specs.Answer.{Answer, given, refused, refusal_of, or_refuse, answered}
use Rattle.refusal.specs.declared.Refusal.{Refusal}
use Rattle.refusal.specs.declared.Refusal.TheVariants as R
use Rattle.refusal.proofs.Answers.{given_not, passed}
use Rattle.position.specs.declared.State.{State}
use Rattle.line_parse.specs.Line.{Line}
use Rattle.line_parse.specs.Promises.{by_value}
use Rattle.line.specs.declared.inner.Loaded.{Loaded}
use Rattle.store_record.specs.Record.{record_at, piece_says, stored_says}
use Rattle.store_record.specs.Promises.{SaysStored, store_of, is_stored, place_after}
use Rattle.store_counts.specs.Summary.{summary_more, summary_less}
use Rattle.store_summary.specs.Promises.{Store, records_in, with_record, if_given, blank, with_new, add_new, add_of, replace_old, replace_of, is_kept}
use Rattle.store_summary.specs.Promises.{store_after, KeepsStore, AddsRecord, ReplacesRecord, Prepares, Keeps}
use Rattle.store_summary.specs.declared.Prepared.{Prepared}
use Rattle.std.specs.Prelude.{Ok, Err}

-- ---- an answer, and the memory
unchanged : (a : Answer Store) (s : Store) (q : Refusal) → refusal_of q ≡ a → KeepsStore a s (Err q) s.run s.summary
unchanged a s q e = record {
  answer = ap is_kept e;
  run = ap (λ (x : Answer Store). (store_after x s).run) e;
  summary =
      ap (λ (x : Answer Store). (store_after x s).summary) e;
}

changed : (a : Answer Store) (s t : Store) → given t ≡ a → (run' summary' : List ℕ) → run' ≡ t.run → summary' ≡ t.summary
    → KeepsStore a s (Ok tt) run' summary'
changed a s t e run' summary' p q =
    record {
      answer = ap is_kept e;
      run = p ∙ ap (λ (x : Answer Store). (store_after x s).run) e;
      summary = q
          ∙ ap (λ (x : Answer Store). (store_after x s).summary) e;
    }

-- ---- the summary's SHAPE, and what was prepared, whatever is done with the record
module _ (bbs board : List ℕ) (state : State) (half : ℕ) (s : Store) (rest : List ℕ → Answer Store) where
  pub misshapen : (length s.summary ≡ 770 → ⊥) → refusal_of R.Shape ≡ with_new bbs board state half s rest
  misshapen n = sym (ap (λ (t : Bool). or_refuse t R.Shape (if_given (store_of bbs board state half blank) rest)) (ne_eqb (length s.summary) 770 n))

  module _ (n : length s.summary ≡ 770) (made : Prepared) (promise : Prepares bbs board state half made) where
    in_shape : if_given (store_of bbs board state half blank) rest ≡ with_new bbs board state half s rest
    in_shape = sym (ap (λ (t : Bool). or_refuse t R.Shape (if_given (store_of bbs board state half blank) rest)) (eq-eqb (length s.summary) 770 n))

    pub turned : (q : Refusal) → made.answer ≡ Err q → refusal_of q ≡ with_new bbs board state half s rest
    turned q told = go (store_of bbs board state half blank) (sym (ap answered told) ∙ promise.answer) ∙ in_shape
      where
        go : (a : Answer (List ℕ)) → refusal_of q ≡ is_stored a → refusal_of q ≡ if_given a rest
        go (given bytes) p = given_not (sym p)
        go (refused m v) p = cc

    pub prepared : made.answer ≡ Ok tt → rest made.bytes ≡ with_new bbs board state half s rest
    prepared told = go (store_of bbs board state half blank) (sym (ap answered told) ∙ promise.answer) promise.bytes ∙ in_shape
      where
        go : (a : Answer (List ℕ)) → given tt ≡ is_stored a → made.bytes ≡ place_after a blank → rest made.bytes ≡ if_given a rest
        go (given bytes) p e = ap rest e
        go (refused m v) p e = given_not p

-- ---- adding
module _ (bbs board : List ℕ) (state : State) (half : ℕ) (run summary : List ℕ) where
  abbrev s : Store
  s = record { run = run; summary = summary }

  pub add_shape : (length summary ≡ 770 → ⊥) → AddsRecord bbs board state half run summary (Err R.Shape) run summary
  unfolding add_of
  add_shape n = unchanged (add_of bbs board state half s) s R.Shape (misshapen bbs board state half s (add_new s) n)

  module _ (n : length summary ≡ 770) (made : Prepared) (promise : Prepares bbs board state half made) where
    pub add_position : (q : Refusal) → made.answer ≡ Err q → AddsRecord bbs board state half run summary (Err q) run summary
    unfolding add_of
    add_position q told = unchanged (add_of bbs board state half s) s q (turned bbs board state half s (add_new s) n made promise q told)

    module _ (told : made.answer ≡ Ok tt) where
      add_rest : add_new s made.bytes ≡ add_of bbs board state half s
      unfolding add_of
      add_rest = prepared bbs board state half s (add_new s) n made promise told

      pub add_length : (length run % 34 ≡ 0 → ⊥) → AddsRecord bbs board state half run summary (Err R.Length) run summary
      add_length h =
          let e : add_new s made.bytes ≡ refusal_of R.Length = rw (ne_eqb (length run % 34) 0 h) in
          unchanged (add_of bbs board state half s) s R.Length (sym e ∙ add_rest)

      module _ (l : length run % 34 ≡ 0) where
        pub add_many : 10000000 ≤ records_in summary → AddsRecord bbs board state half run summary (Err R.Many) run summary
        add_many h =
            let e : add_new s made.bytes ≡ refusal_of R.Many = rw (eq-eqb (length run % 34) 0 l, le-ltb (records_in summary) 10000000 h) in
            unchanged (add_of bbs board state half s) s R.Many (sym e ∙ add_rest)

        module _ (m : records_in summary < 10000000) where
          pub add_room : length run / 34 ≤ records_in summary → AddsRecord bbs board state half run summary (Err R.Room) run summary
          add_room h =
              let e : add_new s made.bytes ≡ refusal_of R.Room = rw (
                eq-eqb (length run % 34) 0 l,
                lt-ltb (records_in summary) 10000000 m,
                le-ltb (records_in summary) (length run / 34) h,
              ) in
              unchanged (add_of bbs board state half s) s R.Room (sym e ∙ add_rest)

          pub add_done : records_in summary < length run / 34 → (run' summary' : List ℕ) → Keeps run summary (records_in summary) made.bytes run' summary'
              → AddsRecord bbs board state half run summary (Ok tt) run' summary'
          add_done h run' summary' k =
              let t : Store = record { run = with_record run (records_in summary) made.bytes; summary = summary_more summary made.bytes } in
              let e : add_new s made.bytes ≡ given t = rw (
                eq-eqb (length run % 34) 0 l,
                lt-ltb (records_in summary) 10000000 m,
                lt-ltb (records_in summary) (length run / 34) h,
              ) in
              changed (add_of bbs board state half s) s t (sym e ∙ add_rest) run' summary' k.put k.counted

-- ---- a record that is read is there
pub stored_there : (run : List ℕ) (number : ℕ) (l : Line) → stored_says run number ≡ given l → number < length run / 34
unfolding stored_says
stored_there run number l e =
    let p = passed (eqb (length run % 34) 0) R.Length l (or_refuse (ltb number (length run / 34)) R.Absent (piece_says (record_at run number))) e in
    let q = passed (ltb number (length run / 34)) R.Absent l (piece_says (record_at run number)) p.1 in
    ltb-true number (length run / 34) q.0

-- ---- replacing
module _ (bbs board : List ℕ) (state : State) (half number : ℕ) (run summary : List ℕ) where
  abbrev c : Store
  c = record { run = run; summary = summary }

  pub replace_shape : (length summary ≡ 770 → ⊥) → ReplacesRecord bbs board state half number run summary (Err R.Shape) run summary
  unfolding replace_of
  replace_shape n = unchanged (replace_of bbs board state half number c) c R.Shape (misshapen bbs board state half c (replace_old number c) n)

  module _ (n : length summary ≡ 770) (made : Prepared) (promise : Prepares bbs board state half made) where
    pub replace_position : (q : Refusal) → made.answer ≡ Err q → ReplacesRecord bbs board state half number run summary (Err q) run summary
    unfolding replace_of
    replace_position q told = unchanged (replace_of bbs board state half number c) c q
        (turned bbs board state half c (replace_old number c) n made promise q told)

    module _ (told : made.answer ≡ Ok tt) (old : Loaded) (says : SaysStored run number old) where
      replace_rest : replace_old number c made.bytes ≡ replace_of bbs board state half number c
      unfolding replace_of
      replace_rest = prepared bbs board state half c (replace_old number c) n made promise told

      abbrev after : Store
      after = record { run = with_record run number made.bytes; summary = summary_more (summary_less summary (record_at run number)) made.bytes }

      abbrev in_range : Answer Store
      in_range = or_refuse (ltb number (records_in summary)) R.Absent (given after)

      pub replace_old_holds : (q : Refusal) → old.answer ≡ Err q → ReplacesRecord bbs board state half number run summary (Err q) run summary
      replace_old_holds q t = unchanged (replace_of bbs board state half number c) c q (go (stored_says run number) (sym (ap answered t) ∙ says.answer) ∙ replace_rest)
        where
          go : (a : Answer Line) → refusal_of q ≡ by_value a → refusal_of q ≡ if_given a (λ l. in_range)
          go (given l) p = given_not (sym p)
          go (refused m v) p = cc

      module _ (z : State) (h : ℕ) (t : old.answer ≡ Ok (z, h)) where
        read_rest : in_range ≡ replace_old number c made.bytes
        read_rest = go (stored_says run number) (sym (ap answered t) ∙ says.answer)
          where
            go : (a : Answer Line) → given (z, h) ≡ by_value a → in_range ≡ if_given a (λ l. in_range)
            go (given l) p = refl
            go (refused m v) p = given_not p

        pub there : number < length run / 34
        there = go (stored_says run number) refl (sym (ap answered t) ∙ says.answer)
          where
            go : (a : Answer Line) → stored_says run number ≡ a → given (z, h) ≡ by_value a → number < length run / 34
            go (given l) q p = stored_there run number l q
            go (refused m v) q p = given_not p

        pub replace_absent : records_in summary ≤ number → ReplacesRecord bbs board state half number run summary (Err R.Absent) run summary
        replace_absent g =
            let e : in_range ≡ refusal_of R.Absent = rw (le-ltb number (records_in summary) g) in
            unchanged (replace_of bbs board state half number c) c R.Absent (sym e ∙ read_rest ∙ replace_rest)

        pub replace_done : number < records_in summary → (between run' summary' : List ℕ) → between ≡ summary_less summary (record_at run number)
            → Keeps run between number made.bytes run' summary' → ReplacesRecord bbs board state half number run summary (Ok tt) run' summary'
        replace_done g between run' summary' u k =
            let e : in_range ≡ given after = rw (lt-ltb number (records_in summary) g) in
            changed (replace_of bbs board state half number c) c after (sym e ∙ read_rest ∙ replace_rest) run' summary' k.put
            (k.counted ∙ ap (λ (x : List ℕ). summary_more x made.bytes) u)
