-- What `show` answers, test by test. Assumes nothing.
use Rattle.std.proofs.Common.{◌≡◌, ℕ, ◌+◌, ◌<◌, ◌≤◌, Bool, true, false, cond, eqb, leb, List, length, sym, refl, ap, ◌∙◌, ap₂, zero-add, arith, eq-eqb, ne_eqb, le-leb}
use borrow.Author.Tests.{lt-leb}
use Rattle.refusal.specs.Answer.{Answer, given, refusal_of, or_refuse}
use Rattle.refusal.specs.declared.Refusal.TheVariants as R
use Rattle.text_out.specs.Text.{Adds}
use Rattle.text_out.proofs.Added.{adds_to}
use Rattle.ledger_row.specs.Row.{refused_row}
use Rattle.ledger_row.proofs.Fits.{fits_refused}
use Rattle.store_gather.specs.declared.First.{First}
use Rattle.std.specs.Prelude.{Ok, Err}
use Rattle.store_text.specs.Page.{page_of}
use Rattle.store_text.specs.Promises.{is_whole, shown_text, show_of, shown_length, shown_buffer, ShowsSummary}
use Rattle.store_text.specs.declared.Form.{Form}
use Rattle.store_text.specs.declared.Shown.TheVariants as S
use Rattle.store_text.proofs.Fits.{length_page}

module _ (form : Form) (first : First) (summary out : List ℕ) where
  by : Bool → Bool → Answer (List ℕ)
  by x y = or_refuse x R.Shape (or_refuse y R.Room (given (shown_text form first summary)))

  tests : (x y : Bool) → eqb (length summary) 770 ≡ x → leb 262144 (length out) ≡ y → by x y ≡ show_of form first summary out
  unfolding by
  tests x y p q = sym (ap₂ by p q)

  pub no_summary : (length summary ≡ 770 → ⊥) → ShowsSummary form first summary out (Err R.Shape) out
  unfolding by
  no_summary n =
      let e : refusal_of R.Shape ≡ show_of form first summary out = tests false (leb 262144 (length out)) (ne_eqb (length summary) 770 n) refl in
      record { answer = ap (shown_length (is_whole first)) e; text = ap (λ (a : Answer (List ℕ)). shown_buffer a out) e; within = omega arith }

  module _ (numbers : length summary ≡ 770) where
    pub no_room : length out < 262144 → ShowsSummary form first summary out (Err R.Room) out
    unfolding by
    no_room h =
        let e : refusal_of R.Room ≡ show_of form first summary out = tests true false (eq-eqb (length summary) 770 numbers) (lt-leb 262144 (length out) h) in
        record { answer = ap (shown_length (is_whole first)) e; text = ap (λ (a : Answer (List ℕ)). shown_buffer a out) e; within = omega arith }

    module _ (room : 262144 ≤ length out) where
      given_text : given (shown_text form first summary) ≡ show_of form first summary out
      unfolding by
      given_text = tests true true (eq-eqb (length summary) 770 numbers) (le-leb 262144 (length out) room)

      pub row_shown : (first.number ≡ 0 → ⊥) → (n : ℕ) (out' : List ℕ) → Adds out 0 (refused_row first.number first.refusal) out' n
          → ShowsSummary form first summary out (Ok (S.Row n)) out'
      row_shown some n out' a =
          let t : List ℕ = refused_row first.number first.refusal in
          let w : is_whole first ≡ false = ne_eqb first.number 0 some in
          let e : given t ≡ show_of form first summary out = ap (λ (x : Bool). given (cond x (page_of form summary) t)) (sym w) ∙ given_text in
          let f = fits_refused first.number first.refusal in
          let fits : 0 + length t ≤ length out = omega arith in
          let k : n ≡ 0 + length t = adds_to a fits in
          record {
            answer = ap₂ (λ (x : Bool) (y : ℕ). given (x, y)) (sym w) (k ∙ zero-add (length t)) ∙ ap (shown_length (is_whole first)) e;
            text = a.buffer ∙ ap (λ (x : Answer (List ℕ)). shown_buffer x out) e;
            within = omega arith;
          }

      pub page_shown : first.number ≡ 0 → (n : ℕ) (out' : List ℕ) → Adds out 0 (page_of form summary) out' n
          → ShowsSummary form first summary out (Ok (S.Page n)) out'
      page_shown none n out' a =
          let t : List ℕ = page_of form summary in
          let w : is_whole first ≡ true = eq-eqb first.number 0 none in
          let e : given t ≡ show_of form first summary out = ap (λ (x : Bool). given (cond x t (refused_row first.number first.refusal))) (sym w)
          ∙ given_text in
          let f = length_page form summary in
          let fits : 0 + length t ≤ length out = omega arith in
          let k : n ≡ 0 + length t = adds_to a fits in
          record {
            answer = ap₂ (λ (x : Bool) (y : ℕ). given (x, y)) (sym w) (k ∙ zero-add (length t)) ∙ ap (shown_length (is_whole first)) e;
            text = a.buffer ∙ ap (λ (x : Answer (List ℕ)). shown_buffer x out) e;
            within = omega arith;
          }
