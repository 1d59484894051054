-- A summary that another is added to, place by place: the places before one have both sums, those from it on are as they were. Assumes nothing.
use Rattle.std.proofs.Common.{◌≡◌, ℕ, ◌+◌, ◌<◌, ◌≤◌, List, length, get_or, set, sym, refl, ap, ◌∙◌, le_refl, arith, length-set, get_or-set_other, ext_get_or}
use Rattle.laws.specs.Tables.{tabulate}
use Rattle.laws.proofs.Tables.{entry, tabulate_length, set_more}
use Rattle.store_counts.specs.Summary.{wrapped_sum}
use Rattle.store_joined.specs.Summaries.{summary_of_both}

module _ (a b : List ℕ) where
  abbrev both : ℕ → ℕ
  both place = wrapped_sum (get_or a place 0) (get_or b place 0)

  pub record AddedTo (i : ℕ) (s : List ℕ) : Type 0 where
    pub size : length s ≡ 770
    pub done : (j : ℕ) → j < i → get_or s j 0 ≡ both j
    pub rest : (j : ℕ) → i ≤ j → get_or s j 0 ≡ get_or a j 0

  pub none_added : length a ≡ 770 → AddedTo 0 a
  none_added h = record { size = h; done = λ j l. absurd (omega arith); rest = λ j l. refl }

  pub one_added : (i : ℕ) (s : List ℕ) (x : ℕ) → AddedTo i s → i < 770 → x ≡ wrapped_sum (get_or s i 0) (get_or b i 0) → AddedTo (i + 1) (set s i x)
  one_added i s x t l e = record {
    size = length-set s i x ∙ t.size;
    done = set_more 0 both s i x (omega (arith, t.size)) (e ∙ here) t.done;
    rest = λ j h. get_or-set_other s i j x 0 (λ q. omega arith) ∙ t.rest j (omega arith);
  }
    where
      here : wrapped_sum (get_or s i 0) (get_or b i 0) ≡ both i
      here = ap (λ (n : ℕ). wrapped_sum n (get_or b i 0)) (t.rest i (le_refl i))

  pub all_added : (i : ℕ) (s : List ℕ) → AddedTo i s → i ≡ 770 → s ≡ summary_of_both a b
  unfolding summary_of_both
  all_added i s t e =
      ext_get_or 0 s (tabulate 770 both) (t.size ∙ sym (tabulate_length 770 both))
      (λ j h. t.done j (omega (arith, t.size)) ∙ sym (entry 770 both 0 j (omega (arith, t.size))))
