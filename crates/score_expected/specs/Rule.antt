-- What is claimed of the entries, in document 02's words (W-210). Definitions only.
use Rattle.std.specs.Prelude.{◌≡◌, true, false, ℕ, suc, ◌+◌, ◌<◌, ℤ, pos, negsuc, ◌+ℤ◌, ◌*ℤ◌, get_or, ◌≤ℤ◌}
use Rattle.score_expected.specs.Expected.{at_most, entry_of, table, expected_of}

-- "a to the 100th is at most .., and a+1 breaks that"
pub record IsEntry (j : ℤ) (a : ℕ) : Type 0 where
  pub holds : at_most j a ≡ true
  pub breaks : at_most j (a + 1) ≡ false

pub record Entries : Type 0 where
  -- every entry is what the rule says, and nothing else is
  pub is : (j : ℤ) → IsEntry j (entry_of j)
  pub only : (j : ℤ) (a : ℕ) → IsEntry j a → a ≡ entry_of j
  -- "Entries of j and −j add to 999,999, save that zero's is 500,000"
  pub opposite : (j : ℕ) → j < 400 → entry_of (pos (suc j)) + entry_of (negsuc j) ≡ 999999
  pub level : entry_of (pos 0) ≡ 500000
  -- a higher score is expected to bring more
  pub rises : (k l : ℕ) → k < l → l < 801 → get_or table k 0 < get_or table l 0

-- "A score outside the range counts as its end, others as the multiple of four at or below"
pub record CountsAs (z : ℤ) : Type 0 where
  pub below : z ≤ℤ negsuc 1599 → expected_of z ≡ entry_of (negsuc 399)
  pub over : pos 1600 ≤ℤ z → expected_of z ≡ entry_of (pos 400)
  pub between : (j : ℤ) → negsuc 399 ≤ℤ j → j ≤ℤ pos 400 → (j *ℤ pos 4) ≤ℤ z → z ≤ℤ (j *ℤ pos 4 +ℤ pos 3) → expected_of z ≡ entry_of j
