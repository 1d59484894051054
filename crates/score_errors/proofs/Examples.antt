-- Worked examples of the definitions, by computation. Assumes nothing.
use mathlib.Core.Path.{◌≡◌, refl}
use mathlib.Core.List.{[], ◌∷◌}
use Prim.Native.Nat.{ℕ}
use lib.IntN.{pos, negsuc}
use Rattle.refusal.specs.Answer.{Answer, given, refused}
use Rattle.score.specs.Score.{Outcome, verdict, score}
use Rattle.score_verdict.specs.Verdict.{won}
use Rattle.score_expected.specs.Expected.{table}
use Rattle.score_errors.specs.Errors.{totals_with}
use Rattle.score_errors.specs.Collection.{LoadedLine, scored_in, apart_in, sum_in, fresh_of}
use Rattle.score_errors.proofs.Fresh.{three}

-- Black to move and a score of 3: −3 for White counts as −4, so 494,243 is 5,757 from a draw; the score −32768, which 16 bits can't turn, counts as 1600
turned : totals_with (three 0 0 0) 1 (given (score (pos 3))) 1 ∷ totals_with (three 0 0 0) 1 (given (score (negsuc 32767))) 0 ∷ []
    ≡ given (three 1 0 33143049) ∷ given (three 1 0 999800010000) ∷ []
unfolding table
turned = refl

-- White to move, 117, and White won: 660,999 is 339,001 from a million. A verdict and `over` stand apart
kinds : totals_with (three 4 7 9) 0 (given (score (pos 117))) 2 ∷ totals_with (three 4 7 9) 0 (given (verdict won)) 0
    ∷ totals_with (three 4 7 9) 1 (refused 3 []) 1 ∷ []
    ≡ given (three 5 7 114921678010) ∷ given (three 4 8 9) ∷ given (three 4 8 9) ∷ []
unfolding table
kinds = refl

-- the millionth of its kind, and the 1,000,001st; a sum that 64 bits just hold, and one more; SHAPE before RESULT before MANY
refusals : totals_with (three 999999 0 0) 0 (given (score (pos 0))) 1 ∷ totals_with (three 1000000 0 0) 0 (given (score (pos 0))) 1
    ∷ totals_with (three 1000000 0 0) 0 (given (verdict won)) 1
    ∷ totals_with (three 0 0 18446744073676408566) 1 (given (score (pos 3))) 1 ∷ totals_with (three 0 0 18446744073676408567) 1 (given (score (pos 3))) 1
    ∷ totals_with (three 0 1000000 0) 2 (refused 3 []) 3 ∷ totals_with (three 0 1000000 0) 1 (refused 3 []) 3
    ∷ totals_with (three 0 1000000 0) 1 (refused 3 []) 2 ∷ []
    ≡ given (three 1000000 0 0) ∷ refused 22 [] ∷ given (three 1000000 1 0) ∷ given (three 1 0 18446744073709551615) ∷ refused 22 [] ∷ refused 1 []
    ∷ refused 13 [] ∷ refused 22 [] ∷ []
unfolding table
refusals = refl

abbrev line : ℕ → Answer Outcome → ℕ → LoadedLine
line side answer half = record { side = side; answer = answer; half = half }

-- three lines: two scores and a verdict
fresh : fresh_of (line 1 (given (score (pos 3))) 1 ∷ line 0 (given (verdict won)) 2 ∷ line 0 (given (score (pos 117))) 2 ∷ []) ≡ three 2 1 114954821050
unfolding table scored_in apart_in sum_in
fresh = refl
