-- What each function promises, for all inputs. Definitions only.
use Rattle.std.specs.Prelude.{◌≡◌, List, ℕ}
use Rattle.text_in.specs.Text.{space, before}
use Rattle.replay_question.specs.Question.{numbers_of_rule, position_of}

abbrev pub GivesWord : List ℕ → List ℕ → Type 0
GivesWord question r = r ≡ before space question

abbrev pub GivesNumbers : List ℕ → List ℕ → Type 0
GivesNumbers question r = r ≡ numbers_of_rule question

abbrev pub GivesPosition : List ℕ → List ℕ → Type 0
GivesPosition question r = r ≡ position_of question
