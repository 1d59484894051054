-- What each function promises, for all inputs. Definitions only.
use Rattle.std.specs.Prelude.{◌≡◌, List, ℕ}
use Rattle.attack_steps.specs.Steps.{reached, steps_of, step_table, step_tables, step_in}

-- each table is the rule's, over its piece's steps
abbrev pub Table : ℕ → List ℕ → Type 0
Table row r = r ≡ step_table (steps_of row)

abbrev pub Tables : List (List ℕ) → Type 0
Tables r = r ≡ step_tables

abbrev pub Reaches : ℕ → ℕ → ℕ → Type 0
Reaches row s r = r ≡ reached (steps_of row) s

abbrev pub Steps : List (List ℕ) → ℕ → ℕ → ℕ → Type 0
Steps tables row s r = r ≡ step_in tables row s
