-- The join as a machine over bytes: a row's bytes are held until its LF, and then it is taken. Definitions only.
use Rattle.std.specs.Prelude.{true, cond, ◌||◌, List, [], ◌∷◌, ◌++◌, ℕ, ◌+◌, eqb, leb, take, set}
use Rattle.line_cut.specs.Lines.{lf}
use Rattle.ledger_joined_row.specs.Promises.{row_is_rule, text_of}
use Rattle.ledger_joined_row.specs.declared.Kind.{Kind}
use Rattle.ledger_joined_row.specs.declared.Kind.TheVariants as K
use Rattle.ledger_join.specs.declared.Joining.{Joining}

pub record Joint : Type 0 where
  -- the row buffer, whole
  pub row : List ℕ
  pub state : Joining
  -- what was written
  pub text : List ℕ

abbrev pub joint : List ℕ → Joining → List ℕ → Joint
joint row state text = record { row = row; state = state; text = text }

-- ---- the states after a byte
-- one byte more is held
abbrev pub holds_more : Joining → Joining
holds_more s = record {
  part = s.part;
  loads = s.loads;
  refusals = s.refusals;
  loaded = s.loaded;
  refused = s.refused;
  held = s.held + 1;
  ended = s.ended;
  stopped = s.stopped;
}

-- the part is no ledger: nothing changes from here on
abbrev pub halted : Joining → Joining
halted s = record {
  part = s.part;
  loads = s.loads;
  refusals = s.refusals;
  loaded = s.loaded;
  refused = s.refused;
  held = 0;
  ended = s.ended;
  stopped = true;
}

-- after a row, by what it is
abbrev pub after_row : Joining → Kind → Joining
after_row s K.Loaded = record {
  part = s.part;
  loads = s.loads + 1;
  refusals = s.refusals;
  loaded = s.loaded + 1;
  refused = s.refused;
  held = 0;
  ended = s.ended;
  stopped = s.stopped;
}
after_row s K.Refused = record {
  part = s.part;
  loads = s.loads;
  refusals = s.refusals + 1;
  loaded = s.loaded;
  refused = s.refused + 1;
  held = 0;
  ended = s.ended;
  stopped = s.stopped;
}
after_row s K.Totals = record {
  part = s.part;
  loads = s.loads;
  refusals = s.refusals;
  loaded = s.loaded;
  refused = s.refused;
  held = 0;
  ended = true;
  stopped = s.stopped;
}
after_row s K.Neither = halted s

-- ---- a byte
abbrev pub own_number : Joining → ℕ
own_number s = s.loaded + s.refused + 1

abbrev pub whole_number : Joining → ℕ
whole_number s = s.loads + s.refusals + 1

-- the row that a buffer holds has ended
abbrev pub row_ended : Joining → List ℕ → List ℕ → Joint
row_ended s row text = joint row (after_row s (row_is_rule (own_number s) s.loaded s.refused (take s.held row)))
    (text ++ text_of (own_number s) (whole_number s) (take s.held row))

-- the byte is held, and a row that ends with it is taken
abbrev pub byte_held : Joining → List ℕ → List ℕ → ℕ → Joint
byte_held s row text b = cond (eqb b lf) (row_ended (holds_more s) (set row s.held b) text) (joint (set row s.held b) (holds_more s) text)

-- no row and no totals are longer than 84 bytes, and nothing follows the totals
unfoldable pub byte_on : Joint → ℕ → Joint
byte_on m b =
    let s : Joining = m.state in
    cond s.stopped m (cond (s.ended || leb 84 s.held) (joint m.row (halted s) m.text) (byte_held s m.row m.text b))

unfoldable pub bytes_on : Joint → List ℕ → Joint
bytes_on m [] = m
bytes_on m (b ∷ s) = bytes_on (byte_on m b) s
