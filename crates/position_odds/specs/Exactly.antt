-- The claims of W-201: one of the three comes exactly where BOARD did, each means what document 02 says, and the square is the lowest. Definitions only.
use Rattle.std.specs.Prelude.{◌≡◌, ◌⊎◌, Bool, true, false, List, ℕ, ◌<◌}
use Rattle.refusal.specs.Answer.{Answer, refusal_of}
use Rattle.refusal.specs.declared.Refusal.{Refusal}
use Rattle.refusal.specs.declared.Refusal.TheVariants as R
use Rattle.position_boards.specs.Sound.{apart, united}
use Rattle.position_consistent.specs.Consistent.{agrees, consistent}
use Rattle.position_odds.specs.Odds.{or_odds}

-- a test holds at every square
pub record Everywhere (f : ℕ → Bool) : Type 0 where
  pub holds : (k : ℕ) → k < 64 → f k ≡ true

-- "the lowest square concerned": the test fails there, and at no square below it
pub record Lowest (f : ℕ → Bool) (s : ℕ) : Type 0 where
  pub below : s < 64
  pub wrong : f s ≡ false
  pub before : (k : ℕ) → k < s → f k ≡ true

module _ (bbs bytes : List ℕ) (refusal : Refusal) where
  -- 14 OVERLAP: "two piece boards overlap"
  pub record Overlapping : Type 0 where
    pub square : ℕ
    pub named : refusal ≡ R.Overlap square
    pub lowest : Lowest (apart bbs) square

  -- 15 UNION: "a colour's union is wrong", of boards that overlap nowhere
  pub record Split : Type 0 where
    pub square : ℕ
    pub named : refusal ≡ R.Union square
    pub alone : Everywhere (apart bbs)
    pub lowest : Lowest (united bbs) square

  -- 16 BYTEBOARD: "a board byte disagrees", with boards that are right by themselves
  pub record Disagreeing : Type 0 where
    pub square : ℕ
    pub named : refusal ≡ R.Byteboard square
    pub alone : Everywhere (apart bbs)
    pub joined : Everywhere (united bbs)
    pub lowest : Lowest (agrees bbs bytes) square

  abbrev pub OneOfThree : Type 0
  OneOfThree = Overlapping ⊎ (Split ⊎ Disagreeing)

module _ (bbs bytes : List ℕ) where
  -- a consistent position goes on to whatever comes next
  pub record GoesOn : Type 1 where
    pub consistency : consistent bbs bytes ≡ true
    pub goes_on : {A : Type 0} (rest : Answer A) → or_odds bbs bytes rest ≡ rest

  -- any other is refused, whatever would come next, as one of the three
  pub record AtOdds : Type 1 where
    pub consistency : consistent bbs bytes ≡ false
    pub refusal : Refusal
    pub one_of : OneOfThree bbs bytes refusal
    pub refuses : {A : Type 0} (rest : Answer A) → or_odds bbs bytes rest ≡ refusal_of refusal

-- "One of them comes exactly where BOARD did": BOARD was "not consistent"
abbrev pub WhereBoardWas : Type 1
WhereBoardWas = (bbs bytes : List ℕ) → GoesOn bbs bytes ⊎ AtOdds bbs bytes
