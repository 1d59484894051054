-- The refusals of documents 01 ("Numbers given back instead") and 02. Definitions only.
use Rattle.std.specs.Prelude.{◌≡◌, List, [], ◌∷◌, ℕ, Option, None, Some}
use Rattle.refusal.specs.declared.Refusal.{Refusal}
use Rattle.refusal.specs.declared.Refusal.TheVariants as R

-- 01's column "No." but 2, which 02's "14 OVERLAP, 15 UNION, 16 BYTEBOARD replace", then the numbers of 02's requests
abbrev pub number_of : Refusal → ℕ
number_of R.Shape = 1
number_of R.Score = 3
number_of R.Square = 4
number_of R.Move = 5
number_of R.Crowd = 6
number_of R.Trace = 7
number_of R.Long = 8
number_of R.Byte = 9
number_of R.Field = 10
number_of R.Place = 11
number_of R.Side = 12
number_of R.Result = 13
number_of (R.Overlap s) = 14
number_of (R.Union s) = 15
number_of (R.Byteboard s) = 16
number_of R.Room = 17
number_of R.Length = 18
number_of (R.Code s) = 19
number_of R.Order = 20
number_of R.Entry = 21
number_of R.Many = 22
number_of R.Iteration = 23
number_of R.Kings = 24
number_of R.Pawns = 25
number_of R.Pieces = 26
number_of (R.Rank s) = 27
number_of (R.Check s) = 28
number_of R.Rights = 29
number_of R.Passant = 30
number_of R.Counter = 31
number_of R.Absent = 32

-- "a refusal naming a square .. returns it beside its number"; 01's "returns its number only"
abbrev pub beside_of : Refusal → List ℕ
beside_of R.Shape = []
beside_of R.Score = []
beside_of R.Square = []
beside_of R.Move = []
beside_of R.Crowd = []
beside_of R.Trace = []
beside_of R.Long = []
beside_of R.Byte = []
beside_of R.Field = []
beside_of R.Place = []
beside_of R.Side = []
beside_of R.Result = []
beside_of (R.Overlap s) = s ∷ []
beside_of (R.Union s) = s ∷ []
beside_of (R.Byteboard s) = s ∷ []
beside_of R.Room = []
beside_of R.Length = []
beside_of (R.Code s) = s ∷ []
beside_of R.Order = []
beside_of R.Entry = []
beside_of R.Many = []
beside_of R.Iteration = []
beside_of R.Kings = []
beside_of R.Pawns = []
beside_of R.Pieces = []
beside_of (R.Rank s) = s ∷ []
beside_of (R.Check s) = s ∷ []
beside_of R.Rights = []
beside_of R.Passant = []
beside_of R.Counter = []
beside_of R.Absent = []

-- what `Refusal::number` promises
abbrev pub Numbers : Refusal → ℕ → Type 0
Numbers r n = n ≡ number_of r

-- what stands beside the number, as the list that it is on the paper
abbrev pub listed : Option ℕ → List ℕ
listed None = []
listed (Some s) = s ∷ []

-- what `Refusal::square` promises
abbrev pub NamesSquare : Refusal → Option ℕ → Type 0
NamesSquare r b = listed b ≡ beside_of r
