-- Each door is determined by its promise: two results that it allows are equal, and so is every lent number afterwards. Assumes nothing.
use mathlib.Core.Path.{◌≡◌}
use mathlib.Core.Bool.{Bool}
use mathlib.Core.List.{List}
use Prim.Native.Nat.{ℕ}
use lib.IntN.{ℤ}
use Rattle.refusal.proofs.Paper.{one}
use Rattle.abi_codes.proofs.Determined.{door, doors}
use Rattle.abi.specs.Promises.{EvalsEnding, EvalsMaterial, Evals, PieceAttacks, AttacksTo, IsAttacked, IsCheck, Lvp, See, GivesLine, ReadsLine, GivesPart}
use Rattle.line.specs.declared.Part.{Part}
use Rattle.abi_codes.specs.declared.Code.{Code}
use Rattle.abi_states.specs.declared.State.{State as Stated}
use Rattle.abi.specs.declared.lines.Line.{Line}
use Rattle.std.specs.Prelude.{Result}
use Rattle.refusal.specs.declared.Refusal.{Refusal}
use Rattle.position.specs.declared.State.{State}

-- ---- scores
pub eval_ending : (bitboards board : List ℕ) (state : Stated) (verdict : ℕ) (r s : Code) (v w : ℕ)
    → EvalsEnding bitboards board state verdict r v → EvalsEnding bitboards board state verdict s w → (r ≡ s) × (v ≡ w)
eval_ending bitboards board state verdict r s v w = door

pub eval_material : (bitboards board : List ℕ) (state : Stated) (colour : ℕ) (material : ℤ) (r s : Code) (v w : ℤ)
    → EvalsMaterial bitboards board state colour material r v → EvalsMaterial bitboards board state colour material s w → (r ≡ s) × (v ≡ w)
eval_material bitboards board state colour material r s v w = door

pub eval : (bitboards board : List ℕ) (state : Stated) (verdict : ℕ) (score : ℤ) (r s : Code) (v w : ℕ) (y z : ℤ)
    → Evals bitboards board state verdict score r v y → Evals bitboards board state verdict score s w z → (r ≡ s) × (v ≡ w) × (y ≡ z)
eval bitboards board state verdict score r s v w y z = doors

-- ---- attacks
pub piece_attacks : (piece square occupied squares : ℕ) (r s : Code) (v w : ℕ)
    → PieceAttacks piece square occupied squares r v → PieceAttacks piece square occupied squares s w → (r ≡ s) × (v ≡ w)
piece_attacks piece square occupied squares r s v w = door

pub attacks_to : (bitboards board : List ℕ) (state : Stated) (square occupied squares : ℕ) (r s : Code) (v w : ℕ)
    → AttacksTo bitboards board state square occupied squares r v → AttacksTo bitboards board state square occupied squares s w → (r ≡ s) × (v ≡ w)
attacks_to bitboards board state square occupied squares r s v w = door

pub is_attacked_holds : (bitboards board : List ℕ) (state : Stated) (square colour : ℕ) (attacked : Bool) (r s : Code) (v w : Bool)
    → IsAttacked bitboards board state square colour attacked r v → IsAttacked bitboards board state square colour attacked s w → (r ≡ s) × (v ≡ w)
is_attacked_holds bitboards board state square colour attacked r s v w = door

pub is_check_holds : (bitboards board : List ℕ) (state : Stated) (colour : ℕ) (check : Bool) (r s : Code) (v w : Bool)
    → IsCheck bitboards board state colour check r v → IsCheck bitboards board state colour check s w → (r ≡ s) × (v ≡ w)
is_check_holds bitboards board state colour check r s v w = door

-- ---- exchanges
pub lvp : (kinds bitboards board : List ℕ) (state : Stated) (colour attacks occupied : ℕ) (found : Bool) (square kind : ℕ) (r s : Code) (v w : Bool)
    (y z k l : ℕ)
    → Lvp kinds bitboards board state colour attacks occupied found square kind r v y k
    → Lvp kinds bitboards board state colour attacks occupied found square kind s w z l
    → (r ≡ s) × (v ≡ w) × (y ≡ z) × (k ≡ l)
lvp kinds bitboards board state colour attacks occupied found square kind r s v w y z k l p q =
    (one p.code q.code, one p.lent q.lent, one p.lent2 q.lent2, one p.lent3 q.lent3)

pub see : (number : ℕ) (kinds bitboards board : List ℕ) (state : Stated) (from to : ℕ) (worth : ℤ) (r s : Code) (v w : ℤ)
    → See number kinds bitboards board state from to worth r v → See number kinds bitboards board state from to worth s w → (r ≡ s) × (v ≡ w)
see number kinds bitboards board state from to worth r s v w = door

-- ---- lines
pub read_line : (line bitboards board : List ℕ) (r s : Line) (b b' y y' : List ℕ) → ReadsLine line bitboards board r b y
    → ReadsLine line bitboards board s b' y'
    → (r ≡ s) × (b ≡ b') × (y ≡ y')
read_line line bitboards board r s b b' y y' p q = (one p.said q.said, one p.boards q.boards, one p.bytes q.bytes)

pub line_of : (read : Result (State × ℕ) Refusal) (r s : Line) → GivesLine read r → GivesLine read s → r ≡ s
line_of read r s = one

abbrev part : ℕ → ℕ → Part
part a n = record { start = a; length = n }

part_same : {a b n m : ℕ} → a ≡ b → n ≡ m → part a n ≡ part b m
part_same e f = cc

pub position_field_holds : (line : List ℕ) (r s : Part) → GivesPart line r → GivesPart line s → r ≡ s
position_field_holds line r s p q = part_same (one p.start q.start) (one p.length q.length)
