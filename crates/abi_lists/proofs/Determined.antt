-- Each door is determined by its promise: two results that it allows are equal, and so is every lent number afterwards. Assumes nothing.
use mathlib.Core.Path.{◌≡◌}
use mathlib.Core.List.{List}
use Prim.Native.Nat.{ℕ}
use lib.Ieee.{Float}
use lib.IntN.{ℤ}
use Rattle.refusal.proofs.Paper.{one}
use Rattle.abi_codes.proofs.Determined.{door}
use Rattle.abi_lists.specs.Promises.{EvalsList, ListsTrace, FlattensList, ComputesTraceList, AddsTraceList}
use Rattle.abi_codes.specs.declared.Code.{Code}
use Rattle.abi_states.specs.declared.State.{State as Stated}

pub list_eval : (counts mobility : List ℤ) (sign total : ℤ) (used : ℕ) (list : List ℕ) (weights squares : List Float) (value : Float) (r s : Code) (v w : Float)
    → EvalsList counts mobility sign total used list weights squares value r v
    → EvalsList counts mobility sign total used list weights squares value s w → (r ≡ s) × (v ≡ w)
list_eval counts mobility sign total used list weights squares value r s v w = door

pub list_of : (counts mobility : List ℤ) (sign total : ℤ) (entries : List ℤ) (used : ℕ) (list : List ℕ) (r s : Code) (m n : ℕ) (k l : List ℕ)
    → ListsTrace counts mobility sign total entries used list r m k → ListsTrace counts mobility sign total entries used list s n l → (r ≡ s) × (m ≡ n)
    × (k ≡ l)
list_of counts mobility sign total entries used list r s m n k l p q = (one p.code q.code, one p.many q.many, one p.lent q.lent)

pub flat_of_holds : (counts mobility : List ℤ) (sign total : ℤ) (used : ℕ) (list : List ℕ) (entries : List ℤ) (r s : Code) (v w : List ℤ)
    → FlattensList counts mobility sign total used list entries r v → FlattensList counts mobility sign total used list entries s w → (r ≡ s) × (v ≡ w)
flat_of_holds counts mobility sign total used list entries r s v w = door

pub list_add : (counts mobility : List ℤ) (sign total : ℤ) (used : ℕ) (list : List ℕ) (c : Float) (gradient : List Float) (r s : Code) (g h : List Float)
    → AddsTraceList counts mobility sign total used list c gradient r g → AddsTraceList counts mobility sign total used list c gradient s h → (r ≡ s) × (g ≡ h)
list_add counts mobility sign total used list c gradient r s g h = door

pub compute_list : (bitboards board : List ℕ) (state : Stated) (counts mobility : List ℤ) (sign total : ℤ) (used : ℕ) (list : List ℕ)
    (r s : Code) (c d m n : List ℤ) (t u p q : ℤ) (i j : ℕ) (k l : List ℕ)
    → ComputesTraceList bitboards board state counts mobility sign total used list r c m t p i k
    → ComputesTraceList bitboards board state counts mobility sign total used list s d n u q j l
    → (r ≡ s) × (c ≡ d) × (m ≡ n) × (t ≡ u) × (p ≡ q) × (i ≡ j) × (k ≡ l)
compute_list bitboards board state counts mobility sign total used list r s c d m n t u p q i j k l x y = (
  one x.code y.code,
  one x.counted y.counted,
  one x.moved y.moved,
  one x.turn y.turn,
  one x.whole y.whole,
  one x.many y.many,
  one x.lent y.lent,
)
