-- How the least attacker passes its door, which lends three numbers. Assumes nothing.
use mathlib.Core.Path.{◌≡◌, ap, ◌∙◌}
use mathlib.Core.Bool.{Bool}
use mathlib.Core.List.{List}
use Prim.Native.Nat.{ℕ}
use Rattle.refusal.specs.Answer.{Answer}
use Rattle.position.specs.declared.State.{State}
use Rattle.exchange_least.specs.Least.{Attacker}
use Rattle.exchange_least.specs.Answers.{lvp_of}
use Rattle.abi_codes.specs.Codes.{answer_number, lent_after}
use Rattle.abi_codes.specs.declared.Code.{Code}
use Rattle.abi_states.specs.States.{state_taken}
use Rattle.abi_states.specs.declared.State.{State as Stated}
use Rattle.abi.specs.Doors.{anyone, square_or, kind_or}
use Rattle.abi.specs.Promises.{Lvp}

pub least_passed : {kinds bitboards board : List ℕ} {state : Stated} {taken : State} {colour attacks occupied : ℕ} {found : Bool} {square kind : ℕ}
    {x : Answer Attacker} {n : Code} {found' : Bool} {square' kind' : ℕ}
    → taken ≡ state_taken state → x ≡ lvp_of kinds bitboards board taken colour attacks occupied → n ≡ answer_number x
    → found' ≡ lent_after anyone found x → square' ≡ lent_after square_or square x → kind' ≡ lent_after kind_or kind x
    → Lvp kinds bitboards board state colour attacks occupied found square kind n found' square' kind'
least_passed {kinds} {bitboards} {board} {colour = colour} {attacks = attacks} {occupied = occupied} {found = found} {square = square} {kind = kind} t
    q h f s k =
    let e = q ∙ ap (λ (y : State). lvp_of kinds bitboards board y colour attacks occupied) t in
    record {
      code = h ∙ ap answer_number e;
      lent = f ∙ ap (lent_after anyone found) e;
      lent2 = s ∙ ap (lent_after square_or square) e;
      lent3 = k ∙ ap (lent_after kind_or kind) e;
    }
