-- Lists by computation: what is taken and what is refused. Assumes nothing.
use mathlib.Core.Path.{◌≡◌, refl}
use mathlib.Core.Bool.{true, false}
use mathlib.Core.List.{List, [], ◌∷◌}
use Prim.Native.Nat.{ℕ}
use lib.ListN.{set}
use Rattle.laws.specs.Tests.{all_below}
use Rattle.laws.specs.Tables.{tabulate}
use Rattle.trace_list.specs.Form.{list_place, list_places, comes_after, is_list, list_bytes}

-- a white pawn on a1's place, a black one there, a white knight on b1's
abbrev three : List ℕ
three = 0 ∷ 1 ∷ 130 ∷ []

-- (0, 0, 0) is an entry like any other
taken : is_list 3 (list_bytes three) ≡ true
unfolding is_list all_below comes_after list_place list_bytes tabulate
taken = refl

places : list_places (list_bytes three) 3 ≡ three
unfolding list_places list_place list_bytes tabulate
places = refl

none : is_list 0 (list_bytes []) ≡ true
unfolding is_list all_below comes_after list_place list_bytes tabulate
none = refl

-- one entry too few said: the third stands in an unused place; one too many: a pawn again
too_few : is_list 2 (list_bytes three) ≡ false
unfolding is_list all_below comes_after list_place list_bytes tabulate
too_few = refl

too_many : is_list 4 (list_bytes three) ≡ false
unfolding is_list all_below comes_after list_place list_bytes tabulate
too_many = refl

-- but one zero entry alone may be said or not: the empty list, and the list of one white pawn
said : is_list 1 (list_bytes []) ≡ true
unfolding is_list all_below comes_after list_place list_bytes tabulate
said = refl

-- a repeat, an entry out of order, a square past 63, a kind past 5, a colour past 1, 65 entries
repeat : is_list 2 (list_bytes (1 ∷ 1 ∷ [])) ≡ false
unfolding is_list all_below comes_after list_place list_bytes tabulate
repeat = refl

order : is_list 2 (list_bytes (1 ∷ 0 ∷ [])) ≡ false
unfolding is_list all_below comes_after list_place list_bytes tabulate
order = refl

square : is_list 1 (set (list_bytes []) 1 64) ≡ false
unfolding is_list all_below comes_after list_place list_bytes tabulate
square = refl

kind : is_list 1 (set (list_bytes []) 0 6) ≡ false
unfolding is_list all_below comes_after list_place list_bytes tabulate
kind = refl

colour : is_list 1 (set (list_bytes []) 2 2) ≡ false
unfolding is_list all_below comes_after list_place list_bytes tabulate
colour = refl

many : is_list 65 (list_bytes []) ≡ false
unfolding is_list all_below comes_after list_place list_bytes tabulate
many = refl
