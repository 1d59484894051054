-- Mobility (document 01, "The score"). Definitions only.
use Rattle.std.specs.Prelude.{List, [], ◌∷◌, ℕ, ◌*◌, get_or}
use Rattle.laws.specs.Sums.{sum_n}
use Rattle.attack.specs.Attacks.{standing, occupied, attacks}
unfoldable pub use Rattle.score_walks.specs.Attacked.{attacked_from}

-- "24, 47, 39, 21 for knight, bishop, rook, queen"; none for pawn and king
abbrev pub factors : List ℕ
factors = 0 ∷ 24 ∷ 47 ∷ 39 ∷ 21 ∷ 0 ∷ []

abbrev pub factor_of : ℕ → ℕ
factor_of kind = get_or factors kind 0

-- "attacked squares for each kind and colour, summed over its pieces"
unfoldable pub attacked_by : (ℕ → ℕ → ℕ → ℕ → ℕ) → List ℕ → ℕ → ℕ → ℕ
unfolding attacked_from occupied
attacked_by attack bbs kind colour = let occ : ℕ = occupied bbs in attacked_from (λ s. attack kind colour s occ) (standing bbs kind colour)

unfoldable pub attacked : List ℕ → ℕ → ℕ → ℕ
unfolding attacked_by attacks
attacked = attacked_by attacks

-- "attacked squares times .., summed per colour", in tenths
unfoldable pub mobility_sum : List ℕ → ℕ → ℕ
unfolding sum_n attacked
mobility_sum bbs colour = sum_n 6 (λ kind. attacked bbs kind colour * factor_of kind)
