-- What the boards of a colour come to, and both colours. Definitions only.
use Rattle.std.specs.Prelude.{List, [], ℕ, ◌+◌, ◌*◌, ◌≤◌, ℤ, pos, get_or}
use Rattle.laws.specs.Sums.{sum_n}
use Rattle.attack.specs.Attacks.{standing, attacks}
use Rattle.score_walks.specs.PrivateWalked.{packed_from}
use Rattle.score_walks.specs.declared.Walked.{Walked}
use Rattle.score_taper.specs.declared.Side.{Side}
use Rattle.score_material.specs.Material.{material}
use Rattle.score_tally.specs.Mobility.{factor_of, attacked_from}
use Rattle.score_tally.specs.declared.Sides.{Sides}
use Rattle.score_tally.specs.declared.inner.ColorSums.{ColorSums}

-- as much as 64 pieces come to at most
abbrev pub Small : Walked → Type 0
Small w = (w.attacked ≤ 4096) × (w.words ≤ 70385185865024)

-- a colour's six boards, each by itself, and from the bitboards
abbrev pub together_of : ℕ → Walked → Walked → Walked → Walked → ℕ → ColorSums
together_of pawns knights bishops rooks queens kings = record {
  words = pawns + knights.words + bishops.words + rooks.words + queens.words + kings;
  mobility = knights.attacked * 24 + bishops.attacked * 47 + rooks.attacked * 39 + queens.attacked * 21;
}

abbrev pub sums_of : List ℕ → ℕ → ℕ → ColorSums
sums_of bbs colour occ = record {
  words = sum_n 6 (λ kind. packed_from kind colour (standing bbs kind colour));
  mobility = sum_n 6 (λ kind. attacked_from (λ s. attacks kind colour s occ) (standing bbs kind colour) * factor_of kind);
}

-- "four sums, two sides by two phases": that of a colour and a phase
abbrev pub sum_at : List (List ℤ) → ℕ → ℕ → ℤ
sum_at sums colour phase = get_or (get_or sums colour []) phase (pos 0)

-- a colour's side of such sums, and both colours' sides
abbrev pub side_with : List ℕ → ℕ → ℤ → ℤ → ℕ → Side
side_with bbs colour opening ending mobility = record { opening = opening; ending = ending; material = material bbs colour; mobility = mobility }

abbrev pub both_with : List ℕ → List (List ℤ) → List ℕ → Sides
both_with bbs sums mobility = record {
  white = side_with bbs 0 (sum_at sums 0 0) (sum_at sums 0 1) (get_or mobility 0 0);
  black = side_with bbs 1 (sum_at sums 1 0) (sum_at sums 1 1) (get_or mobility 1 0);
}
