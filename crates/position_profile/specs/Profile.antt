-- Only positions from real play (document 02, W-212). Definitions only.
use Rattle.std.specs.Prelude.{Bool, not, ◌&&◌, ◌||◌, List, ℕ, eqb, leb, ltb, get_or}
use Rattle.refusal.specs.Answer.{Answer, or_refuse}
use Rattle.refusal.specs.declared.Refusal.TheVariants as R
use Rattle.chess.specs.Named.{white, black, pawn, king}
use Rattle.bits.specs.Bitboard.{has, how_many, lowest_of}
use Rattle.position_odds.specs.Named.{or_named}
use Rattle.position.specs.declared.State.{State}
use Rattle.attack.specs.Attacks.{standing, other}
use Rattle.attack_to.specs.Attackers.{is_check}
use Rattle.score_material.specs.Pieces.{count}

-- "one king a colour"
unfoldable pub one_king : List ℕ → ℕ → Bool
unfolding count
one_king bbs colour = eqb (count bbs king colour) 1

-- "at most eight pawns .. a colour"
unfoldable pub few_pawns : List ℕ → ℕ → Bool
unfolding count
few_pawns bbs colour = leb (count bbs pawn colour) 8

-- "and sixteen pieces, pawns counted, a colour": all that stands on the colour's board, its king too
unfoldable pub few_pieces : List ℕ → ℕ → Bool
unfolding how_many has
few_pieces bbs colour = leb (how_many 64 (has (get_or bbs colour 0))) 16

-- a rule over both colours, before the next
abbrev pub of_both : (ℕ → Bool) → Bool
of_both rule = rule white && rule black

-- a square of "the first or last rank"
abbrev pub at_ends : ℕ → Bool
at_ends k = ltb k 8 || leb 56 k

-- "no pawn on the first or last rank", at a square
abbrev pub off_ends : List ℕ → ℕ → Bool
off_ends bbs k = not ((has (standing bbs pawn white) k || has (standing bbs pawn black) k) && at_ends k)

-- "the side that just moved": the one not to move
abbrev pub just_moved : State → ℕ
just_moved state = other state.side

-- "otherwise the first broken rule is named, RANK with the lowest such pawn's square, CHECK with the king's"; else whatever comes next
unfoldable pub or_profile : {A : Type 0} → List ℕ → State → Answer A → Answer A
unfolding one_king few_pawns few_pieces is_check lowest_of
or_profile bbs state rest =
    or_refuse (of_both (one_king bbs)) R.Kings
    (or_refuse (of_both (few_pawns bbs)) R.Pawns
    (or_refuse (of_both (few_pieces bbs)) R.Pieces
    (or_named (off_ends bbs) (λ s. R.Rank s)
    (or_refuse (not (is_check bbs (just_moved state))) (R.Check (lowest_of (standing bbs king (just_moved state)))) rest))))
