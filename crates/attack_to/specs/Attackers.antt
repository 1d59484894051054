-- Who attacks a square, and check (document 01, "Steps, rays and square weights"; the source's `attacks_to`, `is_attacked` and `is_check`). A colour is 0 for
-- White, any other number counts as Black. Definitions only.
use Rattle.std.specs.Prelude.{Bool, true, cond, ◌||◌, ◌&&◌, List, ℕ, eqb, get_or}
use Rattle.chess.specs.Named.{king}
use Rattle.bits.specs.Bitboard.{has, those, some, lowest_of, board}
use Rattle.position_boards.specs.Sound.{on}
use Rattle.attack_steps.specs.Steps.{reached, knight_steps, king_steps, white_pawn_steps, black_pawn_steps}
use Rattle.attack_rays.specs.Rays.{seen, straight, slanted}
use Rattle.attack.specs.Attacks.{standing, occupied, other}

-- ---- who attacks a square
-- a piece of either colour stands on k, and k is among the squares of its kind: of the black pawn's steps for a white pawn, since a pawn
-- attacks s from where the other colour's pawn on s would attack it
abbrev pub attacking : List ℕ → ℕ → ℕ → ℕ → ℕ → ℕ → ℕ → ℕ → Bool
attacking bbs blackPawn whitePawn knight king slants lines k =
    (on bbs 2 k && has blackPawn k)
    || ((on bbs 3 k && has whitePawn k)
    || (((on bbs 4 k || on bbs 5 k) && has knight k)
    || (((on bbs 6 k || on bbs 7 k) && has king k)
    || ((((on bbs 8 k || on bbs 9 k) || (on bbs 12 k || on bbs 13 k)) && has slants k)
    || (((on bbs 10 k || on bbs 11 k) || (on bbs 12 k || on bbs 13 k)) && has lines k)))))

-- the squares of the pieces, of both colours, that attack s where occ is occupied; a piece whose square is not in occ counts too
unfoldable pub attackers : List ℕ → ℕ → ℕ → ℕ
unfolding those has reached board seen
attackers bbs s occ =
    let blackPawn : ℕ = reached black_pawn_steps s in
    let whitePawn : ℕ = reached white_pawn_steps s in
    let knight : ℕ = reached knight_steps s in
    let king : ℕ = reached king_steps s in
    let slants : ℕ = board (seen slanted s occ) in
    let lines : ℕ = board (seen straight s occ) in
    those 64 (λ k. attacking bbs blackPawn whitePawn knight king slants lines k)

-- some piece of the colour other than the one named stands among the attackers of s
unfoldable pub is_attacked : List ℕ → ℕ → ℕ → Bool
unfolding some has attackers occupied
is_attacked bbs s colour = let by : ℕ = attackers bbs s (occupied bbs) in some 64 (λ k. has by k && has (get_or bbs (other colour) 0) k)

-- "`is_check` with no king is true; with several it looks at the lowest"
unfoldable pub is_check : List ℕ → ℕ → Bool
unfolding is_attacked lowest_of
is_check bbs colour =
    let kings : ℕ = standing bbs king colour in
    cond (eqb kings 0) true (is_attacked bbs (lowest_of kings) colour)
