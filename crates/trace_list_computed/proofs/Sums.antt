-- As many entries as pieces, so that a list has room for a position's. Assumes nothing.
use mathlib.Core.Path.{◌≡◌, sym, ap, subst, ◌∙◌}
use mathlib.Core.Bool.{Bool, true}
use mathlib.Core.List.{List}
use Prim.Native.Nat.{ℕ, ◌<◌, ◌≤◌}
use lib.IntN.{ℤ, pos, nat_abs}
use lib.Signed.{lt_z}
use lib.ListN.{length}
use Rattle.laws.proofs.Sums.{whole_same}
use Rattle.laws.proofs.Tables.{entry}
use Rattle.bits.specs.Bitboard.{has, digit, how_many}
use Rattle.places.specs.Places.{kind_at, square_at, colour_at}
use Rattle.chess.specs.Squares.{flip_of}
use Rattle.position_consistent.specs.Consistent.{consistent}
use Rattle.attack.specs.Attacks.{standing}
use Rattle.score_material.specs.Pieces.{pieces}
use Rattle.trace.specs.Trace.{entry_at, entries_of}
use Rattle.trace_exact.proofs.Ranges.{pieces_few}
use Rattle.trace_exact.proofs.Tally.{many_sum, ones_pieces}
use Rattle.trace_list.specs.Form.{is_one_rule, ones_in}
use Rattle.trace_list.proofs.Ones.{ones_count}
use Rattle.trace_list.proofs.There.{one_is}
use Rattle.trace_list_computed.specs.PrivateWalk.{Few}

one_at : (bbs : List ℕ) (i : ℕ) → i < 768 → pos (digit (is_one_rule (entries_of bbs) i)) ≡ pos (entry_at bbs i)
unfolding entries_of entry_at
one_at bbs i h =
    ap (λ (z : ℤ). pos (digit (lt_z (pos 0) z))) (entry 768 (λ i. pos (entry_at bbs i)) (pos 0) i h)
    ∙ ap (λ (t : Bool). pos (digit t)) (one_is (has (standing bbs (kind_at i) (colour_at i)) (flip_of (square_at i) (colour_at i))))

many_pieces : (bbs board : List ℕ) → consistent bbs board ≡ true → how_many 768 (is_one_rule (entries_of bbs)) ≡ pieces bbs
many_pieces bbs board e =
    ap nat_abs
    (sym (many_sum 768 (is_one_rule (entries_of bbs)))
    ∙ whole_same 768 (λ i. pos (digit (is_one_rule (entries_of bbs) i))) (λ i. pos (entry_at bbs i)) (λ i h. one_at bbs i h) ∙ ones_pieces bbs board e)

pub ones_are_pieces : (bbs board : List ℕ) → consistent bbs board ≡ true → length (ones_in (entries_of bbs)) ≡ pieces bbs
unfolding ones_in
ones_are_pieces bbs board e = ones_count (is_one_rule (entries_of bbs)) 768 ∙ many_pieces bbs board e

pub are_few : (bbs board : List ℕ) → consistent bbs board ≡ true → Few bbs
are_few bbs board e = record { few = subst (λ (n : ℕ). n ≤ 64) (sym (many_pieces bbs board e)) (pieces_few bbs) }

pub used_few : (bbs board : List ℕ) (n : ℕ) → consistent bbs board ≡ true → n ≡ length (ones_in (entries_of bbs)) → n ≤ 64
used_few bbs board n e q = subst (λ (m : ℕ). m ≤ 64) (sym (q ∙ ones_are_pieces bbs board e)) (pieces_few bbs)
