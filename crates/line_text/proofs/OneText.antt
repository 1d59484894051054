-- The claims of specs/OneText: a text that is taken can be written from its board alone, so there is one for each board. Assumes nothing.
use mathlib.Core.Path.{◌≡◌, sym, ap, ◌∙◌}
use mathlib.Core.Bool.{true}
use mathlib.Core.List.{List}
use Prim.Native.Nat.{ℕ}
use Rattle.laws.proofs.Truth.{true_T}
use Rattle.line_ranks.specs.Ranks.{are_eight_ranks, board_of}
use Rattle.line_parse.specs.Line.{position_field, ranks_of}
use Rattle.line_parse.proofs.Given.{given_spells}
use Rattle.line_text.specs.Spelt.{placement}
use Rattle.line_text.specs.OneText.{OwnText, OneText}
use Rattle.line_text.proofs.Normal.{rank_normal, ranks_normal}

pub own_text : (s : List ℕ) → OwnText s
own_text s = record { rank = λ t. sym (rank_normal s (true_T t)); eight = λ t. sym (ranks_normal 7 s (true_T t)) }

pub one_text : (s t : List ℕ) → OneText s t
one_text s t =
    record {
      eight = λ p q e. equal s t p q e;
      lines = λ k l p q e.
          let g = given_spells s k p in
          let h = given_spells t l q in
          equal (ranks_of (position_field s)) (ranks_of (position_field t)) g.ranks h.ranks (sym g.board ∙ e ∙ h.board);
    }
  where
    equal : (a b : List ℕ) → are_eight_ranks a ≡ true → are_eight_ranks b ≡ true → board_of a ≡ board_of b → a ≡ b
    equal a b p q e = (own_text a).eight p ∙ ap placement e ∙ sym ((own_text b).eight q)
