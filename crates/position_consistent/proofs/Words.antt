-- Document 01's sentence in its own words, and that the definition of consistency is it, both ways. Assumes nothing.
use mathlib.Core.Path.{◌≡◌}
use mathlib.Core.Logic.{◌⊎◌}
use mathlib.Core.Bool.{true}
use mathlib.Core.List.{List}
use Prim.Native.Nat.{ℕ, ◌<◌}
use Rattle.position_consistent.specs.Consistent.{consistent}
use Rattle.position_boards.proofs.Apart.{OneAtMost, apart_everywhere, everywhere_apart}
use Rattle.position_boards.proofs.United.{Union, united_everywhere, everywhere_united}
use Rattle.position_consistent.proofs.Bytes.{Vacant, Occupied, agrees_everywhere, everywhere_agrees}
use Rattle.position_consistent.proofs.Parts.{three_consistent, consistent_apart, consistent_united, consistent_agrees}

pub record InWords (bbs bytes : List ℕ) : Type 0 where
  -- "the twelve piece boards (codes 2 to 13) don't overlap"
  pub apart : (k : ℕ) → k < 64 → OneAtMost bbs k
  -- "board 0 is the union of the even codes from 2, board 1 of the odd codes from 3"
  pub unions : (k : ℕ) → k < 64 → Union bbs k 0 × Union bbs k 1
  -- "each board byte is the code whose bit is set there, or 0"
  pub codes : (k : ℕ) → k < 64 → Vacant bbs bytes k ⊎ Occupied bbs bytes k

pub in_words : (bbs bytes : List ℕ) → consistent bbs bytes ≡ true → InWords bbs bytes
in_words bbs bytes e = record {
  apart = apart_everywhere bbs (consistent_apart bbs bytes e);
  unions = united_everywhere bbs (consistent_united bbs bytes e);
  codes = agrees_everywhere bbs bytes (consistent_agrees bbs bytes e);
}

pub from_words : (bbs bytes : List ℕ) → InWords bbs bytes → consistent bbs bytes ≡ true
from_words bbs bytes w =
    three_consistent bbs bytes (everywhere_apart bbs w.apart) (everywhere_united bbs w.unions) (everywhere_agrees bbs bytes w.codes)
