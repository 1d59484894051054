-- A counter's text is its digits, and there is none past the greatest. Assumes nothing.
use mathlib.Core.Path.{◌≡◌}
use mathlib.Core.List.{[]}
use Prim.Native.Nat.{ℕ, ◌≤◌, ◌<◌}
use borrow.Author.Tests.{le-leb, lt-leb}
use Rattle.text_out.specs.Text.{decimal_of}
use Rattle.line_text.specs.Words.{counter_text}

pub counter_digits : (n : ℕ) → n ≤ 9999 → counter_text n ≡ decimal_of n
counter_digits n h = rw (le-leb n 9999 h)

pub counter_none : (n : ℕ) → 9999 < n → counter_text n ≡ []
counter_none n h = rw (lt-leb n 9999 h)
