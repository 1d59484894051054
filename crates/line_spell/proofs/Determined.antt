-- Each public function is determined by its promise: two answers, and two buffers, that it allows are equal. Assumes nothing.
use mathlib.Core.Path.{◌≡◌}
use mathlib.Core.List.{List}
use Prim.Native.Nat.{ℕ}
use Rattle.position.specs.declared.State.{State}
use Rattle.text_out.proofs.Determined.{put}
use Rattle.line_text.specs.Lines.{position_text, line_text, ended_line}
use Rattle.line_spell.specs.Promises.{PutsPosition, PutsLine, PutsEnded}
use Rattle.std.specs.Prelude.{Option}

pub inner_position : (board : List ℕ) (state : State) (old new new' : List ℕ) (at : ℕ) (r s : Option ℕ)
    → PutsPosition board state old new at r → PutsPosition board state old new' at s → (r ≡ s) × (new ≡ new')
inner_position board state old new new' at r s = put old new new' at (position_text board state) r s

pub inner_line : (board : List ℕ) (state : State) (half : ℕ) (old new new' : List ℕ) (at : ℕ) (r s : Option ℕ)
    → PutsLine board state half old new at r → PutsLine board state half old new' at s → (r ≡ s) × (new ≡ new')
inner_line board state half old new new' at r s = put old new new' at (line_text board state half) r s

pub inner_ended : (board : List ℕ) (state : State) (half : ℕ) (old new new' : List ℕ) (at : ℕ) (r s : Option ℕ)
    → PutsEnded board state half old new at r → PutsEnded board state half old new' at s → (r ≡ s) × (new ≡ new')
inner_ended board state half old new new' at r s = put old new new' at (ended_line board state half) r s
