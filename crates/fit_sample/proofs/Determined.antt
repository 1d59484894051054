-- The public function is determined by its promise: two answers, and two buffers, that it allows are equal. Assumes nothing.
use mathlib.Core.Path.{◌≡◌}
use mathlib.Core.List.{List}
use Prim.Native.Nat.{ℕ}
use Rattle.position.specs.declared.State.{State}
use Rattle.text_out.proofs.Determined as Text
use Rattle.fit_sample.specs.Sample.{sample_of}
use Rattle.fit_sample.specs.Promises.{PutsSample}
use Rattle.std.specs.Prelude.{Option}

pub inner_put : (bbs board : List ℕ) (state : State) (half : ℕ) (old new new' : List ℕ) (at : ℕ) (r s : Option ℕ)
    → PutsSample bbs board state half old new at r → PutsSample bbs board state half old new' at s → (r ≡ s) × (new ≡ new')
inner_put bbs board state half old new new' at r s = Text.put old new new' at (sample_of bbs board state half) r s
