-- Each public function is determined by its promise: two answers, and two buffers, that it allows are equal. Assumes nothing.
use mathlib.Core.Path.{◌≡◌}
use mathlib.Core.List.{List}
use Prim.Native.Nat.{ℕ}
use Rattle.refusal.proofs.Paper.{one}
use Rattle.position.specs.declared.State.{State}
use Rattle.text_out.proofs.Determined.{put}
use Rattle.sift_form.specs.Forms.{made_from}
use Rattle.sift_form.specs.Promises.{TakesRoom, MakesForm}
use Rattle.sift_form.specs.declared.Form.{Form}
use Rattle.std.specs.Prelude.{Option}

pub room : (form : Form) (r s : ℕ) → TakesRoom form r → TakesRoom form s → r ≡ s
room form r s p q = one p q

pub make : (form : Form) (bbs board : List ℕ) (state : State) (half : ℕ) (old new new' : List ℕ) (at : ℕ) (r s : Option ℕ)
    → MakesForm form bbs board state half old new at r → MakesForm form bbs board state half old new' at s → (r ≡ s) × (new ≡ new')
make form bbs board state half old new new' at r s = put old new new' at (made_from form bbs board state half) r s
