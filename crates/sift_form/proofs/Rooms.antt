-- What is made has room: a clause a form. Assumes nothing.
use Prim.Native.Nat.{ℕ, ◌≤◌, ◌<◌}
use mathlib.Core.List.{List}
use native.Mathlib.Omega.{arith}
use lib.ListN.{length}
use Rattle.position.specs.declared.State.{State}
use Rattle.line_text.proofs.Lengths.{ended_length}
use Rattle.fit_sample.proofs.Sampled.{sample_most}
use Rattle.store_record.proofs.Records.{record_34}
use Rattle.sift_form.specs.Forms.{room_of, made_from}
use Rattle.sift_form.specs.declared.Form.{Form}
use Rattle.sift_form.specs.declared.Form.TheVariants as F

-- none takes no room at all
pub room_some : (form : Form) → 0 < room_of form
room_some F.Sample = omega arith
room_some F.Text = omega arith
room_some F.Record = omega arith

pub room_most : (form : Form) (bbs board : List ℕ) (state : State) (half : ℕ) → length (made_from form bbs board state half) ≤ room_of form
room_most F.Sample bbs board state half = sample_most bbs board state half
room_most F.Text bbs board state half = ended_length board state half
room_most F.Record bbs board state half = let e = record_34 (record { state = state; half = half; board = board }) in omega arith
