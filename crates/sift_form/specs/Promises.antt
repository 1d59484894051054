-- What each function promises, for all inputs. Definitions only.
use Rattle.std.specs.Prelude.{◌≡◌, List, ℕ, Option}
use Rattle.position.specs.declared.State.{State}
use Rattle.text_out.specs.Text.{Puts}
use Rattle.sift_form.specs.Forms.{room_of, made_from}
use Rattle.sift_form.specs.declared.Form.{Form}

abbrev pub TakesRoom : Form → ℕ → Type 0
TakesRoom form r = r ≡ room_of form

abbrev pub MakesForm : Form → List ℕ → List ℕ → State → ℕ → List ℕ → List ℕ → ℕ → Option ℕ → Type 0
MakesForm form bbs board state half old new at r = Puts old new at (made_from form bbs board state half) r
