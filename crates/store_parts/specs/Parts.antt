-- WHAT IS CLAIMED OF PARTS OF A STORE (document 02, W-205): their bytes one after another are the whole. Definitions only.
use Rattle.std.specs.Prelude.{◌≡◌, true, List, map, ℕ}
use Rattle.ledger_whole.specs.Whole.{joined}
use Rattle.ledger_join.specs.Join.{checked, join_of}
use Rattle.ledger_joined.specs.Joined.{at_line_ends}
use Rattle.store_rows.specs.Rows.{store_ledger_of}
use Rattle.store_joined.specs.Parts.{at_record_ends}
use Rattle.sift_form.specs.Forms.{made_of}
use Rattle.sift_form.specs.declared.Form.{Form}
use Rattle.sift_form.specs.declared.Form.TheVariants as F
use Rattle.sift_whole.specs.Sifted.{made_of_all}

-- THE ROWS: for any stores of which none but the last has a short last piece, their rows joined are the rows of their bytes one after another
pub record RowsOfParts (parts : List (List ℕ)) : Type 0 where
  pub whole : at_record_ends parts ≡ true → join_of (map store_ledger_of parts) ≡ checked (store_ledger_of (joined parts))

-- PACKED PARTS: for any texts cut at line ends, what is made of each, one after another, is what is made of all of them together, in every form
pub record MadeOfParts (form : Form) (parts : List (List ℕ)) : Type 0 where
  pub whole : at_line_ends parts ≡ true → joined (map (made_of_all (made_of form)) parts) ≡ made_of_all (made_of form) (joined parts)

-- and a store that was packed has no short last piece
pub record PackedAtEnds (parts : List (List ℕ)) : Type 0 where
  pub ends : at_record_ends (map (made_of_all (made_of F.Record)) parts) ≡ true
