-- What is made of parts of a collection, one after another, is what is made of the whole; a record has 34 bytes, so packed parts are whole records.
-- Assumes nothing.
use mathlib.Core.Path.{◌≡◌, refl, sym, ap, ap₂, ◌∙◌}
use mathlib.Core.Bool.{true, ◌&&◌}
use mathlib.Core.List.{List, [], ◌∷◌, ◌++◌, append_assoc, map}
use Prim.Native.Nat.{ℕ, ◌%◌}
use native.Mathlib.Omega.{arith}
use lib.ListN.{length, length-append}
use borrow.Author.Tests.{eq-eqb}
use Rattle.refusal.specs.Answer.{Answer, given, refused}
use Rattle.line_parse.specs.Line.{Line, line_of}
use Rattle.line_cut.specs.Lines.{lines_from, lines_of}
use Rattle.ledger_whole.specs.Whole.{joined}
use Rattle.ledger_joined.specs.Joined.{at_line_ends}
use Rattle.ledger_joined.proofs.Joins.{lines_joined}
use Rattle.store_record.proofs.Records.{record_34}
use Rattle.store_joined.specs.Parts.{at_record_ends}
use Rattle.sift_close.specs.Ended.{made_by_rule}
use Rattle.sift_form.specs.Forms.{made_of}
use Rattle.sift_form.specs.declared.Form.{Form}
use Rattle.sift_form.specs.declared.Form.TheVariants as F
use Rattle.sift_whole.specs.Sifted.{made_in, made_of_all}
use Rattle.store_parts.specs.Parts.{MadeOfParts, PackedAtEnds}

made_both : (make : Line → List ℕ) (ls ms : List (List ℕ)) → made_in make (ls ++ ms) ≡ made_in make ls ++ made_in make ms
unfolding made_in
made_both make [] ms = refl
made_both make (l ∷ ls) ms =
    ap (λ (x : List ℕ). made_by_rule make (line_of l) ++ x) (made_both make ls ms) ∙ sym (append_assoc (made_by_rule make (line_of l)) (made_in make ls) (made_in make ms))

made_joined : (make : Line → List ℕ) (parts : List (List ℕ)) → at_line_ends parts ≡ true → joined (map (made_of_all make) parts) ≡ made_of_all make (joined parts)
unfolding joined lines_from made_in
made_joined make [] e = refl
made_joined make (p ∷ ps) e =
    let c = lines_joined p ps e in
    ap (λ (x : List ℕ). made_of_all make p ++ x) (made_joined make ps c.1) ∙ sym (made_both make (lines_of p) (lines_of (joined ps)))
    ∙ ap (made_in make) (sym c.0)

pub made_of_parts : (form : Form) (parts : List (List ℕ)) → MadeOfParts form parts
made_of_parts form parts = record { whole = made_joined (made_of form) parts }

-- ---- whole records
records : (ls : List (List ℕ)) → length (made_in (made_of F.Record) ls) % 34 ≡ 0
unfolding made_in
records [] = refl
records (l ∷ ls) = go (line_of l) (records ls)
  where
    go : (a : Answer Line) → length (made_in (made_of F.Record) ls) % 34 ≡ 0 → length (made_by_rule (made_of F.Record) a ++ made_in (made_of F.Record) ls) % 34 ≡ 0
    go (given x) e =
        let n = record_34 x in
        let k = length-append (made_of F.Record x) (made_in (made_of F.Record) ls) in
        omega arith
    go (refused n v) e = e

ends : (parts : List (List ℕ)) → at_record_ends (map (made_of_all (made_of F.Record)) parts) ≡ true
unfolding at_record_ends
ends [] = refl
ends (p ∷ []) = refl
ends (p ∷ (q ∷ ps)) = ap₂ ◌&&◌ (eq-eqb (length (made_of_all (made_of F.Record) p) % 34) 0 (records (lines_of p))) (ends (q ∷ ps))

pub packed_at_ends : (parts : List (List ℕ)) → PackedAtEnds parts
packed_at_ends parts = record { ends = ends parts }
