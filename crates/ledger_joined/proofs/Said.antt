-- A ledger by what is said of its lines, and such ledgers joined: one law for collections and for stores, whatever a part is cut into. Assumes nothing.
use mathlib.Core.Path.{◌≡◌, refl, sym, ap, ap₂, ◌∙◌}
use mathlib.Core.Bool.{Bool, true, false, not}
use mathlib.Core.List.{List, [], ◌∷◌, ◌++◌, append_assoc, map}
use Prim.Native.Nat.{ℕ, ◌+◌}
use native.Mathlib.Nat.{add-zero}
use native.Mathlib.Omega.{arith}
use Rattle.refusal.specs.Answer.{Answer}
use Rattle.line_parse.specs.Line.{Line}
use Rattle.ledger_row.specs.Row.{row_of, is_loaded}
use Rattle.ledger_totals.specs.Totals.{last_row}
use Rattle.ledger_feed.specs.Machine.{tally}
use Rattle.ledger_whole.specs.Whole.{joined, pieces_from}
use Rattle.ledger_join.specs.Join.{Checked, checked, JoinedPart, with_row, with_rows, and_then, part_from, part_in, join_from, join_of}
use Rattle.ledger_joined.proofs.Pieces.{row_piece_holds, last_piece_holds, pieces_end}
use Rattle.ledger_joined.proofs.Parts.{ForRow, row_taken, last_taken}

-- the rows and the totals, after so many loaded and refused ones
unfoldable pub said_from : ℕ → ℕ → List (Answer Line) → List ℕ
said_from loaded others [] = last_row (loaded + others) loaded others
said_from loaded others (a ∷ xs) = row_of (loaded + others + 1) a ++ said_from (tally loaded (is_loaded a)) (tally others (not (is_loaded a))) xs

-- the same, each by itself
unfoldable rows_said : ℕ → ℕ → List (Answer Line) → List (List ℕ)
rows_said loaded others [] = last_row (loaded + others) loaded others ∷ []
rows_said loaded others (a ∷ xs) = row_of (loaded + others + 1) a ∷ rows_said (tally loaded (is_loaded a)) (tally others (not (is_loaded a))) xs

-- what a part comes to, after so many of the whole and of the part
unfoldable part_said : ℕ → ℕ → ℕ → List (Answer Line) → JoinedPart
part_said before loaded others [] = record { rows = []; loaded = loaded; refused = others }
part_said before loaded others (a ∷ xs) =
    let rest : JoinedPart = part_said before (tally loaded (is_loaded a)) (tally others (not (is_loaded a))) xs in
    record { rows = row_of (before + (loaded + others + 1)) a ++ rest.rows; loaded = rest.loaded; refused = rest.refused }

unfoldable pub AllForRows : List (Answer Line) → Type 0
AllForRows [] = Unit
AllForRows (a ∷ xs) = ForRow a × AllForRows xs

pub all_for_rows : (f : List ℕ → Answer Line) → ((t : List ℕ) → ForRow (f t)) → (ts : List (List ℕ)) → AllForRows (map f ts)
unfolding AllForRows
all_for_rows f s [] = tt
all_for_rows f s (t ∷ ts) = (s t, all_for_rows f s ts)

-- ---- one part
pieces_said : (loaded others : ℕ) (xs : List (Answer Line)) → pieces_from [] (said_from loaded others xs) ≡ rows_said loaded others xs
unfolding said_from rows_said
pieces_said loaded others [] = pieces_end (last_row (loaded + others) loaded others) (last_piece_holds (loaded + others) loaded others)
pieces_said loaded others (a ∷ xs) =
    let x : ℕ = tally loaded (is_loaded a) in
    let y : ℕ = tally others (not (is_loaded a)) in
    row_piece_holds (loaded + others + 1) a [] (said_from x y xs) ∙ ap (λ (r : List (List ℕ)). row_of (loaded + others + 1) a ∷ r) (pieces_said x y xs)

rows_taken : (part before loaded others : ℕ) (xs : List (Answer Line)) → AllForRows xs
    → part_from part before loaded others (rows_said loaded others xs) ≡ checked (part_said before loaded others xs)
unfolding rows_said part_said AllForRows
rows_taken part before loaded others [] s = last_taken part before loaded others
rows_taken part before loaded others (a ∷ xs) s =
    let x : ℕ = tally loaded (is_loaded a) in
    let y : ℕ = tally others (not (is_loaded a)) in
    row_taken part before loaded others a (rows_said x y xs) s.0
    ∙ ap (with_row (row_of (before + (loaded + others + 1)) a)) (rows_taken part before x y xs s.1)

part_taken : (part before : ℕ) (xs : List (Answer Line)) → AllForRows xs → part_in part before (said_from 0 0 xs) ≡ checked (part_said before 0 0 xs)
part_taken part before xs s = ap (part_from part before 0 0) (pieces_said 0 0 xs) ∙ rows_taken part before 0 0 xs s

-- ---- a part, and what follows it
tally_on : (t : Bool) (n m : ℕ) → tally (n + m) t ≡ n + tally m t
tally_on true n m = omega arith
tally_on false n m = refl

onward : (l o loaded others : ℕ) (xs ys : List (Answer Line))
    → (part_said (l + o) loaded others xs).rows ++ said_from (l + (part_said (l + o) loaded others xs).loaded) (o + (part_said (l + o) loaded others xs).refused) ys
    ≡ said_from (l + loaded) (o + others) (xs ++ ys)
unfolding said_from part_said
onward l o loaded others [] ys = refl
onward l o loaded others (a ∷ xs) ys =
    let x : ℕ = tally loaded (is_loaded a) in
    let y : ℕ = tally others (not (is_loaded a)) in
    let p : JoinedPart = part_said (l + o) x y xs in
    let number : l + o + (loaded + others + 1) ≡ l + loaded + (o + others) + 1 = omega arith in
    append_assoc (row_of (l + o + (loaded + others + 1)) a) p.rows (said_from (l + p.loaded) (o + p.refused) ys)
    ∙ ap₂ (λ (n : ℕ) (r : List ℕ). row_of n a ++ r) number
    (onward l o x y xs ys ∙ sym (ap₂ (λ (u v : ℕ). said_from u v (xs ++ ys)) (tally_on (is_loaded a) l loaded) (tally_on (not (is_loaded a)) o others)))

join_none : (part loaded others : ℕ) → join_from part loaded others [] ≡ checked (said_from loaded others [])
unfolding join_from said_from
join_none part loaded others = refl

join_more : (part loaded others : ℕ) (t : List ℕ) (ts : List (List ℕ)) → join_from part loaded others (t ∷ ts)
    ≡ and_then (part_in part (loaded + others) t) (λ (p : JoinedPart). join_from (part + 1) (loaded + p.loaded) (others + p.refused) ts)
unfolding join_from
join_more part loaded others t ts = refl

-- ---- ALL PARTS: of ledgers that are each by what is said of their part, where the whole says what the parts say one after another
module _ (said : List ℕ → List (Answer Line)) (shown : (t : List ℕ) → AllForRows (said t)) (none : said [] ≡ []) (cut : List (List ℕ) → Bool)
    (both : (p : List ℕ) (ps : List (List ℕ)) → cut (p ∷ ps) ≡ true → (said (joined (p ∷ ps)) ≡ said p ++ said (joined ps)) × (cut ps ≡ true)) where
  join_from_holds : (part loaded others : ℕ) (parts : List (List ℕ)) → cut parts ≡ true
      → join_from part loaded others (map (λ (t : List ℕ). said_from 0 0 (said t)) parts) ≡ checked (said_from loaded others (said (joined parts)))
  unfolding joined
  join_from_holds part loaded others [] e = join_none part loaded others ∙ ap (λ (xs : List (Answer Line)). checked (said_from loaded others xs)) (sym none)
  join_from_holds part loaded others (p ∷ ps) e =
      let xs : List (Answer Line) = said p in
      let q : JoinedPart = part_said (loaded + others) 0 0 xs in
      let c = both p ps e in
      join_more part loaded others (said_from 0 0 xs) (map (λ (t : List ℕ). said_from 0 0 (said t)) ps)
      ∙ ap (λ (a : Checked JoinedPart). and_then a (λ (r : JoinedPart). join_from (part + 1) (loaded + r.loaded) (others + r.refused)
      (map (λ (t : List ℕ). said_from 0 0 (said t)) ps)))
      (part_taken part (loaded + others) xs (shown p))
      ∙ ap (with_rows q.rows) (join_from_holds (part + 1) (loaded + q.loaded) (others + q.refused) ps c.1)
      ∙ ap checked
      (onward loaded others 0 0 xs (said (joined ps)) ∙ ap₂ (λ (u v : ℕ). said_from u v (xs ++ said (joined ps))) (add-zero loaded) (add-zero others)
      ∙ ap (said_from loaded others) (sym c.0))

  same_map : (ledger : List ℕ → List ℕ) → ((t : List ℕ) → ledger t ≡ said_from 0 0 (said t)) → (parts : List (List ℕ)) → map ledger parts
      ≡ map (λ (t : List ℕ). said_from 0 0 (said t)) parts
  same_map ledger is [] = refl
  same_map ledger is (p ∷ ps) = ap₂ ◌∷◌ (is p) (same_map ledger is ps)

  pub join_said : (ledger : List ℕ → List ℕ) → ((t : List ℕ) → ledger t ≡ said_from 0 0 (said t))
      → (parts : List (List ℕ)) → cut parts ≡ true → join_of (map ledger parts) ≡ checked (ledger (joined parts))
  join_said ledger is parts e = ap join_of (same_map ledger is parts) ∙ join_from_holds 1 0 0 parts e ∙ ap checked (sym (is (joined parts)))
