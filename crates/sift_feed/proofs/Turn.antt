-- One turn of the loop over a chunk's lines: that of every consumer of lines (line_cut's `Turn`), with room in two buffers. Assumes nothing.
use mathlib.Core.Path.{◌≡◌, refl, sym, ap, ap₂, subst, ◌∙◌}
use mathlib.Core.Bool.{Bool, true, false, cond, not}
use mathlib.Core.List.{List, [], ◌++◌}
use Prim.Native.Nat.{ℕ, ◌+◌, ◌*◌, ◌^◌, ◌≤◌, ◌<◌}
use native.Mathlib.Nat.{mul-add, mul-one}
use native.Mathlib.Omega.{arith}
use lib.ListN.{length, take, drop, take-append-drop}
use lib.Seq.{drop-drop, length-take-le}
use Rattle.refusal.specs.Answer.{Answer}
use Rattle.text_out.specs.Text.{written_of, Adds}
use Rattle.text_out.proofs.Added.{adds_to, adds_length, adds_front, adds_back}
use Rattle.text_out.proofs.Wrote.{written_is}
use Rattle.line_parse.specs.Line.{Line}
use Rattle.line_cut.specs.Lines.{ends}
use Rattle.line_cut.specs.Cut.{CutSoFar}
use Rattle.line_cut.specs.Promises.{opened, CutsNext}
use Rattle.line_cut.specs.declared.Begun.{Begun}
use Rattle.line_cut.specs.declared.Cut.{Cut}
use Rattle.line_cut.proofs.Loop as Lines
use Rattle.line_held.specs.Held.{said_of}
use Rattle.line_profile.specs.declared.Profile.TheVariants as P
use Rattle.ledger_row.specs.Row.{is_loaded}
use Rattle.ledger_close.proofs.Closed.{said_32}
use Rattle.ledger_feed.specs.Machine.{tally}
use Rattle.ledger_feed.specs.declared.SoFar.{SoFar}
use Rattle.ledger_feed.proofs.Turn.{begun_in}
use Rattle.sift_form.specs.Forms.{room_of, made_of}
use Rattle.sift_form.specs.declared.Form.{Form}
use Rattle.sift_close.specs.Ended.{made_by_rule, refused_row_of, ClosesSifted}
use Rattle.sift_close.specs.declared.Closed.{Closed}
use Rattle.sift_close.proofs.Said.{made_most, row_most}
use Rattle.sift_feed.specs.Sifting.{Sifting, close_sift, sift_run, so_far_in}
use Rattle.sift_feed.specs.Promises.{ReadyToSift, TakesSifted}
use Rattle.std.specs.Prelude.{Ok}

-- ---- a buffer that is filled: its first w bytes are written, and it has room for so many texts more of so many bytes at most
pub record Filling (most more : ℕ) (old new : List ℕ) (w : ℕ) : Type 0 where
  pub same : length new ≡ length old
  pub room : w + most * more ≤ length old
  pub rest : drop w new ≡ drop w old

pub fill_none : (most more : ℕ) (old : List ℕ) → most * more ≤ length old → Filling most more old old 0
fill_none most more old h = record { same = refl; room = start (most * more) (length old) h; rest = refl }
  where
    start : (a b : ℕ) → a ≤ b → 0 + a ≤ b
    start a b q = omega arith

pub fill_same : (most more more' : ℕ) (old new : List ℕ) (w : ℕ) → more ≡ more' → Filling most more old new w → Filling most more' old new w
fill_same most more more' old new w e f = subst (λ (n : ℕ). Filling most n old new w) e f

module _ (most more more' : ℕ) (old new : List ℕ) (w : ℕ) (f : Filling most more old new w) (one : more ≡ more' + 1) (text new' : List ℕ) (w' : ℕ)
    (a : Adds new w text new' w')
    (short : length text ≤ most) where
  apart : most * more ≡ most * more' + most
  apart = ap (λ (n : ℕ). most * n) one ∙ mul-add most more' 1 ∙ ap (λ (n : ℕ). most * more' + n) (mul-one most)

  fits : w + length text ≤ length new
  fits = within (most * more) (most * more') (length new) (length old) (length text) apart f.room f.same short
    where
      within : (p q n o t : ℕ) → p ≡ q + most → w + p ≤ o → n ≡ o → t ≤ most → w + t ≤ n
      within p q n o t e h s k = omega arith

  pub fill_front : take w' new' ≡ take w new ++ text
  fill_front = adds_front a fits

  pub fill_more : Filling most more' old new' w'
  fill_more = record {
    same = adds_length a fits ∙ f.same;
    room = within (most * more) (most * more') (length old) (length text) apart f.room (adds_to a fits) short;
    rest = adds_back a fits ∙ later (length text) (adds_to a fits);
  }
    where
      within : (p q o t : ℕ) → p ≡ q + most → w + p ≤ o → w' ≡ w + t → t ≤ most → w' + q ≤ o
      within p q o t e h s k = omega arith

      later : (k : ℕ) → w' ≡ w + k → drop w' new ≡ drop w' old
      later k e = rw e (sym (drop-drop k w new) ∙ ap (drop k) f.rest ∙ drop-drop k w old)

-- what stands in it then
module _ (most more : ℕ) (old new : List ℕ) (w : ℕ) (f : Filling most more old new w) where
  pub fill_within : w ≤ length old
  fill_within = less (most * more) (length old) f.room
    where
      less : (a b : ℕ) → w + a ≤ b → w ≤ b
      less a b h = omega arith

  pub fill_size : length (take w new) ≡ w
  fill_size = length-take-le w new (let s = f.same in omega (arith, fill_within))

  pub fill_written : new ≡ written_of old 0 (take w new)
  fill_written =
      let size = fill_size in
      let fits : 0 + length (take w new) ≤ length old = omega (arith, fill_within) in
      sym (take-append-drop w new) ∙ ap (λ (l : List ℕ). take w new ++ l)
      (f.rest ∙ ap (λ (k : ℕ). drop k old) (let z : w ≡ 0 + length (take w new) = omega arith in z))
      ∙ sym (written_is old 0 (take w new) fits)

-- ---- a line more, loaded or refused
pub tally_loaded : (t : Bool) (n : ℕ) → n + cond t 1 0 ≡ tally n t
tally_loaded true n = refl
tally_loaded false n = omega arith

pub tally_refused : (t : Bool) (n : ℕ) → n + cond t 0 1 ≡ tally n (not t)
tally_refused true n = omega arith
tally_refused false n = refl

pub tally_either : (t : Bool) (a b loaded refused : ℕ) → a ≡ cond t 1 0 → b ≡ cond t 0 1 → loaded + a + (refused + b) ≡ loaded + refused + 1
tally_either true a b loaded refused e f = omega arith
tally_either false a b loaded refused e f = omega arith

abbrev pub sifting : ℕ → ℕ → List ℕ → List ℕ → Sifting
sifting loaded refused made rows = record { loaded = loaded; refused = refused; made = made; rows = rows }

pub sifting_same : {l l' r r' : ℕ} {m m' t t' : List ℕ} → l ≡ l' → r ≡ r' → m ≡ m' → t ≡ t' → sifting l r m t ≡ sifting l' r' m' t'
sifting_same p q r s = cc

pub record Turn (form : Form) (whole : CutSoFar Sifting) (chunk made₀ rows₀ line made rows : List ℕ) (begun : Begun) (loaded refused w v i : ℕ) : Type 0 where
  pub lines : Lines.Turn (close_sift (made_of form)) whole 256 chunk line begun (sifting loaded refused (take w made) (take v rows)) i
  pub making : Filling (room_of form) (ends (drop i chunk)) made₀ made w
  pub rowing : Filling 32 (ends (drop i chunk)) rows₀ rows v
  pub counts : loaded + refused + ends (drop i chunk) < 2 ^ 64

module _ (form : Form) (whole : CutSoFar Sifting) (chunk made₀ rows₀ line made rows : List ℕ) (begun : Begun) (loaded refused w v i : ℕ) (h : i < length chunk)
    (t : Turn form whole chunk made₀ rows₀ line made rows begun loaded refused w v i) (r : Cut) (line' : List ℕ) (p : CutsNext begun line chunk i r line') where
  abbrev close : Sifting → List ℕ → ℕ → Sifting
  close = close_sift (made_of form)

  abbrev so_far : Sifting
  so_far = sifting loaded refused (take w made) (take v rows)

  -- it goes on by a byte at least
  pub turn_less : i < r.at
  turn_less = Lines.turn_less close whole 256 chunk line begun so_far i t.lines h r line' p

  -- a line that ends may be counted
  pub turn_counts : r.ended ≡ true → loaded + refused + 1 < 2 ^ 64
  turn_counts e = let b = Lines.next_line begun line chunk i r line' p e in omega (arith, t.counts)

  -- the piece ended before the line did
  pub turn_on : r.ended ≡ false → Turn form whole chunk made₀ rows₀ line' made rows r.begun loaded refused w v r.at
  turn_on e =
      let b = Lines.next_none begun line chunk i r line' p e in
      record {
        lines = Lines.turn_next close whole 256 chunk line begun so_far i t.lines h r line' p so_far
            (sym (ap (λ (x : Bool). cond x (close so_far line' r.size) so_far) e));
        making = fill_same (room_of form) (ends (drop i chunk)) (ends (drop r.at chunk)) made₀ made w b t.making;
        rowing = fill_same 32 (ends (drop i chunk)) (ends (drop r.at chunk)) rows₀ rows v b t.rowing;
        counts = omega (arith, t.counts);
      }

  -- the line ended
  pub turn_close : r.ended ≡ true → (made' rows' : List ℕ) (c : Closed) → ClosesSifted form line' r.size (loaded + refused + 1) made w rows v c made' rows'
      → Turn form whole chunk made₀ rows₀ line' made' rows' r.begun (loaded + c.loaded) (refused + c.refused) c.made c.rows r.at
  turn_close e made' rows' c k =
      let b : ends (drop i chunk) ≡ ends (drop r.at chunk) + 1 = Lines.next_line begun line chunk i r line' p e in
      let said : Answer Line = said_of line' r.size in
      let a : List ℕ = made_by_rule (made_of form) said in
      let d : List ℕ = refused_row_of (loaded + refused + 1) said in
      let many = ends (drop i chunk) in
      let fewer = ends (drop r.at chunk) in
      let short = made_most form said in
      let low = row_most (loaded + refused + 1) said (said_32 P.Any (loaded + refused + 1) line' r.size) in
      let s' : Sifting = sifting (loaded + c.loaded) (refused + c.refused) (take c.made made') (take c.rows rows') in
      let next : s' ≡ close so_far line' r.size =
      sifting_same
      (ap (λ (n : ℕ). loaded + n) k.loaded ∙ tally_loaded (is_loaded said) loaded)
      (ap (λ (n : ℕ). refused + n) k.refused ∙ tally_refused (is_loaded said) refused)
      (fill_front (room_of form) many fewer made₀ made w t.making b a made' c.made k.making short)
      (fill_front 32 many fewer rows₀ rows v t.rowing b d rows' c.rows k.rowing low) in
      let both = tally_either (is_loaded said) c.loaded c.refused loaded refused k.loaded k.refused in
      record {
        lines = Lines.turn_next close whole 256 chunk line begun so_far i t.lines h r line' p s'
            (next ∙ sym (ap (λ (x : Bool). cond x (close so_far line' r.size) so_far) e));
        making = fill_more (room_of form) many fewer made₀ made w t.making b a made' c.made k.making short;
        rowing = fill_more 32 many fewer rows₀ rows v t.rowing b d rows' c.rows k.rowing low;
        counts = omega (arith, t.counts);
      }

  -- and the counts stay in 64 bits
  pub turn_fits : r.ended ≡ true → (made' rows' : List ℕ) (c : Closed) → ClosesSifted form line' r.size (loaded + refused + 1) made w rows v c made' rows'
      → (loaded + c.loaded < 2 ^ 64) × (refused + c.refused < 2 ^ 64)
  turn_fits e made' rows' c k =
      let b = Lines.next_line begun line chunk i r line' p e in
      let both = tally_either (is_loaded (said_of line' r.size)) c.loaded c.refused loaded refused k.loaded k.refused in
      (omega (arith, t.counts), omega (arith, t.counts))

-- before the first byte
pub turn_none : (state : SoFar) (form : Form) (line chunk made rows : List ℕ) → ReadyToSift state form line chunk made rows
    → Turn form (sift_run (made_of form) state line chunk) chunk made rows line made rows (begun_in state) state.loaded state.refused 0 0 0
turn_none state form line chunk made rows r = record {
  lines = subst (λ (n : ℕ). Lines.Turn (close_sift (made_of form)) (sift_run (made_of form) state line chunk) n chunk line (begun_in state)
      (sifting state.loaded state.refused [] []) 0) r.size
      (Lines.turn_none (close_sift (made_of form)) chunk line (begun_in state) (sifting state.loaded state.refused [] []));
  making = fill_none (room_of form) (ends chunk) made r.making;
  rowing = fill_none 32 (ends chunk) rows r.rowing;
  counts = r.counts;
}

-- after the last
pub turn_end : (state : SoFar) (form : Form) (line₀ chunk made₀ rows₀ line made rows : List ℕ) (begun : Begun) (loaded refused w v i : ℕ) → length chunk ≤ i
    → Turn form (sift_run (made_of form) state line₀ chunk) chunk made₀ rows₀ line made rows begun loaded refused w v i
    → TakesSifted state form line₀ chunk made₀ rows₀ (Ok (record { held = begun.held; cr = begun.cr; loaded = loaded; refused = refused }, w, v))
    line made rows
turn_end state form line₀ chunk made₀ rows₀ line made rows begun loaded refused w v i h t =
    let run : CutSoFar Sifting = sift_run (made_of form) state line₀ chunk in
    let m : run ≡ record { left = opened begun line; kept = sifting loaded refused (take w made) (take v rows) } =
    Lines.turn_end (close_sift (made_of form)) run 256 chunk line begun (sifting loaded refused (take w made) (take v rows)) i t.lines h in
    let many = ends (drop i chunk) in
    let a = fill_size (room_of form) many made₀ made w t.making in
    let b = fill_size 32 many rows₀ rows v t.rowing in
    let am : length run.kept.made ≡ w = ap (λ (x : CutSoFar Sifting). length x.kept.made) m ∙ a in
    let bm : length run.kept.rows ≡ v = ap (λ (x : CutSoFar Sifting). length x.kept.rows) m ∙ b in
    record {
      answer = ap (λ (x : SoFar). Ok (x, w, v)) (sym (ap so_far_in m)) ∙ sym (ap₂ (λ x y. Ok (so_far_in run, x, y)) am bm);
      kept = sym (ap (λ (x : CutSoFar Sifting). x.left.line) m);
      making = fill_written (room_of form) many made₀ made w t.making ∙ sym (ap (λ (x : CutSoFar Sifting). written_of made₀ 0 x.kept.made) m);
      rowing = fill_written 32 many rows₀ rows v t.rowing ∙ sym (ap (λ (x : CutSoFar Sifting). written_of rows₀ 0 x.kept.rows) m);
      made_within = subst (λ (n : ℕ). n ≤ length made₀) (sym am) (fill_within (room_of form) many made₀ made w t.making);
      rows_within = subst (λ (n : ℕ). n ≤ length rows₀) (sym bm) (fill_within 32 many rows₀ rows v t.rowing);
    }
