-- The captures listed so far, as the loop that follows an exchange holds them: begun, one more, and all. Assumes nothing.
use mathlib.Core.Path.{◌≡◌, refl, sym, ap, subst, ◌∙◌}
use mathlib.Core.List.{List, [], ◌∷◌}
use Prim.Native.Nat.{ℕ, suc, ◌+◌, ◌-◌, ◌≤◌, ◌<◌}
use native.Mathlib.Numerals.{add-one}
use native.Mathlib.Omega.{arith}
use lib.ListN.{length, take, drop, set}
use Rattle.chess.specs.Values.{value_of}
use Rattle.attack.specs.Attacks.{other}
use Rattle.attack_to.specs.Attackers.{attackers}
use Rattle.exchange_least.specs.Least.{attacker, least_of}
use Rattle.exchange_least.specs.Answers.{paper_attacker}
use Rattle.exchange_start.specs.declared.Mode.{Mode}
use Rattle.exchange.specs.Exchange.{Capture, promotes, recaptures}
use Rattle.exchange.specs.Listed.{column}
use Rattle.exchange.specs.PrivateFirst.{made_of, followed}
use Rattle.exchange.specs.Promises.{HoldsCaptures}
use Rattle.exchange.specs.declared.inner.Begun.{Begun}
use Rattle.exchange.specs.declared.inner.Made.{Made}
use Rattle.exchange.specs.declared.inner.Listed.{Listed}
use Rattle.exchange.proofs.Forward.{stops, spent, turn}
use Rattle.exchange.proofs.Columns.{zeros, one_on, one_more, all_taken, all_counted_holds, column_step, column_first}
use Rattle.std.specs.Prelude.{Option, None, Some}

abbrev From : Capture → ℕ
From c = c.from

abbrev Kind : Capture → ℕ
Kind c = c.kind

abbrev Taken : Capture → ℕ
Taken c = c.taken

-- a capture made, part by part
pub made : {taken last there color taken' last' there' color' : ℕ} → taken ≡ taken' → last ≡ last' → there ≡ there' → color ≡ color'
    → ◌≡◌ {A = Made} (record { taken = taken; last = last; there = there; color = color })
    (record { taken = taken'; last = last'; there = there'; color = color' })
made p q r s = cc

module _ (mode : Mode) (kinds bbs : List ℕ) (to : ℕ) where
  -- those to come, at most n
  abbrev rest : ℕ → ℕ → ℕ → ℕ → List Capture
  rest n there colour last = recaptures kinds bbs (attackers bbs to) (promotes mode to) n there colour (value_of last)

  -- the first capture, and those after it
  abbrev pub all : ℕ → ℕ → ℕ → ℕ → ℕ → ℕ → List Capture
  all from kind value there colour last = record { from = from; kind = kind; taken = value } ∷ rest 31 there colour last

  -- the first n stand in the arrays, zeros after them, and those to come are the ones that the definition has from here on
  pub record Listing (cs : List Capture) (squares by taken : List ℕ) (n last there colour : ℕ) : Type 0 where
    pub room : n ≤ 32
    pub some : n ≤ length cs
    pub froms : squares ≡ column 32 From (take n cs)
    pub bys : by ≡ column 32 Kind (take n cs)
    pub takens : taken ≡ column 32 Taken (take n cs)
    pub left : drop n cs ≡ rest (32 - n) there colour last

  pub listing_first : (from kind value there colour last : ℕ)
      → Listing (all from kind value there colour last) (from ∷ zeros 31) (kind ∷ zeros 31) (value ∷ zeros 31) 1 last there colour
  listing_first from kind value there colour last =
      let one : Capture = record { from = from; kind = kind; taken = value } in
      record {
        room = omega arith;
        some = omega arith;
        froms = column_first From one;
        bys = column_first Kind one;
        takens = column_first Taken one;
        left = refl;
      }

  module _ {cs : List Capture} {squares by taken : List ℕ} {n last there colour : ℕ} (l : Listing cs squares by taken n last there colour) where
    pub listing_more : n < 32 → (square kind : ℕ) (a : Option (ℕ × ℕ)) → paper_attacker a ≡ least_of kinds bbs colour (attackers bbs to there) there
        → a ≡ Some (square, kind) → (r : Made) → r ≡ made_of mode to colour square kind last there
        → Listing cs (set squares n square) (set by n kind) (set taken n r.taken) (n + 1) r.last r.there r.color
    listing_more h square kind a p i r m =
        let q : least_of kinds bbs colour (attackers bbs to there) there ≡ attacker square kind = sym p ∙ ap paper_attacker i in
        let e = turn kinds bbs (attackers bbs to) (promotes mode to) (drop n cs) n there colour (value_of last) square kind h l.left q in
        subst (λ (k : ℕ). Listing cs (set squares n square) (set by n kind) (set taken n r.taken) k r.last r.there r.color) (sym (add-one n))
        (subst (λ (d : Made). Listing cs (set squares n square) (set by n kind) (set taken n d.taken) (suc n) d.last d.there d.color) (sym m)
        (record {
          room = omega arith;
          some = one_more cs n _ _ e;
          froms = ap (λ (s : List ℕ). set s n square) l.froms ∙ column_step From 32 n cs _ _ h e;
          bys = ap (λ (s : List ℕ). set s n kind) l.bys ∙ column_step Kind 32 n cs _ _ h e;
          takens = ap (λ (s : List ℕ). set s n (made_of mode to colour square kind last there).taken) l.takens ∙ column_step Taken 32 n cs _ _ h e;
          left = one_on cs n _ _ e;
        }))

    -- none is left: all of them are listed
    whole : drop n cs ≡ [] → HoldsCaptures cs (record { from = squares; kind = by; taken = taken; count = n })
    whole e =
        let t = all_taken cs n e in (
          all_counted_holds cs n l.some e,
          l.froms ∙ ap (column 32 From) t,
          l.bys ∙ ap (column 32 Kind) t,
          l.takens ∙ ap (column 32 Taken) t,
        )

    pub listing_stops : (a : Option (ℕ × ℕ)) → paper_attacker a ≡ least_of kinds bbs colour (attackers bbs to there) there → a ≡ None
        → HoldsCaptures cs (record { from = squares; kind = by; taken = taken; count = n })
    listing_stops a p i =
        whole (l.left ∙ stops kinds bbs (attackers bbs to) (promotes mode to) (32 - n) there colour (value_of last) (sym p ∙ ap paper_attacker i))

    pub listing_full : 32 ≤ n → HoldsCaptures cs (record { from = squares; kind = by; taken = taken; count = n })
    listing_full h = whole (l.left ∙ spent kinds bbs (attackers bbs to) (promotes mode to) (32 - n) there colour (value_of last) (omega arith))

  -- who captures next is the other side
  pub by_other : (side from : ℕ) (b : Begun) {who : ℕ} → who ≡ other side → {r : Listed}
      → HoldsCaptures (all from b.kind b.taken b.there who b.last) r → HoldsCaptures (followed mode kinds bbs side from to b) r
  by_other side from b e {r} h =
      subst (λ (w : ℕ). HoldsCaptures (all from b.kind b.taken b.there w b.last) r) e h
