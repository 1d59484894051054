-- Each public function is determined by its promise: two answers, and two contents of each lent buffer, that it allows are equal. Assumes nothing.
use mathlib.Core.Path.{◌≡◌}
use mathlib.Core.List.{List}
use Prim.Native.Nat.{ℕ}
use Rattle.refusal.proofs.Paper.{one}
use Rattle.line.specs.declared.inner.Loaded.{Loaded}
use Rattle.sift_form.specs.declared.Form.{Form}
use Rattle.sift_close.specs.Ended.{ClosesSifted, TellsRead}
use Rattle.sift_close.specs.declared.Closed.{Closed}

pub close : (form : Form) (line : List ℕ) (size number : ℕ) (made : List ℕ) (at : ℕ) (rows : List ℕ) (from : ℕ) (r s : Closed)
    (made₁ rows₁ made₂ rows₂ : List ℕ)
    → ClosesSifted form line size number made at rows from r made₁ rows₁ → ClosesSifted form line size number made at rows from s made₂ rows₂
    → (r ≡ s) × (made₁ ≡ made₂) × (rows₁ ≡ rows₂)
close form line size number made at rows from r s made₁ rows₁ made₂ rows₂ p q =
    let a = one p.loaded q.loaded in
    let b = one p.refused q.refused in
    let c = one p.making.place q.making.place in
    let d = one p.rowing.place q.rowing.place in (
      λ i. record { loaded = a i; refused = b i; made = c i; rows = d i },
      one p.making.buffer q.making.buffer,
      one p.rowing.buffer q.rowing.buffer,
    )

pub tell : (form : Form) (read : Loaded) (number : ℕ) (made : List ℕ) (at : ℕ) (rows : List ℕ) (from : ℕ) (r s : Closed) (made₁ rows₁ made₂ rows₂ : List ℕ)
    → TellsRead form read number made at rows from r made₁ rows₁ → TellsRead form read number made at rows from s made₂ rows₂
    → (r ≡ s) × (made₁ ≡ made₂) × (rows₁ ≡ rows₂)
tell form read number made at rows from r s made₁ rows₁ made₂ rows₂ p q =
    let a = one p.loaded q.loaded in
    let b = one p.refused q.refused in
    let c = one p.making.place q.making.place in
    let d = one p.rowing.place q.rowing.place in (
      λ i. record { loaded = a i; refused = b i; made = c i; rows = d i },
      one p.making.buffer q.making.buffer,
      one p.rowing.buffer q.rowing.buffer,
    )
