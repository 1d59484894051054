-- Lists whose numbers are read one by one: what the machine holds of 32 bits is the number itself. Assumes nothing.
use mathlib.Core.Path.{◌≡◌, ap, ◌∙◌}
use mathlib.Core.List.{List, ◌∷◌}
use Prim.Native.Nat.{◌^◌, ◌<◌}
use lib.IntN.{ℤ}
use lib.Signed.{mag}
use Rattle.trace_counts.specs.declared.Trace.{Trace}
use mir.Syntax.{w32}
use Rattle.laws.proofs.Words.{held}
use Rattle.trace_counts.proofs.Held.{read}

-- one number more
pub then : {z : ℤ} {l m : List ℤ} → mag z < 2 ^ 31 → l ≡ m → held w32 z ∷ l ≡ z ∷ m
then {z} {l} {m} h e = ap (λ (x : ℤ). x ∷ l) (read z h) ∙ ap (λ (x : List ℤ). z ∷ x) e

-- a trace, field by field
abbrev fields : (pawns knights bishops rooks queens flags mobility : List ℤ) (side count : ℤ) → Trace
fields p n b r q f m s x =
    record { pawns = p; knights = n; bishops = b; rooks = r; queens = q; bishop_pair = f; mobility = m; side = s; piece_count = x }

pub trace_same : {p p' n n' b b' r r' q q' f f' m m' : List ℤ} {s s' x x' : ℤ}
    → p ≡ p' → n ≡ n' → b ≡ b' → r ≡ r' → q ≡ q' → f ≡ f' → m ≡ m' → s ≡ s' → x ≡ x'
    → fields p n b r q f m s x ≡ fields p' n' b' r' q' f' m' s' x'
trace_same e1 e2 e3 e4 e5 e6 e7 e8 e9 = cc
