-- Each door is determined by its promise: two results that it allows are equal, and so is every lent number afterwards. Assumes nothing.
use mathlib.Core.Path.{◌≡◌}
use mathlib.Core.List.{List}
use Prim.Native.Nat.{ℕ}
use Rattle.refusal.proofs.Paper.{one}
use Rattle.abi_codes.specs.declared.Code.{Code}
use Rattle.abi_samples.specs.Promises.{FeedsSamples, FinishesSamples}

pub samples_feed : (state line chunk samples rows : List ℕ) (sampled wrote : ℕ) (r s : Code) (t t' l l' a a' b b' : List ℕ) (m m' w w' : ℕ)
    → FeedsSamples state line chunk samples rows sampled wrote r t l a b m w → FeedsSamples state line chunk samples rows sampled wrote s t' l' a' b' m' w'
    → (r ≡ s) × (t ≡ t') × (l ≡ l') × (a ≡ a') × (b ≡ b') × (m ≡ m') × (w ≡ w')
samples_feed state line chunk samples rows sampled wrote r s t t' l l' a a' b b' m m' w w' p q = (
  one p.code q.code,
  one p.lent q.lent,
  one p.kept q.kept,
  one p.making q.making,
  one p.rowing q.rowing,
  one p.lent2 q.lent2,
  one p.lent3 q.lent3,
)

pub samples_finish : (state line samples rows : List ℕ) (sampled wrote : ℕ) (r s : Code) (a a' b b' : List ℕ) (m m' w w' : ℕ)
    → FinishesSamples state line samples rows sampled wrote r a b m w → FinishesSamples state line samples rows sampled wrote s a' b' m' w'
    → (r ≡ s) × (a ≡ a') × (b ≡ b') × (m ≡ m') × (w ≡ w')
samples_finish state line samples rows sampled wrote r s a a' b b' m m' w w' p q =
    (one p.code q.code, one p.making q.making, one p.rowing q.rowing, one p.lent q.lent, one p.lent2 q.lent2)
