-- Each public function is determined by its promise: two results that it allows are equal. Assumes nothing.
use Rattle.std.proofs.Common.{◌≡◌, ℕ}
use Rattle.refusal.proofs.Paper.{one}
use Rattle.attack_rays.specs.Promises.{Rays, Bishops, Rooks, Queens}

pub ray : (d square occ r s : ℕ) → Rays d square occ r → Rays d square occ s → r ≡ s
ray d square occ r s = one

pub bishop : (square occ r s : ℕ) → Bishops square occ r → Bishops square occ s → r ≡ s
bishop square occ r s = one

pub rook : (square occ r s : ℕ) → Rooks square occ r → Rooks square occ s → r ≡ s
rook square occ r s = one

pub queen : (square occ r s : ℕ) → Queens square occ r → Queens square occ s → r ≡ s
queen square occ r s = one
