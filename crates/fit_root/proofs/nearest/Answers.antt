-- `fit_root::nearest` meets its contract: what is settled is the nearest, whatever was guessed; else the root is worked out. Assumes nothing.
use Rattle.std.proofs.Common.{ℕ, ◌+◌, ◌-◌, ◌*◌, ◌/◌, ◌^◌, ◌<◌, ap}
use Rattle.fit_root.proofs.Whole.{doubled_or_not, whole_fits, whole_is, whole_one, near_half}
use Rattle.fit_root.proofs.nearest.Goals as goal

pub returns-then-n-eq0 : goal.returns-then-n-eq0
returns-then-n-eq0 c =
    let most : c.args.m * (1 + c.args.odd) < 2 ^ 54 - 1 = doubled_or_not c.args.m c.args.odd c.requires.0 c.requires.1 in
    ap (λ (q : ℕ). (q + 1) / 2) (whole_one 54 (c.args.m * (1 + c.args.odd) * 2 ^ 54) c.whole_root.result (whole_fits _ (most))
    c.whole_root.ensures)

pub returns : goal.returns
returns c =
    let most : c.args.m * (1 + c.args.odd) < 2 ^ 54 - 1 = doubled_or_not c.args.m c.args.odd c.requires.0 c.requires.1 in
    let m = c.args.m * (1 + c.args.odd) in
    near_half m c.settled-n.result _ (c.settled-n.ensures c.if-n-eq0.false) (whole_is 54 (m * 2 ^ 54) (whole_fits m (most)))
