-- `fit_root::root_of` meets its contract. Assumes nothing.
use Rattle.std.proofs.Common.{◌+◌, ◌-◌, ◌*◌, ◌%◌, ◌^◌, ◌<◌, ◌≤◌, refl, le_trans, arith}
use Rattle.fit_root.proofs.Whole.{doubled_or_not}
use Rattle.fit_root.proofs.Rounded.{rooted, no_nan, itself_at_least, scaled_units, digits_at_most, in_reach}
use Rattle.fit_root.proofs.root_of.Goals as goal

pub overflow_add-result-2 : goal.overflow_add-result-2
overflow_add-result-2 c =
    let most : c.scale-s.result.m * (1 + (c.scale-s.result.e + c.args.k) % 2) < 2 ^ 54 - 1 = doubled_or_not _ _ c.scale-s.ensures.2 (omega arith) in
    let short : c.nearest-n.result < 2 ^ 53 = digits_at_most _ _ (most) c.nearest-n.ensures in
    omega (arith, short)

pub float_from_bits-result : goal.float_from_bits-result
float_from_bits-result c =
    let most : c.scale-s.result.m * (1 + (c.scale-s.result.e + c.args.k) % 2) < 2 ^ 54 - 1 = doubled_or_not _ _ c.scale-s.ensures.2 (omega arith) in
    let short : c.nearest-n.result < 2 ^ 53 = digits_at_most _ _ (most) c.nearest-n.ensures in
    no_nan _ (omega (arith, short, c.scale-s.ensures.4))

pub returns : goal.returns
returns c =
    let most : c.scale-s.result.m * (1 + (c.scale-s.result.e + c.args.k) % 2) < 2 ^ 54 - 1 = doubled_or_not _ _ c.scale-s.ensures.2 (omega arith) in
    let sc = c.scale-s in
    let n = sc.result.m in
    let e = sc.result.e in
    let k = c.args.k in
    let lo : 2 ^ 52 ≤ n * (1 + (e + k) % 2) = le_trans sc.ensures.1 (itself_at_least n (e + k)) in
    rooted (c.args.m * 2 ^ k) (n * (1 + (e + k) % 2)) c.nearest-n.result _ _ (scaled_units c.args.m k n e sc.ensures.0)
    lo (most) c.nearest-n.ensures (omega (arith, sc.ensures.4, c.requires.2)) (in_reach c.args.m k c.requires.1 c.requires.2) refl
