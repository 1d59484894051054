-- `text_out::copy` meets its contract: the part of the buffer is the text. Assumes nothing.
use mathlib.Core.Path.{refl}
use native.Mathlib.Omega.{arith}
use Prim.Native.Nat.{◌+◌, ◌-◌}
use lib.ListN.{length}
use Rattle.std.proofs.lemmas.Slice.{take-put_mid, drop-put_mid}
use Rattle.text_out.proofs.copy.Goals as goal

pub returns : goal.returns
returns c =
    let at = c.args.at in
    let old = c.args.out.now in
    let s = c.args.s.now in
    let k = at + length s - at in
    rw c.copy_from_slice.ensures.after record {
      to = refl;
      fits = c.requires;
      front = take-put_mid at k old s (at + length s) refl (omega arith);
      back = drop-put_mid at k old s (at + length s) (omega arith) (omega arith) (omega arith);
    }
