-- `fit_sample::inner::put_entries` meets its contract. Assumes nothing.
use mathlib.Core.List.{[], ◌∷◌}
use native.Mathlib.Omega.{arith}
use Rattle.text_out.proofs.Added.{adds_or}
use Rattle.text_out.proofs.Added.{adds_3}
use Rattle.fit_sample.proofs.inner.put_entries.Goals as goal

pub returns : goal.returns
returns c =
    let a = c.args in
    let p = c.put in
    let q = c.put-2 in
    let r = c.put-3 in
    let i = c.unwrap_or-a in
    let j = c.unwrap_or-b in
    adds_3 {t = a.used ∷ a.half ∷ []} {u = a.list.now} {v = 0 ∷ 0 ∷ []}
    (adds_or _ _ _ _ p.result i.result p.ensures i.ensures)
    (adds_or _ _ _ _ q.result j.result q.ensures j.ensures)
    (adds_or _ _ _ _ r.result c.unwrap_or.result r.ensures c.unwrap_or.ensures)
    (omega (
      arith,
      c.requires,
    ))
