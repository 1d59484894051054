-- What is written behind what was written, and read behind what was read. Assumes nothing.
use mathlib.Core.Path.{◌≡◌, sym, ◌∙◌, ap, subst}
use mathlib.Core.List.{List, ◌++◌, append_assoc}
use Prim.Native.Nat.{ℕ, ◌+◌, ◌-◌, ◌≤◌}
use lib.ListN.{take, drop, length}
use lib.Seq.{length-take-le}
use borrow.Rule.Slice.PartMut.{put_mid, post_of}
use Rattle.std.specs.Prelude.{None, Some, Option, Result, Ok, Err}
use Rattle.std.proofs.Math.Seq.{take-add, take-append-add}
use Rattle.std.proofs.lemmas.List.{take_rest, take-append-le}
use Rattle.std.specs.Io.KnownBytes.{Appends, Consumes, Keeps, WriteAppends}
use Rattle.stream.specs.declared.Write.TheVariants as W
use Rattle.stream_io.specs.Known.{WentOf}

-- bytes behind bytes
more_written : (a b c : Option (List ℕ)) (xs : List ℕ) (done n : ℕ) → Appends a b (take done xs) → Appends b c (take n (drop done xs)) → Appends a c (take (done + n) xs)
more_written None b c xs done n p q = tt
more_written (Some u) None c xs done n p q = absurd p
more_written (Some u) (Some v) None xs done n p q = absurd q
more_written (Some u) (Some v) (Some w) xs done n p q =
    q ∙ ap (λ (z : List ℕ). z ++ take n (drop done xs)) p ∙ append_assoc u (take done xs) (take n (drop done xs)) ∙ ap (λ (z : List ℕ). u ++ z) (sym (take-add done n xs))

-- and none
none_written : (a b c : Option (List ℕ)) (bs : List ℕ) → Appends a b bs → Keeps b c → Appends a c bs
none_written None b c bs p q = tt
none_written (Some u) None c bs p q = absurd p
none_written (Some u) (Some v) None bs p q = absurd q
none_written (Some u) (Some v) (Some w) bs p q = q ∙ p

-- a write of what is left, by what came of it
pub written : {E : Type 0} (a b c : Option (List ℕ)) (xs : List ℕ) (done next : ℕ) (put : Result ℕ E) → Appends a b (take done xs)
    → WriteAppends b c put (take (length xs - done) (drop done xs)) → WentOf put done (W.To next) → Appends a c (take next xs)
written a b c xs done next (Ok n) p q e =
    subst (λ (k : ℕ). Appends a c (take k xs)) (sym e)
    (more_written a b c xs done n p (subst (λ (ys : List ℕ). Appends b c (take n ys)) (take_rest xs done) q))
written a b c xs done next (Err e) p q told = subst (λ (k : ℕ). Appends a c (take k xs)) (sym told) (none_written a b c (take done xs) p q)

-- what is read into the rest of a buffer stands behind what was read into its front
fronts : (buf got : List ℕ) (done k n : ℕ) → done ≤ length buf → n ≤ length got → take (done + n) (put_mid done k buf got) ≡ take done buf ++ take n got
fronts buf got done k n h m =
    subst (λ (d : ℕ). take (d + n) (put_mid done k buf got) ≡ take done buf ++ take n got) (length-take-le done buf h)
    (take-append-add (take done buf) (got ++ post_of done k buf) n ∙ ap (λ (z : List ℕ). take done buf ++ z) (take-append-le n got (post_of done k buf) m))

more_read : (a b c : Option (List ℕ)) (xs ys : List ℕ) → Consumes a b xs → Consumes b c ys → Consumes a c (xs ++ ys)
more_read None b c xs ys p q = tt
more_read (Some u) None c xs ys p q = absurd p
more_read (Some u) (Some v) None xs ys p q = absurd q
more_read (Some u) (Some v) (Some w) xs ys p q = p ∙ ap (λ (z : List ℕ). xs ++ z) q ∙ sym (append_assoc xs ys w)

pub filled : (a b c : Option (List ℕ)) (buf got : List ℕ) (done k n : ℕ) → done ≤ length buf → n ≤ length got → Consumes a b (take done buf)
    → Consumes b c (take n got) → Consumes a c (take (done + n) (put_mid done k buf got))
filled a b c buf got done k n h m p q =
    subst (λ (bs : List ℕ). Consumes a c bs) (sym (fronts buf got done k n h m)) (more_read a b c (take done buf) (take n got) p q)
