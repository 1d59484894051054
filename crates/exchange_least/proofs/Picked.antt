-- The least attacker, kind by kind; whoever it is stands on the board, attacks, and is still there. Assumes nothing.
use mathlib.Core.Path.{◌≡◌, refl, sym, ap, ◌∙◌, subst}
use mathlib.Core.Logic.{◌⊎◌, inl, inr, ⊎_elim}
use mathlib.Core.Bool.{Bool, true, false, cond, ◌&&◌}
use mathlib.Core.List.{List, [], ◌∷◌}
use Prim.Native.Nat.{ℕ, suc, ◌+◌, ◌^◌, ◌<◌}
use native.Mathlib.Nat.{lt_of_le_of_lt}
use native.Mathlib.Numerals.{add-one}
use native.Mathlib.Omega.{arith}
use lib.Bits.{bit_and, and_lt, and_le_l}
use lib.Dec.{T, eqb}
use lib.ListN.{length, get_or, drop, drop_of_length-le}
use lib.Seq.{drop-cons}
use borrow.Author.Tests.{eq-eqb, ne_eqb, eqb-false}
use Rattle.laws.proofs.Truth.{true_T, T_true, and_l, and_r}
use Rattle.bits.specs.Bitboard.{has, lowest_of}
use Rattle.bits.proofs.Digits.{has_and}
use Rattle.bits.proofs.Those.{has_those, those_lt, is_those}
use Rattle.bits.proofs.Scanned.{scanned_lowest, scan_is, scan_lt}
use Rattle.attack.specs.Attacks.{standing}
use Rattle.attack_to.proofs.Checks.{lowest_lt}
use Rattle.exchange_least.specs.Least.{Attacker, nobody, attacker, still_there, least_of}
use Rattle.exchange_least.specs.PrivateFound.{found_before, who_of}
use Rattle.exchange_least.specs.declared.inner.Found.{Found}

-- ---- the code's `&`
pub three : (bbs : List ℕ) (kind colour attacks occ b : ℕ) → attacks < 2 ^ 64 → occ < 2 ^ 64 → b ≡ standing bbs kind colour
    → bit_and (bit_and attacks occ) b ≡ still_there bbs kind colour attacks occ
unfolding still_there
three bbs kind colour attacks occ b ha ho e =
    is_those (bit_and (bit_and attacks occ) b) (λ k. has attacks k && has occ k && has (standing bbs kind colour) k)
    (lt_of_le_of_lt (and_le_l (bit_and attacks occ) b) (and_lt 64 attacks occ ha ho)) (λ k h. rw e (simp has_and))

-- ---- one kind after the other
module _ (kinds bbs : List ℕ) (colour attacks occ i : ℕ) (h : i < length kinds) where
  abbrev there : ℕ
  there = still_there bbs (get_or kinds i 0) colour attacks occ

  from_here : least_of (drop i kinds) bbs colour attacks occ
      ≡ cond (eqb there 0) (least_of (drop (suc i) kinds) bbs colour attacks occ) (attacker (lowest_of there) (get_or kinds i 0))
  unfolding least_of
  from_here = rw (drop-cons kinds i 0 h) refl

  -- none of the kind at i: the kinds after it are asked
  pub passed : there ≡ 0 → least_of (drop i kinds) bbs colour attacks occ ≡ least_of (drop (i + 1) kinds) bbs colour attacks occ
  passed e = rw (from_here, eq-eqb there 0 e, add-one) refl

  -- some of the kind at i: the lowest
  pub found : (there ≡ 0 → ⊥) → least_of (drop i kinds) bbs colour attacks occ ≡ attacker (lowest_of there) (get_or kinds i 0)
  found e = rw (from_here, ne_eqb there 0 e) refl

pub none_left : (kinds bbs : List ℕ) (colour attacks occ i : ℕ) → drop i kinds ≡ [] → least_of (drop i kinds) bbs colour attacks occ ≡ nobody
unfolding least_of
none_left kinds bbs colour attacks occ i e = rw e refl

-- ---- the kinds from the last to the first
one_before : (there kind : ℕ) (later : Found) (who : Attacker) → who_of later ≡ who
    → who_of (found_before there kind later) ≡ cond (eqb there 0) who (attacker (lowest_of there) kind)
one_before there kind later who e = go (eqb there 0) refl
  where
    go : (t : Bool) → eqb there 0 ≡ t
        → who_of (cond t later (record { there = there; kind = kind })) ≡ cond t who (attacker (lowest_of there) kind)
    go true f = e
    go false f = ap (λ (t : Bool). cond t nobody (attacker (lowest_of there) kind)) f

pub before_lt : (there kind : ℕ) (later : Found) → there < 2 ^ 64 → later.there < 2 ^ 64 → (found_before there kind later).there < 2 ^ 64
before_lt there kind later h l = go (eqb there 0)
  where
    go : (t : Bool) → (cond t later (record { there = there; kind = kind })).there < 2 ^ 64
    go true = l
    go false = h

-- none asked yet
pub none_asked : (kinds bbs : List ℕ) (colour attacks occ : ℕ) → nobody ≡ least_of (drop (length kinds) kinds) bbs colour attacks occ
unfolding least_of
none_asked kinds bbs colour attacks occ = rw (drop_of_length-le kinds {i = length kinds} (omega arith)) refl

-- the kind at i, and those after it
pub one_more : (kinds bbs : List ℕ) (colour attacks occ i j there : ℕ) (later : Found) → i < length kinds → j ≡ suc i
    → there ≡ still_there bbs (get_or kinds i 0) colour attacks occ → who_of later ≡ least_of (drop j kinds) bbs colour attacks occ
    → who_of (found_before there (get_or kinds i 0) later) ≡ least_of (drop i kinds) bbs colour attacks occ
one_more kinds bbs colour attacks occ i j there later h n e f =
    one_before there (get_or kinds i 0) later (least_of (drop (suc i) kinds) bbs colour attacks occ)
    (f ∙ ap (λ (m : ℕ). least_of (drop m kinds) bbs colour attacks occ) n)
    ∙ ap (λ (x : ℕ). cond (eqb x 0) (least_of (drop (suc i) kinds) bbs colour attacks occ) (attacker (lowest_of x) (get_or kinds i 0))) e
    ∙ sym (from_here kinds bbs colour attacks occ i h)

-- all asked: nobody, or whoever was found
pub all_none : (kinds bbs : List ℕ) (colour attacks occ i : ℕ) (found : Found) → i ≡ 0
    → who_of found ≡ least_of (drop i kinds) bbs colour attacks occ → found.there ≡ 0 → nobody ≡ least_of kinds bbs colour attacks occ
all_none kinds bbs colour attacks occ i found n e z =
    sym (ap (λ (t : Bool). cond t nobody (attacker (lowest_of found.there) found.kind)) (eq-eqb found.there 0 z))
    ∙ e ∙ ap (λ (m : ℕ). least_of (drop m kinds) bbs colour attacks occ) n

pub all_found : (kinds bbs : List ℕ) (colour attacks occ i s : ℕ) (found : Found) → i ≡ 0
    → who_of found ≡ least_of (drop i kinds) bbs colour attacks occ → (found.there ≡ 0 → ⊥) → s ≡ lowest_of found.there
    → attacker s found.kind ≡ least_of kinds bbs colour attacks occ
all_found kinds bbs colour attacks occ i s found n e ne f =
    ap (λ (x : ℕ). attacker x found.kind) f
    ∙ sym (ap (λ (t : Bool). cond t nobody (attacker (lowest_of found.there) found.kind)) (ne_eqb found.there 0 ne))
    ∙ e ∙ ap (λ (m : ℕ). least_of (drop m kinds) bbs colour attacks occ) n

-- ---- who it is
lowest_in : (b : ℕ) → b < 2 ^ 64 → (b ≡ 0 → ⊥) → has b (lowest_of b) ≡ true
lowest_in b h ne = subst (λ (x : ℕ). has b x ≡ true) (scan_is b) ((scanned_lowest 64 b).found (scan_lt b h ne))

pub there_lt : (bbs : List ℕ) (kind colour attacks occ : ℕ) → still_there bbs kind colour attacks occ < 2 ^ 64
unfolding still_there
there_lt bbs kind colour attacks occ = those_lt 64 (λ k. has attacks k && has occ k && has (standing bbs kind colour) k)

pub record Comes (bbs : List ℕ) (colour attacks occ s kind : ℕ) : Type 0 where
  pub on_board_holds : s < 64
  pub attacks_it : has attacks s ≡ true
  pub there : has occ s ≡ true
  pub its_kind : has (standing bbs kind colour) s ≡ true

of_kind : (bbs : List ℕ) (kind colour attacks occ s : ℕ) → s < 64 → has (still_there bbs kind colour attacks occ) s ≡ true → Comes bbs colour attacks occ s kind
unfolding still_there
of_kind bbs kind colour attacks occ s h e =
    let t : T (has attacks s && has occ s && has (standing bbs kind colour) s) =
    true_T (sym (has_those 64 (λ k. has attacks k && has occ k && has (standing bbs kind colour) k) s h) ∙ e) in
    let u : T (has attacks s && has occ s) = and_l (has attacks s && has occ s) (has (standing bbs kind colour) s) t in
    record {
      on_board_holds = h;
      attacks_it = T_true (has attacks s) (and_l (has attacks s) (has occ s) u);
      there = T_true (has occ s) (and_r (has attacks s) (has occ s) u);
      its_kind = T_true (has (standing bbs kind colour) s) (and_r (has attacks s && has occ s) (has (standing bbs kind colour) s) t);
    }

split : (t : Bool) (later : Attacker) (x kind s k : ℕ) → cond t later (attacker x kind) ≡ attacker s k → (later ≡ attacker s k)
    ⊎ ((t ≡ false) × (x ≡ s) × (kind ≡ k))
split true later x kind s k e = inl e
split false later x kind s k e = inr (refl, cc, cc)

pub comes : (kinds bbs : List ℕ) (colour attacks occ s k : ℕ) → least_of kinds bbs colour attacks occ ≡ attacker s k → Comes bbs colour attacks occ s k
unfolding least_of
comes [] bbs colour attacks occ s k e = absurd (let z : ◌≡◌ {A = ℕ} 0 1 = cc in omega arith)
comes (kind ∷ kinds) bbs colour attacks occ s k e =
    ⊎_elim (comes kinds bbs colour attacks occ s k)
    (λ w. here w.0 w.1 w.2)
    (split (eqb b 0) (least_of kinds bbs colour attacks occ) (lowest_of b) kind s k e)
  where
    b : ℕ
    b = still_there bbs kind colour attacks occ

    here : eqb (still_there bbs kind colour attacks occ) 0 ≡ false → lowest_of (still_there bbs kind colour attacks occ) ≡ s → kind ≡ k
        → Comes bbs colour attacks occ s k
    here f x y =
        let ne : b ≡ 0 → ⊥ = eqb-false (still_there bbs kind colour attacks occ) 0 f in
        subst (λ (q : ℕ). Comes bbs colour attacks occ s q) y
        (subst (λ (q : ℕ). Comes bbs colour attacks occ q kind) x
        (of_kind bbs kind colour attacks occ (lowest_of b) (lowest_lt b (there_lt bbs kind colour attacks occ) ne)
        (lowest_in b (there_lt bbs kind colour attacks occ) ne)))
