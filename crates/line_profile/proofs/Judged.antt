-- What was read of a line is judged as the line is. Assumes nothing.
use mathlib.Core.Path.{◌≡◌, refl, sym, ap, ◌∙◌}
use mathlib.Core.List.{List}
use Prim.Native.Nat.{ℕ}
use Rattle.refusal.specs.Answer.{Answer, given, refused, refusal_of, answered}
use Rattle.refusal.specs.declared.Refusal.{Refusal}
use Rattle.position_boards.specs.Boards.{bitboards_of}
use Rattle.position.specs.declared.State.{State}
use Rattle.position_profile.specs.Profile.{or_profile}
use Rattle.position_profile.specs.Promises.{Judges}
use Rattle.position_profile.specs.RealPlay.{FromRealPlay}
use Rattle.position_profile.proofs.Exactly.{carried, exactly}
use Rattle.line_parse.specs.Line.{Line}
use Rattle.line_parse.specs.Promises.{by_value}
use Rattle.line.specs.Promises.{bitboards_after}
use Rattle.line_profile.specs.Under.{played_line, under}
use Rattle.line_profile.specs.Promises.{played_read, judged_read}
use Rattle.line_profile.specs.declared.Profile.{Profile}
use Rattle.line_profile.specs.declared.Profile.TheVariants as P
use Rattle.std.specs.Prelude.{Result, Ok, Err}

-- ---- what each return of `played` gives
abbrev passed_on_rule : {A : Type 0} → A → Answer (Unit {0}) → Answer A
passed_on_rule a (given u) = given a
passed_on_rule a (refused n v) = refused n v

module _ (bbs : List ℕ) (answer : Result (State × ℕ) Refusal) (state : State) (half : ℕ) (told : answer ≡ Ok (state, half)) (r : Result Unit Refusal) (p : Judges bbs state r) where
  judged_so : (x : Answer (State × ℕ)) → x ≡ passed_on_rule (state, half) (answered r) → x ≡ played_read bbs (answered answer)
  judged_so x e =
      e ∙ ap (passed_on_rule (state, half)) p ∙ carried bbs state (passed_on_rule (state, half)) (λ q. refl) (given tt)
      ∙ sym (ap (λ (a : Result (State × ℕ) Refusal). played_read bbs (answered a)) told)

  pub breaks : (q : Refusal) → r ≡ Err q → refusal_of q ≡ played_read bbs (answered answer)
  breaks q e = judged_so (refusal_of q) (sym (ap (λ (c : Result Unit Refusal). passed_on_rule (state, half) (answered c)) e))

  pub keeps : r ≡ Ok tt → answered answer ≡ played_read bbs (answered answer)
  keeps e = ap answered told ∙ judged_so (given (state, half)) (sym (ap (λ (c : Result Unit Refusal). passed_on_rule (state, half) (answered c)) e))

-- ---- by value as in the line
played_value : (said : Answer Line) (bbs old : List ℕ) → bbs ≡ bitboards_after said old → played_read bbs (by_value said) ≡ by_value (played_line said)
played_value (given l) bbs old e =
    ap (λ (b : List ℕ). or_profile b l.state (given (l.state, l.half))) e ∙ sym (carried (bitboards_of l.board) l.state by_value (λ q. refl) (given l))
played_value (refused n v) bbs old e = refl

pub judged_value : (profile : Profile) (said : Answer Line) (bbs old : List ℕ) → bbs ≡ bitboards_after said old
    → judged_read profile bbs (by_value said) ≡ by_value (under profile said)
judged_value P.Any said bbs old e = refl
judged_value P.RealPlay said bbs old e = played_value said bbs old e

-- ---- where a position is given, the line says under the profile what it says
played_same : (said : Answer Line) (p : State × ℕ) → by_value (played_line said) ≡ given p → played_line said ≡ said
played_same (given l) p e =
    let f : FromRealPlay (bitboards_of l.board) l.state = (exactly (bitboards_of l.board) l.state).passes (l.state, l.half) p
    (sym (carried (bitboards_of l.board) l.state by_value (λ q. refl) (given l)) ∙ e) in
    (exactly (bitboards_of l.board) l.state).all_hold (given l) f
played_same (refused n v) p e = refl

pub same_under : (profile : Profile) (said : Answer Line) (p : State × ℕ) → by_value (under profile said) ≡ given p → under profile said ≡ said
same_under P.Any said p e = refl
same_under P.RealPlay said p e = played_same said p e
