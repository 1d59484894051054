-- What a capture of an exchange comes to, the first and each after it, as the code holds it, and the captures from there on. Definitions only.
use Rattle.std.specs.Prelude.{◌≡◌, List, ◌∷◌, ℕ}
use Rattle.chess.specs.Values.{value_of}
use Rattle.position.specs.declared.State.{State}
use Rattle.attack.specs.Attacks.{other}
use Rattle.attack_to.specs.Attackers.{attackers}
use Rattle.exchange_start.specs.Capture.{kind_on}
use Rattle.exchange_start.specs.declared.Mode.{Mode}
use Rattle.exchange.specs.Exchange.{Capture, emptied, promotes, taken_by, becomes, recaptures, first_taken, first_there}
use Rattle.exchange.specs.declared.inner.Begun.{Begun}
use Rattle.exchange.specs.declared.inner.Made.{Made}

pub record BeginsCaptures (mode : Mode) (bbs bytes : List ℕ) (state : State) (from to : ℕ) (r : Begun) : Type 0 where
  pub by : r.kind ≡ kind_on bytes from
  pub takes : r.taken ≡ taken_by (promotes mode to state.side (kind_on bytes from)) (value_of (first_taken mode bytes state from to))
  pub stays : r.last ≡ becomes (promotes mode to state.side (kind_on bytes from)) (kind_on bytes from)
  pub left : r.there ≡ emptied (first_there mode bbs bytes state from to) from

-- a capture by the piece of this kind on `square`, of what stands on the target last
abbrev pub made_of : Mode → ℕ → ℕ → ℕ → ℕ → ℕ → ℕ → Made
made_of mode to colour square kind last there =
    record {
      taken = taken_by (promotes mode to colour kind) (value_of last);
      last = becomes (promotes mode to colour kind) kind;
      there = emptied there square;
      color = other colour;
    }

-- the first capture, and at most 31 after it
abbrev pub followed : Mode → List ℕ → List ℕ → ℕ → ℕ → ℕ → Begun → List Capture
followed mode kinds bbs side from to b =
    record { from = from; kind = b.kind; taken = b.taken }
    ∷ recaptures kinds bbs (attackers bbs to) (promotes mode to) 31 b.there (other side) (value_of b.last)
