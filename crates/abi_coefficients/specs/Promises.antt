-- What the door promises, for all inputs: the number that comes back and both lent numbers afterwards. Definitions only.
use Rattle.std.specs.Prelude.{ℕ, Float}
use Rattle.abi_codes.specs.Codes.{Doors}
use Rattle.abi_codes.specs.declared.Code.{Code}
use Rattle.fit_coefficient.specs.Promises.{weighed_of}
use Rattle.fit_coefficient.specs.declared.Share.{Share}

abbrev pub WeighsByTable : Float → ℕ → Float → ℕ → Float → Float → Code → Float → Float → Type 0
WeighsByTable value half k lines expected coefficient r expected' coefficient' =
    Doors (weighed_of value half k lines) (λ (s : Share). s.expected) (λ (s : Share). s.coefficient) expected coefficient r expected' coefficient'
