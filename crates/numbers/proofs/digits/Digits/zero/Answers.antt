use Rattle.std.proofs.Common.{refl}
use Rattle.numbers.specs.Digit.{zero_digits}
use Rattle.numbers.proofs.Held.{same_fields}
use Rattle.numbers.proofs.digits.Digits.zero.Goals as goal

pub returns : goal.returns
returns c = same_fields _ zero_digits refl refl
