use Rattle.numbers.specs.Digit.{digits_in}
use Rattle.numbers.proofs.Held.{all_decimal, each}
use Rattle.numbers.proofs.digits.Digits.as_slice.Goals as goal

pub returns-clause-decimal : goal.returns-clause-decimal
returns-clause-decimal c =
    let d = c.args.self.now in
    λ k. each (digits_in d) (all_decimal (digits_in d) d.digital) k
