use Rattle.std.proofs.Common.{◌≡◌, ◌*◌, ◌≤◌, ◌+◌, true, ◌++◌, length}
use Rattle.numbers.specs.Packing.{packed, decimal}
use Rattle.numbers.specs.Digit.{digits_in}
use Rattle.numbers.proofs.digits.Digits.pack.Given as goal

abbrev pub invariant-loop-rest : goal.invariant-loop-rest
invariant-loop-rest l = (l.octets ++ packed l.rest ≡ packed (digits_in l.self)) × (decimal l.rest ≡ true) × (2 * length l.octets + length l.rest ≤ 15)

abbrev pub decreases-loop-rest : goal.decreases-loop-rest
decreases-loop-rest l = length l.rest
