use Rattle.std.proofs.Common.{◌≡◌, ◌≤◌, true, take, length}
use Rattle.numbers.specs.Packing.{decimal}
use Rattle.numbers.proofs.Halves.{halves}
use Rattle.numbers.proofs.digits.Digits.unpack.Given as goal

abbrev pub invariant-loop-octet : goal.invariant-loop-octet
invariant-loop-octet l = (l.digits ≡ halves (take l.octet-index l.front)) × (decimal l.digits ≡ true) × (length l.digits ≤ 15)
