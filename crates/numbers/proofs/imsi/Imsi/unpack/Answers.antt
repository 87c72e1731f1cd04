use Rattle.std.proofs.Common.{length, refl, ap, ◌∙◌, arith}
use Rattle.numbers.proofs.Held.{count}
use Rattle.numbers.proofs.Numbered.{imsi_long, imsi_short, imsi_none}
use Rattle.numbers.proofs.imsi.Imsi.unpack.Goals as goal

pub returns-in_err-digits : goal.returns-in_err-digits
returns-in_err-digits c = rw c.from_residual.ensures (imsi_none c.args.octets.now c.in_err-digits.ensures)

pub returns-then-as_slice-ge5 : goal.returns-then-as_slice-ge5
returns-then-as_slice-ge5 c = imsi_long c.args.octets.now c.in_ok-digits.digits _ c.in_ok-digits.ensures refl

pub returns-else-as_slice-ge5 : goal.returns-else-as_slice-ge5
returns-else-as_slice-ge5 c = imsi_short c.args.octets.now c.in_ok-digits.digits c.in_ok-digits.ensures (let n = ap length c.as_slice.ensures.digits ∙ count c.in_ok-digits.digits in omega (arith, n))
