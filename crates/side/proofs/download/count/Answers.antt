use Rattle.std.proofs.Common.{length, ap, arith}
use Rattle.std.proofs.lemmas.List.{length-take-le}
use Rattle.subscription.specs.Codes.{codes_in}
use Rattle.side.proofs.Tens.{count_is}
use Rattle.side.proofs.download.count.Goals as goal

pub returns : goal.returns
returns c =
    let l = c.args.codes.now in
    let e = count_is (codes_in l) in
    let f = l.few in
    let w = l.whole in
    let m = length-take-le l.len l.codes (omega (arith, f, w)) in
    let n = ap length c.as_slice.ensures in
    record { count = omega arith; few = omega arith }
