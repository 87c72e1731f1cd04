use Rattle.std.proofs.Common.{refl, arith}
use Rattle.std.proofs.lemmas.Bool.Decides.{nat_tests}
use Rattle.element.proofs.Fronts.{fault_before_end}
use Rattle.element.proofs.reading.ReaderIterator.next.Goals as goal

pub returns-in-Err-clause-steps : goal.returns-in-Err-clause-steps
returns-in-Err-clause-steps c =
    let r = c.args.self.now in
    let told = c.in-Err.ensures in
    let f = fault_before_end c.in-Err.fault r.spot r.rest.now told.read told.spot (grind (arith, nat_tests, c.is_empty.ensures, c.if-is_empty.false)) in
    (f.0, f.1, refl)
