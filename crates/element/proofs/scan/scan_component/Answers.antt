use Rattle.std.proofs.Common.{◌<◌, length, ap, ◌∙◌, arith}
use Rattle.std.proofs.lemmas.Bool.Decides.{nat_tests}
use Rattle.element.specs.Scan.{filling}
use Rattle.element.proofs.Fronts.{more_after}
use Rattle.element.proofs.scan.scan_component.Goals as goal

pub returns-then-not-is_empty : goal.returns-then-not-is_empty
returns-then-not-is_empty c =
    let o = c.in_ok-outer.outer in
    let r = c.read.new.self in
    let some : 0 < length r.rest.now = grind (arith, nat_tests, c.is_empty.ensures, c.if-not-is_empty.true) in
    more_after o.tag o.spot.place o.start o.content.now r.spot.place r.rest.now some ∙ ap filling c.in_ok-outer.ensures.read ∙ ap filling c.over-r.ensures.all
