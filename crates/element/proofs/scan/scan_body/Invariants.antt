use Rattle.std.proofs.Common.{◌≡◌}
use Rattle.element.specs.Elements.{unread}
use Rattle.element.specs.Scan.{first_broken}
use Rattle.element.proofs.scan.scan_body.Given as goal

abbrev pub invariant-loop-element : goal.invariant-loop-element
invariant-loop-element l = (first_broken l.element-iterator.spot.layer (unread l.element-iterator) ≡ first_broken l.fn.r.spot.layer (unread l.fn.r))
