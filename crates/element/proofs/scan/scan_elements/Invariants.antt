use Rattle.std.proofs.Common.{◌≡◌}
use Rattle.element.specs.Elements.{unread}
use Rattle.element.specs.Scan.{scan_from}
use Rattle.element.proofs.scan.scan_elements.Given as goal

abbrev pub invariant-loop-index : goal.invariant-loop-index
invariant-loop-index l =
    let r = l.index-iterator.iter in
    (goal.iterator-loop-index).can_next l.index-iterator
    × (goal.iterator-loop-index).is_finite l.index-iterator
    × (scan_from r.spot.layer l.outer l.index-iterator.count (unread r) ≡ scan_from l.fn.r.spot.layer l.outer 0 (unread l.fn.r))
