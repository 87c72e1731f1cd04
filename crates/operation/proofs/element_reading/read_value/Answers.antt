use Rattle.std.proofs.Common.{refl}
use Rattle.element.specs.Elements.{unread}
use Rattle.operation.proofs.Values.{value_from}
use Rattle.operation.proofs.element_reading.read_value.Goals as goal

pub returns : goal.returns
returns g c = λ f same.
    let e = c.in_ok-element.element in
    value_from f c.args.tag (unread c.args.r.now) (unread c.expect.new.r) e.content.now c.read.result c.ok_or.result c.in_ok-element.ensures.content (same e.content.now c.read.result (e.content, c.read.ensures, refl)) c.ok_or.ensures.value
