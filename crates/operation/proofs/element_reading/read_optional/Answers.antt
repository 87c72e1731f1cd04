use Rattle.std.proofs.Common.{◌∙◌, Ok, Some, refl, sym, ap}
use Rattle.std.proofs.lemmas.Result.{err_from_is_err_and}
use Rattle.element.specs.Elements.{unread}
use Rattle.operation.specs.Steps.{bind, reading}
use Rattle.operation.proofs.Values.{optional_from}
use Rattle.operation.proofs.element_reading.read_optional.Goals as goal

pub returns-in_err-value : goal.returns-in_err-value
returns-in_err-value g c = λ f same.
    let e = c.in-Some.element in
    let rest = unread c.optional.new.r in
    let p = err_from_is_err_and c.from_residual.result c.from_residual.ensures.1 in
    rw (p.1, p.2) (sym (ap (λ r. bind r (λ a. Ok (reading (Some a) rest))) c.in_err-value.was) ∙ optional_from f c.args.tag (unread c.args.r.now) rest e.content.now c.read.result c.ok_or.result c.in-Some.ensures (same e.content.now c.read.result (e.content, c.read.ensures, refl)) c.ok_or.ensures.value)

pub returns : goal.returns
returns g c = λ f same.
    let e = c.in-Some.element in
    let rest = unread c.optional.new.r in
    sym (ap (λ r. bind r (λ a. Ok (reading (Some a) rest))) c.in_ok-value.was) ∙ optional_from f c.args.tag (unread c.args.r.now) rest e.content.now c.read.result c.ok_or.result c.in-Some.ensures (same e.content.now c.read.result (e.content, c.read.ensures, refl)) c.ok_or.ensures.value
