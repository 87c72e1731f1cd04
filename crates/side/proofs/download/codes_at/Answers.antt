use Rattle.std.proofs.Common.{◌+◌, ◌*◌, length, take, drop, Some, sym, ap, ◌∙◌, arith}
use Rattle.std.specs.Option.{option_map}
use Rattle.message.specs.Messages.{codes_insert}
use Rattle.message.specs.Writing.{written}
use Rattle.subscription.specs.Codes.{codes_in}
use Rattle.side.proofs.Tens.{ten_of, at_some, at_none}
use Rattle.side.proofs.download.codes_at.Goals as goal

pub returns-in_err-ten : goal.returns-in_err-ten
returns-in_err-ten c =
    let n = ap length c.as_slice.ensures in
    ap (option_map written) c.from_residual.ensures ∙ sym (at_none c.args.first c.args.index c.args.service (codes_in c.args.codes.now) (omega (arith, n, c.in_err-ten.ensures.none)))

pub returns : goal.returns
returns c =
    let cs = codes_in c.args.codes.now in
    let k = c.args.index in
    let s = c.args.service in
    let n = ap length c.as_slice.ensures in
    let ten = c.in_ok-ten.ensures.some.1 ∙ ap (λ l. take 10 (drop (k * 10) l)) c.as_slice.ensures in
    ap Some (c.codes_insert.ensures ∙ ap (codes_insert (c.args.first + k) s) ten ∙ ten_of (c.args.first + k) s (drop (k * 10) cs))
    ∙ sym (at_some c.args.first k s cs (omega (arith, n, c.in_ok-ten.ensures.some.0)))
