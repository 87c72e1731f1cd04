use Rattle.std.proofs.Common.{◌≡◌, ◌+◌, ◌-◌, ◌++◌, length, sym, ap, ◌∙◌, arith}
use Rattle.std.specs.List.{slice_get}
use Rattle.message.specs.declared.kinds.Service.TheVariants.{Bearer, Teleservice}
use Rattle.subscription.specs.Codes.{codes_in}
use Rattle.side.specs.Download.{by_tens, numbered}
use Rattle.side.proofs.Tens.{long_numbered, at_front, at_back}
use Rattle.side.proofs.download.later_insert.Goals as goal

pub returns-then-index-before : goal.returns-then-index-before
returns-then-index-before c =
    let bs = by_tens (codes_in c.args.bearers.now) in
    let ts = by_tens (codes_in c.args.teleservices.now) in
    let n = long_numbered 2 Bearer bs in
    let b = c.count-before.ensures.count in
    c.codes_at.ensures ∙ sym (at_front (numbered 2 Bearer bs) (numbered (2 + length bs) Teleservice ts) c.args.index (omega arith))

pub returns-else-index-before : goal.returns-else-index-before
returns-else-index-before c =
    let bs = by_tens (codes_in c.args.bearers.now) in
    let ts = by_tens (codes_in c.args.teleservices.now) in
    let xs = numbered 2 Bearer bs in
    let j = c.args.index - c.count-before.result in
    let n = long_numbered 2 Bearer bs in
    let b = c.count-before.ensures.count in
    let i : length xs + j ≡ c.args.index = omega arith in
    c.codes_at-else-index-before.ensures ∙ ap (λ m. slice_get (numbered (2 + m) Teleservice ts) j) b
    ∙ sym (at_back xs (numbered (2 + length bs) Teleservice ts) j) ∙ ap (slice_get (xs ++ numbered (2 + length bs) Teleservice ts)) i
