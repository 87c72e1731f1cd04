use Rattle.std.proofs.Common.{◌∙◌, rules}
use Rattle.numbers.specs.Number.{number_of}
use Rattle.numbers.proofs.Numbered.{number_at}
use Rattle.numbers.proofs.node.number_digits.Goals as goal

pub returns-in-145 : goal.returns-in-145
returns-in-145 c = c.unpack.ensures ∙ number_at c.args.octets.now (search rules)

pub returns-in_default : goal.returns-in_default
unfolding number_of
returns-in_default c = search rules

pub returns-in_default-2 : goal.returns-in_default-2
unfolding number_of
returns-in_default-2 c = search rules
