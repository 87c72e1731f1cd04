use Rattle.numbers.proofs.Rounds.{laws}
use Rattle.numbers.proofs.laws.numbers_hold.Goals as goal

pub returns : goal.returns
returns c = laws
