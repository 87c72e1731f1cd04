use Rattle.octets.proofs.Filled.{laws}
use Rattle.octets.proofs.laws.octets_hold.Goals as goal

pub returns : goal.returns
returns c = laws
