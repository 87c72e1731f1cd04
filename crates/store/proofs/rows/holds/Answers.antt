use Rattle.std.proofs.Common.{rules}
use Rattle.store.specs.Records.{same}
use Rattle.store.proofs.rows.holds.Goals as goal

pub returns-in-Some : goal.returns-in-Some
unfolding same
returns-in-Some c = search rules
