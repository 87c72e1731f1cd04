use Rattle.store.proofs.Writes.{records_count}
use Rattle.store.proofs.laws.rows_hold.Goals as goal

pub returns : goal.returns
returns c = record { counted = records_count }
