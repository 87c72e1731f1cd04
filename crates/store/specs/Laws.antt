-- What holds of all rows.
use Rattle.std.specs.Prelude.{◌≡◌, ◌+◌, List, length}
use Rattle.store.specs.Rows.{Row, records_in, unused}

pub record RowLaws : Type 0 where
  -- records and free places together are as many as the rows
  pub counted : (ws : List Row) → length (records_in ws) + unused ws ≡ length ws
