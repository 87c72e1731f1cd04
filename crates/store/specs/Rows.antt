-- Rows that hold a record each, or none.
use Rattle.std.specs.Prelude.{ℕ, Bool, false, List, Some, None, Option, count_by, is_none, position}
use Rattle.std.specs.List.{filter_map}
use Rattle.numbers.specs.declared.imsi.Imsi.{Imsi}
use Rattle.subscription.specs.declared.stay.Record.{Record}
use Rattle.store.specs.Records.{same}

abbrev pub Row : Type 0
Row = Option Record

-- the records, in the order of their rows
abbrev pub records_in : List Row → List Record
records_in ws = filter_map (λ w. w) ws

-- how many rows are unused
abbrev pub unused : List Row → ℕ
unused ws = count_by is_none ws

-- whether a row holds a record of this IMSI
abbrev pub has : Imsi → Row → Bool
has i None = false
has i (Some r) = same r.imsi i

-- the place of the first row with this IMSI
abbrev pub index_of : List Row → Imsi → Option ℕ
index_of ws i = position (has i) ws

-- the place of the first unused row
abbrev pub first_unused : List Row → Option ℕ
first_unused ws = position is_none ws
