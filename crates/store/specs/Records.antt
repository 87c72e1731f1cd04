-- Lists of records.
use Rattle.std.specs.Prelude.{Bool, true, cond, not, ◌&&◌, List, [], ◌∷◌, is_some, Some, None, Option}
use Rattle.numbers.specs.declared.imsi.Imsi.{Imsi}
use Rattle.numbers.specs.Digit.{same_digits}
use Rattle.subscription.specs.declared.stay.Record.{Record}

-- whether two IMSIs are the same
unfoldable pub same : Imsi → Imsi → Bool
same i j = same_digits i.digits j.digits

-- the record of an IMSI in a list
abbrev pub record_of : List Record → Imsi → Option Record
record_of [] i = None
record_of (r ∷ rs) i = cond (same r.imsi i) (Some r) (record_of rs i)

-- no IMSI stands in a list twice
abbrev pub once : List Record → Bool
once [] = true
once (r ∷ rs) = not (is_some (record_of rs r.imsi)) && once rs

-- what is found for each IMSI, but w for i: a record replaced, added or taken out
abbrev pub place : (Imsi → Option Record) → Imsi → Option Record → Imsi → Option Record
place f i w j = cond (same j i) w (f j)
