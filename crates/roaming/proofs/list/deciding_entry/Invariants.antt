use Rattle.std.proofs.Common.{◌≡◌, take}
use Rattle.numbers.specs.Digit.{digits_in}
use Rattle.roaming.specs.Roaming.{deciding, lent}
use Rattle.roaming.proofs.list.deciding_entry.Given as goal

abbrev pub invariant-loop-entry : goal.invariant-loop-entry
invariant-loop-entry l = lent l.best ≡ deciding (digits_in l.node) (take l.entry-index l.entries)
