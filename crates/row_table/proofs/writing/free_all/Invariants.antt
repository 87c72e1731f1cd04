use Rattle.std.proofs.Common.{◌≡◌, ◌-◌, ◌≤◌, None, drop, length, replicate}
use Rattle.row_table.proofs.writing.free_all.Given as goal

-- the rows from `used` on are free
abbrev pub invariant-loop-used : goal.invariant-loop-used
invariant-loop-used l = (l.used ≤ length l.rows) × (drop l.used l.rows ≡ replicate (length l.rows - l.used) None)

abbrev pub decreases-loop-used : goal.decreases-loop-used
decreases-loop-used l = l.used
