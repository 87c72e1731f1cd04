-- The numbers of the values that messages hold (TS 29.002).
use Rattle.std.specs.Prelude.{ℕ, cond, Ok, Err, Result, ◌==◌}
use Rattle.octets.specs.declared.range.OutOfRange.{OutOfRange}
use Rattle.message.specs.declared.kinds.AccessMode.{AccessMode}
use Rattle.message.specs.declared.kinds.AccessMode.TheVariants.{Both, CircuitOnly, PacketOnly}
use Rattle.message.specs.declared.kinds.CancelType.{CancelType}
use Rattle.message.specs.declared.kinds.CancelType.TheVariants.{UpdateProcedure, SubscriptionWithdraw}
use Rattle.message.specs.declared.kinds.Service.{Service}
use Rattle.message.specs.declared.kinds.Service.TheVariants.{Bearer, Teleservice}

abbrev pub cancel_number : CancelType → ℕ
cancel_number UpdateProcedure = 0
cancel_number SubscriptionWithdraw = 1

abbrev pub access_number : AccessMode → ℕ
access_number Both = 0
access_number CircuitOnly = 1
access_number PacketOnly = 2

-- the access mode with a number
abbrev pub mode_of : ℕ → Result AccessMode OutOfRange
mode_of n =
    cond (n == access_number Both) (Ok Both) (
    cond (n == access_number CircuitOnly) (Ok CircuitOnly) (
    cond (n == access_number PacketOnly) (Ok PacketOnly) (Err (record {}))))

-- the tag of a list of codes
abbrev pub codes_tag : Service → ℕ
codes_tag Bearer = 0xA4
codes_tag Teleservice = 0xA6
