-- The codes of operations, user errors, diagnostics and causes, and the tags of arguments (TS 29.002).
use Rattle.std.specs.Prelude.{ℕ, cond, Some, None, Ok, Err, Option, Result, ◌==◌}
use Rattle.octets.specs.declared.range.OutOfRange.{OutOfRange}
use Rattle.operation.specs.declared.codes.Operation.{Operation}
use Rattle.operation.specs.declared.codes.Operation.TheVariants.{UpdateLocation, CancelLocation, InsertSubscriberData, UpdateGprsLocation, PurgeMs}
use Rattle.operation.specs.declared.codes.Request.{Request}
use Rattle.operation.specs.declared.codes.Request.TheVariants as request
use Rattle.operation.specs.declared.user_error.Cause.{Cause}
use Rattle.operation.specs.declared.user_error.Cause.TheVariants.{PlmnRoamingNotAllowed, OperatorDeterminedBarring}
use Rattle.operation.specs.declared.user_error.Diagnostic.{Diagnostic}
use Rattle.operation.specs.declared.user_error.Diagnostic.TheVariants.{ImsiUnknown, GprsSubscriptionUnknown}
use Rattle.operation.specs.declared.user_error.UserError.{UserError}
use Rattle.operation.specs.declared.user_error.UserError.TheVariants.{UnknownSubscriber, RoamingNotAllowed, SystemFailure, DataMissing, UnexpectedDataValue}

abbrev pub operation_number : Operation → ℕ
operation_number UpdateLocation = 2
operation_number CancelLocation = 3
operation_number InsertSubscriberData = 7
operation_number UpdateGprsLocation = 23
operation_number PurgeMs = 67

abbrev pub argument_tag : Operation → ℕ
argument_tag UpdateLocation = 0x30
argument_tag CancelLocation = 0xA3
argument_tag InsertSubscriberData = 0x30
argument_tag UpdateGprsLocation = 0x30
argument_tag PurgeMs = 0xA3

abbrev pub diagnostic_number : Diagnostic → ℕ
diagnostic_number ImsiUnknown = 0
diagnostic_number GprsSubscriptionUnknown = 1

abbrev pub cause_number : Cause → ℕ
cause_number PlmnRoamingNotAllowed = 0
cause_number OperatorDeterminedBarring = 3

abbrev pub error_number : UserError → ℕ
error_number (UnknownSubscriber d) = 1
error_number (RoamingNotAllowed c) = 8
error_number SystemFailure = 34
error_number DataMissing = 35
error_number UnexpectedDataValue = 36

-- the value in an error's parameter; other errors have no parameter
abbrev pub error_detail : UserError → Option ℕ
error_detail (UnknownSubscriber d) = Some (diagnostic_number d)
error_detail (RoamingNotAllowed c) = Some (cause_number c)
error_detail SystemFailure = None
error_detail DataMissing = None
error_detail UnexpectedDataValue = None

-- the operation that a node requests
abbrev pub operation_of : Request → Operation
operation_of request.UpdateLocation = UpdateLocation
operation_of request.UpdateGprsLocation = UpdateGprsLocation
operation_of request.PurgeMs = PurgeMs

-- the request with an operation code
abbrev pub request_at : ℕ → Result Request OutOfRange
request_at n =
    cond (n == operation_number UpdateLocation) (Ok request.UpdateLocation) (
    cond (n == operation_number UpdateGprsLocation) (Ok request.UpdateGprsLocation) (
    cond (n == operation_number PurgeMs) (Ok request.PurgeMs) (Err (record {}))))
