-- What a side means: its part of a record, and what tells one side from the other.
use Rattle.std.specs.Prelude.{ℕ, Bool, List, Option}
use Rattle.numbers.specs.declared.address.Lmsi.{Lmsi}
use Rattle.numbers.specs.declared.imsi.Imsi.{Imsi}
use Rattle.numbers.specs.declared.node.NodeNumber.{NodeNumber}
use Rattle.operation.specs.declared.codes.Operation.{Operation}
use Rattle.operation.specs.declared.user_error.Diagnostic.{Diagnostic}
use Rattle.message.specs.declared.kinds.AccessMode.{AccessMode}
use Rattle.subscription.specs.declared.profile.Profile.{Profile}
use Rattle.subscription.specs.declared.stay.Location.{Location}
use Rattle.subscription.specs.declared.stay.Record.{Record}

pub record Meaning (S : Type 0) : Type 0 where
  -- this side of a record, and the record with this side replaced
  pub location : Record → Location S
  pub replaced : Record → Location S → Record
  -- the side without a stay
  pub absent : Location S
  -- the node at which a stay is, and the LMSI that it gave
  pub node : S → NodeNumber
  pub lmsi : S → Option Lmsi
  -- which access modes have the side, and the diagnostic where one has not
  pub served : AccessMode → Bool
  pub unserved : Diagnostic
  -- the operation by which its nodes update
  pub operation : Operation
  -- insert 1 of a download, and the bearer codes that it sends
  pub first : Option Imsi → Profile → List ℕ
  pub bearers : Profile → List ℕ
