-- What an update brings about, on either side.
use Rattle.std.specs.Prelude.{Bool, true, false, List, Some, None, Ok, Err, Option, Result}
use Rattle.numbers.specs.Digit.{digits_in, same_digits}
use Rattle.operation.specs.declared.user_error.Cause.{Cause}
use Rattle.operation.specs.declared.user_error.UserError.{UserError}
use Rattle.operation.specs.declared.user_error.UserError.TheVariants.{UnknownSubscriber, RoamingNotAllowed}
use Rattle.subscription.specs.declared.stay.Location.{Location}
use Rattle.subscription.specs.declared.stay.Record.{Record}
use Rattle.subscription.specs.Stay.{standing}
use Rattle.roaming.specs.declared.entry.Entry.{Entry}
use Rattle.roaming.specs.Roaming.{class_for, decided}
use Rattle.side.specs.declared.outcome.Left.{Left}
use Rattle.side.specs.declared.outcome.Update.{Update}
use Rattle.side.specs.Meaning.{Meaning}

abbrev pub update_with : Record → Option Left → Option UserError → Update
update_with r l e = record { «record» = r; left = l; error = e }

module _ {S : Type 0} (side : Meaning S) where
  abbrev pub left_at : S → Left
  left_at s = record { node = side.node s; lmsi = side.lmsi s }

  -- whether a stay is at the node of another
  abbrev pub same_node : S → S → Bool
  same_node s t = same_digits (side.node s).digits (side.node t).digits

  -- a subscriber who stands leaves the node, unless the update comes from it
  abbrev pub leaves : Bool → Bool → S → Option Left
  leaves false same s = None
  leaves true true s = None
  leaves true false s = Some (left_at s)

  abbrev pub left_by : Location S → S → Option Left
  left_by l new = leaves l.present (same_node l.stay new) l.stay

  -- where roaming is not allowed the answer is error 8 and the side has no stay; else the stay is replaced, unpurged
  abbrev pub roams : Result (Unit {0}) Cause → Record → S → Option Left → Update
  roams (Err cause) r new left = update_with (side.replaced r side.absent) left (Some (RoamingNotAllowed cause))
  roams (Ok allowed) r new left = update_with (side.replaced r (standing new)) left None

  -- whether a subscriber may stand at the node of a stay
  abbrev pub roaming : Record → S → List Entry → Result (Unit {0}) Cause
  roaming r new es = decided (class_for (digits_in (side.node new).digits) es) r.profile.bar

  -- an access mode without the side is error 1, and nothing is altered
  abbrev pub served : Bool → Record → S → List Entry → Update
  served false r new es = update_with r None (Some (UnknownSubscriber side.unserved))
  served true r new es = roams (roaming r new es) r new (left_by (side.location r) new)

  abbrev pub updated : Record → S → List Entry → Update
  updated r new es = served (side.served r.profile.mode) r new es
