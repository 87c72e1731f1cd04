-- Every message that the register sends, octet for octet.
use Rattle.std.specs.Prelude.{ℕ, Bool, true, false, List, [], ◌∷◌, ◌++◌, take, Some, None, Option}
use Rattle.numbers.specs.declared.address.Lmsi.{Lmsi}
use Rattle.numbers.specs.declared.imsi.Imsi.{Imsi}
use Rattle.numbers.specs.declared.node.Msisdn.{Msisdn}
use Rattle.numbers.specs.declared.node.NodeNumber.{NodeNumber}
use Rattle.numbers.specs.Digit.{digits_in}
use Rattle.numbers.specs.Number.{number_octets}
use Rattle.numbers.specs.Packing.{packed}
use Rattle.operation.specs.declared.codes.Operation.{Operation}
use Rattle.operation.specs.declared.codes.Operation.TheVariants.{CancelLocation, InsertSubscriberData, PurgeMs}
use Rattle.operation.specs.declared.user_error.UserError.{UserError}
use Rattle.operation.specs.Codes.{error_number, error_detail}
use Rattle.message.specs.declared.kinds.AccessMode.{AccessMode}
use Rattle.message.specs.declared.kinds.CancelType.{CancelType}
use Rattle.message.specs.declared.kinds.Service.{Service}
use Rattle.message.specs.Kinds.{access_number, cancel_number, codes_tag}
use Rattle.message.specs.Writing.{coded, imsi_front, codes_in, invoke_octets, result_octets}

-- insert 1 for the circuit side: 81 MSISDN, 82 category, 83 status
abbrev pub circuit_insert : Option Imsi → Msisdn → ℕ → List ℕ
circuit_insert i m category =
    invoke_octets 1 InsertSubscriberData (imsi_front i ++ (coded 0x81 (number_octets m.digits) ++ (coded 0x82 (category ∷ []) ++ coded 0x83 (0 ∷ []))))

-- insert 1 for the packet side: 81 MSISDN, 83 status, 98 access mode
abbrev pub packet_insert : Option Imsi → Msisdn → AccessMode → List ℕ
packet_insert i m mode =
    invoke_octets 1 InsertSubscriberData (imsi_front i ++ (coded 0x81 (number_octets m.digits) ++ (coded 0x83 (0 ∷ []) ++ coded 0x98 (access_number mode ∷ []))))

-- a later insert: the next ten of the codes that are left, or all of them
abbrev pub codes_insert : ℕ → Service → List ℕ → List ℕ
codes_insert n s left = invoke_octets n InsertSubscriberData (coded (codes_tag s) (codes_in (take 10 left)))

-- whom a cancel is about: 04 IMSI or, if the stay has an LMSI, 30 holding 04 IMSI and 04 LMSI
abbrev pub identity : Imsi → Option Lmsi → List ℕ
identity i None = coded 0x04 (packed (digits_in i.digits))
identity i (Some l) = coded 0x30 (coded 0x04 (packed (digits_in i.digits)) ++ coded 0x04 l.octets)

abbrev pub cancel : Imsi → Option Lmsi → CancelType → List ℕ
cancel i l reason = invoke_octets 1 CancelLocation (identity i l ++ coded 0x0A (cancel_number reason ∷ []))

-- the result of an update: the register's own number
abbrev pub update_result : ℕ → Operation → NodeNumber → List ℕ
update_result n op own = result_octets n op (coded 0x04 (number_octets own.digits))

-- an empty element, if it is to be there
abbrev pub flag : ℕ → Bool → List ℕ
flag t true = coded t []
flag t false = []

abbrev pub empty_result : ℕ → List ℕ
empty_result n = coded 0xA2 (coded 0x02 (n ∷ []))

-- the result of a purge: 80 for the VLR's side, 81 for the SGSN's; no parameter if there is neither
abbrev pub purge_result : ℕ → Bool → Bool → List ℕ
purge_result n false false = empty_result n
purge_result n false true = result_octets n PurgeMs (flag 0x81 true)
purge_result n true sgsn = result_octets n PurgeMs (flag 0x80 true ++ flag 0x81 sgsn)

-- 30 holding the diagnostic or cause, if an error has one
abbrev pub detail_element : Option ℕ → List ℕ
detail_element None = []
detail_element (Some v) = coded 0x30 (coded 0x0A (v ∷ []))

abbrev pub error : ℕ → UserError → List ℕ
error n reason = coded 0xA3 (coded 0x02 (n ∷ []) ++ (coded 0x02 (error_number reason ∷ []) ++ detail_element (error_detail reason)))
