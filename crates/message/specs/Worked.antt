-- Worked octets: own number 99900, IMSI 001010000000001, MSISDN 99951, category 0A, teleservices 11 and 21.
use Rattle.std.specs.Prelude.{◌≡◌, ℕ, true, false, List, [], ◌∷◌, Some, None, Ok, Err, Option, Result}
use Rattle.std.specs.Option.{option_map}
use Rattle.numbers.specs.declared.address.Lmsi.{Lmsi}
use Rattle.numbers.specs.Digit.{digits_in}
use Rattle.numbers.specs.Number.{imsi_of, number_of}
use Rattle.operation.specs.declared.argument.Argument.{Argument}
use Rattle.operation.specs.declared.argument.Argument.TheVariants as argument
use Rattle.operation.specs.declared.argument.ArgumentFault.{ArgumentFault}
use Rattle.operation.specs.declared.argument.UpdateLocation.{UpdateLocation}
use Rattle.component.specs.declared.fault.ComponentFault.{ComponentFault}
use Rattle.component.specs.declared.invoke.Invoke.{Invoke}
use Rattle.operation.specs.declared.codes.Operation.TheVariants.{UpdateLocation as Updating}
use Rattle.operation.specs.declared.user_error.Cause.TheVariants.{OperatorDeterminedBarring}
use Rattle.operation.specs.declared.user_error.UserError.TheVariants.{RoamingNotAllowed, SystemFailure}
use Rattle.component.specs.Component.{invoke_read}
use Rattle.message.specs.declared.kinds.CancelType.TheVariants.{UpdateProcedure}
use Rattle.message.specs.declared.kinds.Service.TheVariants.{Teleservice}
use Rattle.message.specs.Messages.{circuit_insert, codes_insert, cancel, update_result, purge_result, error}

-- what an update says: identifier, digits of IMSI, MSC and VLR, and the LMSI
pub record Update : Type 0 where
  pub id : ℕ
  pub imsi : List ℕ
  pub msc : List ℕ
  pub vlr : List ℕ
  pub lmsi : Option Lmsi

abbrev pub update_of : ℕ → UpdateLocation → Update
update_of n u = record { id = n; imsi = digits_in u.imsi.digits; msc = digits_in u.msc.digits; vlr = digits_in u.vlr.digits; lmsi = u.lmsi }

abbrev pub update_argued : ℕ → Result Argument ArgumentFault → Option Update
update_argued n (Ok (argument.UpdateLocation u)) = Some (update_of n u)
update_argued n (Ok (argument.UpdateGprsLocation u)) = None
update_argued n (Ok (argument.PurgeMs p)) = None
update_argued n (Err f) = None

abbrev pub update_read : Result Invoke ComponentFault → Option Update
update_read (Ok v) = update_argued v.id v.argument
update_read (Err f) = None

abbrev pub imsi_octets : List ℕ
imsi_octets = 0x00 ∷ 0x01 ∷ 0x01 ∷ 0x00 ∷ 0x00 ∷ 0x00 ∷ 0x00 ∷ 0xF1 ∷ []

abbrev pub update_octets : List ℕ
update_octets =
    0xA1 ∷ 0x1E ∷ 0x02 ∷ 0x01 ∷ 0x01 ∷ 0x02 ∷ 0x01 ∷ 0x02 ∷ 0x30 ∷ 0x16 ∷ 0x04 ∷ 0x08 ∷ 0x00 ∷ 0x01 ∷ 0x01 ∷ 0x00 ∷ 0x00 ∷ 0x00 ∷ 0x00 ∷ 0xF1
    ∷ 0x81 ∷ 0x04 ∷ 0x91 ∷ 0x99 ∷ 0x09 ∷ 0xF2 ∷ 0x04 ∷ 0x04 ∷ 0x91 ∷ 0x99 ∷ 0x09 ∷ 0xF1 ∷ []

pub record WorkedOctets : Type 0 where
  -- the update of VLR 99901 behind MSC 99902
  pub update : update_read (invoke_read update_octets) ≡ Some (record {
    id = 1;
    imsi = 0 ∷ 0 ∷ 1 ∷ 0 ∷ 1 ∷ 0 ∷ 0 ∷ 0 ∷ 0 ∷ 0 ∷ 0 ∷ 0 ∷ 0 ∷ 0 ∷ 1 ∷ [];
    msc = 9 ∷ 9 ∷ 9 ∷ 0 ∷ 2 ∷ [];
    vlr = 9 ∷ 9 ∷ 9 ∷ 0 ∷ 1 ∷ [];
    lmsi = None;
  })
  -- insert 1, with the MSISDN and the category
  pub first_insert : option_map (λ d. circuit_insert None (record { digits = d }) 0x0A) (number_of (0x91 ∷ 0x99 ∷ 0x59 ∷ 0xF1 ∷ []))
      ≡ Some (0xA1 ∷ 0x14 ∷ 0x02 ∷ 0x01 ∷ 0x01 ∷ 0x02 ∷ 0x01 ∷ 0x07 ∷ 0x30 ∷ 0x0C ∷ 0x81 ∷ 0x04 ∷ 0x91 ∷ 0x99 ∷ 0x59 ∷ 0xF1 ∷ 0x82 ∷ 0x01 ∷ 0x0A ∷ 0x83 ∷ 0x01 ∷ 0x00 ∷ [])
  -- insert 2, with the teleservices
  pub second_insert : codes_insert 2 Teleservice (0x11 ∷ 0x21 ∷ [])
      ≡ 0xA1 ∷ 0x10 ∷ 0x02 ∷ 0x01 ∷ 0x02 ∷ 0x02 ∷ 0x01 ∷ 0x07 ∷ 0x30 ∷ 0x08 ∷ 0xA6 ∷ 0x06 ∷ 0x04 ∷ 0x01 ∷ 0x11 ∷ 0x04 ∷ 0x01 ∷ 0x21 ∷ []
  -- the update's result, with the own number
  pub final_result : option_map (λ d. update_result 1 Updating (record { digits = d })) (number_of (0x91 ∷ 0x99 ∷ 0x09 ∷ 0xF0 ∷ []))
      ≡ Some (0xA2 ∷ 0x10 ∷ 0x02 ∷ 0x01 ∷ 0x01 ∷ 0x30 ∷ 0x0B ∷ 0x02 ∷ 0x01 ∷ 0x02 ∷ 0x30 ∷ 0x06 ∷ 0x04 ∷ 0x04 ∷ 0x91 ∷ 0x99 ∷ 0x09 ∷ 0xF0 ∷ [])
  -- the cancel to the node that the subscriber left
  pub cancel_left : option_map (λ i. cancel i None UpdateProcedure) (imsi_of imsi_octets)
      ≡ Some (0xA1 ∷ 0x15 ∷ 0x02 ∷ 0x01 ∷ 0x01 ∷ 0x02 ∷ 0x01 ∷ 0x03 ∷ 0xA3 ∷ 0x0D ∷ 0x04 ∷ 0x08 ∷ 0x00 ∷ 0x01 ∷ 0x01 ∷ 0x00 ∷ 0x00 ∷ 0x00 ∷ 0x00 ∷ 0xF1 ∷ 0x0A ∷ 0x01 ∷ 0x00 ∷ [])
  -- a purge that marked the VLR's side, and one that marked none
  pub purge_marked : purge_result 1 true false ≡ 0xA2 ∷ 0x0C ∷ 0x02 ∷ 0x01 ∷ 0x01 ∷ 0x30 ∷ 0x07 ∷ 0x02 ∷ 0x01 ∷ 0x43 ∷ 0x30 ∷ 0x02 ∷ 0x80 ∷ 0x00 ∷ []
  pub purge_unmarked : purge_result 1 false false ≡ 0xA2 ∷ 0x03 ∷ 0x02 ∷ 0x01 ∷ 0x01 ∷ []
  pub purge_sgsn : purge_result 1 false true ≡ 0xA2 ∷ 0x0C ∷ 0x02 ∷ 0x01 ∷ 0x01 ∷ 0x30 ∷ 0x07 ∷ 0x02 ∷ 0x01 ∷ 0x43 ∷ 0x30 ∷ 0x02 ∷ 0x81 ∷ 0x00 ∷ []
  pub purge_both : purge_result 1 true true ≡ 0xA2 ∷ 0x0E ∷ 0x02 ∷ 0x01 ∷ 0x01 ∷ 0x30 ∷ 0x09 ∷ 0x02 ∷ 0x01 ∷ 0x43 ∷ 0x30 ∷ 0x04 ∷ 0x80 ∷ 0x00 ∷ 0x81 ∷ 0x00 ∷ []
  -- error 34, which has no parameter
  pub system_failure : error 1 SystemFailure ≡ 0xA3 ∷ 0x06 ∷ 0x02 ∷ 0x01 ∷ 0x01 ∷ 0x02 ∷ 0x01 ∷ 0x22 ∷ []
  -- error 8 with cause 3
  pub roaming_barred : error 1 (RoamingNotAllowed OperatorDeterminedBarring) ≡ 0xA3 ∷ 0x0B ∷ 0x02 ∷ 0x01 ∷ 0x01 ∷ 0x02 ∷ 0x01 ∷ 0x08 ∷ 0x30 ∷ 0x03 ∷ 0x0A ∷ 0x01 ∷ 0x03 ∷ []
