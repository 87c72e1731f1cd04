-- Records, and sides without a stay.
use Rattle.std.specs.Prelude.{true, false, [], ◌∷◌, None}
use Rattle.numbers.specs.declared.address.GsnAddress.TheVariants.{Ipv4}
use Rattle.numbers.specs.declared.imsi.Imsi.{Imsi}
use Rattle.numbers.specs.Digit.{zero_digits}
use Rattle.subscription.specs.declared.profile.Profile.{Profile}
use Rattle.subscription.specs.declared.stay.CircuitStay.{CircuitStay}
use Rattle.subscription.specs.declared.stay.Location.{Location}
use Rattle.subscription.specs.declared.stay.PacketStay.{PacketStay}
use Rattle.subscription.specs.declared.stay.Record.{Record}

-- a side without a stay, whose place is filled by another of one form
abbrev pub absent : {S : Type 0} → S → Location S
absent s = record { present = false; purged = false; stay = s }

-- a stay that is not purged
abbrev pub standing : {S : Type 0} → S → Location S
standing s = record { present = true; purged = false; stay = s }

-- the fixed form of a side without a stay
abbrev pub no_circuit : Location CircuitStay
no_circuit = absent (record { vlr = record { digits = zero_digits }; msc = record { digits = zero_digits }; lmsi = None })

abbrev pub no_packet : Location PacketStay
no_packet = absent (record { sgsn = record { digits = zero_digits }; address = Ipv4 (0 ∷ 0 ∷ 0 ∷ 0 ∷ []) })

-- a record with no stays
abbrev pub fresh : Imsi → Profile → Record
fresh i p = record { imsi = i; profile = p; circuit = no_circuit; packet = no_packet }
