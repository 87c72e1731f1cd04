-- The circuit side and the packet side.
use Rattle.std.specs.Prelude.{Bool, true, false, [], None}
use Rattle.numbers.specs.declared.digits.Digits.{Digits}
use Rattle.numbers.specs.declared.node.NodeNumber.{NodeNumber}
use Rattle.operation.specs.declared.codes.Operation.TheVariants.{UpdateLocation, UpdateGprsLocation}
use Rattle.operation.specs.declared.user_error.Diagnostic.TheVariants.{ImsiUnknown, GprsSubscriptionUnknown}
use Rattle.message.specs.declared.kinds.AccessMode.{AccessMode}
use Rattle.message.specs.declared.kinds.AccessMode.TheVariants.{Both, CircuitOnly, PacketOnly}
use Rattle.message.specs.Messages.{circuit_insert, packet_insert}
use Rattle.subscription.specs.declared.stay.CircuitStay.{CircuitStay}
use Rattle.subscription.specs.declared.stay.Location.{Location}
use Rattle.subscription.specs.declared.stay.PacketStay.{PacketStay}
use Rattle.subscription.specs.declared.stay.Record.{Record}
use Rattle.subscription.specs.Stay.{no_circuit, no_packet}
use Rattle.subscription.specs.Codes.{codes_in}
use Rattle.side.specs.Meaning.{Meaning}

abbrev pub node_with : Digits → NodeNumber
node_with d = record { digits = d }

abbrev pub with_circuit : Record → Location CircuitStay → Record
with_circuit r l = record { imsi = r.imsi; profile = r.profile; circuit = l; packet = r.packet }

abbrev pub with_packet : Record → Location PacketStay → Record
with_packet r l = record { imsi = r.imsi; profile = r.profile; circuit = r.circuit; packet = l }

abbrev pub circuit_served : AccessMode → Bool
circuit_served Both = true
circuit_served CircuitOnly = true
circuit_served PacketOnly = false

abbrev pub packet_served : AccessMode → Bool
packet_served Both = true
packet_served CircuitOnly = false
packet_served PacketOnly = true

-- the node is the VLR, which may give an LMSI
abbrev pub circuit_meaning : Meaning CircuitStay
circuit_meaning = record {
  location = λ r. r.circuit;
  replaced = with_circuit;
  absent = no_circuit;
  node = λ s. node_with s.vlr.digits;
  lmsi = λ s. s.lmsi;
  served = circuit_served;
  unserved = ImsiUnknown;
  operation = UpdateLocation;
  first = λ i p. circuit_insert i p.msisdn p.category;
  bearers = λ p. codes_in p.bearers;
}

-- the node is the SGSN
abbrev pub packet_meaning : Meaning PacketStay
packet_meaning = record {
  location = λ r. r.packet;
  replaced = with_packet;
  absent = no_packet;
  node = λ s. node_with s.sgsn.digits;
  lmsi = λ s. None;
  served = packet_served;
  unserved = GprsSubscriptionUnknown;
  operation = UpdateGprsLocation;
  first = λ i p. packet_insert i p.msisdn p.mode;
  bearers = λ p. [];
}
