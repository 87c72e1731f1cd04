-- IMSI, node numbers, LMSI and GSN address, as read from octets.
use Rattle.std.specs.Prelude.{◌≡◌, ℕ, Bool, true, false, cond, ◌&&◌, List, ◌∷◌, length, drop, Some, None, Ok, Err, Option, Result, ◌==◌, nat_le, slice_index, refl}
use Rattle.std.proofs.lemmas.Bool.{leb-true}
use Rattle.numbers.specs.declared.address.GsnAddress.{GsnAddress}
use Rattle.numbers.specs.declared.address.GsnAddress.TheVariants.{Ipv4, Ipv6}
use Rattle.numbers.specs.declared.address.Lmsi.{Lmsi}
use Rattle.numbers.specs.declared.digits.Digits.{Digits}
use Rattle.numbers.specs.declared.imsi.Imsi.{Imsi}
use Rattle.numbers.specs.declared.node.NodeNumber.{NodeNumber}
use Rattle.numbers.specs.declared.node.NumberFault.{NumberFault}
use Rattle.numbers.specs.declared.node.NumberFault.TheVariants.{NotANumber}
use Rattle.numbers.specs.Packing.{unpacked, packed}
use Rattle.numbers.specs.Digit.{digits_in, digits_of}

abbrev pub and_then : {A B : Type 0} → Option A → (A → Option B) → Option B
and_then None f = None
and_then (Some a) f = f a

abbrev pub long_imsi : (d : Digits) (b : Bool) → nat_le 5 d.len ≡ b → Option Imsi
long_imsi d true e = Some (record { digits = d; long = leb-true 5 d.len e })
long_imsi d false e = None

-- digits are an IMSI's if there are at least 5
abbrev pub imsi_holding : Digits → Option Imsi
imsi_holding d = long_imsi d (nat_le 5 d.len) refl

-- the IMSI that is packed in octets
unfoldable pub imsi_of : List ℕ → Option Imsi
imsi_of bs = and_then (digits_of (unpacked bs)) imsi_holding

-- the digits of a node number: the octet 91, then 1 to 15 digits
unfoldable pub number_of : List ℕ → Option Digits
number_of bs = cond (slice_index bs 0 == 0x91) (digits_of (unpacked (drop 1 bs))) None

-- the octets of a node number
abbrev pub number_octets : Digits → List ℕ
number_octets d = 0x91 ∷ packed (digits_in d)

abbrev pub node_holding : Option Digits → Result NodeNumber NumberFault
node_holding (Some d) = Ok (record { digits = d })
node_holding None = Err NotANumber

-- what the call number answers
abbrev pub number_call : List ℕ → Result NodeNumber NumberFault
number_call bs = node_holding (number_of bs)

-- the number of the refusal
abbrev pub fault_number : NumberFault → ℕ
fault_number NotANumber = 1

-- an LMSI is 4 octets
abbrev pub lmsi_of : List ℕ → Option Lmsi
lmsi_of bs = cond (length bs == 4) (Some (record { octets = bs })) None

-- a GSN address is 04 and 4 octets, or 50 and 16 octets
abbrev pub address_of : List ℕ → Option GsnAddress
address_of bs =
    cond (slice_index bs 0 == 0x04 && length bs == 5) (Some (Ipv4 (drop 1 bs))) (
    cond (slice_index bs 0 == 0x50 && length bs == 17) (Some (Ipv6 (drop 1 bs))) None)

abbrev pub address_octets : GsnAddress → List ℕ
address_octets (Ipv4 bs) = 0x04 ∷ bs
address_octets (Ipv6 bs) = 0x50 ∷ bs
