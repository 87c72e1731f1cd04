-- Octets and elements written into a message, and the message copied into a buffer.
use Rattle.std.specs.Prelude.{ℕ, cond, List, [], ◌∷◌, ◌++◌, length, take, drop, Some, None, Option, nat_lt}
use Rattle.std.specs.List.{flat_map}
use Rattle.numbers.specs.declared.imsi.Imsi.{Imsi}
use Rattle.numbers.specs.Digit.{digits_in}
use Rattle.numbers.specs.Packing.{packed}
use Rattle.operation.specs.declared.codes.Operation.{Operation}
use Rattle.operation.specs.Codes.{operation_number, argument_tag}
use Rattle.message.specs.declared.message.Message.{Message}

-- the octets of a message
abbrev pub written : Message → List ℕ
written m = take m.len m.octets

-- an element with a one-octet length
abbrev pub coded : ℕ → List ℕ → List ℕ
coded t c = t ∷ length c ∷ c

-- how many octets are copied into a buffer; none are where they do not fit
abbrev pub copied : List ℕ → List ℕ → Option ℕ
copied m out = cond (nat_lt (length out) (length m)) None (Some (length m))

-- the buffer afterwards: the octets beyond the message remain
abbrev pub overlaid : List ℕ → List ℕ → List ℕ
overlaid m out = cond (nat_lt (length out) (length m)) out (m ++ drop (length m) out)

-- 80 and an IMSI, if there is one
abbrev pub imsi_front : Option Imsi → List ℕ
imsi_front None = []
imsi_front (Some i) = coded 0x80 (packed (digits_in i.digits))

-- codes, each 04 01 and the octet
unfoldable pub codes_in : List ℕ → List ℕ
codes_in cs = flat_map (λ c. coded 0x04 (c ∷ [])) cs

-- an invoke: identifier, operation code and argument
abbrev pub invoke_octets : ℕ → Operation → List ℕ → List ℕ
invoke_octets n op argument = coded 0xA1 (coded 0x02 (n ∷ []) ++ (coded 0x02 (operation_number op ∷ []) ++ coded (argument_tag op) argument))

-- a result: identifier, then 30 holding operation code and parameter
abbrev pub result_octets : ℕ → Operation → List ℕ → List ℕ
result_octets n op parameter = coded 0xA2 (coded 0x02 (n ∷ []) ++ coded 0x30 (coded 0x02 (operation_number op ∷ []) ++ coded 0x30 parameter))
