-- What comes next among the elements of a component.
use Rattle.std.specs.Prelude.{ℕ, cond, ◌&&◌, length, Ok, Err, Result, ◌==◌, slice_index}
use Rattle.element.specs.declared.fault.Layer.{Layer}
use Rattle.element.specs.declared.fault.Spot.{Spot}
use Rattle.element.specs.Elements.{Elements, ended, broken, next}
use Rattle.element.specs.Fault.{spot_at}
use Rattle.component.specs.declared.code.Code.{Code}
use Rattle.component.specs.declared.fault.ComponentFault.{ComponentFault}
use Rattle.component.specs.declared.fault.ComponentFault.TheVariants.{Identifier, Code as BadCode}
use Rattle.octets.specs.declared.range.OutOfRange.{OutOfRange}
use Rattle.operation.specs.declared.codes.Request.{Request}
use Rattle.operation.specs.Codes.{request_at}
use Rattle.operation.specs.Steps.{Read, reading, bind}

abbrev pub faulty : {A D E : Type 0} → (D → E) → Result A D → Result A E
faulty f (Ok a) = Ok a
faulty f (Err d) = Err (f d)

abbrev pub code_of : ℕ → Spot → Code
code_of n s = record { value = n; spot = s }

-- 02 01 and one octet, at layer l; else the place of what stands there (an element that cannot be read is refused before this is asked)
abbrev pub code_at : Layer → Elements → Result (Read Code) Spot
code_at l (ended p) = Err (spot_at p l)
code_at l (broken p) = Err (spot_at p l)
code_at l (next t p q c es) = cond (length c == 1 && t == 0x02) (Ok (reading (code_of (slice_index c 0) (spot_at p l)) es)) (Err (spot_at p l))

abbrev pub identifier_at : Layer → Elements → Result (Read ℕ) ComponentFault
identifier_at l es = bind (faulty Identifier (code_at l es)) (λ a. Ok (reading a.value.value a.rest))

-- a code that is no request's is refused at its place
abbrev pub requested : Result Request OutOfRange → Spot → Elements → Result (Read Request) ComponentFault
requested (Err e) s es = Err (BadCode s)
requested (Ok q) s es = Ok (reading q es)

abbrev pub request_in : Layer → Elements → Result (Read Request) ComponentFault
request_in l es = bind (faulty BadCode (code_at l es)) (λ a. requested (request_at a.value.value) a.value.spot a.rest)
