-- Arguments, element by element. The first fault in element order decides.
use Rattle.std.specs.Prelude.{◌≡◌, ℕ, cond, List, Some, None, Ok, Err, Option, Result, ◌==◌}
use Rattle.std.specs.Borrow.{Bor}
use Rattle.std.specs.Fn.{Once, FnOnceReturnsAt}
use Rattle.std.specs.Option.{option_map}
use Rattle.numbers.specs.declared.address.GsnAddress.{GsnAddress}
use Rattle.numbers.specs.declared.address.Lmsi.{Lmsi}
use Rattle.numbers.specs.declared.digits.Digits.{Digits}
use Rattle.numbers.specs.declared.imsi.Imsi.{Imsi}
use Rattle.numbers.specs.declared.node.SgsnNumber.{SgsnNumber}
use Rattle.numbers.specs.declared.node.VlrNumber.{VlrNumber}
use Rattle.numbers.specs.Number.{imsi_of, number_of, lmsi_of, address_of}
use Rattle.element.specs.declared.reader.Element.{Element}
use Rattle.element.specs.Elements.{Elements, ended, broken, next, elements}
use Rattle.operation.specs.declared.argument.Argument.{Argument}
use Rattle.operation.specs.declared.argument.Argument.TheVariants as argument
use Rattle.operation.specs.declared.argument.PurgeMs.{PurgeMs}
use Rattle.operation.specs.declared.argument.UpdateGprsLocation.{UpdateGprsLocation}
use Rattle.operation.specs.declared.argument.UpdateLocation.{UpdateLocation}
use Rattle.operation.specs.declared.argument.ArgumentFault.{ArgumentFault}
use Rattle.operation.specs.declared.argument.ArgumentFault.TheVariants.{Missing, Wrong}
use Rattle.operation.specs.declared.codes.Request.{Request}
use Rattle.operation.specs.declared.codes.Request.TheVariants as request
use Rattle.operation.specs.declared.user_error.UserError.{UserError}
use Rattle.operation.specs.declared.user_error.UserError.TheVariants.{DataMissing, UnexpectedDataValue}
use Rattle.operation.specs.Codes.{argument_tag, operation_of}
use Rattle.operation.specs.Steps.{Read, reading, bind}

abbrev pub Reads : Type 0 → Type 0
Reads A = Result (Read A) ArgumentFault

-- the element with tag t comes next; it is missing if another tag has its place
abbrev pub element_at : ℕ → Elements → Reads (List ℕ)
element_at t (ended p) = Err Missing
element_at t (broken p) = Err Missing
element_at t (next u p q c es) = cond (u == t) (Ok (reading c es)) (Err Missing)

-- the content of the next element, if it has tag t; else nothing is read
abbrev pub option_at : ℕ → Elements → Read (Option (List ℕ))
option_at t (ended p) = reading None (ended p)
option_at t (broken p) = reading None (broken p)
option_at t (next u p q c es) = cond (u == t) (reading (Some c) es) (reading None (next u p q c es))

-- the elements inside the next one, if it has tag t
abbrev pub entered : ℕ → Elements → Result Elements ArgumentFault
entered t (ended p) = Err Missing
entered t (broken p) = Err Missing
entered t (next u p q c es) = cond (u == t) (Ok (elements q c)) (Err Missing)

-- content without a value is wrong
abbrev pub valued : {A : Type 0} → Option A → Elements → Reads A
valued None es = Err Wrong
valued (Some a) es = Ok (reading a es)

abbrev pub valued_option : {A : Type 0} → (List ℕ → Option A) → Option (List ℕ) → Elements → Reads (Option A)
valued_option f None es = Ok (reading None es)
valued_option f (Some c) es = bind (valued (f c) es) (λ a. Ok (reading (Some a.value) es))

-- a function reads content as f says
abbrev pub ReadsAs : {F A : Type 0} → Once F (Bor (List ℕ) × Unit {0}) (Option A) → F → (List ℕ → Option A) → Type 0
ReadsAs {F} {A} g read f = (c : List ℕ) (v : Option A) → FnOnceReturnsAt g read c v → v ≡ f c

-- the value of the next element, which has tag t, as f reads its content
abbrev pub value_at : {A : Type 0} → (List ℕ → Option A) → ℕ → Elements → Reads A
value_at f t es = bind (element_at t es) (λ a. valued (f a.value) a.rest)

-- the value of the next element, if it has tag t
abbrev pub optional_at : {A : Type 0} → (List ℕ → Option A) → ℕ → Elements → Reads (Option A)
optional_at f t es = valued_option f (option_at t es).value (option_at t es).rest

abbrev pub imsi_at : Elements → Reads Imsi
imsi_at es = value_at imsi_of 0x04 es

abbrev pub number_at : ℕ → Elements → Reads Digits
number_at t es = value_at number_of t es

abbrev pub address_at : Elements → Reads GsnAddress
address_at es = value_at address_of 0x04 es

abbrev pub lmsi_at : Elements → Reads (Option Lmsi)
lmsi_at es = optional_at lmsi_of 0x8A es

abbrev pub optional_number_at : ℕ → Elements → Reads (Option Digits)
optional_number_at t es = optional_at number_of t es

-- what the code read, with the elements that it left or those that are inside
abbrev pub content_read : Result Element ArgumentFault → Elements → Reads (List ℕ)
content_read (Ok e) es = Ok (reading e.content.now es)
content_read (Err f) es = Err f

abbrev pub inside_read : Result Element ArgumentFault → Result Elements ArgumentFault
inside_read (Ok e) = Ok (elements e.start e.content.now)
inside_read (Err f) = Err f

abbrev pub option_read : Option Element → Elements → Read (Option (List ℕ))
option_read None es = reading None es
option_read (Some e) es = reading (Some e.content.now) es

-- operation 2: 04 IMSI, 81 MSC number, 04 VLR number, then perhaps 8A LMSI
abbrev pub update_with : Imsi → Digits → Digits → Option Lmsi → UpdateLocation
update_with i m v l = record { imsi = i; msc = record { digits = m }; vlr = record { digits = v }; lmsi = l }

abbrev pub update_in : Elements → Result UpdateLocation ArgumentFault
update_in es =
    bind (imsi_at es) (λ a.
    bind (number_at 0x81 a.rest) (λ b.
    bind (number_at 0x04 b.rest) (λ c.
    bind (lmsi_at c.rest) (λ d.
    Ok (update_with a.value b.value c.value d.value)))))

-- operation 23: 04 IMSI, 04 SGSN number, 04 SGSN address
abbrev pub gprs_update_with : Imsi → Digits → GsnAddress → UpdateGprsLocation
gprs_update_with i s g = record { imsi = i; sgsn = record { digits = s }; address = g }

abbrev pub gprs_update_in : Elements → Result UpdateGprsLocation ArgumentFault
gprs_update_in es =
    bind (imsi_at es) (λ a.
    bind (number_at 0x04 a.rest) (λ b.
    bind (address_at b.rest) (λ c.
    Ok (gprs_update_with a.value b.value c.value))))

-- operation 67: 04 IMSI, then 80 VLR number or 81 SGSN number or both
abbrev pub vlr_with : Digits → VlrNumber
vlr_with d = record { digits = d }

abbrev pub vlr_at : Elements → Reads (Option VlrNumber)
vlr_at es = bind (optional_number_at 0x80 es) (λ a. Ok (reading (option_map vlr_with a.value) a.rest))

abbrev pub sgsn_with : Digits → SgsnNumber
sgsn_with d = record { digits = d }

abbrev pub sgsn_at : Elements → Reads (Option SgsnNumber)
sgsn_at es = bind (optional_number_at 0x81 es) (λ a. Ok (reading (option_map sgsn_with a.value) a.rest))

abbrev pub purge_with : Imsi → Option VlrNumber → Option SgsnNumber → Result PurgeMs ArgumentFault
purge_with i None None = Err Missing
purge_with i None (Some s) = Ok (record { imsi = i; vlr = None; sgsn = Some s })
purge_with i (Some v) s = Ok (record { imsi = i; vlr = Some v; sgsn = s })

abbrev pub purge_in : Elements → Result PurgeMs ArgumentFault
purge_in es =
    bind (imsi_at es) (λ a.
    bind (vlr_at a.rest) (λ b.
    bind (sgsn_at b.rest) (λ c.
    purge_with a.value b.value c.value)))

-- the argument of a request, by its elements
abbrev pub argument_in : Request → Elements → Result Argument ArgumentFault
argument_in request.UpdateLocation es = bind (update_in es) (λ u. Ok (argument.UpdateLocation u))
argument_in request.UpdateGprsLocation es = bind (gprs_update_in es) (λ u. Ok (argument.UpdateGprsLocation u))
argument_in request.PurgeMs es = bind (purge_in es) (λ u. Ok (argument.PurgeMs u))

-- it is missing if its place has another operation's tag
abbrev pub argument_at : Request → Elements → Result Argument ArgumentFault
argument_at q es = bind (entered (argument_tag (operation_of q)) es) (argument_in q)

-- the error that answers a fault
abbrev pub error_for : ArgumentFault → UserError
error_for Missing = DataMissing
error_for Wrong = UnexpectedDataValue
