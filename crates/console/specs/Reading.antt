-- What `read` prints of a component.
use Rattle.std.specs.Prelude.{ℕ, Bool, cond, ◌||◌, List, [], ◌++◌, Some, None, Ok, Err, codes, decimal, Option, Result, ◌==◌, slice_index}
use Rattle.numbers.specs.declared.digits.Digits.{Digits}
use Rattle.numbers.specs.Digit.{digits_in}
use Rattle.element.specs.declared.fault.Spot.{Spot}
use Rattle.element.specs.Fault.{layer_number}
use Rattle.operation.specs.declared.argument.Argument.{Argument}
use Rattle.operation.specs.declared.argument.Argument.TheVariants as argument
use Rattle.operation.specs.declared.argument.ArgumentFault.{ArgumentFault}
use Rattle.operation.specs.Argument.{error_for}
use Rattle.operation.specs.Codes.{error_number}
use Rattle.component.specs.declared.answer.Answer.{Answer}
use Rattle.component.specs.declared.answer.Answer.TheVariants as answer
use Rattle.component.specs.declared.fault.ComponentFault.{ComponentFault}
use Rattle.component.specs.declared.invoke.Invoke.{Invoke}
use Rattle.component.specs.Component.{answer_read, invoke_read}
use Rattle.component.specs.Fault.{component_number, component_spot}
use Rattle.octets.specs.Text.{octets_text}
use Rattle.numbers.specs.Text.{address_text, digits_text}
use Rattle.console.specs.declared.reading.Reading.{Reading}
use Rattle.console.specs.declared.reading.Reading.TheVariants as reading

-- the text of a value, or the word none
abbrev pub or_none : {A : Type 0} → (A → Option (List ℕ)) → Option A → Option (List ℕ)
or_none f None = Some (codes "none")
or_none f (Some a) = f a

abbrev pub text_or_none : {A : Type 0} → (A → List ℕ) → Option A → List ℕ
text_or_none f None = codes "none"
text_or_none f (Some a) = f a

abbrev pub number_text : Digits → List ℕ
number_text d = digits_text (digits_in d)

abbrev pub argument_text : Argument → List ℕ
argument_text (argument.UpdateLocation u) =
    codes "update-location " ++ (number_text u.imsi.digits ++ (codes " msc " ++ (number_text u.msc.digits
    ++ (codes " vlr " ++ (number_text u.vlr.digits ++ (codes " lmsi " ++ text_or_none (λ l. octets_text l.octets) u.lmsi))))))
argument_text (argument.UpdateGprsLocation u) =
    codes "update-gprs-location " ++ (number_text u.imsi.digits ++ (codes " sgsn " ++ (number_text u.sgsn.digits ++ (codes " address " ++ address_text u.address))))
argument_text (argument.PurgeMs p) =
    codes "purge-ms " ++ (number_text p.imsi.digits ++ (codes " vlr " ++ (text_or_none (λ v. number_text v.digits) p.vlr
    ++ (codes " sgsn " ++ text_or_none (λ s. number_text s.digits) p.sgsn))))

-- the argument, or the error that the invoke would be answered with
abbrev pub argument_or_error : Result Argument ArgumentFault → List ℕ
argument_or_error (Ok a) = argument_text a
argument_or_error (Err f) = codes "error " ++ decimal (error_number (error_for f))

abbrev pub invoke_text : Invoke → List ℕ
invoke_text v = codes "read: invoke " ++ (decimal v.id ++ (codes " " ++ argument_or_error v.argument))

abbrev pub answer_text : Answer → List ℕ
answer_text (answer.Result n c) = codes "read: result " ++ (decimal n ++ (codes " code " ++ text_or_none decimal c))
answer_text (answer.Error n c) = codes "read: error " ++ (decimal n ++ (codes " code " ++ decimal c))

abbrev pub place_text : Option Spot → List ℕ
place_text None = []
place_text (Some s) = codes " place " ++ (decimal s.place ++ (codes " layer " ++ decimal (layer_number s.layer)))

abbrev pub refusal_text : ComponentFault → List ℕ
refusal_text f = codes "read: refused " ++ (decimal (component_number f) ++ place_text (component_spot f))

abbrev pub reading_text : Reading → List ℕ
reading_text (reading.Invoke v) = invoke_text v
reading_text (reading.Answer a) = answer_text a
reading_text (reading.Refused f) = refusal_text f

abbrev pub read_as : {A : Type 0} → (A → Reading) → Result A ComponentFault → Reading
read_as f (Ok a) = f a
read_as f (Err e) = reading.Refused e

-- a component with tag A2 or A3 is taken as a result or an error, any other as an invoke
abbrev pub answers : List ℕ → Bool
answers bs = slice_index bs 0 == 0xA2 || slice_index bs 0 == 0xA3

abbrev pub reading_of : List ℕ → Reading
reading_of bs = cond (answers bs) (read_as reading.Answer (answer_read bs)) (read_as reading.Invoke (invoke_read bs))
