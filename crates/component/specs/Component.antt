-- Components: refusals 4 to 8 in their order, then what the component holds.
use Rattle.std.specs.Prelude.{ℕ, cond, not, ◌||◌, List, [], ◌∷◌, length, Some, None, Ok, Err, Option, Result, ◌==◌, nat_lt, slice_index}
use Rattle.std.specs.List.{list_any}
use Rattle.std.specs.Option.{option_map}
use Rattle.element.specs.declared.fault.ElementFault.TheVariants as element
use Rattle.element.specs.declared.fault.Layer.{Layer}
use Rattle.element.specs.declared.fault.Layer.TheVariants.{Component, Body}
use Rattle.element.specs.declared.reader.Element.{Element as Outer}
use Rattle.element.specs.Elements.{Elements, ended, broken, next, elements}
use Rattle.element.specs.Fault.{spot_at}
use Rattle.element.specs.Scan.{scanned}
use Rattle.component.specs.declared.answer.Answer.{Answer}
use Rattle.component.specs.declared.answer.Answer.TheVariants as answer
use Rattle.operation.specs.declared.argument.Argument.{Argument}
use Rattle.operation.specs.declared.argument.ArgumentFault.{ArgumentFault}
use Rattle.component.specs.declared.fault.ComponentFault.{ComponentFault}
use Rattle.component.specs.declared.fault.ComponentFault.TheVariants.{Size, Tag, Element, Code as BadCode}
use Rattle.component.specs.declared.invoke.Invoke.{Invoke}
use Rattle.operation.specs.Argument.{argument_at}
use Rattle.operation.specs.Steps.{bind}
use Rattle.component.specs.Reading.{faulty, code_at, identifier_at, request_in}

-- the outer tag of an invoke, and those of an answer, which is a result or an error
abbrev pub invoke_tags : List ℕ
invoke_tags = 0xA1 ∷ []

abbrev pub answer_tags : List ℕ
answer_tags = 0xA2 ∷ 0xA3 ∷ []

-- 4: no octets, or above 256; 5: another outer tag than these; 6: something cannot be read
abbrev pub admitted : List ℕ → List ℕ → Option ComponentFault
admitted ts bs =
    cond (length bs == 0 || nat_lt 256 (length bs)) (Some Size) (
    cond (not (list_any (λ t. t == slice_index bs 0) ts)) (Some Tag) (
    option_map Element (scanned bs)))

-- a component's tag, and the elements inside it
pub record Opened : Type 0 where
  pub tag : ℕ
  pub inside : Elements

abbrev pub opened : Elements → Result Opened ComponentFault
opened (ended p) = Err (Element (element.Missing (spot_at p Component)))
opened (broken p) = Err (Element (element.Unreadable (spot_at p Component)))
opened (next t p q c es) = Ok (record { tag = t; inside = elements q c })

-- what is read of a component that is admitted
abbrev pub of_admitted : {A : Type 0} → Option ComponentFault → Result A ComponentFault → Result A ComponentFault
of_admitted None r = r
of_admitted (Some f) r = Err f

-- a component with one of these outer tags
abbrev pub opened_as : List ℕ → List ℕ → Result Opened ComponentFault
opened_as ts bs = of_admitted (admitted ts bs) (opened (elements 0 bs))

-- what the code opened
abbrev pub opened_read : Result Outer ComponentFault → Result Opened ComponentFault
opened_read (Ok e) = Ok (record { tag = e.tag; inside = elements e.start e.content.now })
opened_read (Err f) = Err f

abbrev pub invoke_with : ℕ → Result Argument ArgumentFault → Invoke
invoke_with n a = record { id = n; argument = a }

-- an invoke: identifier (7), operation code (8), argument
abbrev pub invoke_in : Layer → Elements → Result Invoke ComponentFault
invoke_in l es =
    bind (identifier_at l es) (λ a.
    bind (request_in l a.rest) (λ b.
    Ok (invoke_with a.value (argument_at b.value b.rest))))

abbrev pub invoke_read : List ℕ → Result Invoke ComponentFault
invoke_read bs = bind (opened_as invoke_tags bs) (λ o. invoke_in Component o.inside)

-- a result's body: nothing, or a 30 element with an operation code
abbrev pub body_in : Layer → Elements → Result (Option ℕ) ComponentFault
body_in l (ended p) = Ok None
body_in l (broken p) = Err (BadCode (spot_at p l))
body_in l (next t p q c es) = cond (t == 0x30) (bind (faulty BadCode (code_at Body (elements q c))) (λ b. Ok (Some b.value.value))) (Err (BadCode (spot_at p l)))

abbrev pub result_in : Layer → Elements → Result Answer ComponentFault
result_in l es = bind (identifier_at l es) (λ a. bind (body_in l a.rest) (λ b. Ok (answer.Result a.value b)))

-- an error: identifier and error code
abbrev pub error_in : Layer → Elements → Result Answer ComponentFault
error_in l es = bind (identifier_at l es) (λ a. bind (faulty BadCode (code_at l a.rest)) (λ b. Ok (answer.Error a.value b.value.value)))

abbrev pub answer_in : Opened → Result Answer ComponentFault
answer_in o = cond (o.tag == 0xA2) (result_in Component o.inside) (error_in Component o.inside)

abbrev pub answer_read : List ℕ → Result Answer ComponentFault
answer_read bs = bind (opened_as answer_tags bs) answer_in
