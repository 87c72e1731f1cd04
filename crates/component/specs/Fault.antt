-- The refusals of a component.
use Rattle.std.specs.Prelude.{ℕ, Some, None, Option}
use Rattle.element.specs.Fault.{spot_of}
use Rattle.element.specs.declared.fault.ElementFault.{ElementFault}
use Rattle.element.specs.declared.fault.Spot.{Spot}
use Rattle.component.specs.declared.fault.ComponentFault.{ComponentFault}
use Rattle.component.specs.declared.fault.ComponentFault.TheVariants.{Size, Tag, Element, Identifier, Code}

-- the number of a refusal
abbrev pub component_number : ComponentFault → ℕ
component_number Size = 4
component_number Tag = 5
component_number (Element f) = 6
component_number (Identifier s) = 7
component_number (Code s) = 8

-- the place and layer that come with it
abbrev pub component_spot : ComponentFault → Option Spot
component_spot Size = None
component_spot Tag = None
component_spot (Element f) = Some (spot_of f)
component_spot (Identifier s) = Some s
component_spot (Code s) = Some s

-- an element's fault is carried whole
abbrev pub carried : ElementFault → ComponentFault
carried f = Element f
