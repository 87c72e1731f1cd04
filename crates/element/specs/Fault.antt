-- Where an element is not read.
use Rattle.std.specs.Prelude.{ℕ}
use Rattle.element.specs.declared.fault.Layer.{Layer}
use Rattle.element.specs.declared.fault.Layer.TheVariants.{Component, Body}
use Rattle.element.specs.declared.fault.Spot.{Spot}
use Rattle.element.specs.declared.fault.ElementFault.{ElementFault}
use Rattle.element.specs.declared.fault.ElementFault.TheVariants.{Missing, Unreadable}

-- the number of a layer
abbrev pub layer_number : Layer → ℕ
layer_number Component = 0
layer_number Body = 1

abbrev pub spot_at : ℕ → Layer → Spot
spot_at p l = record { place = p; layer = l }

abbrev pub spot_of : ElementFault → Spot
spot_of (Missing s) = s
spot_of (Unreadable s) = s
