-- The first place where a component cannot be read.
use Rattle.std.specs.Prelude.{ℕ, ◌+◌, Bool, cond, ◌&&◌, ◌||◌, List, Some, None, Option, ◌==◌}
use Rattle.element.specs.declared.fault.ElementFault.{ElementFault}
use Rattle.element.specs.declared.fault.ElementFault.TheVariants.{Missing, Unreadable}
use Rattle.element.specs.declared.fault.Layer.{Layer}
use Rattle.element.specs.declared.fault.Layer.TheVariants.{Component, Body}
use Rattle.element.specs.Fault.{spot_at}
use Rattle.element.specs.Elements.{Elements, ended, broken, next, elements}

-- the element that cannot be read, at a layer
abbrev pub first_broken : Layer → Elements → Option ElementFault
first_broken l (ended p) = None
first_broken l (broken p) = Some (Unreadable (spot_at p l))
first_broken l (next t p q c es) = first_broken l es

-- the body: the third element of an invoke (A1) or the second of a result (A2), if its tag is 30 or A3
abbrev pub body_at : ℕ → ℕ → ℕ → Bool
body_at o i t = ((o == 0xA1 && i == 2) || (o == 0xA2 && i == 1)) && (t == 0x30 || t == 0xA3)

abbrev pub earlier : {A : Type 0} → Option A → Option A → Option A
earlier None b = b
earlier (Some a) b = Some a

-- the first that cannot be read among a component's elements from its i-th on; those inside the body come before the next one
abbrev pub scan_from : Layer → ℕ → ℕ → Elements → Option ElementFault
scan_from l o i (ended p) = None
scan_from l o i (broken p) = Some (Unreadable (spot_at p l))
scan_from l o i (next t p q c es) = earlier (cond (body_at o i t) (first_broken Body (elements q c)) None) (scan_from l o (i + 1) es)

-- a component is one element that fills its octets
abbrev pub filling : Elements → Option ElementFault
filling (ended p) = Some (Missing (spot_at p Component))
filling (broken p) = Some (Unreadable (spot_at p Component))
filling (next t p q c (ended e)) = scan_from Component t 0 (elements q c)
filling (next t p q c (broken e)) = Some (Unreadable (spot_at 0 Component))
filling (next t p q c (next t' p' q' c' es)) = Some (Unreadable (spot_at 0 Component))

abbrev pub scanned : List ℕ → Option ElementFault
scanned bs = filling (elements 0 bs)
