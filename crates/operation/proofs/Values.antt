-- What a value read from content is, where the content is the next element's.
use Rattle.std.proofs.Common.{◌≡◌, ℕ, List, Some, None, Ok, Option, Result, refl}
use Rattle.std.specs.Option.{ok_or}
use Rattle.element.specs.Elements.{Elements}
use Rattle.operation.specs.declared.argument.ArgumentFault.{ArgumentFault}
use Rattle.operation.specs.declared.argument.ArgumentFault.TheVariants.{Wrong}
use Rattle.operation.specs.Argument.{element_at, option_at, value_at, optional_at}
use Rattle.operation.specs.Steps.{reading, bind, with_rest}

pub value_from : {A : Type 0} → (f : List ℕ → Option A) (t : ℕ) (es rest : Elements) (c : List ℕ) (v : Option A) (r : Result A ArgumentFault) → Ok (reading c rest) ≡ element_at t es → v ≡ f c → r ≡ ok_or v Wrong → with_rest r rest ≡ value_at f t es
value_from f t es rest c None r e h g = rw (← e, ← h, g) refl
value_from f t es rest c (Some a) r e h g = rw (← e, ← h, g) refl

pub optional_from : {A : Type 0} → (f : List ℕ → Option A) (t : ℕ) (es rest : Elements) (c : List ℕ) (v : Option A) (r : Result A ArgumentFault) → reading (Some c) rest ≡ option_at t es → v ≡ f c → r ≡ ok_or v Wrong → bind r (λ a. Ok (reading (Some a) rest)) ≡ optional_at f t es
optional_from f t es rest c None r e h g = rw (← e, ← h, g) refl
optional_from f t es rest c (Some a) r e h g = rw (← e, ← h, g) refl
