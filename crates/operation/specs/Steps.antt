-- Reading step by step: what is read, and the elements that are left.
use Rattle.std.specs.Prelude.{Ok, Err, Result}
use Rattle.element.specs.Elements.{Elements}

-- what is read, and the elements after it
pub record Read (A : Type 0) : Type 0 where
  pub value : A
  pub rest : Elements

abbrev pub reading : {A : Type 0} → A → Elements → Read A
reading a es = record { value = a; rest = es }

-- one step after another: the first fault decides
abbrev pub bind : {A B E : Type 0} → Result A E → (A → Result B E) → Result B E
bind (Ok a) f = f a
bind (Err e) f = Err e

-- what the code read, with the elements that it left
abbrev pub with_rest : {A E : Type 0} → Result A E → Elements → Result (Read A) E
with_rest (Ok a) es = Ok (reading a es)
with_rest (Err e) es = Err e
