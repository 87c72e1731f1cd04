-- Values of the type Digits.
use Rattle.std.specs.Prelude.{◌≡◌, ℕ, ◌≤◌, Bool, true, false, ◌&&◌, List, [], ◌∷◌, length, take, nat_le, Some, None, Option, refl}
use Rattle.std.specs.Str.{bytes_eq}
use Rattle.std.proofs.Common.{ap, ◌∙◌}
use Rattle.std.proofs.lemmas.Bool.{leb-true, and_parts}
use Rattle.octets.specs.Padding.{filled}
use Rattle.octets.proofs.Filled.{laws}
use Rattle.numbers.specs.declared.digits.Digits.{Digits}
use Rattle.numbers.specs.Packing.{decimal, digital}

-- the digits that a value holds
abbrev pub digits_in : Digits → List ℕ
digits_in d = take d.len d.digits

-- as many digits as have places
pub few : (ds : List ℕ) → digital ds ≡ true → length ds ≤ 15
few ds e = leb-true (length ds) 15 (and_parts (nat_le 1 (length ds)) (nat_le (length ds) 15) (and_parts (decimal ds) (nat_le 1 (length ds) && nat_le (length ds) 15) e).1).1

-- the value of these digits: fifteen places hold them, then zeros; after the places and the count stand proofs, which a reader need not believe
abbrev pub holding : (ds : List ℕ) → digital ds ≡ true → Digits
holding ds e = record {
  digits = filled 15 ds;
  len = length ds;
  whole = laws.whole 15 ds (few ds e);
  few = few ds e;
  digital = ap digital (laws.held 15 ds) ∙ e;
  padded = laws.padded 15 ds;
}

abbrev pub held : (ds : List ℕ) (b : Bool) → digital ds ≡ b → Option Digits
held ds true e = Some (holding ds e)
held ds false e = None

-- the value that holds these digits, if they are 1 to 15 and each is at most 9
unfoldable pub digits_of : List ℕ → Option Digits
digits_of ds = held ds (digital ds) refl

-- whether two values hold the same digits
abbrev pub same_digits : Digits → Digits → Bool
same_digits x y = bytes_eq (digits_in x) (digits_in y)

-- the single digit 0
abbrev pub zero_digits : Digits
zero_digits = holding (0 ∷ []) refl
