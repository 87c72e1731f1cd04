-- Octets as text.
use Rattle.std.specs.Prelude.{ℕ, ◌+◌, ◌/◌, ◌%◌, cond, List, [], ◌∷◌, ◌++◌, nat_lt}
use Rattle.std.specs.List.{flat_map}

-- a hexadecimal digit, in upper case
abbrev pub hex_digit : ℕ → ℕ
hex_digit v = cond (nat_lt v 10) (48 + v) (55 + v)

abbrev pub octet_text : ℕ → List ℕ
octet_text b = hex_digit (b / 16) ∷ hex_digit (b % 16) ∷ []

-- octets, two hexadecimal digits each, with a blank between
abbrev pub octets_text : List ℕ → List ℕ
octets_text [] = []
octets_text (b ∷ bs) = octet_text b ++ flat_map (λ c. 32 ∷ octet_text c) bs
