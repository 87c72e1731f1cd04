-- Octets and digits as text.
use Rattle.std.specs.Prelude.{ℕ, ◌+◌, ◌-◌, ◌*◌, cond, ◌&&◌, List, length, Some, None, Option, ◌==◌, nat_le, slice_index}

-- the value of a hexadecimal digit: 0 to 9, A to F, a to f
abbrev pub hex_value : ℕ → Option ℕ
hex_value c =
    cond (nat_le 48 c && nat_le c 57) (Some (c - 48)) (
    cond (nat_le 65 c && nat_le c 70) (Some (c - 65 + 10)) (
    cond (nat_le 97 c && nat_le c 102) (Some (c - 97 + 10)) None))

-- the half that a character of a text of digits stands for: 0 to 9, A to F
abbrev pub half_of : ℕ → Option ℕ
half_of c = cond (nat_le 48 c && nat_le c 57) (Some (c - 48)) (cond (nat_le 65 c && nat_le c 70) (Some (c - 65 + 10)) None)

abbrev pub paired : Option ℕ → Option ℕ → Option ℕ
paired None l = None
paired (Some h) None = None
paired (Some h) (Some l) = Some (h * 16 + l)

-- the octet that a word of two hexadecimal digits stands for
abbrev pub octet_of : List ℕ → Option ℕ
octet_of cs = cond (length cs == 2) (paired (hex_value (slice_index cs 0)) (hex_value (slice_index cs 1))) None
