-- Digits packed two to an octet, low half first. After an odd count the last high half is F (15).
use Rattle.std.specs.Prelude.{ℕ, ◌+◌, ◌*◌, ◌/◌, ◌%◌, Bool, true, cond, ◌&&◌, List, [], ◌∷◌, length, ◌==◌, nat_le}

-- the halves of octets, low half first, without an F that fills the last octet
abbrev pub unpacked : List ℕ → List ℕ
unpacked [] = []
unpacked (b ∷ []) = b % 16 ∷ cond (b / 16 == 15) [] (b / 16 ∷ [])
unpacked (b ∷ c ∷ bs) = b % 16 ∷ b / 16 ∷ unpacked (c ∷ bs)

-- the octets of digits
abbrev pub packed : List ℕ → List ℕ
packed [] = []
packed (d ∷ []) = (d + 16 * 15) ∷ []
packed (d ∷ e ∷ ds) = (d + 16 * e) ∷ packed ds

-- no half is above 9
abbrev pub decimal : List ℕ → Bool
decimal [] = true
decimal (d ∷ ds) = nat_le d 9 && decimal ds

-- 1 to 15 digits
abbrev pub digital : List ℕ → Bool
digital ds = decimal ds && (nat_le 1 (length ds) && nat_le (length ds) 15)
