-- How long codes are.
use Rattle.std.proofs.Common.{◌≡◌, ℕ, ◌*◌, List, [], ◌∷◌, length, refl, arith}
use Rattle.message.specs.Writing.{codes_in}

-- each code takes three octets
pub long : (cs : List ℕ) → length (codes_in cs) ≡ 3 * length cs
unfolding codes_in
long [] = refl
long (c ∷ cs) = let e : length (codes_in cs) ≡ 3 * length cs = long cs in omega arith
