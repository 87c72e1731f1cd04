-- Whether codes stand in a list, and none twice.
use Rattle.std.specs.Prelude.{ℕ, Bool, true, not, ◌&&◌, List, [], ◌∷◌, length, ◌==◌, nat_le}
use Rattle.std.specs.List.{list_any}

abbrev pub stands_in : ℕ → List ℕ → Bool
stands_in c cs = list_any (λ d. d == c) cs

-- no code stands twice
abbrev pub once : List ℕ → Bool
once [] = true
once (c ∷ cs) = not (stands_in c cs) && once cs

-- up to 20 codes, none twice
abbrev pub listable : List ℕ → Bool
listable cs = nat_le (length cs) 20 && once cs
