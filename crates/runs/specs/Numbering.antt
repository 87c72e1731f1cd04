-- Dialogues under their numbers, in the order of their making.
use Rattle.std.specs.Prelude.{ℕ, suc, Bool, cond, List, [], ◌∷◌, Some, None, Option, ◌==◌}
use Rattle.runs.specs.declared.Numbered.{Numbered}

-- the dialogue with the number n
abbrev pub find : {D : Type 0} → ℕ → List (Numbered D) → Option D
find n [] = None
find n (x ∷ xs) = cond (n == x.number) (Some x.dialogue) (find n xs)

-- a dialogue under the number n, if there is one, before others
abbrev pub onto : {D : Type 0} → ℕ → Option D → List (Numbered D) → List (Numbered D)
onto n None xs = xs
onto n (Some d) xs = record { number = n; dialogue = d } ∷ xs

-- the dialogue with the number n replaced, or taken out
abbrev pub replaced : {D : Type 0} → ℕ → Option D → List (Numbered D) → List (Numbered D)
replaced n o [] = []
replaced n o (x ∷ xs) = cond (n == x.number) (onto n o xs) (x ∷ replaced n o xs)

-- the number of the first that passes a test
abbrev pub first : {D : Type 0} → (D → Bool) → List (Numbered D) → Option ℕ
first test [] = None
first test (x ∷ xs) = cond (test x.dialogue) (Some x.number) (first test xs)

-- dialogues numbered from k on; those numbers; the next number after them
abbrev pub numbered : {D : Type 0} → ℕ → List D → List (Numbered D)
numbered k [] = []
numbered k (d ∷ rest) = record { number = k; dialogue = d } ∷ numbered (suc k) rest

abbrev pub numbers_from : {D : Type 0} → ℕ → List D → List ℕ
numbers_from k [] = []
numbers_from k (d ∷ rest) = k ∷ numbers_from (suc k) rest

abbrev pub number_after : {D : Type 0} → ℕ → List D → ℕ
number_after k [] = k
number_after k (d ∷ rest) = number_after (suc k) rest
