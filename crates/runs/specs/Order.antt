-- One dialogue after another.
use Rattle.std.specs.Prelude.{ℕ, Bool, true, false, List, ◌∷◌, ◌++◌, Some, None, filter, Option, ◌==◌}
use Rattle.std.specs.List.{flat_map}
use Rattle.runs.specs.Machine.{Entry}

-- a call that belongs to no dialogue
abbrev pub unowned : {C A : Type 0} → Entry C A → Bool
unowned e = elim e.owner [ None ↦ true | Some n ↦ false ]

abbrev pub is_number : ℕ → Option ℕ → Bool
is_number n None = false
is_number n (Some m) = n == m

-- the calls that belong to the dialogue n, in their order
abbrev pub calls_of : {C A : Type 0} → List (Entry C A) → ℕ → List (Entry C A)
calls_of es n = filter (λ e. is_number n e.owner) es

-- each call, followed directly by the calls of the dialogues that it made, lower numbers first
abbrev pub followed : {C A : Type 0} → (ℕ → List (Entry C A)) → List (Entry C A) → List (Entry C A)
followed calls outs = flat_map (λ e. e ∷ flat_map calls e.made) outs

-- the order: first the calls of the dialogues ns that were there at the start, then each call that belongs to none, followed by those of its dialogues
abbrev pub serial : {C A : Type 0} → List ℕ → List (Entry C A) → List (Entry C A)
serial ns es = flat_map (calls_of es) ns ++ followed (calls_of es) (filter unowned es)
