-- A run of the code's calls is a run of the definitions.
use Rattle.std.proofs.Common.{◌≡◌, Bool, List, ◌∷◌, map, is_some, Some, None, Option, Result, refl, ap, ◌∙◌, subst}
use Rattle.runs.specs.Machine.{Machine, State, step}
use Rattle.runs.specs.Run.{kept, comes_to, returns, leaves, spares, Came, over, next, answers_in}

module _ (M : Machine) where
  open M use {Records, Dialogue, Call, Answer}

  module _ {X F : Type 0} (refusal : X → State Records Dialogue → Call → Option F) (beside : X → State Records Dialogue → Call → X) where
    abbrev refuse : X → State Records Dialogue → Call → Bool
    refuse x s c = is_some (refusal x s c)

    -- the answers that were given are those of the kept calls, and the end is where the kept calls come
    pub record Comes (x : X) (s : State Records Dialogue) (cs : List Call) (rs : List (Result Answer F)) (s' : State Records Dialogue) : Type 0 where
      pub gave : answers_in M rs ≡ map (λ e. e.answer) (kept M refuse beside x s cs)
      pub came : s' ≡ comes_to M refuse beside x s cs

    pub as_defined : {x x' : X} {s s' : State Records Dialogue} {cs : List Call} {rs : List (Result Answer F)} → Came M refusal beside x s cs rs x' s' → Comes x s cs rs s'
    as_defined over = record { gave = refl; came = refl }
    as_defined {x} {x'} {s} {s'} (next {x₁ = x₁} {s₁ = s₁} {cs = cs} {rs = rs} c r d run) = go (refusal x s c) refl d.answer d.after d.spare (as_defined run)
      where
        go : (o : Option F) → refusal x s c ≡ o → r ≡ returns M refusal beside o s c → s₁ ≡ leaves M refusal beside o s c → x₁ ≡ spares M refusal beside o x s c → Comes x₁ s₁ cs rs s' → Comes x s (c ∷ cs) (r ∷ rs) s'
        go (Some n) h a l b i =
            let j : Comes x s cs rs s' = subst (λ (y : X). Comes y s cs rs s') b (subst (λ (z : State Records Dialogue). Comes x₁ z cs rs s') l i) in
            record {
              gave = ap (λ (r : Result Answer F). answers_in M (r ∷ rs)) a ∙ rw h j.gave;
              came = rw h j.came;
            }
        go None h a l b i =
            let j : Comes (beside x s c) (step M s c).state cs rs s' = subst (λ (y : X). Comes y (step M s c).state cs rs s') b (subst (λ (z : State Records Dialogue). Comes x₁ z cs rs s') l i) in
            record {
              gave = ap (λ (r : Result Answer F). answers_in M (r ∷ rs)) a ∙ rw h (ap (λ (l : List Answer). (step M s c).entry.answer ∷ l) j.gave);
              came = rw h j.came;
            }
