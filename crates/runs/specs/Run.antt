-- Runs of calls.
use Rattle.std.specs.Prelude.{◌≡◌, ℕ, Bool, false, cond, List, [], ◌∷◌, map, Some, None, Ok, Err, Option, Result}
use Rattle.std.specs.List.{AllByRecursion}
use Rattle.runs.specs.Numbering.{find}
use Rattle.runs.specs.Machine.{to_dialogue, Machine, Entry, State, owned, step, fed, ends}

module _ (M : Machine) where
  open M use {Records, Dialogue, View, Call, Answer, aim, waits, view, outer, inner}

  -- Fed the calls of es, the register gives each the answer that it has there, belongs it to the same dialogue and makes the same numbers, and ends at s'
  abbrev pub Replays : State Records Dialogue → List (Entry Call Answer) → State Records Dialogue → Type 0
  Replays s es s' = (fed M s (map (λ e. e.call) es) ≡ es) × (ends M s (map (λ e. e.call) es) ≡ s')

  -- ---- a register that refuses some calls. A refused call alters nothing and is left out. X is what it goes by beside the state, as the free places of its store
  module _ {X : Type 0} (refuses : X → State Records Dialogue → Call → Bool) (beside : X → State Records Dialogue → Call → X) where
    -- the calls that are not refused, each with its answer
    abbrev pub kept : X → State Records Dialogue → List Call → List (Entry Call Answer)
    kept x s [] = []
    kept x s (c ∷ cs) = cond (refuses x s c) (kept x s cs) ((step M s c).entry ∷ kept (beside x s c) (step M s c).state cs)

    -- the state after all of them
    abbrev pub comes_to : X → State Records Dialogue → List Call → State Records Dialogue
    comes_to x s [] = s
    comes_to x s (c ∷ cs) = cond (refuses x s c) (comes_to x s cs) (comes_to (beside x s c) (step M s c).state cs)

  -- ---- what a call does: refused, it returns its refusal and alters nothing; else it returns the answer and leaves the next state. F are the refusals
  module _ {X F : Type 0} (refusal : X → State Records Dialogue → Call → Option F) (beside : X → State Records Dialogue → Call → X) where
    abbrev pub returns : Option F → State Records Dialogue → Call → Result Answer F
    returns (Some f) s c = Err f
    returns None s c = Ok (step M s c).entry.answer

    abbrev pub leaves : Option F → State Records Dialogue → Call → State Records Dialogue
    leaves (Some f) s c = s
    leaves None s c = (step M s c).state

    abbrev pub spares : Option F → X → State Records Dialogue → Call → X
    spares (Some f) x s c = x
    spares None x s c = beside x s c

    pub record Does (x : X) (s : State Records Dialogue) (c : Call) (r : Result Answer F) (x' : X) (s' : State Records Dialogue) : Type 0 where
      pub answer : r ≡ returns (refusal x s c) s c
      pub after : s' ≡ leaves (refusal x s c) s c
      pub spare : x' ≡ spares (refusal x s c) x s c

    -- calls as they came, with what each returned, each finding what the earlier ones left
    pub data Came : X → State Records Dialogue → List Call → List (Result Answer F) → X → State Records Dialogue → Type 0 where
      over : {x : X} {s : State Records Dialogue} → Came x s [] [] x s
      next : {x x₁ x' : X} {s s₁ s' : State Records Dialogue} {cs : List Call} {rs : List (Result Answer F)} (c : Call) (r : Result Answer F) →
          Does x s c r x₁ s₁ → Came x₁ s₁ cs rs x' s' → Came x s (c ∷ cs) (r ∷ rs) x' s'

  -- the answers that were no refusals
  abbrev pub answers_in : {F : Type 0} → List (Result Answer F) → List Answer
  answers_in [] = []
  answers_in (Ok a ∷ rs) = a ∷ answers_in rs
  answers_in (Err f ∷ rs) = answers_in rs

  -- ---- what the order of dialogues rests on
  -- a run of calls each of which could be taken
  pub data Run (Takes : State Records Dialogue → Call → Type 0) : State Records Dialogue → List (Entry Call Answer) → State Records Dialogue → Type 0 where
    still : {s : State Records Dialogue} → Run Takes s [] s
    took : {s s' : State Records Dialogue} {es : List (Entry Call Answer)} (c : Call) → Takes s c → Run Takes (step M s c).state es s' → Run Takes s ((step M s c).entry ∷ es) s'

  -- a call that is taken, of a dialogue that is there
  pub record Taken (Takes : State Records Dialogue → Call → Type 0) (Sound : State Records Dialogue → Type 0) (s : State Records Dialogue) (c : Call) (n : ℕ) (d : Dialogue) : Type 0 where
    pub takes : Takes s c
    pub sound : Sound s
    pub owns : owned M (aim c) s.dialogues ≡ Some n
    pub here : find n s.dialogues ≡ Some d

  pub record Lawful (Takes : State Records Dialogue → Call → Type 0) (Sound : State Records Dialogue → Type 0) : Type 0 where
    -- what is sound stays so after a call that is taken
    pub lasts : (s : State Records Dialogue) (c : Call) → Takes s c → Sound s → Sound (step M s c).state
    -- an answer or a close is for a dialogue that is there
    pub there : (s : State Records Dialogue) (c : Call) (n : ℕ) → Takes s c → aim c ≡ to_dialogue n → (d : Dialogue) × (find n s.dialogues ≡ Some d)
    -- once called, a dialogue does not wait
    pub calm : (s : State Records Dialogue) (c : Call) (n : ℕ) (d d' : Dialogue) → Taken Takes Sound s c n d → (inner (view s.records d) n d c).left ≡ Some d' → waits d' ≡ false
    -- its calls do not alter where it reads
    pub same : (s : State Records Dialogue) (c : Call) (n : ℕ) (d d' : Dialogue) → Taken Takes Sound s c n d → (inner (view s.records d) n d c).left ≡ Some d' → (r : Records) → view r d' ≡ view r d
    -- and the calls for the records that are taken do not alter what it reads
    pub frozen : (s : State Records Dialogue) (c : Call) → Takes s c → Sound s → owned M (aim c) s.dialogues ≡ None → AllByRecursion (λ x. view (outer s.records s.next c).records x.dialogue ≡ view s.records x.dialogue) s.dialogues
