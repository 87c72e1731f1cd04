-- A register in which each dialogue is on its own: what a call of a dialogue does depends on that dialogue and on one view of the records.
use Rattle.std.specs.Prelude.{ℕ, Bool, List, [], ◌∷◌, ◌++◌, Some, None, Option}
use Rattle.runs.specs.declared.Numbered.{Numbered}
use Rattle.runs.specs.Numbering.{find, replaced, first, numbered, numbers_from, number_after}

-- whom a call is for: the records, the dialogue with a number, or the waiting dialogue with the lowest number
pub data Aim : Type 0 where
  to_records : Aim
  to_dialogue : ℕ → Aim
  to_lowest : Aim

-- what a call for the records brings about: the records afterwards, the dialogues that it makes, its answer
pub record Outer (Records Dialogue Answer : Type 0) : Type 0 where
  pub records : Records
  pub new : List Dialogue
  pub answer : Answer

-- what a call of a dialogue brings about: what is left of the dialogue (none: it ends), and the answer
pub record Inner (Dialogue Answer : Type 0) : Type 0 where
  pub left : Option Dialogue
  pub answer : Answer

-- the rules of a register
pub record Machine : Type 1 where
  pub Records : Type 0
  pub Dialogue : Type 0
  pub View : Type 0
  pub Call : Type 0
  pub Answer : Type 0
  pub aim : Call → Aim
  pub waits : Dialogue → Bool
  -- what a dialogue reads of the records
  pub view : Records → Dialogue → View
  -- a call for the records, given the next number; a call of a dialogue, given its number
  pub outer : Records → ℕ → Call → Outer Records Dialogue Answer
  pub inner : View → ℕ → Dialogue → Call → Inner Dialogue Answer
  -- the answer to a call of a dialogue that is not there; a register refuses such a call
  pub lost : Answer

pub record State (Records Dialogue : Type 0) : Type 0 where
  pub records : Records
  pub dialogues : List (Numbered Dialogue)
  pub next : ℕ

-- a call with its answer, the number of the dialogue that it belongs to, if any, and the numbers of the dialogues that it made
pub record Entry (Call Answer : Type 0) : Type 0 where
  pub call : Call
  pub answer : Answer
  pub owner : Option ℕ
  pub made : List ℕ

pub record Done (Records Dialogue Call Answer : Type 0) : Type 0 where
  pub state : State Records Dialogue
  pub entry : Entry Call Answer

module _ (M : Machine) where
  open M use {Records, Dialogue, View, Call, Answer, aim, waits, view, outer, inner, lost}

  -- the dialogue that a call belongs to
  abbrev pub owned : Aim → List (Numbered Dialogue) → Option ℕ
  owned to_records t = None
  owned (to_dialogue n) t = Some n
  owned to_lowest t = first waits t

  abbrev pub step_at : State Records Dialogue → Call → ℕ → Option Dialogue → Done Records Dialogue Call Answer
  step_at s c n None = record { state = s; entry = record { call = c; answer = lost; owner = Some n; made = [] } }
  step_at s c n (Some d) =
      let r = inner (view s.records d) n d c in
      record {
        state = record { records = s.records; dialogues = replaced n r.left s.dialogues; next = s.next };
        entry = record { call = c; answer = r.answer; owner = Some n; made = [] };
      }

  abbrev pub step_of : State Records Dialogue → Call → Option ℕ → Done Records Dialogue Call Answer
  step_of s c None =
      let o = outer s.records s.next c in
      record {
        state = record { records = o.records; dialogues = s.dialogues ++ numbered s.next o.new; next = number_after s.next o.new };
        entry = record { call = c; answer = o.answer; owner = None; made = numbers_from s.next o.new };
      }
  step_of s c (Some n) = step_at s c n (find n s.dialogues)

  -- one call
  abbrev pub step : State Records Dialogue → Call → Done Records Dialogue Call Answer
  step s c = step_of s c (owned (aim c) s.dialogues)

  -- fed calls: the entry of each, and the state at the end
  abbrev pub fed : State Records Dialogue → List Call → List (Entry Call Answer)
  fed s [] = []
  fed s (c ∷ cs) = (step s c).entry ∷ fed (step s c).state cs

  abbrev pub ends : State Records Dialogue → List Call → State Records Dialogue
  ends s [] = s
  ends s (c ∷ cs) = ends (step s c).state cs

  -- a start: some records, and dialogues numbered from k on
  abbrev pub begin : Records → List Dialogue → ℕ → State Records Dialogue
  begin r ds k = record { records = r; dialogues = numbered k ds; next = number_after k ds }
