-- Two registers that differ in the form of their records alone.
use Rattle.std.proofs.Common.{◌≡◌, ℕ, Bool, List, [], ◌∷◌, ◌++◌, Some, None, Option, refl, ap, subst}
use Rattle.runs.specs.declared.Numbered.{Numbered}
use Rattle.runs.specs.Numbering.{find, replaced, first, numbered, numbers_from, number_after}
use Rattle.runs.specs.Machine.{Aim, to_records, to_dialogue, to_lowest, Outer, Inner, Machine, State, owned, step, step_of, step_at, fed, ends}

module _ {R₁ R₂ Dialogue View Call Answer : Type 0} (aim : Call → Aim) (waits : Dialogue → Bool) (inner : View → ℕ → Dialogue → Call → Inner Dialogue Answer) (lost : Answer)
    (view₁ : R₁ → Dialogue → View) (outer₁ : R₁ → ℕ → Call → Outer R₁ Dialogue Answer)
    (view₂ : R₂ → Dialogue → View) (outer₂ : R₂ → ℕ → Call → Outer R₂ Dialogue Answer)
    (Like : R₁ → R₂ → Type 0) where
  abbrev M₁ : Machine
  M₁ = record { Records = R₁; Dialogue = Dialogue; View = View; Call = Call; Answer = Answer; aim = aim; waits = waits; view = view₁; outer = outer₁; inner = inner; lost = lost }

  abbrev M₂ : Machine
  M₂ = record { Records = R₂; Dialogue = Dialogue; View = View; Call = Call; Answer = Answer; aim = aim; waits = waits; view = view₂; outer = outer₂; inner = inner; lost = lost }

  -- records that are alike look alike, make alike and stay alike
  pub record Alike : Type 0 where
    pub views : (a : R₁) (b : R₂) → Like a b → (d : Dialogue) → view₁ a d ≡ view₂ b d
    pub news : (a : R₁) (b : R₂) → Like a b → (k : ℕ) (c : Call) → (outer₁ a k c).new ≡ (outer₂ b k c).new
    pub answers : (a : R₁) (b : R₂) → Like a b → (k : ℕ) (c : Call) → (outer₁ a k c).answer ≡ (outer₂ b k c).answer
    pub records : (a : R₁) (b : R₂) → Like a b → (k : ℕ) (c : Call) → Like (outer₁ a k c).records (outer₂ b k c).records

  pub record Same (s : State R₁ Dialogue) (t : State R₂ Dialogue) : Type 0 where
    pub records : Like s.records t.records
    pub dialogues : s.dialogues ≡ t.dialogues
    pub next : s.next ≡ t.next

  record Stepped (s : State R₁ Dialogue) (t : State R₂ Dialogue) (c : Call) : Type 0 where
    entry : (step M₁ s c).entry ≡ (step M₂ t c).entry
    state : Same (step M₁ s c).state (step M₂ t c).state

  module _ (L : Alike) where
    stepped_at : (a : R₁) (b : R₂) → Like a b → (ts : List (Numbered Dialogue)) (k : ℕ) (c : Call) → Stepped (record { records = a; dialogues = ts; next = k }) (record { records = b; dialogues = ts; next = k }) c
    stepped_at a b like ts k c = by_aim (aim c)
      where
        s : State R₁ Dialogue
        s = record { records = a; dialogues = ts; next = k }

        t : State R₂ Dialogue
        t = record { records = b; dialogues = ts; next = k }

        Goal : Option ℕ → Option ℕ → Type 0
        Goal o p = ((step_of M₁ s c o).entry ≡ (step_of M₂ t c p).entry) × Same (step_of M₁ s c o).state (step_of M₂ t c p).state

        found : (n : ℕ) (o : Option Dialogue) → ((step_at M₁ s c n o).entry ≡ (step_at M₂ t c n o).entry) × Same (step_at M₁ s c n o).state (step_at M₂ t c n o).state
        found n None = (refl, record { records = like; dialogues = refl; next = refl })
        found n (Some d) =
            let v = L.views a b like d in (
              ap (λ (w : View). record { call = c; answer = (inner w n d c).answer; owner = Some n; made = [] }) v,
              record { records = like; dialogues = ap (λ (w : View). replaced n (inner w n d c).left ts) v; next = refl },
            )

        owner : (o : Option ℕ) → Goal o o
        owner None =
            let n = L.news a b like k c in
            let r = L.answers a b like k c in (
              λ i. record { call = c; answer = r i; owner = None; made = numbers_from k (n i) },
              record { records = L.records a b like k c; dialogues = ap (λ (l : List Dialogue). ts ++ numbered k l) n; next = ap (λ (l : List Dialogue). number_after k l) n },
            )
        owner (Some n) = found n (find n ts)

        by : (x : Aim) → Goal (owned M₁ x ts) (owned M₂ x ts)
        by to_records = owner None
        by (to_dialogue n) = owner (Some n)
        by to_lowest = owner (first waits ts)

        by_aim : (x : Aim) → Stepped s t c
        by_aim x = let g = by (aim c) in record { entry = g.0; state = g.1 }

    stepped : (s : State R₁ Dialogue) (t : State R₂ Dialogue) (c : Call) → Same s t → Stepped s t c
    stepped s t c e =
        let p : record { records = t.records; dialogues = s.dialogues; next = s.next } ≡ t = λ i. record { records = t.records; dialogues = e.dialogues i; next = e.next i } in
        subst (λ (u : State R₂ Dialogue). Stepped s u c) p (stepped_at s.records t.records e.records s.dialogues s.next c)

    pub record Runs (s : State R₁ Dialogue) (t : State R₂ Dialogue) (cs : List Call) : Type 0 where
      pub notes : fed M₁ s cs ≡ fed M₂ t cs
      pub end : Same (ends M₁ s cs) (ends M₂ t cs)

    -- fed the same calls, both note the same and end alike
    pub runs : (cs : List Call) (s : State R₁ Dialogue) (t : State R₂ Dialogue) → Same s t → Runs s t cs
    runs [] s t e = record { notes = refl; end = e }
    runs (c ∷ cs) s t e =
        let h = stepped s t c e in
        let r = runs cs (step M₁ s c).state (step M₂ t c).state h.state in
        record { notes = λ i. h.entry i ∷ r.notes i; end = r.end }
