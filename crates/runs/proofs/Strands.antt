-- The calls of a run, sorted by dialogue, as a thread that the plain register can follow.
use Rattle.std.proofs.Common.{◌≡◌, ℕ, suc, ◌+◌, ◌<◌, ◌≤◌, Bool, true, ◌⊎◌, List, [], ◌∷◌, ◌++◌, map, Some, None, Option, sym, refl, ap, ◌∙◌, subst, inl, inr, append_assoc, append-nil, arith}
use Rattle.std.specs.List.{flat_map, AllByRecursion}
use Rattle.std.proofs.ByRecursion.{All-append, All-weaker}
use Rattle.runs.specs.declared.Numbered.{Numbered}
use Rattle.runs.specs.Numbering.{onto, replaced, numbered, numbers_from, number_after}
use Rattle.runs.specs.Machine.{to_records, to_dialogue, to_lowest, Machine, Outer, Inner, Entry, State, Done, owned, step, step_of, step_at, fed, ends, begin}
use Rattle.runs.specs.Order.{followed}
use Rattle.runs.proofs.Numberings.{span, Below, Quiet, find_mid, put_mid, first_mid, first_none}

-- a dialogue, and what it has read of the records since it was made
pub record Seen (Dialogue View : Type 0) : Type 0 where
  pub dialogue : Dialogue
  pub sees : View

abbrev pub tag : {T V : Type 0} → V → Option T → Option (Seen T V)
tag v None = None
tag v (Some d) = Some (record { dialogue = d; sees = v })

abbrev pub forget : {T V : Type 0} → List (Numbered (Seen T V)) → List (Numbered T)
forget [] = []
forget (x ∷ g) = record { number = x.number; dialogue = x.dialogue.dialogue } ∷ forget g

pub forget_append : {T V : Type 0} (g h : List (Numbered (Seen T V))) → forget (g ++ h) ≡ forget g ++ forget h
forget_append [] h = refl
forget_append (x ∷ g) h = ap (λ t. record { number = x.number; dialogue = x.dialogue.dialogue } ∷ t) (forget_append g h)

pub forget_tag : {T V : Type 0} (j : ℕ) (v : V) (f : Option T) → forget (onto j (tag v f) []) ≡ onto j f []
forget_tag j v None = refl
forget_tag j v (Some d) = refl

pub below_forget : {T V : Type 0} (j : ℕ) (g : List (Numbered (Seen T V))) → Below j g → Below j (forget g)
below_forget j [] b = tt
below_forget j (x ∷ g) b = (b.0, below_forget j g b.1)

onto_nil : {A : Type 0} (j : ℕ) (o : Option A) (h : List (Numbered A)) → onto j o [] ++ h ≡ onto j o h
onto_nil j None h = refl
onto_nil j (Some a) h = refl

joined_snoc : {X A : Type 0} (f : X → List A) (xs : List X) (x : X) → flat_map f (xs ++ x ∷ []) ≡ flat_map f xs ++ f x
joined_snoc f [] x = append-nil (f x)
joined_snoc f (y ∷ xs) x = ap (λ t. f y ++ t) (joined_snoc f xs x) ∙ sym (append_assoc (f y) (flat_map f xs) (f x))

module _ (M : Machine) where
  open M use {Records, Dialogue, View, Call, Answer, aim, waits, view, outer, inner, lost}

  abbrev pub waits_seen : Seen Dialogue View → Bool
  waits_seen x = waits x.dialogue

  pub quiet_forget : (g : List (Numbered (Seen Dialogue View))) → Quiet waits_seen g → Quiet waits (forget g)
  quiet_forget [] q = tt
  quiet_forget (x ∷ g) q = (q.0, quiet_forget g q.1)

  -- the entry e of dialogue j, at its state d and behind the dialogues g, leaves o of it
  pub record Says (v : View) (j : ℕ) (g : List (Numbered (Seen Dialogue View))) (d : Dialogue) (e : Entry Call Answer) (o : Option Dialogue) : Type 0 where
    pub aims : (aim e.call ≡ to_dialogue j) ⊎ ((aim e.call ≡ to_lowest) × Quiet waits_seen g × (waits d ≡ true))
    pub does : inner v j d e.call ≡ record { left = o; answer = e.answer }
    pub owns : e.owner ≡ Some j
    pub makes : e.made ≡ []
    pub still : (d' : Dialogue) → o ≡ Some d' → (r : Records) → view r d' ≡ view r d

  pub data Strand (v : View) (j : ℕ) (g : List (Numbered (Seen Dialogue View))) : Dialogue → List (Entry Call Answer) → Option Dialogue → Type 0 where
    rest : {d : Dialogue} → Strand v j g d [] (Some d)
    more : {d d' : Dialogue} {es : List (Entry Call Answer)} {f : Option Dialogue} (e : Entry Call Answer) → Says v j g d e (Some d') → Strand v j g d' es f → Strand v j g d (e ∷ es) f
    over : {d : Dialogue} (e : Entry Call Answer) → Says v j g d e None → Strand v j g d (e ∷ []) None

  pub record Heads (r : Records) (k : ℕ) (g : List (Numbered (Seen Dialogue View))) (e : Entry Call Answer) (r' : Records) (ds : List Dialogue) : Type 0 where
    pub aims : (aim e.call ≡ to_records) ⊎ ((aim e.call ≡ to_lowest) × Quiet waits_seen g)
    pub does : outer r k e.call ≡ record { records = r'; new = ds; answer = e.answer }
    pub owns : e.owner ≡ None
    pub makes : e.made ≡ numbers_from k ds

  pub data Chain (own : ℕ → List (Entry Call Answer)) (r₀ : Records) (ds₀ : List Dialogue) (k₀ : ℕ) : Records → List Dialogue → ℕ → List (Entry Call Answer) → List (Numbered (Seen Dialogue View)) → Type 0 where
    start : Chain own r₀ ds₀ k₀ r₀ ds₀ k₀ [] []
    head : {r r' : Records} {k : ℕ} {es : List (Entry Call Answer)} {g : List (Numbered (Seen Dialogue View))} {ds : List Dialogue} →
        Chain own r₀ ds₀ k₀ r [] k es g → (e : Entry Call Answer) → Heads r k g e r' ds → Chain own r₀ ds₀ k₀ r' ds k (es ++ e ∷ []) g
    strand : {r : Records} {j : ℕ} {es : List (Entry Call Answer)} {g : List (Numbered (Seen Dialogue View))} {d : Dialogue} {ds : List Dialogue} →
        Chain own r₀ ds₀ k₀ r (d ∷ ds) j es g → (f : Option Dialogue) → Strand (view r d) j g d (own j) f →
        Chain own r₀ ds₀ k₀ r ds (suc j) es (g ++ onto j (tag (view r d) f) [])

  -- ---- the plain register follows
  pub data Goes : State Records Dialogue → List (Entry Call Answer) → State Records Dialogue → Type 0 where
    stop : {s : State Records Dialogue} → Goes s [] s
    goes : {s s₁ s' : State Records Dialogue} {es : List (Entry Call Answer)} (e : Entry Call Answer) → step M s e.call ≡ record { state = s₁; entry = e } → Goes s₁ es s' → Goes s (e ∷ es) s'

  pub goes_append : {s s₁ s' : State Records Dialogue} {es fs : List (Entry Call Answer)} → Goes s es s₁ → Goes s₁ fs s' → Goes s (es ++ fs) s'
  goes_append stop h = h
  goes_append (goes e p g) h = goes e p (goes_append g h)

  pub goes_fed : {s s' : State Records Dialogue} {es : List (Entry Call Answer)} → Goes s es s' → (fed M s (map (λ e. e.call) es) ≡ es) × (ends M s (map (λ e. e.call) es) ≡ s')
  goes_fed stop = (refl, refl)
  goes_fed {s} (goes {s₁ = s₁} {s' = s'} {es = es} e p g) =
      let r = goes_fed g in
      let cs : List Call = map (λ (e : Entry Call Answer). e.call) es in (
        ap (λ (x : Done Records Dialogue Call Answer). x.entry ∷ fed M x.state cs) p ∙ ap (λ (t : List (Entry Call Answer)). e ∷ t) r.0,
        ap (λ (x : Done Records Dialogue Call Answer). ends M x.state cs) p ∙ r.1,
      )

  abbrev pub state : Records → List (Numbered Dialogue) → ℕ → State Records Dialogue
  state r t k = record { records = r; dialogues = t; next = k }

  own_strand : {v : View} {j : ℕ} {g : List (Numbered (Seen Dialogue View))} {d : Dialogue} {e : Entry Call Answer} {o : Option Dialogue} (t : List (Numbered Dialogue)) →
      Says v j g d e o → owned M (aim e.call) (forget g ++ record { number = j; dialogue = d } ∷ t) ≡ Some j
  own_strand {v} {j} {g} {d} {e} {o} t h =
      elim h.aims [ inl a ↦ rw a | inr q ↦ rw q.0 (first_mid waits j d (forget g) t (quiet_forget g q.1) q.2) ]

  step_strand : {v : View} {j : ℕ} {g : List (Numbered (Seen Dialogue View))} {d : Dialogue} {e : Entry Call Answer} {o : Option Dialogue} (r : Records) (k : ℕ) (t : List (Numbered Dialogue)) →
      Says v j g d e o → view r d ≡ v → Below j g →
      step M (state r (forget g ++ record { number = j; dialogue = d } ∷ t) k) e.call ≡ record { state = state r (forget g ++ onto j o t) k; entry = e }
  step_strand {v} {j} {g} {d} {e} {o} r k t h vd b =
      ap (step_of M s e.call) (own_strand t h) ∙
      ap (step_at M s e.call j) (find_mid j d (forget g) t (below_forget j g b)) ∙
      ap (λ (i : Inner Dialogue Answer). record { state = state r (replaced j i.left s.dialogues) k; entry = record { call = e.call; answer = i.answer; owner = Some j; made = [] } })
      (ap (λ (v : View). inner v j d e.call) vd ∙ h.does) ∙
      (λ i. record { state = state r (put_mid j d o (forget g) t (below_forget j g b) i) k; entry = record { call = e.call; answer = e.answer; owner = sym h.owns i; made = sym h.makes i } })
    where
      s : State Records Dialogue
      s = state r (forget g ++ record { number = j; dialogue = d } ∷ t) k

  plays_strand : {v : View} {j : ℕ} {g : List (Numbered (Seen Dialogue View))} {d : Dialogue} {es : List (Entry Call Answer)} {f : Option Dialogue} (r : Records) (k : ℕ) (t : List (Numbered Dialogue)) →
      Strand v j g d es f → view r d ≡ v → Below j g →
      Goes (state r (forget g ++ record { number = j; dialogue = d } ∷ t) k) es (state r (forget g ++ onto j f t) k)
  plays_strand r k t rest vd b = stop
  plays_strand r k t (more {d' = d'} e h st) vd b = goes e (step_strand r k t h vd b) (plays_strand r k t st (h.still d' refl r ∙ vd) b)
  plays_strand r k t (over e h) vd b = goes e (step_strand r k t h vd b) stop

  step_head : {r r' : Records} {k : ℕ} {g : List (Numbered (Seen Dialogue View))} {e : Entry Call Answer} {ds : List Dialogue} → Heads r k g e r' ds →
      step M (state r (forget g) k) e.call ≡ record { state = state r' (forget g ++ numbered k ds) (number_after k ds); entry = e }
  step_head {r} {r'} {k} {g} {e} {ds} h =
      ap (step_of M s e.call) own ∙
      ap (λ (o : Outer Records Dialogue Answer). record { state = state o.records (forget g ++ numbered k o.new) (number_after k o.new); entry = record { call = e.call; answer = o.answer; owner = None; made = numbers_from k o.new } }) h.does ∙
      (λ i. record { state = state r' (forget g ++ numbered k ds) (number_after k ds); entry = record { call = e.call; answer = e.answer; owner = sym h.owns i; made = sym h.makes i } })
    where
      s : State Records Dialogue
      s = state r (forget g) k

      own : owned M (aim e.call) (forget g) ≡ None
      own = elim h.aims [ inl a ↦ rw a | inr q ↦ rw q.0 (first_none waits (forget g) (quiet_forget g q.1)) ]

  pub below : {own : ℕ → List (Entry Call Answer)} {r₀ : Records} {ds₀ : List Dialogue} {k₀ : ℕ} {r : Records} {j : ℕ} {ds : List Dialogue} {es : List (Entry Call Answer)} {g : List (Numbered (Seen Dialogue View))} →
      Chain own r₀ ds₀ k₀ r ds j es g → Below j g
  below start = tt
  below (head c e h) = below c
  below (strand {r} {j} {es} {g} {d} {ds} c f st) =
      All-append (λ x. x.number < suc j) g (onto j (tag (view r d) f) []) (All-weaker (λ x. x.number < j) (λ x. x.number < suc j) (λ x q. omega arith) g (below c)) (last f)
    where
      last : (f : Option Dialogue) → Below (suc j) (onto j (tag (view r d) f) [])
      last None = tt
      last (Some d') = (omega arith, tt)

  -- each number from the first to the last was made once
  pub made_once : {own : ℕ → List (Entry Call Answer)} {r₀ : Records} {ds₀ : List Dialogue} {k₀ : ℕ} {r : Records} {j : ℕ} {ds : List Dialogue} {es : List (Entry Call Answer)} {g : List (Numbered (Seen Dialogue View))} →
      Chain own r₀ ds₀ k₀ r ds j es g → (c : ℕ) × (j ≡ k₀ + c) × (numbers_from k₀ ds₀ ++ flat_map (λ e. e.made) es ≡ span k₀ c ++ numbers_from j ds)
  made_once {ds₀ = ds₀} {k₀ = k₀} start = (0, omega arith, append-nil (numbers_from k₀ ds₀))
  made_once {ds₀ = ds₀} {k₀ = k₀} (head {k = k} {es = es} {ds = ds} c e h) =
      let p = made_once c in (
        p.0,
        p.1,
        ap (λ (t : List ℕ). numbers_from k₀ ds₀ ++ t) (joined_snoc (λ (e : Entry Call Answer). e.made) es e) ∙
            sym (append_assoc (numbers_from k₀ ds₀) (flat_map (λ (e : Entry Call Answer). e.made) es) e.made) ∙
            ap (λ (t : List ℕ). t ++ e.made) (p.2 ∙ append-nil (span k₀ p.0)) ∙
            ap (λ (t : List ℕ). span k₀ p.0 ++ t) h.makes,
      )
  made_once {ds₀ = ds₀} {k₀ = k₀} (strand {j = j} {ds = ds} c f st) =
      let p = made_once c in
      let q = p.1 in (
        suc p.0,
        omega arith,
        p.2 ∙ ap (λ (m : ℕ). span k₀ p.0 ++ m ∷ numbers_from (suc j) ds) q ∙ sym (append_assoc (span k₀ p.0) ((k₀ + p.0) ∷ []) (numbers_from (suc j) ds)),
      )

  pub above : {own : ℕ → List (Entry Call Answer)} {r₀ : Records} {ds₀ : List Dialogue} {k₀ : ℕ} {r : Records} {j : ℕ} {ds : List Dialogue} {es : List (Entry Call Answer)} {g : List (Numbered (Seen Dialogue View))} →
      Chain own r₀ ds₀ k₀ r ds j es g → AllByRecursion (λ x. k₀ ≤ x.number) g
  above start = tt
  above (head c e h) = above c
  above {k₀ = k₀} (strand {r = r} {j = j} {g = g} {d = d} c f st) =
      All-append (λ x. k₀ ≤ x.number) g (onto j (tag (view r d) f) []) (above c) (last f)
    where
      last : (f : Option Dialogue) → AllByRecursion (λ x. k₀ ≤ x.number) (onto j (tag (view r d) f) [])
      last None = tt
      last (Some d') = (let p = made_once c in let q = p.1 in omega arith, tt)

  -- the plain register plays a chain
  pub plays : {own : ℕ → List (Entry Call Answer)} {r₀ : Records} {ds₀ : List Dialogue} {k₀ : ℕ} {r : Records} {j : ℕ} {ds : List Dialogue} {es : List (Entry Call Answer)} {g : List (Numbered (Seen Dialogue View))} →
      Chain own r₀ ds₀ k₀ r ds j es g →
      (l : List (Entry Call Answer)) × Goes (begin M r₀ ds₀ k₀) l (state r (forget g ++ numbered j ds) (number_after j ds)) × (l ++ flat_map own (numbers_from j ds) ≡ flat_map own (numbers_from k₀ ds₀) ++ followed own es)
  plays {own} {r₀} {ds₀} {k₀} start = ([], stop, sym (append-nil (flat_map own (numbers_from k₀ ds₀))))
  plays {own} {r₀} {ds₀} {k₀} {r} (head {r = r₁} {k = k} {es = es} {g = g} {ds = ds} c e h) =
      let p = plays c in
      let l = p.0 in (
        l ++ e ∷ [],
        goes_append p.1 (goes e (subst (λ (t : List (Numbered Dialogue)). step M (state r₁ t k) e.call ≡ record { state = state r (forget g ++ numbered k ds) (number_after k ds); entry = e }) (sym (append-nil (forget g))) (step_head h)) stop),
        append_assoc l (e ∷ []) (flat_map own (numbers_from k ds)) ∙
            ap (λ (t : List (Entry Call Answer)). t ++ e ∷ flat_map own (numbers_from k ds)) (sym (append-nil l) ∙ p.2) ∙
            ap (λ (t : List ℕ). (flat_map own (numbers_from k₀ ds₀) ++ followed own es) ++ e ∷ flat_map own t) (sym h.makes) ∙
            append_assoc (flat_map own (numbers_from k₀ ds₀)) (followed own es) (e ∷ flat_map own e.made) ∙
            ap (λ (t : List (Entry Call Answer)). flat_map own (numbers_from k₀ ds₀) ++ t) (sym (joined_snoc (λ (e : Entry Call Answer). e ∷ flat_map own e.made) es e)),
      )
  plays {own} {r₀} {ds₀} {k₀} {r} (strand {j = j} {es = es} {g = g} {d = d} {ds = ds} c f st) =
      let p = plays c in
      let l = p.0 in (
        l ++ own j,
        goes_append p.1 (subst (λ (t : List (Numbered Dialogue)). Goes (state r (forget g ++ record { number = j; dialogue = d } ∷ numbered (suc j) ds) (number_after (suc j) ds)) (own j) (state r t (number_after (suc j) ds))) (sym (same f)) (plays_strand r (number_after (suc j) ds) (numbered (suc j) ds) st refl (below c))),
        append_assoc l (own j) (flat_map own (numbers_from (suc j) ds)) ∙ p.2,
      )
    where
      same : (f : Option Dialogue) → forget (g ++ onto j (tag (view r d) f) []) ++ numbered (suc j) ds ≡ forget g ++ onto j f (numbered (suc j) ds)
      same f =
          ap (λ (t : List (Numbered Dialogue)). t ++ numbered (suc j) ds) (forget_append g (onto j (tag (view r d) f) []) ∙ ap (λ (t : List (Numbered Dialogue)). forget g ++ t) (forget_tag j (view r d) f)) ∙
          append_assoc (forget g) (onto j f []) (numbered (suc j) ds) ∙ ap (λ (t : List (Numbered Dialogue)). forget g ++ t) (onto_nil j f (numbered (suc j) ds))
