-- Every run, one dialogue after another.
use Rattle.std.proofs.Common.{◌≡◌, ℕ, suc, ◌+◌, ◌<◌, ◌≤◌, Bool, true, false, cond, eqb, ◌⊎◌, List, [], ◌∷◌, ◌++◌, map, Some, None, filter, Option, sym, refl, ap, ◌∙◌, subst, inl, inr, append_assoc, append-nil, arith}
use mathlib.Core.Path.{fun_ext}
use Rattle.std.specs.List.{flat_map, AllByRecursion}
use Rattle.std.proofs.lemmas.Bool.{eq-eqb, ne_eqb, eqb-true}
use Rattle.std.proofs.lemmas.List.Elements.{filter-append}
use Rattle.std.proofs.ByRecursion.{All-append, All-push, All-weaker}
use Rattle.runs.specs.declared.Numbered.{Numbered}
use Rattle.runs.specs.Numbering.{find, onto, replaced, first, numbered, numbers_from, number_after}
use Rattle.runs.specs.Machine.{Aim, to_records, to_dialogue, to_lowest, Machine, Entry, State, Done, owned, step, step_of, step_at, fed, ends, begin}
use Rattle.runs.specs.Order.{serial, calls_of, is_number, unowned}
use Rattle.runs.specs.Run.{kept, comes_to, Taken, Lawful, Run, still, took, Replays}
use Rattle.runs.proofs.Numberings.{span, Below, Quiet, none_first, all_put, none_some}
use Rattle.runs.proofs.Strands.{above, made_once, Seen, tag, forget, forget_append, waits_seen, Heads, Chain, start, head, below, state, plays, goes_fed}
use Rattle.runs.proofs.Grows.{tagged, unsaid, Grown, grow}

-- ---- tables with and without what the dialogues see
module _ {T V : Type 0} where
  found_seen : (n : ℕ) (d : T) (g : List (Numbered (Seen T V))) → find n (forget g) ≡ Some d → (x : Seen T V) × (find n g ≡ Some x) × (x.dialogue ≡ d)
  found_seen n d [] e = none_some e
  found_seen n d (x ∷ g) e =
      (elim (eqb n x.number) as (λ b. cond b (Some x.dialogue.dialogue) (find n (forget g)) ≡ Some d → (y : Seen T V) × (cond b (Some x.dialogue) (find n g) ≡ Some y) × (y.dialogue ≡ d))
      [ true ↦ (λ h. (x.dialogue, refl, cc h)) | false ↦ found_seen n d g ]) e

  put_forget : (n : ℕ) (v : V) (o : Option T) (g : List (Numbered (Seen T V))) → forget (replaced n (tag v o) g) ≡ replaced n o (forget g)
  put_forget n v o [] = refl
  put_forget n v o (x ∷ g) =
      elim (eqb n x.number) as (λ b. forget (cond b (onto n (tag v o) g) (x ∷ replaced n (tag v o) g)) ≡ cond b (onto n o (forget g)) (record { number = x.number; dialogue = x.dialogue.dialogue } ∷ replaced n o (forget g)))
      [ true ↦ here o | false ↦ ap (λ (t : List (Numbered T)). record { number = x.number; dialogue = x.dialogue.dialogue } ∷ t) (put_forget n v o g) ]
    where
      here : (o : Option T) → forget (onto n (tag v o) g) ≡ onto n o (forget g)
      here None = refl
      here (Some d) = refl

  first_forget : (test : T → Bool) (g : List (Numbered (Seen T V))) → first test (forget g) ≡ first (λ (x : Seen T V). test x.dialogue) g
  first_forget test [] = refl
  first_forget test (x ∷ g) = ap (λ (o : Option ℕ). cond (test x.dialogue.dialogue) (Some x.number) o) (first_forget test g)

  found_all : (P : Seen T V → Type 0) (n : ℕ) (x : Seen T V) (g : List (Numbered (Seen T V))) → AllByRecursion (λ y. P y.dialogue) g → find n g ≡ Some x → P x
  found_all P n x [] q e = none_some e
  found_all P n x (y ∷ g) q e =
      (elim (eqb n y.number) as (λ b. cond b (Some y.dialogue) (find n g) ≡ Some x → P x)
      [ true ↦ (λ h. let a : y.dialogue ≡ x = cc h in subst P a q.0) | false ↦ found_all P n x g q.1 ]) e

  found_below : (n k : ℕ) (x : Seen T V) (g : List (Numbered (Seen T V))) → Below k g → find n g ≡ Some x → n < k
  found_below n k x [] q e = none_some e
  found_below n k x (y ∷ g) q e = go (eqb n y.number) refl (found_below n k x g q.1)
    where
      go : (b : Bool) → eqb n y.number ≡ b → (find n g ≡ Some x → n < k) → n < k
      go true h ih = let a = eqb-true n y.number h in let c = q.0 in omega arith
      go false h ih = ih (rw h at e)

first_there : {A : Type 0} (test : A → Bool) (n : ℕ) (t : List (Numbered A)) → first test t ≡ Some n → (d : A) × (find n t ≡ Some d)
first_there test n [] e = none_some e
first_there {A} test n (x ∷ t) e = go (test x.dialogue) refl (first_there test n t)
  where
    skip : (b : Bool) → ((d : A) × (find n t ≡ Some d)) → (d : A) × (cond b (Some x.dialogue) (find n t) ≡ Some d)
    skip true p = (x.dialogue, refl)
    skip false p = p

    go : (b : Bool) → test x.dialogue ≡ b → (first test t ≡ Some n → (d : A) × (find n t ≡ Some d)) → (d : A) × (find n (x ∷ t) ≡ Some d)
    go true h ih =
        let f : Some x.number ≡ Some n = rw h at e in
        let a : n ≡ x.number = cc in
        (x.dialogue, rw (eq-eqb n x.number a))
    go false h ih = skip (eqb n x.number) (ih (rw h at e))

forget_tagged : (M : Machine) (r : M.Records) (j : ℕ) (ds : List M.Dialogue) → forget (tagged M r j ds) ≡ numbered j ds
forget_tagged M r j [] = refl
forget_tagged M r j (d ∷ ds) = ap (λ (t : List (Numbered M.Dialogue)). record { number = j; dialogue = d } ∷ t) (forget_tagged M r (suc j) ds)

after_le : {A : Type 0} (k : ℕ) (ds : List A) → k ≤ number_after k ds
after_le k [] = omega arith
after_le k (d ∷ ds) = let h = after_le (suc k) ds in omega arith

abbrev pub Within : ℕ → ℕ → Option ℕ → Type 0
Within k j None = Unit {0}
Within k j (Some n) = (k ≤ n) × (n < j)

within_on : (k i j : ℕ) (o : Option ℕ) → i ≤ j → Within k i o → Within k j o
within_on k i j None h q = tt
within_on k i j (Some n) h q = (q.0, let w = q.1 in omega arith)

found_above : {A : Type 0} (n k : ℕ) (x : A) (g : List (Numbered A)) → AllByRecursion (λ y. k ≤ y.number) g → find n g ≡ Some x → k ≤ n
found_above n k x [] q e = none_some e
found_above n k x (y ∷ g) q e = go (eqb n y.number) refl (found_above n k x g q.1)
  where
    go : (b : Bool) → eqb n y.number ≡ b → (find n g ≡ Some x → k ≤ n) → k ≤ n
    go true h ih = let a = eqb-true n y.number h in let c = q.0 in omega arith
    go false h ih = ih (rw h at e)

module _ (M : Machine) where
  open M use {Records, Dialogue, View, Call, Answer, aim, waits, view, outer, inner, lost}

  sees_tagged : (r : Records) (j : ℕ) (ds : List Dialogue) → AllByRecursion (λ x. view r x.dialogue.dialogue ≡ x.dialogue.sees) (tagged M r j ds)
  sees_tagged r j [] = tt
  sees_tagged r j (d ∷ ds) = (refl, sees_tagged r (suc j) ds)

  sees_on : (r r' : Records) (g : List (Numbered (Seen Dialogue View))) → AllByRecursion (λ x. view r' x.dialogue ≡ view r x.dialogue) (forget g) → AllByRecursion (λ x. view r x.dialogue.dialogue ≡ x.dialogue.sees) g → AllByRecursion (λ x. view r' x.dialogue.dialogue ≡ x.dialogue.sees) g
  sees_on r r' [] p q = tt
  sees_on r r' (x ∷ g) p q = (p.0 ∙ q.0, sees_on r r' g p.1 q.1)

  unquiet : (g : List (Numbered (Seen Dialogue View))) → Quiet waits (forget g) → Quiet (waits_seen M) g
  unquiet [] q = tt
  unquiet (x ∷ g) q = (q.0, unquiet g q.1)

  -- what a run has come to
  record Inv (r₀ : Records) (ds₀ : List Dialogue) (k₀ : ℕ) (es : List (Entry Call Answer)) (s : State Records Dialogue) : Type 0 where
    g : List (Numbered (Seen Dialogue View))
    chain : Chain M (calls_of es) r₀ ds₀ k₀ s.records [] s.next (filter unowned es) g
    dialogues : s.dialogues ≡ forget g
    sees : AllByRecursion (λ x. view s.records x.dialogue.dialogue ≡ x.dialogue.sees) g
    fresh : (n : ℕ) → s.next ≤ n → calls_of es n ≡ []
    owners : AllByRecursion (λ e. Within k₀ s.next e.owner) es

  module _ (Takes : State Records Dialogue → Call → Type 0) (Sound : State Records Dialogue → Type 0) (L : Lawful M Takes Sound) (r₀ : Records) (ds₀ : List Dialogue) (k₀ : ℕ) where
    -- a call of the records
    outward : (es : List (Entry Call Answer)) (s : State Records Dialogue) (c : Call) → Inv r₀ ds₀ k₀ es s → Sound s → Takes s c → owned M (aim c) s.dialogues ≡ None →
        Inv r₀ ds₀ k₀ (es ++ (step_of M s c None).entry ∷ []) (step_of M s c None).state
    outward es s c v so pass p = record {
      g = v.g ++ tagged M r' s.next ds;
      chain = subst (λ (own : ℕ → List (Entry Call Answer)). Chain M own r₀ ds₀ k₀ r' [] (number_after s.next ds) (filter unowned (es ++ e ∷ [])) (v.g ++ tagged M r' s.next ds)) (sym same_own)
          (subst (λ (outs : List (Entry Call Answer)). Chain M (calls_of es) r₀ ds₀ k₀ r' [] (number_after s.next ds) outs (v.g ++ tagged M r' s.next ds)) (sym (filter-append unowned es (e ∷ [])))
          (unsaid M ds s.next v.g (head v.chain e heads) v.fresh));
      dialogues = ap (λ (t : List (Numbered Dialogue)). t ++ numbered s.next ds) v.dialogues ∙ ap (λ (t : List (Numbered Dialogue)). forget v.g ++ t) (sym (forget_tagged M r' s.next ds)) ∙ sym (forget_append v.g (tagged M r' s.next ds));
      sees = All-append (λ x. view r' x.dialogue.dialogue ≡ x.dialogue.sees) v.g (tagged M r' s.next ds)
          (sees_on s.records r' v.g (subst (λ (t : List (Numbered Dialogue)). AllByRecursion (λ x. view r' x.dialogue ≡ view s.records x.dialogue) t) v.dialogues (L.frozen s c pass so p)) v.sees)
          (sees_tagged r' s.next ds);
      owners = All-push (λ e. Within k₀ (number_after s.next ds) e.owner) es e (All-weaker (λ e. Within k₀ s.next e.owner) (λ e. Within k₀ (number_after s.next ds) e.owner) (λ e q. within_on k₀ s.next (number_after s.next ds) e.owner (after_le s.next ds) q) es v.owners) tt;
      fresh = λ n h. same_at n ∙ v.fresh n (let a = after_le s.next ds in omega arith);
    }
      where
        r' : Records
        r' = (outer s.records s.next c).records

        ds : List Dialogue
        ds = (outer s.records s.next c).new

        e : Entry Call Answer
        e = (step_of M s c None).entry

        same_at : (n : ℕ) → calls_of (es ++ e ∷ []) n ≡ calls_of es n
        same_at n = filter-append (λ e. is_number n e.owner) es (e ∷ []) ∙ append-nil (calls_of es n)

        same_own : calls_of (es ++ e ∷ []) ≡ calls_of es
        same_own = fun_ext same_at

        at_aim : (a : Aim) → aim c ≡ a → owned M a s.dialogues ≡ None → (aim c ≡ to_records) ⊎ ((aim c ≡ to_lowest) × Quiet (waits_seen M) v.g)
        at_aim to_records q h = inl q
        at_aim (to_dialogue n) q h = none_some (sym h)
        at_aim to_lowest q h = inr (q, unquiet v.g (none_first waits (forget v.g) (ap (first waits) (sym v.dialogues) ∙ h)))

        heads : Heads M s.records s.next v.g e r' ds
        heads = record { aims = at_aim (aim c) refl p; does = refl; owns = refl; makes = refl }

    -- a call of a dialogue
    inward : (es : List (Entry Call Answer)) (s : State Records Dialogue) (c : Call) (n : ℕ) (d : Dialogue) → Inv r₀ ds₀ k₀ es s → Taken M Takes Sound s c n d →
        Inv r₀ ds₀ k₀ (es ++ (step_at M s c n (Some d)).entry ∷ []) (step_at M s c n (Some d)).state
    inward es s c n d v t = record {
      g = replaced n (tag x.sees o) v.g;
      chain = subst (λ (outs : List (Entry Call Answer)). Chain M (calls_of (es ++ e ∷ [])) r₀ ds₀ k₀ s.records [] s.next outs (replaced n (tag x.sees o) v.g)) (sym (filter-append unowned es (e ∷ []) ∙ append-nil (filter unowned es)))
          (grow M n x v.chain grown);
      dialogues = ap (replaced n o) v.dialogues ∙ sym (put_forget n x.sees o v.g);
      sees = all_put (λ y. view s.records y.dialogue.dialogue ≡ y.dialogue.sees) n (tag x.sees o) v.g (sees_tag o still) v.sees;
      owners = All-push (λ e. Within k₀ s.next e.owner) es e v.owners (found_above n k₀ x v.g (above M v.chain) hx.1, found_below n s.next x v.g (below M v.chain) hx.1);
      fresh = λ m h. sym (others m (λ q. let b = found_below n s.next x v.g (below M v.chain) hx.1 in omega arith)) ∙ v.fresh m h;
    }
      where
        hx : (x : Seen Dialogue View) × (find n v.g ≡ Some x) × (x.dialogue ≡ d)
        hx = found_seen n d v.g (ap (find n) (sym v.dialogues) ∙ t.here)

        x : Seen Dialogue View
        x = hx.0

        o : Option Dialogue
        o = (inner (view s.records d) n d c).left

        e : Entry Call Answer
        e = (step_at M s c n (Some d)).entry

        xs : view s.records x.dialogue ≡ x.sees
        xs = found_all (λ y. view s.records y.dialogue ≡ y.sees) n x v.g v.sees hx.1

        still : (d' : Dialogue) → o ≡ Some d' → (r : Records) → view r d' ≡ view r x.dialogue
        still d' h r = L.same s c n d d' t h r ∙ ap (view r) (sym hx.2)

        sees_tag : (o : Option Dialogue) → ((d' : Dialogue) → o ≡ Some d' → (r : Records) → view r d' ≡ view r x.dialogue) → (y : Seen Dialogue View) → tag x.sees o ≡ Some y → view s.records y.dialogue ≡ y.sees
        sees_tag None f y h = none_some h
        sees_tag (Some d') f y h =
            let q : record { dialogue = d'; sees = x.sees } ≡ y = cc h in
            subst (λ (y : Seen Dialogue View). view s.records y.dialogue ≡ y.sees) q (f d' refl s.records ∙ xs)

        others : (m : ℕ) → (m ≡ n → ⊥) → calls_of es m ≡ calls_of (es ++ e ∷ []) m
        others m ne = sym (filter-append (λ e. is_number m e.owner) es (e ∷ []) ∙ ap (λ (b : Bool). calls_of es m ++ cond b (e ∷ []) []) (ne_eqb m n ne) ∙ append-nil (calls_of es m))

        adds : calls_of es n ++ e ∷ [] ≡ calls_of (es ++ e ∷ []) n
        adds = sym (filter-append (λ e. is_number n e.owner) es (e ∷ []) ∙ ap (λ (b : Bool). calls_of es n ++ cond b (e ∷ []) []) (eq-eqb n n refl))

        at_aim : (a : Aim) → aim c ≡ a → owned M a s.dialogues ≡ Some n → (aim c ≡ to_dialogue n) ⊎ ((aim c ≡ to_lowest) × (first (waits_seen M) v.g ≡ Some n))
        at_aim to_records q h = none_some h
        at_aim (to_dialogue m) q h = let a : m ≡ n = cc h in inl (q ∙ ap to_dialogue a)
        at_aim to_lowest q h = inr (q, sym (first_forget waits v.g) ∙ ap (first waits) (sym v.dialogues) ∙ h)

        grown : Grown M (calls_of es) (calls_of (es ++ e ∷ [])) e o n x v.g
        grown = record {
          found = hx.1;
          aims = at_aim (aim c) refl t.owns;
          does = ap (λ (w : View). inner w n x.dialogue c) (sym xs) ∙ ap (λ (d : Dialogue). inner (view s.records d) n d c) hx.2;
          owns = refl;
          makes = refl;
          still = still;
          calm = λ d' h. L.calm s c n d d' t h;
          adds = adds;
          others = others;
        }

    onward : (es : List (Entry Call Answer)) (s : State Records Dialogue) (c : Call) → Inv r₀ ds₀ k₀ es s → Sound s → Takes s c → Inv r₀ ds₀ k₀ (es ++ (step M s c).entry ∷ []) (step M s c).state
    onward es s c v so pass = go (owned M (aim c) s.dialogues) refl
      where
        to : (x y : Done Records Dialogue Call Answer) → y ≡ x → Inv r₀ ds₀ k₀ (es ++ x.entry ∷ []) x.state → Inv r₀ ds₀ k₀ (es ++ y.entry ∷ []) y.state
        to x y q i = subst (λ (z : Done Records Dialogue Call Answer). Inv r₀ ds₀ k₀ (es ++ z.entry ∷ []) z.state) (sym q) i

        there : (n : ℕ) (a : Aim) → aim c ≡ a → owned M a s.dialogues ≡ Some n → (d : Dialogue) × (find n s.dialogues ≡ Some d)
        there n to_records q h = none_some h
        there n (to_dialogue m) q h = let a : m ≡ n = cc h in L.there s c n pass (q ∙ ap to_dialogue a)
        there n to_lowest q h = first_there waits n s.dialogues h

        go : (w : Option ℕ) → owned M (aim c) s.dialogues ≡ w → Inv r₀ ds₀ k₀ (es ++ (step M s c).entry ∷ []) (step M s c).state
        go None p = to (step_of M s c None) (step M s c) (ap (step_of M s c) p) (outward es s c v so pass p)
        go (Some n) p =
            let f = there n (aim c) refl p in
            to (step_at M s c n (Some f.0)) (step M s c) (ap (step_of M s c) p ∙ ap (step_at M s c n) f.1)
            (inward es s c n f.0 v (record { takes = pass; sound = so; owns = p; here = f.1 }))

    runs : {s s' : State Records Dialogue} {fs : List (Entry Call Answer)} (es : List (Entry Call Answer)) → Run M Takes s fs s' → Inv r₀ ds₀ k₀ es s → Sound s → Inv r₀ ds₀ k₀ (es ++ fs) s'
    runs {s} es still v so = subst (λ (l : List (Entry Call Answer)). Inv r₀ ds₀ k₀ l s) (sym (append-nil es)) v
    runs {s} es (took {s' = s'} {es = fs} c h run) v so =
        subst (λ (l : List (Entry Call Answer)). Inv r₀ ds₀ k₀ l s') (append_assoc es ((step M s c).entry ∷ []) fs)
        (runs (es ++ (step M s c).entry ∷ []) run (onward es s c v so h) (L.lasts s c h so))

    pub once : {s : State Records Dialogue} {es : List (Entry Call Answer)} → Run M Takes (begin M r₀ ds₀ k₀) es s → Sound (begin M r₀ ds₀ k₀) →
        (c : ℕ) × (s.next ≡ k₀ + c) × (numbers_from k₀ ds₀ ++ flat_map (λ e. e.made) (filter unowned es) ≡ span k₀ c) × AllByRecursion (λ e. Within k₀ s.next e.owner) es
    once {s} {es} run so =
        let i = runs [] run (record { owners = tt; g = tagged M r₀ k₀ ds₀; chain = unsaid M ds₀ k₀ [] start (λ m h. refl); dialogues = sym (forget_tagged M r₀ k₀ ds₀); sees = sees_tagged r₀ k₀ ds₀; fresh = λ n h. refl }) so in
        let p = made_once M i.chain in
        (p.0, p.1, p.2 ∙ append-nil (span k₀ p.0), i.owners)

    pub every_run : {s : State Records Dialogue} {es : List (Entry Call Answer)} → Run M Takes (begin M r₀ ds₀ k₀) es s → Sound (begin M r₀ ds₀ k₀) → Replays M (begin M r₀ ds₀ k₀) (serial (numbers_from k₀ ds₀) es) s
    every_run {s} {es} run so =
        let b : State Records Dialogue = begin M r₀ ds₀ k₀ in
        let i = runs [] run (record { owners = tt; g = tagged M r₀ k₀ ds₀; chain = unsaid M ds₀ k₀ [] start (λ m h. refl); dialogues = sym (forget_tagged M r₀ k₀ ds₀); sees = sees_tagged r₀ k₀ ds₀; fresh = λ n h. refl }) so in
        let p = plays M i.chain in
        let w = goes_fed M p.1 in
        let same : p.0 ≡ serial (numbers_from k₀ ds₀) es = sym (append-nil p.0) ∙ p.2 in
        let end : state M s.records (forget i.g ++ []) s.next ≡ s = λ j. record { records = s.records; dialogues = (append-nil (forget i.g) ∙ sym i.dialogues) j; next = s.next } in (
          subst (λ (l : List (Entry Call Answer)). fed M b (map (λ e. e.call) l) ≡ l) same w.0,
          subst (λ (l : List (Entry Call Answer)). ends M b (map (λ e. e.call) l) ≡ s) same (w.1 ∙ end),
        )

  -- a register that refuses whatever cannot be taken
  module _ {X : Type 0} (refuse : X → State Records Dialogue → Call → Bool) (beside : X → State Records Dialogue → Call → X) (Takes : State Records Dialogue → Call → Type 0)
      (passes : (x : X) (s : State Records Dialogue) (c : Call) → refuse x s c ≡ false → Takes s c) where
    pub keeps : (x : X) (s : State Records Dialogue) (cs : List Call) → Run M Takes s (kept M refuse beside x s cs) (comes_to M refuse beside x s cs)
    keeps x s [] = still
    keeps x s (c ∷ cs) = go (refuse x s c) refl (keeps x s cs) (keeps (beside x s c) (step M s c).state cs)
      where
        go : (b : Bool) → refuse x s c ≡ b → Run M Takes s (kept M refuse beside x s cs) (comes_to M refuse beside x s cs) →
            Run M Takes (step M s c).state (kept M refuse beside (beside x s c) (step M s c).state cs) (comes_to M refuse beside (beside x s c) (step M s c).state cs) →
            Run M Takes s (kept M refuse beside x s (c ∷ cs)) (comes_to M refuse beside x s (c ∷ cs))
        go true h i j = rw h i
        go false h i j = rw h (took c (passes x s c h) j)
