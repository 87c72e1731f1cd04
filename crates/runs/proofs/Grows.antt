-- How a thread grows: by a call of the records at its end, or by a call of a dialogue in its midst.
use Rattle.std.proofs.Common.{◌≡◌, ℕ, suc, ◌<◌, ◌≤◌, false, ◌⊎◌, List, [], ◌∷◌, ◌++◌, Some, None, Option, sym, refl, ap, ◌∙◌, subst, inl, inr, append_assoc, append-nil, arith}
use Rattle.std.proofs.lemmas.Bool.{cases_eq}
use Rattle.runs.specs.declared.Numbered.{Numbered}
use Rattle.runs.specs.Numbering.{find, onto, replaced, first, number_after}
use Rattle.runs.specs.Machine.{to_dialogue, to_lowest, Machine, Entry}
use Rattle.runs.proofs.Numberings.{Quiet, find_mid, find_below, find_other, put_mid, put_other, first_back, first_other, all_put, none_some}
use Rattle.runs.proofs.Strands.{Seen, tag, waits_seen, Says, Strand, rest, more, over, Chain, start, head, strand, below}

module _ (M : Machine) where
  open M use {Records, Dialogue, View, Call, Answer, aim, waits, view, outer, inner, lost}

  abbrev pub tagged : Records → ℕ → List Dialogue → List (Numbered (Seen Dialogue View))
  tagged r j [] = []
  tagged r j (d ∷ ds) = record { number = j; dialogue = record { dialogue = d; sees = view r d } } ∷ tagged r (suc j) ds

  pub remap : {own own' : ℕ → List (Entry Call Answer)} {r₀ : Records} {ds₀ : List Dialogue} {k₀ : ℕ} {r : Records} {j : ℕ} {ds : List Dialogue} {es : List (Entry Call Answer)} {g : List (Numbered (Seen Dialogue View))} →
      Chain M own r₀ ds₀ k₀ r ds j es g → ((m : ℕ) → m < j → own m ≡ own' m) → Chain M own' r₀ ds₀ k₀ r ds j es g
  remap start q = start
  remap (head c e h) q = head (remap c q) e h
  remap {own} {own'} (strand {r = r} {j = j} {g = g} {d = d} c f st) q =
      strand (remap c (λ m h. q m (omega arith))) f (subst (λ (l : List (Entry Call Answer)). Strand M (view r d) j g d l f) (q j (omega arith)) st)

  -- dialogues of which no call has come
  pub unsaid : {own : ℕ → List (Entry Call Answer)} {r₀ : Records} {ds₀ : List Dialogue} {k₀ : ℕ} {r : Records} {es : List (Entry Call Answer)} (ds : List Dialogue) (j : ℕ) (g : List (Numbered (Seen Dialogue View))) →
      Chain M own r₀ ds₀ k₀ r ds j es g → ((m : ℕ) → j ≤ m → own m ≡ []) → Chain M own r₀ ds₀ k₀ r [] (number_after j ds) es (g ++ tagged r j ds)
  unsaid {own} {r₀} {ds₀} {k₀} {r} {es} [] j g c q = subst (λ (h : List (Numbered (Seen Dialogue View))). Chain M own r₀ ds₀ k₀ r [] j es h) (sym (append-nil g)) c
  unsaid {own} {r₀} {ds₀} {k₀} {r} {es} (d ∷ ds) j g c q =
      let x : Numbered (Seen Dialogue View) = record { number = j; dialogue = record { dialogue = d; sees = view r d } } in
      let s : Strand M (view r d) j g d (own j) (Some d) = subst (λ (l : List (Entry Call Answer)). Strand M (view r d) j g d l (Some d)) (sym (q j (omega arith))) rest in
      subst (λ (h : List (Numbered (Seen Dialogue View))). Chain M own r₀ ds₀ k₀ r [] (number_after (suc j) ds) es h) (append_assoc g (x ∷ []) (tagged r (suc j) ds))
      (unsaid ds (suc j) (g ++ x ∷ []) (strand c (Some d) s) (λ m h. q m (omega arith)))

  strand_snoc : {v : View} {j : ℕ} {g : List (Numbered (Seen Dialogue View))} {d : Dialogue} {es : List (Entry Call Answer)} {d' : Dialogue} (e : Entry Call Answer) (o : Option Dialogue) →
      Strand M v j g d es (Some d') → Says M v j g d' e o → Strand M v j g d (es ++ e ∷ []) o
  strand_snoc e None rest h = over e h
  strand_snoc e (Some d'') rest h = more e h rest
  strand_snoc e None (more e' h' st) h = more e' h' (strand_snoc e None st h)
  strand_snoc e (Some d'') (more e' h' st) h = more e' h' (strand_snoc e (Some d'') st h)

  says_quiet : {v : View} {j : ℕ} {g g' : List (Numbered (Seen Dialogue View))} {d : Dialogue} {e : Entry Call Answer} {o : Option Dialogue} →
      (Quiet (waits_seen M) g → Quiet (waits_seen M) g') → Says M v j g d e o → Says M v j g' d e o
  says_quiet q h = record { aims = elim h.aims [ inl a ↦ inl a | inr b ↦ inr (b.0, q b.1, b.2) ]; does = h.does; owns = h.owns; makes = h.makes; still = h.still }

  strand_quiet : {v : View} {j : ℕ} {g g' : List (Numbered (Seen Dialogue View))} {d : Dialogue} {es : List (Entry Call Answer)} {f : Option Dialogue} →
      (Quiet (waits_seen M) g → Quiet (waits_seen M) g') → Strand M v j g d es f → Strand M v j g' d es f
  strand_quiet q rest = rest
  strand_quiet q (more e h st) = more e (says_quiet q h) (strand_quiet q st)
  strand_quiet q (over e h) = over e (says_quiet q h)

  -- the entry e of dialogue n, which stands in g as x, leaves o of it; own and own' are the dialogues' entries before and after
  pub record Grown (own own' : ℕ → List (Entry Call Answer)) (e : Entry Call Answer) (o : Option Dialogue) (n : ℕ) (x : Seen Dialogue View) (g : List (Numbered (Seen Dialogue View))) : Type 0 where
    pub found : find n g ≡ Some x
    pub aims : (aim e.call ≡ to_dialogue n) ⊎ ((aim e.call ≡ to_lowest) × (first (waits_seen M) g ≡ Some n))
    pub does : inner x.sees n x.dialogue e.call ≡ record { left = o; answer = e.answer }
    pub owns : e.owner ≡ Some n
    pub makes : e.made ≡ []
    pub still : (d' : Dialogue) → o ≡ Some d' → (r : Records) → view r d' ≡ view r x.dialogue
    pub calm : (d' : Dialogue) → o ≡ Some d' → waits d' ≡ false
    pub adds : own n ++ e ∷ [] ≡ own' n
    pub others : (m : ℕ) → (m ≡ n → ⊥) → own m ≡ own' m

  tag_calm : (v : View) (o : Option Dialogue) → ((d' : Dialogue) → o ≡ Some d' → waits d' ≡ false) → (y : Seen Dialogue View) → tag v o ≡ Some y → waits y.dialogue ≡ false
  tag_calm v None h y e = none_some e
  tag_calm v (Some d) h y e =
      let q : record { dialogue = d; sees = v } ≡ y = cc in
      subst (λ (y : Seen Dialogue View). waits y.dialogue ≡ false) q (h d refl)

  module _ {own own' : ℕ → List (Entry Call Answer)} {e : Entry Call Answer} {o : Option Dialogue} {r₀ : Records} {ds₀ : List Dialogue} {k₀ : ℕ} where
    here_at : {r : Records} {j : ℕ} {d : Dialogue} {ds : List Dialogue} {es : List (Entry Call Answer)} {g : List (Numbered (Seen Dialogue View))} {d' : Dialogue} →
        Chain M own r₀ ds₀ k₀ r (d ∷ ds) j es g → Strand M (view r d) j g d (own j) (Some d') →
        Grown own own' e o j (record { dialogue = d'; sees = view r d }) (g ++ record { number = j; dialogue = record { dialogue = d'; sees = view r d } } ∷ []) →
        Chain M own' r₀ ds₀ k₀ r ds (suc j) es (replaced j (tag (view r d) o) (g ++ record { number = j; dialogue = record { dialogue = d'; sees = view r d } } ∷ []))
    here_at {r} {j} {d} {ds} {es} {g} {d'} c st w =
        subst (λ (h : List (Numbered (Seen Dialogue View))). Chain M own' r₀ ds₀ k₀ r ds (suc j) es h) (sym (put_mid j (record { dialogue = d'; sees = view r d }) (tag (view r d) o) g [] (below M c)))
        (strand (remap c (λ m h. w.others m (λ q. omega arith))) o
        (subst (λ (l : List (Entry Call Answer)). Strand M (view r d) j g d l o) w.adds (strand_snoc e o st says)))
      where
        says : Says M (view r d) j g d' e o
        says = record {
          aims = elim w.aims [ inl a ↦ inl a | inr b ↦ inr (b.0, (first_back (waits_seen M) j (record { dialogue = d'; sees = view r d }) g (below M c) b.1).0, (first_back (waits_seen M) j (record { dialogue = d'; sees = view r d }) g (below M c) b.1).1) ];
          does = w.does;
          owns = w.owns;
          makes = w.makes;
          still = w.still;
        }

    grow_here : {r : Records} {j : ℕ} {d : Dialogue} {ds : List Dialogue} {es : List (Entry Call Answer)} {g : List (Numbered (Seen Dialogue View))} {x : Seen Dialogue View} →
        Chain M own r₀ ds₀ k₀ r (d ∷ ds) j es g → (f : Option Dialogue) → Strand M (view r d) j g d (own j) f →
        Grown own own' e o j x (g ++ onto j (tag (view r d) f) []) →
        Chain M own' r₀ ds₀ k₀ r ds (suc j) es (replaced j (tag x.sees o) (g ++ onto j (tag (view r d) f) []))
    grow_here {r} {j} {d} {ds} {es} {g} {x} c None st w = none_some (sym (find_below j g (below M c)) ∙ ap (find j) (sym (append-nil g)) ∙ w.found)
    grow_here {r} {j} {d} {ds} {es} {g} {x} c (Some d') st w =
        let y : Seen Dialogue View = record { dialogue = d'; sees = view r d } in
        let a : Some y ≡ Some x = sym (find_mid j y g [] (below M c)) ∙ w.found in
        let q : y ≡ x = cc a in
        subst (λ (z : Seen Dialogue View). Grown own own' e o j z (g ++ record { number = j; dialogue = y } ∷ []) → Chain M own' r₀ ds₀ k₀ r ds (suc j) es (replaced j (tag z.sees o) (g ++ record { number = j; dialogue = y } ∷ []))) q (here_at c st) w

    pub grow : {r : Records} {j : ℕ} {ds : List Dialogue} {es : List (Entry Call Answer)} {g : List (Numbered (Seen Dialogue View))} (n : ℕ) (x : Seen Dialogue View) →
        Chain M own r₀ ds₀ k₀ r ds j es g → Grown own own' e o n x g → Chain M own' r₀ ds₀ k₀ r ds j es (replaced n (tag x.sees o) g)
    grow n x start w = none_some w.found
    grow n x (head {g = g} c e' h) w =
        head (grow n x c w) e'
        (record { aims = elim h.aims [ inl a ↦ inl a | inr b ↦ inr (b.0, all_put (λ y. waits y.dialogue.dialogue ≡ false) n (tag x.sees o) g (tag_calm x.sees o w.calm) b.1) ]; does = h.does; owns = h.owns; makes = h.makes })
    grow n x (strand {r = r} {j = j} {es = es} {g = g} {d = d} {ds = ds} c f st) w = go (cases_eq n j) (grow n x c)
      where
        go : (n ≡ j) ⊎ (n ≡ j → ⊥) → (Grown own own' e o n x g → Chain M own' r₀ ds₀ k₀ r (d ∷ ds) j es (replaced n (tag x.sees o) g)) →
            Chain M own' r₀ ds₀ k₀ r ds (suc j) es (replaced n (tag x.sees o) (g ++ onto j (tag (view r d) f) []))
        go (inl q) ih =
            subst (λ (m : ℕ). Grown own own' e o m x (g ++ onto j (tag (view r d) f) []) → Chain M own' r₀ ds₀ k₀ r ds (suc j) es (replaced m (tag x.sees o) (g ++ onto j (tag (view r d) f) [])))
            (sym q) (grow_here c f st) w
        go (inr ne) ih =
            subst (λ (h : List (Numbered (Seen Dialogue View))). Chain M own' r₀ ds₀ k₀ r ds (suc j) es h) (sym (put_other n j ne (tag (view r d) f) (tag x.sees o) g))
            (strand (ih (record {
              found = sym (find_other n j ne (tag (view r d) f) g) ∙ w.found;
              aims = elim w.aims [ inl a ↦ inl a | inr b ↦ inr (b.0, first_other (waits_seen M) n j ne (tag (view r d) f) g b.1) ];
              does = w.does;
              owns = w.owns;
              makes = w.makes;
              still = w.still;
              calm = w.calm;
              adds = w.adds;
              others = w.others;
            }))
            f
            (subst (λ (l : List (Entry Call Answer)). Strand M (view r d) j (replaced n (tag x.sees o) g) d l f) (w.others j (λ q. ne (sym q)))
            (strand_quiet (all_put (λ y. waits y.dialogue.dialogue ≡ false) n (tag x.sees o) g (tag_calm x.sees o w.calm)) st)))
