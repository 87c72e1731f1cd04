-- Lemmas on numbered lists.
use Rattle.std.proofs.Common.{◌≡◌, ℕ, zero, suc, ◌+◌, ◌<◌, Bool, true, false, cond, eqb, List, [], ◌∷◌, ◌++◌, Some, None, Option, sym, refl, ap, arith}
use Rattle.std.specs.List.{AllByRecursion}
use Rattle.std.proofs.lemmas.Bool.{eq-eqb, ne_eqb}
use Rattle.runs.specs.declared.Numbered.{Numbered}
use Rattle.runs.specs.Numbering.{find, onto, replaced, first}

abbrev pub Below : {A : Type 0} → ℕ → List (Numbered A) → Type 0
Below j g = AllByRecursion (λ x. x.number < j) g

-- c numbers from k on
abbrev pub span : ℕ → ℕ → List ℕ
span k zero = []
span k (suc c) = span k c ++ (k + c) ∷ []

abbrev pub Quiet : {A : Type 0} → (A → Bool) → List (Numbered A) → Type 0
Quiet test g = AllByRecursion (λ x. test x.dialogue ≡ false) g

pub none_some : {A : Type 0} {a : A} {B : Type 0} → None ≡ Some a → B
none_some {A} {a} p = let z : ◌≡◌ {A = ℕ} 0 1 = cc in absurd (omega arith)

pub clash : {B : Type 0} → true ≡ false → B
clash p = let z : ◌≡◌ {A = ℕ} 0 1 = cc in absurd (omega arith)

module _ {A : Type 0} where
  pub onto_append : (n : ℕ) (o : Option A) (g h : List (Numbered A)) → onto n o g ++ h ≡ onto n o (g ++ h)
  onto_append n None g h = refl
  onto_append n (Some a) g h = refl

  pub find_other : (n j : ℕ) → (n ≡ j → ⊥) → (o : Option A) (g : List (Numbered A)) → find n (g ++ onto j o []) ≡ find n g
  find_other n j ne None [] = refl
  find_other n j ne (Some a) [] = rw (ne_eqb n j ne)
  find_other n j ne o (x ∷ g) = ap (λ (t : Option A). cond (eqb n x.number) (Some x.dialogue) t) (find_other n j ne o g)

  pub put_other : (n j : ℕ) → (n ≡ j → ⊥) → (o p : Option A) (g : List (Numbered A)) → replaced n p (g ++ onto j o []) ≡ replaced n p g ++ onto j o []
  put_other n j ne None p [] = refl
  put_other n j ne (Some a) p [] = rw (ne_eqb n j ne)
  put_other n j ne o p (x ∷ g) =
      elim (eqb n x.number) as (λ b. cond b (onto n p (g ++ onto j o [])) (x ∷ replaced n p (g ++ onto j o [])) ≡ cond b (onto n p g) (x ∷ replaced n p g) ++ onto j o [])
      [ true ↦ sym (onto_append n p g (onto j o [])) | false ↦ ap (λ (t : List (Numbered A)). x ∷ t) (put_other n j ne o p g) ]

  not_it : (j : ℕ) (x : Numbered A) → x.number < j → eqb j x.number ≡ false
  not_it j x h = ne_eqb j x.number (λ e. omega arith)

  pub find_below : (j : ℕ) (g : List (Numbered A)) → Below j g → find j g ≡ None
  find_below j [] b = refl
  find_below j (x ∷ g) b = rw (not_it j x b.0) (find_below j g b.1)

  pub find_mid : (j : ℕ) (a : A) (g rest : List (Numbered A)) → Below j g → find j (g ++ record { number = j; dialogue = a } ∷ rest) ≡ Some a
  find_mid j a [] rest b = rw (eq-eqb j j refl)
  find_mid j a (x ∷ g) rest b = rw (not_it j x b.0) (find_mid j a g rest b.1)

  pub put_mid : (j : ℕ) (a : A) (o : Option A) (g rest : List (Numbered A)) → Below j g → replaced j o (g ++ record { number = j; dialogue = a } ∷ rest) ≡ g ++ onto j o rest
  put_mid j a o [] rest b = rw (eq-eqb j j refl)
  put_mid j a o (x ∷ g) rest b = rw (not_it j x b.0) (ap (λ (t : List (Numbered A)). x ∷ t) (put_mid j a o g rest b.1))

  pub all_put : (P : Numbered A → Type 0) (n : ℕ) (o : Option A) (g : List (Numbered A)) → ((a : A) → o ≡ Some a → P (record { number = n; dialogue = a })) → AllByRecursion P g → AllByRecursion P (replaced n o g)
  all_put P n o [] h q = tt
  all_put P n o (x ∷ g) h q =
      elim (eqb n x.number) as (λ b. AllByRecursion P (cond b (onto n o g) (x ∷ replaced n o g)))
      [ true ↦ here o h | false ↦ (q.0, all_put P n o g h q.1) ]
    where
      here : (o : Option A) → ((a : A) → o ≡ Some a → P (record { number = n; dialogue = a })) → AllByRecursion P (onto n o g)
      here None h = q.1
      here (Some a) h = (h a refl, q.1)

  module _ (test : A → Bool) where
    pub first_mid : (j : ℕ) (a : A) (g rest : List (Numbered A)) → Quiet test g → test a ≡ true → first test (g ++ record { number = j; dialogue = a } ∷ rest) ≡ Some j
    first_mid j a [] rest q t = rw t
    first_mid j a (x ∷ g) rest q t = rw q.0 (first_mid j a g rest q.1 t)

    pub first_none : (g : List (Numbered A)) → Quiet test g → first test g ≡ None
    first_none [] q = refl
    first_none (x ∷ g) q = rw q.0 (first_none g q.1)

    pub none_first : (g : List (Numbered A)) → first test g ≡ None → Quiet test g
    none_first [] e = tt
    none_first (x ∷ g) e = go (test x.dialogue) refl (none_first g)
      where
        go : (b : Bool) → test x.dialogue ≡ b → (first test g ≡ None → Quiet test g) → Quiet test (x ∷ g)
        go true h ih = none_some (sym (rw h at e))
        go false h ih = (h, ih (rw h at e))

    pub first_back : (j : ℕ) (a : A) (g : List (Numbered A)) → Below j g → first test (g ++ record { number = j; dialogue = a } ∷ []) ≡ Some j → Quiet test g × (test a ≡ true)
    first_back j a [] b e = go (test a) refl
      where
        go : (t : Bool) → test a ≡ t → Unit {0} × (test a ≡ true)
        go true h = (tt, h)
        go false h = none_some (rw h at e)
    first_back j a (x ∷ g) b e = go (test x.dialogue) refl (first_back j a g b.1)
      where
        go : (t : Bool) → test x.dialogue ≡ t → (first test (g ++ record { number = j; dialogue = a } ∷ []) ≡ Some j → Quiet test g × (test a ≡ true)) → Quiet test (x ∷ g) × (test a ≡ true)
        go true h ih =
            let f : Some x.number ≡ Some j = rw h at e in
            let k : x.number ≡ j = cc in
            absurd (let w = b.0 in omega arith)
        go false h ih = let r = ih (rw h at e) in ((h, r.0), r.1)

    pub first_other : (n j : ℕ) → (n ≡ j → ⊥) → (o : Option A) (g : List (Numbered A)) → first test (g ++ onto j o []) ≡ Some n → first test g ≡ Some n
    first_other n j ne None [] e = e
    first_other n j ne (Some a) [] e = go (test a) refl
      where
        go : (t : Bool) → test a ≡ t → None ≡ Some n
        go true h = let f : Some j ≡ Some n = rw h at e in absurd (ne (let k : j ≡ n = cc in sym k))
        go false h = rw h at e
    first_other n j ne o (x ∷ g) e = go (test x.dialogue) refl (first_other n j ne o g)
      where
        go : (t : Bool) → test x.dialogue ≡ t → (first test (g ++ onto j o []) ≡ Some n → first test g ≡ Some n) → first test (x ∷ g) ≡ Some n
        go true h ih = rw h (rw h at e)
        go false h ih = rw h (ih (rw h at e))
