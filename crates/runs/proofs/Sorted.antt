-- One dialogue after another, each kept call stands once.
use Rattle.std.proofs.Common.{◌≡◌, ℕ, zero, suc, ◌+◌, ◌<◌, ◌≤◌, Bool, true, false, cond, eqb, ◌⊎◌, List, [], ◌∷◌, ◌++◌, length, Some, None, filter, Option, refl, ap, ◌∙◌, subst, inl, inr, arith, length-append}
use Rattle.std.specs.List.{flat_map, AllByRecursion}
use Rattle.std.proofs.lemmas.Bool.{eq-eqb, ne_eqb, cases_eq}
use Rattle.std.proofs.lemmas.List.Elements.{filter-append}
use Rattle.runs.specs.Numbering.{numbers_from}
use Rattle.runs.specs.Machine.{Machine, Entry, State, begin}
use Rattle.runs.specs.Order.{serial, followed, calls_of, is_number, unowned}
use Rattle.runs.specs.Run.{Run, Lawful}
use Rattle.runs.proofs.Numberings.{span}
use Rattle.runs.proofs.Runs.{Within, once}

abbrev total : {X : Type 0} → (X → ℕ) → List X → ℕ
total f [] = 0
total f (x ∷ xs) = f x + total f xs

total_append : {X : Type 0} (f : X → ℕ) (xs ys : List X) → total f (xs ++ ys) ≡ total f xs + total f ys
total_append f [] ys = omega arith
total_append f (x ∷ xs) ys = let h = total_append f xs ys in omega arith

total_push : {X : Type 0} (f : X → ℕ) (xs : List X) (x : X) → total f (xs ++ x ∷ []) ≡ total f xs + f x
total_push f xs x = let h = total_append f xs (x ∷ []) in omega arith

-- a function that differs at one number of the span
total_same : (f g : ℕ → ℕ) (k c : ℕ) → ((m : ℕ) → m < k + c → f m ≡ g m) → total f (span k c) ≡ total g (span k c)
total_same f g k zero h = refl
total_same f g k (suc c) h =
    let a = total_push f (span k c) (k + c) in
    let b = total_push g (span k c) (k + c) in
    let i = total_same f g k c (λ m q. h m (omega arith)) in
    let j = h (k + c) (omega arith) in
    omega arith

total_one : (f g : ℕ → ℕ) (w n k c : ℕ) → k ≤ n → n < k + c → f n ≡ w + g n → ((m : ℕ) → (m ≡ n → ⊥) → f m ≡ g m) → total f (span k c) ≡ w + total g (span k c)
total_one f g w n k zero lo hi one other = absurd (omega arith)
total_one f g w n k (suc c) lo hi one other = go (cases_eq (k + c) n) (total_one f g w n k c lo)
  where
    a : total f (span k c ++ (k + c) ∷ []) ≡ total f (span k c) + f (k + c)
    a = total_push f (span k c) (k + c)

    b : total g (span k c ++ (k + c) ∷ []) ≡ total g (span k c) + g (k + c)
    b = total_push g (span k c) (k + c)

    go : (k + c ≡ n) ⊎ (k + c ≡ n → ⊥) → (n < k + c → f n ≡ w + g n → ((m : ℕ) → (m ≡ n → ⊥) → f m ≡ g m) → total f (span k c) ≡ w + total g (span k c)) →
        total f (span k c ++ (k + c) ∷ []) ≡ w + total g (span k c ++ (k + c) ∷ [])
    go (inl e) ih =
        let s = total_same f g k c (λ m q. other m (λ r. omega arith)) in
        let o : f (k + c) ≡ w + g (k + c) = rw e one in
        omega (arith, a, b)
    go (inr ne) ih =
        let s = ih (omega arith) one other in
        let o = other (k + c) ne in
        omega (arith, a, b)

module _ {C A : Type 0} (p : Entry C A → Bool) where
  -- how many entries pass the test
  abbrev pub many : List (Entry C A) → ℕ
  many l = length (filter p l)

  many_append : (xs ys : List (Entry C A)) → many (xs ++ ys) ≡ many xs + many ys
  many_append xs ys = ap length (filter-append p xs ys) ∙ length-append (filter p xs) (filter p ys)

  many_cons : (e : Entry C A) (xs : List (Entry C A)) → many (e ∷ xs) ≡ many (e ∷ []) + many xs
  many_cons e xs = many_append (e ∷ []) xs

  many_joined : {X : Type 0} (f : X → List (Entry C A)) (xs : List X) → many (flat_map f xs) ≡ total (λ x. many (f x)) xs
  many_joined f [] = refl
  many_joined f (x ∷ xs) = let h = many_joined f xs in let a = many_append (f x) (flat_map f xs) in omega arith

  many_flat : (own : ℕ → List (Entry C A)) (outs : List (Entry C A)) → many (followed own outs) ≡ many outs + total (λ m. many (own m)) (flat_map (λ e. e.made) outs)
  many_flat own [] = refl
  many_flat own (e ∷ outs) =
      let h = many_flat own outs in
      let a = many_cons e (flat_map own e.made ++ followed own outs) in
      let b = many_append (flat_map own e.made) (followed own outs) in
      let c = many_joined own e.made in
      let d = total_append (λ m. many (own m)) e.made (flat_map (λ e. e.made) outs) in
      let f = many_cons e outs in
      omega arith

  -- each entry is alone or of one number of the span
  many_sorted : (k c : ℕ) (es : List (Entry C A)) → AllByRecursion (λ e. Within k (k + c) e.owner) es → many (filter unowned es) + total (λ m. many (calls_of es m)) (span k c) ≡ many es
  many_sorted k c [] q = none c
    where
      none : (c : ℕ) → 0 + total (λ m. 0) (span k c) ≡ 0
      none zero = refl
      none (suc c) = let h = none c in let a = total_push (λ m. 0) (span k c) (k + c) in omega arith
  many_sorted k c (e ∷ es) q = go e.owner q.0 (many_sorted k c es q.1)
    where
      go : (o : Option ℕ) → Within k (k + c) o → many (filter unowned es) + total (λ m. many (calls_of es m)) (span k c) ≡ many es →
          many (cond (elim o [ None ↦ true | Some n ↦ false ]) (e ∷ filter unowned es) (filter unowned es)) + total (λ m. many (cond (is_number m o) (e ∷ calls_of es m) (calls_of es m))) (span k c) ≡ many (e ∷ es)
      go None w ih = let a = many_cons e (filter unowned es) in let b = many_cons e es in omega arith
      go (Some n) w ih =
          let t = total_one (λ m. many (cond (eqb m n) (e ∷ calls_of es m) (calls_of es m))) (λ m. many (calls_of es m)) (many (e ∷ [])) n k c w.0 w.1
          (rw (eq-eqb n n refl) (many_cons e (calls_of es n))) (λ m ne. rw (ne_eqb m n ne)) in
          let b = many_cons e es in
          omega arith

module _ (M : Machine) (Takes : State M.Records M.Dialogue → M.Call → Type 0) (Sound : State M.Records M.Dialogue → Type 0) (L : Lawful M Takes Sound) (r₀ : M.Records) (ds₀ : List M.Dialogue) (k₀ : ℕ) where
  -- the order drops no call and doubles none
  pub each_once : {s : State M.Records M.Dialogue} {es : List (Entry M.Call M.Answer)} → Run M Takes (begin M r₀ ds₀ k₀) es s → Sound (begin M r₀ ds₀ k₀) →
      (p : Entry M.Call M.Answer → Bool) → many p (serial (numbers_from k₀ ds₀) es) ≡ many p es
  each_once {s} {es} run so p =
      let o = once M Takes Sound L r₀ ds₀ k₀ run so in
      let a = many_append p (flat_map (calls_of es) (numbers_from k₀ ds₀)) (followed (calls_of es) (filter unowned es)) in
      let b = many_joined p (calls_of es) (numbers_from k₀ ds₀) in
      let c = many_flat p (calls_of es) (filter unowned es) in
      let d = total_append (λ m. many p (calls_of es m)) (numbers_from k₀ ds₀) (flat_map (λ e. e.made) (filter unowned es)) in
      let e = ap (total (λ m. many p (calls_of es m))) o.2 in
      let f = many_sorted p k₀ o.0 es (subst (λ (j : ℕ). AllByRecursion (λ e. Within k₀ j e.owner) es) o.1 o.3) in
      omega (arith, a, b, c, d, e, f)
