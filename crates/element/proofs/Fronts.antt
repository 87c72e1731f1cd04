-- The elements of octets, where one stands at their front.
use Rattle.std.proofs.Common.{◌≡◌, ℕ, zero, suc, ◌+◌, ◌-◌, ◌<◌, ◌≤◌, List, [], ◌∷◌, ◌++◌, length, take, drop, Some, refl, sym, ap, ◌∙◌, add-zero, arith}
use Rattle.std.proofs.Math.Seq.{take-append_seam, drop-append_seam}
use Rattle.std.proofs.lemmas.List.{drop-drop}
use Rattle.std.proofs.lemmas.Bool.Decides.{nat_tests}
use Rattle.element.specs.declared.fault.ElementFault.{ElementFault}
use Rattle.element.specs.declared.fault.ElementFault.TheVariants.{Missing, Unreadable}
use Rattle.element.specs.declared.fault.Spot.{Spot}
use Rattle.element.specs.Elements.{Front, unreadable, element, front, Elements, ended, broken, next, elements_after, elements, fault_read}
use Rattle.element.specs.declared.fault.Layer.TheVariants.{Component}
use Rattle.element.specs.Fault.{spot_at, spot_of}
use Rattle.element.specs.Scan.{filling}

pub skip : (k p : ℕ) (xs : List ℕ) → k ≤ length xs → elements_after k p xs ≡ elements (p + k) (drop k xs)
skip zero p xs h = ap (λ q. elements_after 0 q xs) (sym (add-zero p))
skip (suc k) p [] h = absurd (omega arith)
skip (suc k) p (x ∷ xs) h =
    let e : p + 1 + k ≡ p + suc k = omega arith in
    skip k (p + 1) xs (omega arith) ∙ ap (λ q. elements q (drop k xs)) e

-- a head is not empty
some_head : (w : List ℕ) (t h n : ℕ) → element t h n ≡ front w → 0 < h
some_head w t h n e = grind (arith, nat_tests)

abbrev pub by_front : ℕ → List ℕ → List ℕ → Front → Elements
by_front p w xs f = elim f [ unreadable ↦ broken p | element t h n ↦ next t p (p + h) (take n (drop h w)) (elements_after (h + n - 1) (p + 1) xs) ]

-- past the head stand the content, and what is left
pub first_element : (p : ℕ) (w : List ℕ) (t h : ℕ) (c r : List ℕ) → element t h (length c) ≡ front w → drop h w ≡ c ++ r → h + length c + length r ≡ length w → next t p (p + h) c (elements (p + h + length c) r) ≡ elements p w
first_element p [] t h c r e d l = cc
first_element p (x ∷ xs) t h c r e d l =
    let m = some_head (x ∷ xs) t h (length c) e in
    let k = h + length c - 1 in
    let s : h + length c ≡ suc k = omega arith in
    let q : p + h + length c ≡ p + 1 + k = omega arith in
    let content : c ≡ take (length c) (drop h (x ∷ xs)) = let g = take-append_seam c r in cc in
    let left : r ≡ drop k xs = let g = drop-append_seam c r in let j = drop-drop (length c) h (x ∷ xs) in cc in
    let after = skip k (p + 1) xs (omega arith) in
    let found = ap (by_front p (x ∷ xs) xs) e in
    cc

not_ended : (q p : ℕ) (w xs : List ℕ) (f : Front) → ended q ≡ by_front p w xs f → ⊥
not_ended q p w xs unreadable e = cc
not_ended q p w xs (element t h n) e = cc

-- where octets are left, the elements do not end there
pub never_ended : (q p : ℕ) (w : List ℕ) → 0 < length w → ended q ≡ elements p w → ⊥
never_ended q p [] h e = omega arith
never_ended q p (x ∷ xs) h e = not_ended q p (x ∷ xs) xs (front (x ∷ xs)) e

-- where octets are left, a fault is that they cannot be read
pub fault_before_end : (f : ElementFault) (s : Spot) (w : List ℕ) → fault_read f ≡ elements s.place w → spot_of f ≡ s → 0 < length w → (f ≡ Unreadable s) × (elements s.place w ≡ broken s.place)
fault_before_end (Missing t) s w e p h = absurd (never_ended t.place s.place w h e)
fault_before_end (Unreadable t) s w e p h = (ap Unreadable p, sym e ∙ ap (λ k. broken k.place) p)

not_filled : (t p q : ℕ) (c : List ℕ) (es : Elements) → ((e : ℕ) → ended e ≡ es → ⊥) → Some (Unreadable (spot_at 0 Component)) ≡ filling (next t p q c es)
not_filled t p q c (ended e) h = absurd (h e refl)
not_filled t p q c (broken e) h = refl
not_filled t p q c (next t' p' q' c' es) h = refl

-- a component that more octets follow does not fill them
pub more_after : (t p q : ℕ) (c : List ℕ) (p' : ℕ) (w : List ℕ) → 0 < length w → Some (Unreadable (spot_at 0 Component)) ≡ filling (next t p q c (elements p' w))
more_after t p q c p' w h = not_filled t p q c (elements p' w) (λ e. never_ended e p' w h)
