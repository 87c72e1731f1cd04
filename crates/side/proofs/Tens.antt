-- Codes by tens, one insert after another.
use Rattle.std.proofs.Common.{◌≡◌, ℕ, zero, suc, ◌+◌, ◌-◌, ◌*◌, ◌/◌, ◌<◌, ◌≤◌, List, [], ◌∷◌, ◌++◌, length, take, drop, Some, None, refl, ap, ◌∙◌, arith}
use Rattle.std.specs.List.{slice_get}
use Rattle.std.proofs.lemmas.List.{length-drop, length-take, drop-drop, take_all}
use Rattle.operation.specs.declared.codes.Operation.TheVariants.{InsertSubscriberData}
use Rattle.message.specs.declared.kinds.Service.{Service}
use Rattle.message.specs.Kinds.{codes_tag}
use Rattle.message.specs.Messages.{codes_insert}
use Rattle.message.specs.Writing.{coded, codes_in, invoke_octets}
use Rattle.side.specs.Download.{left_after, by_tens, numbered}

-- passing over k codes
skip : (k : ℕ) (cs : List ℕ) → left_after k cs ≡ by_tens (drop k cs)
skip zero cs = refl
skip (suc k) [] = refl
skip (suc k) (c ∷ cs) = skip k cs

-- the inserts after the first of a kind are those of what is left after ten codes
more : (c : ℕ) (cs : List ℕ) → by_tens (c ∷ cs) ≡ (c ∷ cs) ∷ by_tens (drop 9 cs)
more c cs = ap (λ l. (c ∷ cs) ∷ l) (skip 9 cs)

-- n is at least the number of codes, for the induction
counted : (n : ℕ) (cs : List ℕ) → length cs ≤ n → length (by_tens cs) ≡ (length cs + 9) / 10
counted n [] h = refl
counted zero (c ∷ cs) h = absurd (omega arith)
counted (suc n) (c ∷ cs) h =
    let d : length (drop 9 cs) ≡ length cs - 9 = length-drop 9 cs in
    let r : length (by_tens (drop 9 cs)) ≡ (length (drop 9 cs) + 9) / 10 = counted n (drop 9 cs) (omega arith) in
    ap length (more c cs) ∙ omega arith

pub count_is : (cs : List ℕ) → length (by_tens cs) ≡ (length cs + 9) / 10
count_is cs = counted (length cs) cs (omega arith)

-- an insert of the ten codes at the front of some is the insert of these
pub ten_of : (n : ℕ) (s : Service) (cs : List ℕ) → codes_insert n s (take 10 cs) ≡ codes_insert n s cs
ten_of n s cs =
    let few : length (take 10 cs) ≤ 10 = omega (arith, length-take 10 cs) in
    ap (λ l. invoke_octets n InsertSubscriberData (coded (codes_tag s) (codes_in l))) (take_all 10 (take 10 cs) few)

-- the insert at an index, where codes are left for it and where none are
pub at_some : (n k : ℕ) (s : Service) (cs : List ℕ) → k * 10 < length cs → slice_get (numbered n s (by_tens cs)) k ≡ Some (codes_insert (n + k) s (drop (k * 10) cs))
at_some n k s [] h = absurd (omega arith)
at_some n zero s (c ∷ cs) h = let z : n ≡ n + 0 = omega arith in ap (λ m. Some (codes_insert m s (c ∷ cs))) z
at_some n (suc k) s (c ∷ cs) h =
    let d : length (drop 9 cs) ≡ length cs - 9 = length-drop 9 cs in
    let m : n + 1 + k ≡ n + suc k = omega arith in
    let j : suc (9 + k * 10) ≡ suc k * 10 = omega arith in
    ap (λ l. slice_get (numbered n s l) (suc k)) (more c cs) ∙ at_some (n + 1) k s (drop 9 cs) (omega arith)
    ∙ ap (λ x. Some (codes_insert x s (drop (k * 10) (drop 9 cs)))) m
    ∙ ap (λ l. Some (codes_insert (n + suc k) s l)) (drop-drop (k * 10) 9 cs ∙ ap (λ x. drop x (c ∷ cs)) j)

pub at_none : (n k : ℕ) (s : Service) (cs : List ℕ) → length cs ≤ k * 10 → slice_get (numbered n s (by_tens cs)) k ≡ None
at_none n k s [] h = refl
at_none n zero s (c ∷ cs) h = absurd (omega arith)
at_none n (suc k) s (c ∷ cs) h =
    let d : length (drop 9 cs) ≡ length cs - 9 = length-drop 9 cs in
    ap (λ l. slice_get (numbered n s l) (suc k)) (more c cs) ∙ at_none (n + 1) k s (drop 9 cs) (omega arith)

pub long_numbered : (n : ℕ) (s : Service) (ls : List (List ℕ)) → length (numbered n s ls) ≡ length ls
long_numbered n s [] = refl
long_numbered n s (l ∷ ls) = ap suc (long_numbered (n + 1) s ls)

pub at_front : {A : Type 0} (xs ys : List A) (k : ℕ) → k < length xs → slice_get (xs ++ ys) k ≡ slice_get xs k
at_front [] ys k h = absurd (omega arith)
at_front (x ∷ xs) ys zero h = refl
at_front (x ∷ xs) ys (suc k) h = at_front xs ys k (omega arith)

pub at_back : {A : Type 0} (xs ys : List A) (k : ℕ) → slice_get (xs ++ ys) (length xs + k) ≡ slice_get ys k
at_back [] ys k = let z : 0 + k ≡ k = omega arith in ap (slice_get ys) z
at_back (x ∷ xs) ys k = let z : suc (length xs) + k ≡ suc (length xs + k) = omega arith in ap (slice_get (x ∷ (xs ++ ys))) z ∙ at_back xs ys k
