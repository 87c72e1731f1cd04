-- The halves of octets.
use Rattle.std.proofs.Common.{◌≡◌, ℕ, zero, suc, ◌+◌, ◌/◌, ◌%◌, ◌<◌, ◌≤◌, false, true, cond, eqb, List, [], ◌∷◌, ◌++◌, length, get_or, take, drop, None, sym, refl, ap, ◌∙◌, inl, inr, arith}
use Rattle.std.specs.List.{flat_map}
use Rattle.std.proofs.lemmas.List.{flat_map_more, length-append, take_more}
use Rattle.std.proofs.lemmas.Bool.{cases_lt, eq-eqb, ne_eqb, true≢false}
use Rattle.numbers.specs.Packing.{unpacked}
use Rattle.numbers.specs.Digit.{digits_of}
use Rattle.numbers.proofs.Held.{none_above, none_wrong}

-- both halves of each octet, low half first
abbrev pub halves : List ℕ → List ℕ
halves bs = flat_map (λ b. b % 16 ∷ b / 16 ∷ []) bs

pub halves_more : (bs : List ℕ) (i : ℕ) → i < length bs → halves (take (i + 1) bs) ≡ halves (take i bs) ++ get_or bs i 0 % 16 ∷ get_or bs i 0 / 16 ∷ []
halves_more bs i h =
    ap halves (take_more bs i 0 h) ∙ sym (flat_map_more (λ b. b % 16 ∷ b / 16 ∷ []) [] (take i bs) (get_or bs i 0))

-- an F that fills the last octet is no digit
pub unpacked_last : (bs : List ℕ) (b : ℕ) → unpacked (bs ++ b ∷ []) ≡ halves bs ++ b % 16 ∷ cond (eqb (b / 16) 15) [] (b / 16 ∷ [])
unpacked_last [] b = refl
unpacked_last (c ∷ []) b = refl
unpacked_last (c ∷ d ∷ bs) b = ap (λ ds. c % 16 ∷ c / 16 ∷ ds) (unpacked_last (d ∷ bs) b)

pub unpacked_filled : (bs : List ℕ) (b : ℕ) → b / 16 ≡ 15 → unpacked (bs ++ b ∷ []) ≡ halves bs ++ b % 16 ∷ []
unpacked_filled bs b h = unpacked_last bs b ∙ ap (λ v. halves bs ++ b % 16 ∷ cond v [] (b / 16 ∷ [])) (eq-eqb (b / 16) 15 h)

pub unpacked_whole : (bs : List ℕ) (b : ℕ) → (b / 16 ≡ 15 → ⊥) → unpacked (bs ++ b ∷ []) ≡ halves bs ++ b % 16 ∷ b / 16 ∷ []
unpacked_whole bs b h = unpacked_last bs b ∙ ap (λ v. halves bs ++ b % 16 ∷ cond v [] (b / 16 ∷ [])) (ne_eqb (b / 16) 15 h)

-- the halves of an octet before the last one, among the others
pub unpacked_at : (bs : List ℕ) (b i : ℕ) → i < length bs →
    unpacked (bs ++ b ∷ []) ≡ halves (take i bs) ++ get_or bs i 0 % 16 ∷ get_or bs i 0 / 16 ∷ unpacked (drop (suc i) bs ++ b ∷ [])
unpacked_at [] b i h = absurd (omega arith)
unpacked_at (c ∷ []) b zero h = refl
unpacked_at (c ∷ d ∷ bs) b zero h = refl
unpacked_at (c ∷ []) b (suc i) h = absurd (omega arith)
unpacked_at (c ∷ d ∷ bs) b (suc i) h = ap (λ ds. c % 16 ∷ c / 16 ∷ ds) (unpacked_at (d ∷ bs) b i (omega arith))

not_taken : (ds : List ℕ) (d : ℕ) (es : List ℕ) → ((d ≤ 9) × (length ds < 15) → ⊥) → digits_of (ds ++ d ∷ es) ≡ None
not_taken ds d es h =
    elim (cases_lt 9 d) [
      | inl wrong ↦ none_wrong ds d es wrong
      | inr right ↦ elim (cases_lt (length ds) 15) [
        | inl room ↦ absurd (h (right, room))
        | inr full ↦ none_above (ds ++ d ∷ es) (let n = length-append ds (d ∷ es) in omega arith)
      ]
    ]

-- a digit among the halves that cannot be taken after those before it
pub refused : (os bs : List ℕ) (b : ℕ) (ds : List ℕ) (d : ℕ) (es : List ℕ) →
    os ≡ bs ++ b ∷ [] → unpacked (bs ++ b ∷ []) ≡ ds ++ d ∷ es → ((d ≤ 9) × (length ds < 15) → false ≡ true) → None ≡ digits_of (unpacked os)
refused os bs b ds d es whole parts h =
    sym (ap digits_of (ap unpacked whole ∙ parts) ∙ not_taken ds d es (λ p. true≢false (sym (h p))))
