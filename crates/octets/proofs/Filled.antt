-- Octets in a fixed number of places.
use Rattle.std.proofs.Common.{◌≡◌, ℕ, zero, suc, ◌+◌, ◌-◌, List, [], ◌∷◌, ◌++◌, length, drop, get_or, replicate, refl, ap, ◌∙◌, length-append, arith}
use Rattle.std.proofs.lemmas.List.{length-replicate, drop-replicate, drop_at, take_at}
use Rattle.octets.specs.Padding.{filled}
use Rattle.octets.specs.Laws.{OctetLaws}

zeros : (n k : ℕ) → get_or {A = ℕ} (replicate n 0) k 0 ≡ 0
zeros zero k = refl
zeros (suc n) zero = refl
zeros (suc n) (suc k) = zeros n k

entries : (bs : List ℕ) (n k : ℕ) → get_or (bs ++ replicate n 0) k 0 ≡ get_or bs k 0
entries [] n k = zeros n k
entries (b ∷ bs) n zero = refl
entries (b ∷ bs) n (suc k) = entries bs n k

pub laws : OctetLaws
laws = record {
  whole = λ n bs h. length-append bs (replicate (n - length bs) 0) ∙ ap (λ k. length bs + k) (length-replicate (n - length bs) 0) ∙ omega arith;
  held = λ n bs. take_at bs (replicate (n - length bs) 0) (length bs) refl;
  padded = λ n bs. drop_at bs (replicate (n - length bs) 0) (length bs) refl;
  entries = λ n bs k. entries bs (n - length bs) k;
}

-- octets copied over zeros fill the places
pub copied : (n : ℕ) (bs ys : List ℕ) → ys ≡ bs → ys ++ drop (length bs) (replicate n 0) ≡ filled n bs
copied n bs ys e = ap (λ l. l ++ drop (length bs) (replicate n 0)) e ∙ ap (λ l. bs ++ l) (drop-replicate (length bs) n 0)
