-- Octets in a fixed number of places, with zeros past them.
use Rattle.std.specs.Prelude.{◌≡◌, ℕ, ◌+◌, ◌-◌, ◌≤◌, List, ◌++◌, length, take, drop, replicate}
use Rattle.std.proofs.Common.{ap, sym, ◌∙◌, arith}
use Rattle.std.proofs.Math.Seq.{drop-drop}
use Rattle.std.proofs.lemmas.List.{take-append-drop, length-take-le, drop-replicate}

-- n places that hold these octets, then zeros
abbrev pub filled : ℕ → List ℕ → List ℕ
filled n bs = bs ++ replicate (n - length bs) 0

-- zeros past some are zeros past more
pub zeros_past : (n len more : ℕ) (xs : List ℕ) → drop len xs ≡ replicate (n - len) 0 → drop (len + more) xs ≡ replicate (n - (len + more)) 0
zeros_past n len more xs e =
    sym (drop-drop more len xs) ∙ ap (drop more) e ∙ drop-replicate more (n - len) 0 ∙ ap (λ k. replicate k 0) (omega arith)

-- the octets, with zeros after them, and their number are all that is held
pub refilled : (n len : ℕ) (xs : List ℕ) → length xs ≡ n → len ≤ n → drop len xs ≡ replicate (n - len) 0 →
    ◌≡◌ {A = List ℕ × ℕ} (filled n (take len xs), length (take len xs)) (xs, len)
refilled n len xs whole few e =
    ap (λ k. (take len xs ++ replicate (n - k) 0, k)) (length-take-le len xs (omega (arith, whole, few))) ∙ ap (λ ys. (take len xs ++ ys, len)) (sym e) ∙ ap (λ ys. (ys, len)) (take-append-drop len xs)
