-- What holds of octets in a fixed number of places.
use Rattle.std.specs.Prelude.{◌≡◌, ℕ, ◌-◌, ◌≤◌, List, length, take, drop, replicate, slice_index}
use Rattle.octets.specs.Padding.{filled}

pub record OctetLaws : Type 0 where
  -- octets that are no more than the places fill just these places
  pub whole : (n : ℕ) (bs : List ℕ) → length bs ≤ n → length (filled n bs) ≡ n
  -- the octets are what stands in front, and zeros stand past them
  pub held : (n : ℕ) (bs : List ℕ) → take (length bs) (filled n bs) ≡ bs
  pub padded : (n : ℕ) (bs : List ℕ) → drop (length bs) (filled n bs) ≡ replicate (n - length bs) 0
  -- no place reads otherwise for the zeros
  pub entries : (n : ℕ) (bs : List ℕ) (k : ℕ) → slice_index (filled n bs) k ≡ slice_index bs k
