-- Numbers as text.
use Rattle.std.specs.Prelude.{ℕ, ◌+◌, List, ◌++◌, codes, map}
use Rattle.octets.specs.Text.{octets_text}
use Rattle.numbers.specs.declared.address.GsnAddress.{GsnAddress}
use Rattle.numbers.specs.declared.address.GsnAddress.TheVariants.{Ipv4, Ipv6}

-- digits as text: the characters 0 to 9
abbrev pub digits_text : List ℕ → List ℕ
digits_text ds = map (λ d. 48 + d) ds

abbrev pub address_text : GsnAddress → List ℕ
address_text (Ipv4 bs) = codes "04 " ++ octets_text bs
address_text (Ipv6 bs) = codes "50 " ++ octets_text bs
