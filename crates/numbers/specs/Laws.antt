-- What holds of every number.
use Rattle.std.specs.Prelude.{◌≡◌, ℕ, cond, List, Some, None, Decides}
use Rattle.std.specs.Option.{option_map}
use Rattle.numbers.specs.declared.address.GsnAddress.{GsnAddress}
use Rattle.numbers.specs.declared.digits.Digits.{Digits}
use Rattle.numbers.specs.declared.imsi.Imsi.{Imsi}
use Rattle.numbers.specs.Packing.{unpacked, packed, digital}
use Rattle.numbers.specs.Digit.{digits_in, digits_of, same_digits}
use Rattle.numbers.specs.Number.{imsi_of, number_of, number_octets, address_of, address_octets}

pub record NumberLaws : Type 0 where
  -- a value of the type is there for just the lists of 1 to 15 digits, and holds the digits it is named by
  pub holds : (ds : List ℕ) → option_map digits_in (digits_of ds) ≡ cond (digital ds) (Some ds) None
  -- two values are equal exactly when their digits are
  pub same : (x y : Digits) → Decides (same_digits x y) (x ≡ y)
  pub same_imsi : (i j : Imsi) → Decides (same_digits i.digits j.digits) (i ≡ j)
  -- what is written is read back
  pub digits_read : (d : Digits) → digits_of (unpacked (packed (digits_in d))) ≡ Some d
  pub imsi_read : (i : Imsi) → imsi_of (packed (digits_in i.digits)) ≡ Some i
  pub number_read : (d : Digits) → number_of (number_octets d) ≡ Some d
  -- what is read is written back, octet for octet
  pub digits_written : (bs : List ℕ) (d : Digits) → digits_of (unpacked bs) ≡ Some d → packed (digits_in d) ≡ bs
  pub imsi_written : (bs : List ℕ) (i : Imsi) → imsi_of bs ≡ Some i → packed (digits_in i.digits) ≡ bs
  pub number_written : (bs : List ℕ) (d : Digits) → number_of bs ≡ Some d → number_octets d ≡ bs
  pub address_written : (bs : List ℕ) (a : GsnAddress) → address_of bs ≡ Some a → address_octets a ≡ bs
