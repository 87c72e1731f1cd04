-- Round trips: what is written is read back, and what is read is written back.
use Rattle.std.proofs.Common.{◌≡◌, ℕ, ◌+◌, ◌*◌, ◌/◌, ◌%◌, ◌≤◌, Bool, true, false, cond, ◌&&◌, eqb, leb, List, [], ◌∷◌, length, get_or, drop, Some, None, Option, sym, refl, ap, ◌∙◌, arith}
use Rattle.std.specs.Option.{option_map}
use Rattle.std.proofs.lemmas.Slice.Eq.{bytes_eq-Decides}
use Rattle.std.proofs.lemmas.Bool.{and_parts, leb-true, eqb-true, ne_eqb}
use Rattle.std.proofs.lemmas.Bool.Decides.{Decides-like}
use Rattle.octets.proofs.Filled.{laws as padding}
use Rattle.numbers.specs.declared.address.GsnAddress.{GsnAddress}
use Rattle.numbers.specs.declared.address.GsnAddress.TheVariants.{Ipv4, Ipv6}
use Rattle.numbers.specs.declared.digits.Digits.{Digits}
use Rattle.numbers.specs.declared.imsi.Imsi.{Imsi}
use Rattle.numbers.specs.Packing.{unpacked, packed, decimal, digital}
use Rattle.numbers.specs.Digit.{digits_in, digits_of, held, same_digits}
use Rattle.numbers.specs.Number.{and_then, long_imsi, imsi_holding, imsi_of, number_of, number_octets, address_of, address_octets}
use Rattle.numbers.specs.Laws.{NumberLaws}
use Rattle.numbers.proofs.Held.{same, value, all_decimal}
use Rattle.numbers.proofs.Numbered.{same_imsi, imsi_long}

at_held : (ds : List ℕ) (b : Bool) (e : digital ds ≡ b) → option_map digits_in (held ds b e) ≡ cond b (Some ds) None
at_held ds true e = ap Some (padding.held 15 ds)
at_held ds false e = refl

holds : (ds : List ℕ) → option_map digits_in (digits_of ds) ≡ cond (digital ds) (Some ds) None
unfolding digits_of
holds ds = at_held ds (digital ds) refl

-- one octet, from two digits and from one
two_low : (d e : ℕ) → d ≤ 9 → (d + 16 * e) % 16 ≡ d
two_low d e h = omega arith

two_high : (d e : ℕ) → d ≤ 9 → (d + 16 * e) / 16 ≡ e
two_high d e h = omega arith

last : (d e : ℕ) → d ≤ 9 → unpacked ((d + 16 * e) ∷ []) ≡ d ∷ cond (eqb e 15) [] (e ∷ [])
last d e h =
    ap (λ l. l ∷ cond (eqb ((d + 16 * e) / 16) 15) [] ((d + 16 * e) / 16 ∷ [])) (two_low d e h) ∙ ap (λ x. d ∷ cond (eqb x 15) [] (x ∷ [])) (two_high d e h)

head : (d e c : ℕ) (bs : List ℕ) → d ≤ 9 → unpacked ((d + 16 * e) ∷ c ∷ bs) ≡ d ∷ e ∷ unpacked (c ∷ bs)
head d e c bs h = ap (λ l. l ∷ (d + 16 * e) / 16 ∷ unpacked (c ∷ bs)) (two_low d e h) ∙ ap (λ x. d ∷ x ∷ unpacked (c ∷ bs)) (two_high d e h)

first : (d : ℕ) (ds : List ℕ) → decimal (d ∷ ds) ≡ true → (d ≤ 9) × (decimal ds ≡ true)
first d ds e = let p = and_parts (leb d 9) (decimal ds) e in (leb-true d 9 p.0, p.1)

unpacked_packed : (ds : List ℕ) → decimal ds ≡ true → unpacked (packed ds) ≡ ds
unpacked_packed [] e = refl
unpacked_packed (c ∷ []) e = last c 15 (first c [] e).0
unpacked_packed (c ∷ d ∷ []) e =
    let p = first c (d ∷ []) e in
    let q = first d [] p.1 in
    let n : eqb d 15 ≡ false = ne_eqb d 15 (λ h. omega arith) in
    last c d p.0 ∙ ap (λ v. c ∷ cond v [] (d ∷ [])) n
unpacked_packed (c ∷ d ∷ f ∷ []) e =
    let p = first c (d ∷ f ∷ []) e in
    head c d (f + 240) [] p.0 ∙ ap (λ l. c ∷ d ∷ l) (unpacked_packed (f ∷ []) (first d (f ∷ []) p.1).1)
unpacked_packed (c ∷ d ∷ f ∷ g ∷ ds) e =
    let p = first c (d ∷ f ∷ g ∷ ds) e in
    head c d (f + 16 * g) (packed ds) p.0 ∙ ap (λ l. c ∷ d ∷ l) (unpacked_packed (f ∷ g ∷ ds) (first d (f ∷ g ∷ ds) p.1).1)

one_octet : (b : ℕ) (v : Bool) → eqb (b / 16) 15 ≡ v → packed (b % 16 ∷ cond v [] (b / 16 ∷ [])) ≡ b ∷ []
one_octet b true e = let h = eqb-true (b / 16) 15 e in let n : b % 16 + 16 * 15 ≡ b = omega arith in ap (λ x. x ∷ []) n
one_octet b false e = let n : b % 16 + 16 * (b / 16) ≡ b = omega arith in ap (λ x. x ∷ []) n

packed_unpacked : (bs : List ℕ) → packed (unpacked bs) ≡ bs
packed_unpacked [] = refl
packed_unpacked (b ∷ []) = one_octet b (eqb (b / 16) 15) refl
packed_unpacked (b ∷ c ∷ bs) =
    let n : b % 16 + 16 * (b / 16) ≡ b = omega arith in
    ap (λ l. (b % 16 + 16 * (b / 16)) ∷ l) (packed_unpacked (c ∷ bs)) ∙ ap (λ x. x ∷ c ∷ bs) n

digits_read : (d : Digits) → digits_of (unpacked (packed (digits_in d))) ≡ Some d
digits_read d = ap digits_of (unpacked_packed (digits_in d) (all_decimal (digits_in d) d.digital)) ∙ value (digits_in d) d.digital d refl

-- which digits a value was named by
named : (ds : List ℕ) (d : Digits) → digits_of ds ≡ Some d → digits_in d ≡ ds
named ds d e = from (digital ds) (ap (option_map digits_in) (sym e) ∙ holds ds)
  where
    from : (b : Bool) → Some (digits_in d) ≡ cond b (Some ds) None → digits_in d ≡ ds
    from true h = cc
    from false h = let z : ◌≡◌ {A = ℕ} 0 1 = cc in absurd (omega arith)

digits_written : (bs : List ℕ) (d : Digits) → digits_of (unpacked bs) ≡ Some d → packed (digits_in d) ≡ bs
digits_written bs d e = ap packed (named (unpacked bs) d e) ∙ packed_unpacked bs

at_imsi : (d : Digits) (b : Bool) (e : leb 5 d.len ≡ b) (i : Imsi) → long_imsi d b e ≡ Some i → d ≡ i.digits
at_imsi d true e i h = let p : record { digits = d; long = leb-true 5 d.len e } ≡ i = cc in ap (λ j. j.digits) p
at_imsi d false e i h = let z : ◌≡◌ {A = ℕ} 0 1 = cc in absurd (omega arith)

from_imsi : (o : Option Digits) (i : Imsi) → and_then o imsi_holding ≡ Some i → o ≡ Some i.digits
from_imsi None i e = let z : ◌≡◌ {A = ℕ} 0 1 = cc in absurd (omega arith)
from_imsi (Some d) i e = ap Some (at_imsi d (leb 5 d.len) refl i e)

imsi_written : (bs : List ℕ) (i : Imsi) → imsi_of bs ≡ Some i → packed (digits_in i.digits) ≡ bs
unfolding imsi_of
imsi_written bs i e = digits_written bs i.digits (from_imsi (digits_of (unpacked bs)) i e)

number_read : (d : Digits) → number_of (number_octets d) ≡ Some d
unfolding number_of
number_read d = digits_read d

from_number : (bs : List ℕ) (v : Bool) (d : Digits) → eqb (get_or bs 0 0) 0x91 ≡ v → cond v (digits_of (unpacked (drop 1 bs))) None ≡ Some d → number_octets d ≡ bs
from_number bs false d h e = let z : ◌≡◌ {A = ℕ} 0 1 = cc in absurd (omega arith)
from_number [] true d h e = let n = eqb-true 0 0x91 h in absurd (omega arith)
from_number (b ∷ bs) true d h e = ap (λ l. 0x91 ∷ l) (digits_written bs d e) ∙ ap (λ x. x ∷ bs) (sym (eqb-true b 0x91 h))

number_written : (bs : List ℕ) (d : Digits) → number_of bs ≡ Some d → number_octets d ≡ bs
unfolding number_of
number_written bs d e = from_number bs (eqb (get_or bs 0 0) 0x91) d refl e

from_address : (b : ℕ) (bs : List ℕ) (u v : Bool) (a : GsnAddress) → (eqb b 0x04 && eqb (length (b ∷ bs)) 5) ≡ u → (eqb b 0x50 && eqb (length (b ∷ bs)) 17) ≡ v → cond u (Some (Ipv4 bs)) (cond v (Some (Ipv6 bs)) None) ≡ Some a → address_octets a ≡ b ∷ bs
from_address b bs true v a h g e =
    let p : Ipv4 bs ≡ a = cc in
    ap address_octets (sym p) ∙ ap (λ x. x ∷ bs) (sym (eqb-true b 0x04 (and_parts (eqb b 0x04) (eqb (length (b ∷ bs)) 5) h).0))
from_address b bs false true a h g e =
    let p : Ipv6 bs ≡ a = cc in
    ap address_octets (sym p) ∙ ap (λ x. x ∷ bs) (sym (eqb-true b 0x50 (and_parts (eqb b 0x50) (eqb (length (b ∷ bs)) 17) g).0))
from_address b bs false false a h g e = let z : ◌≡◌ {A = ℕ} 0 1 = cc in absurd (omega arith)

address_written : (bs : List ℕ) (a : GsnAddress) → address_of bs ≡ Some a → address_octets a ≡ bs
address_written [] a e = let z : ◌≡◌ {A = ℕ} 0 1 = cc in absurd (omega arith)
address_written (b ∷ bs) a e = from_address b bs (eqb b 0x04 && eqb (length (b ∷ bs)) 5) (eqb b 0x50 && eqb (length (b ∷ bs)) 17) a refl refl e

pub laws : NumberLaws
laws = record {
  holds = holds;
  same = λ x y. Decides-like (same_digits x y) (same x y) (ap digits_in) (bytes_eq-Decides (digits_in x) (digits_in y));
  same_imsi = λ i j. Decides-like (same_digits i.digits j.digits) (λ h. same_imsi i j (same i.digits j.digits h)) (ap (λ k. digits_in k.digits)) (bytes_eq-Decides (digits_in i.digits) (digits_in j.digits));
  digits_read = digits_read;
  imsi_read = λ i. sym (imsi_long (packed (digits_in i.digits)) i.digits i (sym (digits_read i.digits)) refl);
  number_read = number_read;
  digits_written = digits_written;
  imsi_written = imsi_written;
  number_written = number_written;
  address_written = address_written;
}
