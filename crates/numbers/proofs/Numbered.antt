-- Numbers read from octets.
use Rattle.std.proofs.Common.{◌≡◌, ℕ, ◌-◌, ◌<◌, Bool, true, false, leb, List, length, get_or, take, drop, Some, None, sym, refl, ap, ◌∙◌, arith}
use denote.Struct.Record.{values_one}
use Rattle.std.proofs.lemmas.List.{take_rest}
use Rattle.std.proofs.lemmas.Bool.{leb-true, leb-false}
use Rattle.std.proofs.lemmas.Bool.Decides.{nat_tests}
use Rattle.numbers.specs.contracts.digits.Digits.{the_row}
use Rattle.numbers.specs.contracts.imsi.Imsi.{struct, the_propositions}
use Rattle.numbers.specs.declared.digits.Digits.{Digits}
use Rattle.numbers.specs.declared.imsi.Imsi.{Imsi}
use Rattle.numbers.specs.Packing.{unpacked}
use Rattle.numbers.specs.Digit.{digits_of}
use Rattle.numbers.specs.Number.{and_then, long_imsi, imsi_holding, imsi_of, number_of}

pub same_imsi : (i j : Imsi) → i.digits ≡ j.digits → i ≡ j
same_imsi i j p = values_one struct (the_propositions the_row.coded) i j (λ k. (p k, tt))

at_long : (d : Digits) (b : Bool) (e : leb 5 d.len ≡ b) (i : Imsi) → i.digits ≡ d → long_imsi d b e ≡ Some i
at_long d true e i p = ap Some (same_imsi _ i (sym p))
at_long d false e i p =
    let s = leb-false 5 d.len e in
    let l = i.long in
    let n : i.digits.len ≡ d.len = ap (λ x. x.len) p in absurd (omega arith)

at_short : (d : Digits) (b : Bool) (e : leb 5 d.len ≡ b) → d.len < 5 → long_imsi d b e ≡ None
at_short d true e h = let l = leb-true 5 d.len e in absurd (omega arith)
at_short d false e h = refl

pub imsi_long : (bs : List ℕ) (d : Digits) (i : Imsi) → Some d ≡ digits_of (unpacked bs) → i.digits ≡ d → Some i ≡ imsi_of bs
unfolding imsi_of
imsi_long bs d i e p = sym (at_long d (leb 5 d.len) refl i p) ∙ ap (λ o. and_then o imsi_holding) e

pub imsi_short : (bs : List ℕ) (d : Digits) → Some d ≡ digits_of (unpacked bs) → d.len < 5 → None ≡ imsi_of bs
unfolding imsi_of
imsi_short bs d e h = sym (at_short d (leb 5 d.len) refl h) ∙ ap (λ o. and_then o imsi_holding) e

pub imsi_none : (bs : List ℕ) → None ≡ digits_of (unpacked bs) → None ≡ imsi_of bs
unfolding imsi_of
imsi_none bs e = ap (λ o. and_then o imsi_holding) e

pub number_at : (bs : List ℕ) → get_or bs 0 0 ≡ 0x91 → digits_of (unpacked (take (length bs - 1) (drop 1 bs))) ≡ number_of bs
unfolding number_of
number_at bs e = ap (λ l. digits_of (unpacked l)) (take_rest bs 1) ∙ grind (arith, nat_tests)
