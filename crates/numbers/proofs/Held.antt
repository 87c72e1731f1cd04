-- When digits are held, and by which value.
use Rattle.std.proofs.Common.{◌≡◌, ℕ, zero, suc, ◌-◌, ◌<◌, ◌≤◌, Bool, true, false, leb, List, [], ◌∷◌, ◌++◌, length, get_or, replicate, Some, None, sym, refl, ap, ◌∙◌, arith, take-append-drop}
use denote.Struct.Record.{values_one}
use Rattle.std.proofs.lemmas.List.{length-append, length-take-le}
use Rattle.std.proofs.lemmas.Bool.{true≢false, and_left, and_right, and_from, and_parts, lt-leb, le-leb, leb-true}
use Rattle.octets.specs.Padding.{filled}
use Rattle.octets.proofs.Filled.{laws}
use Rattle.numbers.specs.contracts.digits.Digits.{struct, the_propositions}
use Rattle.numbers.specs.declared.digits.Digits.{Digits}
use Rattle.numbers.specs.Packing.{decimal, digital}
use Rattle.numbers.specs.Digit.{digits_in, holding, held, digits_of}

pub same_fields : (d e : Digits) → d.digits ≡ e.digits → d.len ≡ e.len → d ≡ e
same_fields d e p q = values_one struct the_propositions d e (λ i. (p i, (q i, tt)))

pub count : (d : Digits) → length (digits_in d) ≡ d.len
count d = let w = d.whole in let f = d.few in length-take-le d.len d.digits (omega arith)

places : (d : Digits) → d.digits ≡ filled 15 (digits_in d)
places d = sym (take-append-drop d.len d.digits) ∙ ap (λ l. digits_in d ++ l) d.padded ∙ ap (λ n. digits_in d ++ replicate (15 - n) 0) (sym (count d))

-- two values with the same digits are one
pub same : (d e : Digits) → digits_in d ≡ digits_in e → d ≡ e
same d e h = same_fields d e (places d ∙ ap (filled 15) h ∙ sym (places e)) (sym (count d) ∙ ap length h ∙ count e)

-- what 1 to 15 digits are
pub some : (ds : List ℕ) → digital ds ≡ true → 1 ≤ length ds
some ds e = leb-true 1 (length ds) (and_parts (leb 1 (length ds)) (leb (length ds) 15) (and_parts (decimal ds) _ e).1).0

pub all_decimal : (ds : List ℕ) → digital ds ≡ true → decimal ds ≡ true
all_decimal ds e = (and_parts (decimal ds) _ e).0

pub digital_from : (ds : List ℕ) → decimal ds ≡ true → 1 ≤ length ds → length ds ≤ 15 → digital ds ≡ true
digital_from ds e h g = and_from (decimal ds) _ e (and_from (leb 1 (length ds)) (leb (length ds) 15) (le-leb 1 (length ds) h) (le-leb (length ds) 15 g))

pub each : (ds : List ℕ) → decimal ds ≡ true → (k : ℕ) → get_or ds k 0 ≤ 9
each [] e k = omega arith
each (d ∷ ds) e zero = leb-true d 9 (and_parts (leb d 9) (decimal ds) e).0
each (d ∷ ds) e (suc k) = each ds (and_parts (leb d 9) (decimal ds) e).1 k

-- the value of digits
at_true : (ds : List ℕ) (b : Bool) (e : digital ds ≡ b) → b ≡ true → (d : Digits) → digits_in d ≡ ds → held ds b e ≡ Some d
at_true ds false e h d p = absurd (true≢false (sym h))
at_true ds true e h d p = ap Some (same (holding ds e) d (laws.held 15 ds ∙ sym p))

pub value : (ds : List ℕ) → digital ds ≡ true → (d : Digits) → digits_in d ≡ ds → digits_of ds ≡ Some d
unfolding digits_of
value ds e d p = at_true ds (digital ds) refl e d p

pub value_of : (ds : List ℕ) (d : Digits) → digits_in d ≡ ds → Some d ≡ digits_of ds
value_of ds d p = sym (value ds (ap digital (sym p) ∙ d.digital) d p)

at_false : (ds : List ℕ) (b : Bool) (e : digital ds ≡ b) → b ≡ false → held ds b e ≡ None
at_false ds true e h = absurd (true≢false h)
at_false ds false e h = refl

pub none : (ds : List ℕ) → digital ds ≡ false → digits_of ds ≡ None
unfolding digits_of
none ds e = at_false ds (digital ds) refl e

-- too few, too many, or one above 9
pub none_of_none : digits_of [] ≡ None
none_of_none = none [] refl

pub none_above : (ds : List ℕ) → 15 < length ds → digits_of ds ≡ None
none_above ds h = none ds (and_right (decimal ds) _ (and_right (leb 1 (length ds)) (leb (length ds) 15) (lt-leb (length ds) 15 h)))

not_decimal : (ds : List ℕ) (d : ℕ) (es : List ℕ) → 9 < d → decimal (ds ++ d ∷ es) ≡ false
not_decimal [] d es h = and_left (leb d 9) (decimal es) (lt-leb d 9 h)
not_decimal (c ∷ ds) d es h = and_right (leb c 9) (decimal (ds ++ d ∷ es)) (not_decimal ds d es h)

pub none_wrong : (ds : List ℕ) (d : ℕ) (es : List ℕ) → 9 < d → digits_of (ds ++ d ∷ es) ≡ None
none_wrong ds d es h = none (ds ++ d ∷ es) (and_left (decimal (ds ++ d ∷ es)) _ (not_decimal ds d es h))

-- one digit more
pub decimal_push : (ds : List ℕ) (d : ℕ) → decimal ds ≡ true → d ≤ 9 → decimal (ds ++ d ∷ []) ≡ true
decimal_push [] d e h = and_from (leb d 9) true (le-leb d 9 h) refl
decimal_push (c ∷ ds) d e h =
    let p = and_parts (leb c 9) (decimal ds) e in
    and_from (leb c 9) (decimal (ds ++ d ∷ [])) p.0 (decimal_push ds d p.1 h)

-- one digit more, where there is room
pub digital_push : (ds : List ℕ) (d : ℕ) (es : List ℕ) → es ≡ ds ++ d ∷ [] → decimal ds ≡ true → (d ≤ 9) × (length ds < 15) → digital es ≡ true
digital_push ds d es e h room =
    ap digital e ∙ (let n = length-append ds (d ∷ []) in digital_from (ds ++ d ∷ []) (decimal_push ds d h room.0) (omega arith) (let m = room.1 in omega arith))
