-- When codes are listed, and by which value.
use Rattle.std.proofs.Common.{◌≡◌, ℕ, Bool, true, false, List, length, Ok, Err, sym, refl, ap}
use denote.Struct.Record.{values_one}
use Rattle.std.proofs.lemmas.Bool.{true≢false}
use Rattle.octets.specs.Padding.{filled}
use Rattle.subscription.specs.contracts.code_list.CodeList.{struct, the_propositions}
use Rattle.subscription.specs.declared.code_list.CodeList.{CodeList}
use Rattle.subscription.specs.declared.profile.SubscriptionFault.TheVariants.{OutOfRange}
use Rattle.subscription.specs.Once.{listable}
use Rattle.subscription.specs.Codes.{listed, held, codes_of}

-- a list is known by its places and its count: what is proved of them adds nothing
same_fields : (l m : CodeList) → l.codes ≡ m.codes → l.len ≡ m.len → l ≡ m
same_fields l m p q = values_one struct the_propositions l m (λ i. (p i, (q i, tt)))

at_false : (cs : List ℕ) (b : Bool) (e : listable cs ≡ b) → b ≡ false → held cs b e ≡ Err OutOfRange
at_false cs true e h = absurd (true≢false h)
at_false cs false e h = refl

at_true : (cs : List ℕ) (b : Bool) (e : listable cs ≡ b) → b ≡ true → (l : CodeList) → l.codes ≡ filled 20 cs → l.len ≡ length cs → held cs b e ≡ Ok l
at_true cs false e h l p q = absurd (true≢false (sym h))
at_true cs true e h l p q = ap Ok (same_fields (listed cs e) l (sym p) (sym q))

pub refused : (cs : List ℕ) → false ≡ listable cs → Err OutOfRange ≡ codes_of cs
unfolding codes_of
refused cs e = sym (at_false cs (listable cs) refl (sym e))

pub value : (cs : List ℕ) (l : CodeList) → true ≡ listable cs → l.codes ≡ filled 20 cs → l.len ≡ length cs → Ok l ≡ codes_of cs
unfolding codes_of
value cs l e p q = sym (at_true cs (listable cs) refl (sym e) l p q)
