-- Values of the type CodeList.
use Rattle.std.specs.Prelude.{◌≡◌, ℕ, ◌≤◌, Bool, true, false, List, length, take, nat_le, Ok, Err, Result, refl}
use Rattle.std.proofs.Common.{ap, ◌∙◌}
use Rattle.std.proofs.lemmas.Bool.{leb-true, and_parts}
use Rattle.octets.specs.Padding.{filled}
use Rattle.octets.proofs.Filled.{laws}
use Rattle.subscription.specs.declared.code_list.CodeList.{CodeList}
use Rattle.subscription.specs.declared.profile.SubscriptionFault.{SubscriptionFault}
use Rattle.subscription.specs.declared.profile.SubscriptionFault.TheVariants.{OutOfRange}
use Rattle.subscription.specs.Once.{listable, once}

-- the codes that a list holds, in their order
abbrev pub codes_in : CodeList → List ℕ
codes_in l = take l.len l.codes

-- as many codes as have places
pub few : (cs : List ℕ) → listable cs ≡ true → length cs ≤ 20
few cs e = leb-true (length cs) 20 (and_parts (nat_le (length cs) 20) (once cs) e).0

-- the list of these codes: twenty places hold them, then zeros; after the places and the count stand proofs, which a reader need not believe
abbrev pub listed : (cs : List ℕ) → listable cs ≡ true → CodeList
listed cs e = record {
  codes = filled 20 cs;
  len = length cs;
  whole = laws.whole 20 cs (few cs e);
  few = few cs e;
  apart = ap once (laws.held 20 cs) ∙ (and_parts (nat_le (length cs) 20) (once cs) e).1;
  padded = laws.padded 20 cs;
}

abbrev pub held : (cs : List ℕ) (b : Bool) → listable cs ≡ b → Result CodeList SubscriptionFault
held cs true e = Ok (listed cs e)
held cs false e = Err OutOfRange

-- the list of these codes, if they are up to 20 and none stands twice
unfoldable pub codes_of : List ℕ → Result CodeList SubscriptionFault
codes_of cs = held cs (listable cs) refl
