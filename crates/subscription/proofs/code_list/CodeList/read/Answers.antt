use Rattle.std.proofs.Common.{length, take, drop, sym, refl, ap, ◌∙◌}
use Rattle.std.specs.Prelude.{nat_le}
use Rattle.std.proofs.lemmas.Bool.{and_parts}
use Rattle.octets.proofs.Filled.{copied, laws}
use Rattle.subscription.specs.Once.{once}
use Rattle.subscription.specs.Codes.{few}
use Rattle.subscription.proofs.Held.{refused, value}
use Rattle.subscription.proofs.code_list.CodeList.read.Goals as goal

pub returns-then-not-are_listable : goal.returns-then-not-are_listable
returns-then-not-are_listable c = refused c.args.octets.now c.if-not-are_listable.ensures

pub invariant_of-result : goal.invariant_of-result
invariant_of-result c =
    let cs = c.args.octets.now in
    let l = sym c.if-not-are_listable.ensures in
    let e = copied 20 cs c.copy_from_slice.new.self c.copy_from_slice.ensures.after in
    record {
      whole = ap length e ∙ laws.whole 20 cs (few cs l);
      few = few cs l;
      apart = ap (λ x. once (take (length cs) x)) e ∙ ap once (laws.held 20 cs) ∙ (and_parts (nat_le (length cs) 20) (once cs) l).1;
      padded = ap (drop (length cs)) e ∙ laws.padded 20 cs;
    }

pub returns : goal.returns
returns c =
    let cs = c.args.octets.now in
    let e = copied 20 cs c.copy_from_slice.new.self c.copy_from_slice.ensures.after in
    value cs _ c.if-not-are_listable.ensures e refl
