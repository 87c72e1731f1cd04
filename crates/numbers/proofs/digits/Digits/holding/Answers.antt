use Rattle.std.proofs.Common.{◌-◌, length, take, drop, replicate, sym, ap, ◌∙◌}
use Rattle.octets.proofs.Filled.{laws}
use Rattle.numbers.specs.Packing.{digital}
use Rattle.numbers.specs.Digit.{few}
use Rattle.numbers.proofs.Held.{value_of}
use Rattle.numbers.proofs.digits.Digits.holding.Goals as goal

pub invariant_of-result : goal.invariant_of-result
invariant_of-result c =
    let ds = c.args.digits.now in
    let held = c.to_array.result in
    let e = c.to_array.ensures in
    let n = c.len.ensures.count in
    record {
      whole = ap length e ∙ laws.whole 15 ds (few ds c.requires);
      few = c.len.ensures.few;
      digital = ap (λ k. digital (take k held)) n ∙ ap (λ l. digital (take (length ds) l)) e ∙ ap digital (laws.held 15 ds) ∙ c.requires;
      padded = ap (λ k. drop k held) n ∙ ap (drop (length ds)) e ∙ laws.padded 15 ds ∙ ap (λ k. replicate (15 - k) 0) (sym n);
    }

pub returns : goal.returns
returns c =
    let ds = c.args.digits.now in
    value_of ds _ (ap (λ k. take k c.to_array.result) c.len.ensures.count ∙ ap (take (length ds)) c.to_array.ensures ∙ laws.held 15 ds)
