use Rattle.std.proofs.Common.{arith, ◌∙◌, ap, sym, length, rules}
use Rattle.std.proofs.lemmas.Slice.{drop-put_mid}
use Rattle.std.proofs.lemmas.List.{length-take-le}
use Rattle.octets.specs.Padding.{zeros_past}
use Rattle.octets.proofs.list.Octets.try_extend_from_slice.Goals as goal

pub invariant_of-self : goal.invariant_of-self
invariant_of-self g c =
    let held = sym (length-take-le c.self.inside.len c.self.inside.held (omega (arith, c.self.invariant.0, c.self.invariant.1))) ∙ ap length c.self.view_is in
    let copied = ap length c.copy_from_slice.ensures.after in
    (search rules, omega (arith, held), drop-put_mid c.self.inside.len _ c.self.inside.held c.copy_from_slice.new.self _ (omega arith) (omega (arith, c.self.invariant.0, c.self.invariant.1)) (copied ∙ omega arith) ∙ zeros_past g.row.N c.self.inside.len (length c.args.more.now) c.self.inside.held c.self.invariant.2)
