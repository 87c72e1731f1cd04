use Rattle.std.proofs.Common.{arith, ap, sym, ◌∙◌, ◌+◌, length}
use Rattle.std.proofs.lemmas.List.{drop-set-lt, length-set, length-take-le}
use Rattle.octets.specs.Padding.{zeros_past}
use Rattle.octets.proofs.list.Octets.try_push.Goals as goal

pub invariant_of-self : goal.invariant_of-self
invariant_of-self g c =
    let held = sym (length-take-le c.self.inside.len c.self.inside.held (omega (arith, c.self.invariant.0, c.self.invariant.1))) ∙ ap length c.self.view_is in (
      length-set c.self.inside.held c.self.inside.len c.args.octet ∙ c.self.invariant.0,
      omega (arith, held),
      drop-set-lt (c.self.inside.len + 1) c.self.inside.held c.self.inside.len c.args.octet (omega arith) ∙ zeros_past g.row.N c.self.inside.len 1 c.self.inside.held c.self.invariant.2,
    )
