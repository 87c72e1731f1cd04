use Rattle.std.proofs.Common.{◌∙◌, ap, sym}
use Rattle.octets.specs.Padding.{filled, refilled}
use Rattle.octets.proofs.list.Octets.to_array.Goals as goal

pub returns : goal.returns
returns g c =
    ap (λ p. p.0) (sym (refilled g.row.N c.self.inside.len c.self.inside.held c.self.invariant.0 c.self.invariant.1 c.self.invariant.2))
    ∙ ap (filled g.row.N) c.self.view_is
