use Rattle.std.proofs.Common.{◌≡◌, suc, ◌-◌, Some, ap, ◌∙◌, arith}
use Rattle.std.specs.List.{slice_get}
use Rattle.subscription.specs.Codes.{codes_in}
use Rattle.side.specs.Download.{download, insert_at, later}
use Rattle.side.proofs.download.insert.Goals as goal

pub returns-in-1 : goal.returns-in-1
unfolding download
returns-in-1 g c =
    let n : 1 ≡ c.args.id = omega arith in
    ap Some c.first.ensures ∙ ap (insert_at (download g.D.Side.meaning c.args.imsi c.args.profile.now)) n

pub returns-in_default : goal.returns-in_default
unfolding download
returns-in_default g c =
    let p = c.args.profile.now in
    let k = c.args.id - 2 in
    let n : suc (suc k) ≡ c.args.id = omega arith in
    c.later_insert.ensures ∙ ap (λ b. slice_get (later b (codes_in p.teleservices)) k) c.bearers.ensures
    ∙ ap (insert_at (download g.D.Side.meaning c.args.imsi p)) n
