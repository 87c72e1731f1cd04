use Rattle.std.proofs.Common.{sym, ap, ◌∙◌}
use Rattle.store.specs.Calls.{imsi_found}
use Rattle.store.specs.Rows.{records_in}
use Rattle.store.proofs.Writes.{find_some, find_none, found_keyed}
use Rattle.row_table.proofs.table.RowTableStore.find.Goals as goal

pub returns-in_err-at-clause-found : goal.returns-in_err-at-clause-found
returns-in_err-at-clause-found c = let none = find_none c.args.self.now.rows.now c.args.imsi.now (sym c.known.ensures ∙ c.in_err-at.was) in cc

pub returns-clause-found : goal.returns-clause-found
returns-clause-found c = find_some c.args.self.now.rows.now c.args.imsi.now c.in_ok-at.at _ c.args.self.now.apart (sym c.known.ensures ∙ c.in_ok-at.was)

pub returns-clause-keyed : goal.returns-clause-keyed
returns-clause-keyed c =
    let found = find_some c.args.self.now.rows.now c.args.imsi.now c.in_ok-at.at c.index-self-at.result c.args.self.now.apart (sym c.known.ensures ∙ c.in_ok-at.was) in
    ap (λ o. imsi_found o c.args.imsi.now) found ∙ found_keyed (records_in c.args.self.now.rows.now) c.args.imsi.now
