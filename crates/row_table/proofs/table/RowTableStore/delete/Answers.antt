use Rattle.std.proofs.Common.{true, length, None, sym, ap, subst, ◌∙◌, arith}
use Rattle.std.proofs.lemmas.List.{length-set}
use Rattle.store.specs.Calls.{Deleted}
use Rattle.store.specs.Records.{once, record_of}
use Rattle.store.specs.Rows.{records_in, unused}
use Rattle.store.proofs.Writes.{delete_at, delete_none}
use Rattle.row_table.proofs.table.RowTableStore.delete.Goals as goal

pub invariant_of-self : goal.invariant_of-self
invariant_of-self c =
    let p = delete_at c.args.self.now.rows.now c.in-Some.at c.args.imsi.now c.args.self.now.apart (sym c.known.ensures ∙ c.in-Some.is) in
    record { few = omega (arith, ap length c.write.ensures ∙ length-set c.args.self.now.rows.now c.in-Some.at None, c.args.self.now.few); apart = ap (λ ws. once (records_in ws)) c.write.ensures ∙ p.0 }

pub returns-in-Some : goal.returns-in-Some
returns-in-Some c =
    let ws = c.args.self.now.rows.now in
    subst (λ vs. Deleted (record_of (records_in ws)) (unused ws) c.args.imsi.now true (record_of (records_in vs)) (unused vs)) (sym c.write.ensures)
    (delete_at ws c.in-Some.at c.args.imsi.now c.args.self.now.apart (sym c.known.ensures ∙ c.in-Some.is)).1

pub returns-in-None : goal.returns-in-None
returns-in-None c = delete_none c.args.self.now.rows.now c.args.imsi.now (sym c.known.ensures ∙ c.in-None.is)
