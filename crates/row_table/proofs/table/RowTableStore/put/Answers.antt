use Rattle.std.proofs.Common.{true, length, sym, ap, subst, ◌∙◌, arith}
use Rattle.std.proofs.lemmas.List.{length-set}
use Rattle.store.specs.Calls.{Put}
use Rattle.store.specs.Records.{once, record_of}
use Rattle.store.specs.Rows.{records_in, unused}
use Rattle.store.proofs.Writes.{put_at, put_full}
use Rattle.row_table.proofs.table.RowTableStore.put.Goals as goal

pub returns-in-None : goal.returns-in-None
returns-in-None c = put_full c.args.self.now.rows.now c.args.subscriber (sym c.slot.ensures ∙ c.in-None.is)

pub invariant_of-self : goal.invariant_of-self
invariant_of-self c =
    let p = put_at c.args.self.now.rows.now c.in-Some.at c.args.subscriber c.args.self.now.apart (sym c.slot.ensures ∙ c.in-Some.is) in
    record { few = omega (arith, ap length c.write.ensures ∙ length-set c.args.self.now.rows.now c.in-Some.at _, c.args.self.now.few); apart = ap (λ ws. once (records_in ws)) c.write.ensures ∙ p.0 }

pub returns-in-Some : goal.returns-in-Some
returns-in-Some c =
    let ws = c.args.self.now.rows.now in
    subst (λ vs. Put (record_of (records_in ws)) (unused ws) c.args.subscriber true (record_of (records_in vs)) (unused vs)) (sym c.write.ensures)
    (put_at ws c.in-Some.at c.args.subscriber c.args.self.now.apart (sym c.slot.ensures ∙ c.in-Some.is)).1
