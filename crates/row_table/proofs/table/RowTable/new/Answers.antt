use Rattle.std.proofs.Common.{◌-◌, length, take, ap, ◌∙◌, arith}
use Rattle.std.proofs.lemmas.List.{length-take, length-replicate}
use Rattle.store.specs.Records.{once}
use Rattle.store.specs.Rows.{records_in, unused}
use Rattle.store.proofs.Writes.{no_records, all_unused}
use Rattle.row_table.proofs.table.RowTable.new.Goals as goal

pub invariant_of-result : goal.invariant_of-result
invariant_of-result c =
    let part = take (c.min-n.result - 0) c.args.rows.now in
    let n = ap length c.free_all.ensures ∙ length-replicate (length part) _ ∙ length-take (c.min-n.result - 0) c.args.rows.now in
    record { few = omega (arith, n, c.min-n.ensures); apart = ap (λ ws. once (records_in ws)) c.free_all.ensures ∙ ap once (no_records (length part)) }

pub returns : goal.returns
returns c =
    let part = take (c.min-n.result - 0) c.args.rows.now in
    let n = ap unused c.free_all.ensures ∙ all_unused (length part) ∙ length-take (c.min-n.result - 0) c.args.rows.now in
    record { empty = ap records_in c.free_all.ensures ∙ no_records (length part); places = omega (arith, n, c.min-n.ensures) }
