use Rattle.std.proofs.Common.{◌≡◌, ◌<◌, ◌-◌, ◌+◌, ◌∷◌, ◌∙◌, suc, None, Some, drop, drop-cons, take, length, replicate, is_some, false, ap, refl, arith, rules}
use Rattle.std.proofs.lemmas.Bool.{true≢false}
use Rattle.std.proofs.lemmas.List.{length-take-le, replicate-append-replicate}
use Rattle.store.specs.Rows.{Row}
use Rattle.row_table.proofs.writing.free_all.Goals as goal

none_held : (row : Row) → is_some row ≡ false → row ≡ None
none_held None _ = refl
none_held (Some _) e = absurd (true≢false e)

pub loop-used-preserved : goal.loop-used-preserved
loop-used-preserved c =
    let rows = c.args.rows.now in
    let used = c.loop-used.used in
    let row = c.index-rows-used.result in
    let within : used - 1 < length rows = omega (arith, c.loop-used.invariant.0, c.loop-used-test.true) in
    let next : suc (used - 1) ≡ used = omega (arith, c.loop-used-test.true) in
    let more : suc (length rows - used) ≡ length rows - (used - 1) = omega (arith, c.loop-used.invariant.0, c.loop-used-test.true) in (
      omega (arith, within),
      drop-cons rows (used - 1) row within
          ∙ ap (λ x. x ∷ drop (suc (used - 1)) rows) (none_held _ c.if-is_none.ensures)
          ∙ ap (λ n. None ∷ drop n rows) next
          ∙ ap (λ xs. None ∷ xs) c.loop-used.invariant.1
          ∙ ap (λ n. replicate n None) more,
    )

pub returns : goal.returns
returns c =
    let rows = c.args.rows.now in
    let used = c.loop-used.used in
    let whole : used + (length rows - used) ≡ length rows = omega (arith, c.loop-used.invariant.0) in
    let filled : c.fill.new.self ≡ replicate (length (take used rows)) None = search rules in
    let front = filled ∙ ap (λ n. replicate n None) (length-take-le used rows c.loop-used.invariant.0) in
    rw (front, c.loop-used.invariant.1, replicate-append-replicate, whole)
