use Rattle.std.proofs.Common.{◌≡◌, cond, [], ◌∷◌, ◌++◌, length, Ok, Err, sym, ap, ◌∙◌, arith}
use Rattle.std.proofs.lemmas.List.{length-take-le, take_more_set}
use Rattle.std.proofs.lemmas.Bool.{lt-ltb}
use Rattle.roaming.specs.declared.entry.RoamFault.TheVariants.{ListFull}
use Rattle.roaming.specs.Roaming.{added, after, answer, entries_in}
use Rattle.roaming.proofs.roaming_list.RoamingList.roam.Goals as goal

pub returns : goal.returns
returns c =
    let l = c.args.self.now in
    let es = entries_in l in
    let e = c.in_ok-entry.entry in
    let w = l.whole in
    let n : length es ≡ l.len = length-take-le l.len l.entries (omega arith) in
    let told = ap (added es) (sym c.in_ok-entry.ensures) ∙ ap (λ b. cond b (Ok (es ++ e ∷ [])) (Err ListFull)) (lt-ltb (length es) 32 (omega arith)) in
    record { result = sym (ap answer told); list = take_more_set l.entries l.len e (omega arith) ∙ sym (ap (λ r. after r es) told) }
