use Rattle.std.proofs.Common.{ℕ, ◌*◌, ◌<◌, [], ◌∷◌, ◌++◌, length, get_or, take, sym, ap, ◌∙◌, append-nil, append_assoc, arith}
use Rattle.std.proofs.lemmas.List.{flat_map_more, take_more, take_all}
use Rattle.message.specs.Writing.{coded, codes_in, written}
use Rattle.message.proofs.Codes.{long}
use Rattle.message.proofs.message.Message.put_codes.Goals as goal

pub loop-code-init : goal.loop-code-init
unfolding codes_in
loop-code-init c = (omega arith, omega arith, c.head.ensures.more ∙ sym (append-nil (written c.args.self.now ++ c.args.tag ∷ 3 * length c.args.codes.now ∷ [])))

pub loop-code-preserved : goal.loop-code-preserved
unfolding codes_in
loop-code-preserved c =
    let cs = c.args.codes.now in
    let w = written c.args.self.now ++ c.args.tag ∷ 3 * length cs ∷ [] in
    let i = c.loop-code.code-index in
    let h : i < length cs = omega arith in
    let x = get_or cs i 0 in
    (omega arith, omega arith, c.put.ensures.more ∙ ap (λ l. l ++ coded 4 (x ∷ [])) c.loop-code.invariant.2 ∙ flat_map_more (λ (n : ℕ). coded 4 (n ∷ [])) w (take i cs) x ∙ ap (λ l. w ++ codes_in l) (sym (take_more cs i 0 h)))

pub returns : goal.returns
returns c =
    let cs = c.args.codes.now in
    let w = written c.args.self.now in
    let head = c.args.tag ∷ 3 * length cs ∷ [] in
    record {
      more = c.loop-code.invariant.2 ∙ ap (λ l. (w ++ head) ++ codes_in l) (take_all c.loop-code.code-index cs (omega arith))
          ∙ append_assoc w head (codes_in cs) ∙ ap (λ n. w ++ c.args.tag ∷ n ∷ codes_in cs) (sym (long cs));
      size = omega arith;
    }
