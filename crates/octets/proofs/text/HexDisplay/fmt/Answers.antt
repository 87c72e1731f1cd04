use Rattle.std.proofs.Common.{rules, ◌≡◌, ◌+◌, ◌-◌, ◌<◌, [], ◌∷◌, ◌++◌, length, get_or, take, drop, sym, ap, ◌∙◌, arith}
use Rattle.std.specs.List.{flat_map}
use Rattle.std.proofs.lemmas.List.{flat_map_more, take_more, take_all}
use Rattle.std.proofs.lemmas.Slice.{first_rest}
use Rattle.std.proofs.Output.{has_written_append, has_written_of_eq}
use Rattle.octets.specs.Text.{octet_text, octets_text}
use Rattle.octets.proofs.text.HexDisplay.fmt.Goals as goal

pub loop-octet-preserved : goal.loop-octet-preserved
loop-octet-preserved g c = λ p.
    let xs = c.args.self.now.0.now in
    let rest = take (length xs - 1) (drop 1 xs) in
    let i = c.loop-octet.octet-index in
    let others = flat_map (λ b. 32 ∷ octet_text b) in
    let more : others (take i rest) ++ 32 ∷ octet_text (get_or rest i 0) ≡ others (take (i + 1) rest) =
    flat_map_more (λ b. 32 ∷ octet_text b) [] (take i rest) (get_or rest i 0) ∙ ap others (sym (take_more rest i 0 (omega arith))) in
    has_written_of_eq _ _ _ _ _ more (has_written_append _ _ _ _ _ _ (c.loop-octet.invariant p) (search rules))

pub returns-clause-writes : goal.returns-clause-writes
returns-clause-writes g c = λ p ok.
    let xs = c.args.self.now.0.now in
    let rest = take (length xs - 1) (drop 1 xs) in
    let some : 0 < length xs = search rules in
    let first = c.in_ok-fmt.ensures.writes p ok in
    let whole : octet_text (get_or xs 0 0) ++ flat_map (λ b. 32 ∷ octet_text b) (take c.loop-octet.octet-index rest) ≡ octets_text xs =
    ap (λ l. octets_text (get_or xs 0 0 ∷ l)) (take_all c.loop-octet.octet-index rest (omega arith)) ∙ ap octets_text (sym (first_rest xs 0 some)) in
    has_written_of_eq _ _ _ _ _ whole (has_written_append _ _ _ _ _ _ first (c.loop-octet.invariant (search rules)))
