use Rattle.std.proofs.Common.{rules, ◌≡◌, ◌+◌, [], ◌∷◌, ◌++◌, get_or, take, sym, ap, ◌∙◌, arith}
use Rattle.std.specs.Fmt.{decimal}
use Rattle.std.proofs.lemmas.Fmt.{decimal_digit}
use Rattle.std.proofs.lemmas.List.{map-append, take_more}
use Rattle.std.proofs.Output.{has_written_append, has_written_of_eq}
use Rattle.numbers.specs.Text.{digits_text}
use Rattle.numbers.proofs.digits.DigitsDisplay.fmt.Goals as goal

pub loop-digit-preserved : goal.loop-digit-preserved
loop-digit-preserved g c = λ p.
    let ds = c.as_slice-digit-items.result.now in
    let i = c.loop-digit.digit-index in
    let small = c.as_slice-digit-items.ensures.decimal i in
    let more : digits_text (take i ds) ++ decimal (get_or ds i 0) ≡ digits_text (take (i + 1) ds) =
    ap (λ t. digits_text (take i ds) ++ t) (decimal_digit (get_or ds i 0) (omega arith))
    ∙ sym (ap digits_text (take_more ds i 0 (omega arith)) ∙ map-append (λ d. 48 + d) (take i ds) (get_or ds i 0 ∷ [])) in
    has_written_of_eq _ _ _ _ _ more (has_written_append _ _ _ _ _ _ (c.loop-digit.invariant p) (search rules))
