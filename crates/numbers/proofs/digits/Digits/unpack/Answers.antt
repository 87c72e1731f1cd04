use Rattle.std.proofs.Common.{◌≡◌, suc, ◌/◌, ◌%◌, ◌++◌, ◌∷◌, [], cond, eqb, refl, length, drop, get_or, sym, ap, ◌∙◌, arith}
use Rattle.std.proofs.lemmas.List.{nil_from_length, append_assoc, length-append, take_all}
use Rattle.numbers.specs.Packing.{decimal, unpacked}
use Rattle.numbers.specs.Digit.{digits_of}
use Rattle.numbers.proofs.Held.{none_of_none, decimal_push, digital_push}
use Rattle.numbers.proofs.Halves.{halves, halves_more, refused, unpacked_at, unpacked_filled, unpacked_last, unpacked_whole}
use Rattle.numbers.proofs.digits.Digits.unpack.Goals.{then-last-ne15+in_ok-push_digit-4, else-last-ne15}
use Rattle.numbers.proofs.digits.Digits.unpack.Goals as goal

pub returns-in_err-last : goal.returns-in_err-last
returns-in_err-last c =
    c.from_residual.ensures ∙ sym (ap (λ bs. digits_of (unpacked bs)) (nil_from_length c.args.octets.now c.in_err-last.ensures.cases) ∙ none_of_none)

pub returns-in_err-push_digit : goal.returns-in_err-push_digit
returns-in_err-push_digit c =
    let bs = c.in_ok-last.front.now in
    let b = c.in_ok-last.last.now in
    let i = c.loop-octet.octet-index in
    let rest = get_or bs i 0 / 16 ∷ unpacked (drop (suc i) bs ++ b ∷ []) in
    c.from_residual-in_err-push_digit.ensures
    ∙ refused c.args.octets.now bs b c.loop-octet.digits (get_or bs i 0 % 16) rest c.in_ok-last.ensures.cases.0
    (unpacked_at bs b i (omega arith) ∙ ap (λ ds. ds ++ get_or bs i 0 % 16 ∷ rest) (sym c.loop-octet.invariant.0)) c.in_err-push_digit.ensures.room.1

pub returns-in_err-push_digit-2 : goal.returns-in_err-push_digit-2
returns-in_err-push_digit-2 c =
    let bs = c.in_ok-last.front.now in
    let b = c.in_ok-last.last.now in
    let i = c.loop-octet.octet-index in
    let low = get_or bs i 0 % 16 in
    let high = get_or bs i 0 / 16 in
    let rest = unpacked (drop (suc i) bs ++ b ∷ []) in
    c.from_residual-in_err-push_digit-2.ensures
    ∙ refused c.args.octets.now bs b c.push_digit.new.digits high rest c.in_ok-last.ensures.cases.0
    (unpacked_at bs b i (omega arith) ∙ ap (λ ds. ds ++ low ∷ high ∷ rest) (sym c.loop-octet.invariant.0)
    ∙ sym (ap (λ ds. ds ++ high ∷ rest) c.in_ok-push_digit.ensures.more ∙ append_assoc c.loop-octet.digits (low ∷ []) (high ∷ rest))) c.in_err-push_digit-2.ensures.room.1

pub loop-octet-preserved : goal.loop-octet-preserved
loop-octet-preserved c =
    let bs = c.in_ok-last.front.now in
    let i = c.loop-octet.octet-index in
    let low = get_or bs i 0 % 16 in
    let high = get_or bs i 0 / 16 in
    let ds = c.loop-octet.digits in
    let first = c.in_ok-push_digit.ensures.more in
    let second = c.in_ok-push_digit-2.ensures.more in
    let both : c.push_digit-in-loop-octet.new.digits ≡ ds ++ low ∷ high ∷ [] =
    second ∙ ap (λ es. es ++ high ∷ []) first ∙ append_assoc ds (low ∷ []) (high ∷ []) in
    let room = c.in_ok-push_digit.ensures.room.0 refl in
    let room-2 = c.in_ok-push_digit-2.ensures.room.0 refl in (
      both ∙ ap (λ es. es ++ low ∷ high ∷ []) c.loop-octet.invariant.0 ∙ sym (halves_more bs i (omega arith)),
      ap decimal second ∙ decimal_push c.push_digit.new.digits high (ap decimal first ∙ decimal_push ds low c.loop-octet.invariant.1 room.0) room-2.0,
      (let n = ap length second in let m = length-append c.push_digit.new.digits (high ∷ []) in omega arith),
    )

pub returns-in_err-push_digit-3 : goal.returns-in_err-push_digit-3
returns-in_err-push_digit-3 c =
    let bs = c.in_ok-last.front.now in
    let b = c.in_ok-last.last.now in
    let rest = cond (eqb (b / 16) 15) [] (b / 16 ∷ []) in
    c.from_residual-in_err-push_digit-3.ensures
    ∙ refused c.args.octets.now bs b c.loop-octet.digits (b % 16) rest c.in_ok-last.ensures.cases.0
    (unpacked_last bs b ∙ ap (λ ds. ds ++ b % 16 ∷ rest) (sym (c.loop-octet.invariant.0 ∙ ap halves (take_all c.loop-octet.octet-index bs (omega arith))))) c.in_err-push_digit-3.ensures.room.1

pub returns-in_err-push_digit-4 : goal.returns-in_err-push_digit-4
returns-in_err-push_digit-4 c =
    let bs = c.in_ok-last.front.now in
    let b = c.in_ok-last.last.now in
    let more = c.in_ok-push_digit-3.ensures.more in
    let front = c.loop-octet.invariant.0 ∙ ap halves (take_all c.loop-octet.octet-index bs (omega arith)) in
    c.from_residual-in_err-push_digit-4.ensures
    ∙ refused c.args.octets.now bs b c.push_digit-2.new.digits (b / 16) [] c.in_ok-last.ensures.cases.0
    (unpacked_whole bs b c.if-last-ne15.true
    ∙ sym (ap (λ ds. ds ++ b / 16 ∷ []) more ∙ append_assoc c.loop-octet.digits (b % 16 ∷ []) (b / 16 ∷ []) ∙ ap (λ ds. ds ++ b % 16 ∷ b / 16 ∷ []) front)) c.in_err-push_digit-4.ensures.room.1

pub holding-requires : goal.holding-requires
holding-requires c =
    let ds = c.loop-octet.digits in
    let b = c.in_ok-last.last.now in
    let first = c.in_ok-push_digit-3.ensures.more in
    let room = c.in_ok-push_digit-3.ensures.room.0 refl in
    elim c.if-last-ne15.branch [
      | then-last-ne15+in_ok-push_digit-4 w ↦
          digital_push c.push_digit-2.new.digits (b / 16) _ (w.digits-is ∙ w.in_ok-push_digit-4.ensures.more) (ap decimal first ∙ decimal_push ds (b % 16) c.loop-octet.invariant.1 room.0) (w.in_ok-push_digit-4.ensures.room.0 refl)
      | else-last-ne15 w ↦ digital_push ds (b % 16) _ (w.digits-is ∙ first) c.loop-octet.invariant.1 room
    ]

pub returns : goal.returns
returns c =
    let bs = c.in_ok-last.front.now in
    let b = c.in_ok-last.last.now in
    let ds = c.loop-octet.digits in
    let first = c.in_ok-push_digit-3.ensures.more in
    let front : ds ≡ halves bs = c.loop-octet.invariant.0 ∙ ap halves (take_all c.loop-octet.octet-index bs (omega arith)) in
    let whole = ap unpacked c.in_ok-last.ensures.cases.0 in
    c.holding.ensures ∙ ap digits_of (elim c.if-last-ne15.branch [
      | then-last-ne15+in_ok-push_digit-4 w ↦
          w.digits-is ∙ w.in_ok-push_digit-4.ensures.more ∙ ap (λ es. es ++ b / 16 ∷ []) first ∙ append_assoc ds (b % 16 ∷ []) (b / 16 ∷ [])
          ∙ ap (λ es. es ++ b % 16 ∷ b / 16 ∷ []) front ∙ sym (whole ∙ unpacked_whole bs b w.if-last-ne15.true)
      | else-last-ne15 w ↦ w.digits-is ∙ first ∙ ap (λ es. es ++ b % 16 ∷ []) front ∙ sym (whole ∙ unpacked_filled bs b w.if-last-ne15.false)
    ])
