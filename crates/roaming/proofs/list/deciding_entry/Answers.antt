use Rattle.std.proofs.Common.{◌≡◌, ℕ, ◌+◌, ◌<◌, Bool, true, false, cond, List, [], ◌∷◌, length, get_or, take, Option, None, sym, refl, ap, ◌∙◌, arith}
use Rattle.std.specs.List.{filter, fold}
use Rattle.std.proofs.lemmas.List.{take_all}
use Rattle.std.proofs.lemmas.List.Elements.{filter_more}
use Rattle.std.proofs.lemmas.List.Sums.{fold-append}
use Rattle.numbers.specs.Digit.{digits_in}
use Rattle.roaming.specs.declared.entry.Entry.{Entry}
use Rattle.roaming.specs.Roaming.{deciding, leads, lent, longer_of}
use Rattle.roaming.proofs.list.deciding_entry.Goals as goal

-- one entry more
taken : (b : Bool) (x : Option Entry) (e : Entry) → fold longer_of x (cond b (e ∷ []) []) ≡ cond b (longer_of x e) x
taken true x e = refl
taken false x e = refl

more : (n : List ℕ) (es : List Entry) (i : ℕ) (d : Entry) → i < length es →
    deciding n (take (i + 1) es) ≡ cond (leads (digits_in (get_or es i d).digits) n) (longer_of (deciding n (take i es)) (get_or es i d)) (deciding n (take i es))
more n es i d h =
    let p : Entry → Bool = λ e. leads (digits_in e.digits) n in
    ap (fold longer_of None) (filter_more p es i d h)
    ∙ fold-append longer_of None (filter p (take i es)) (cond (p (get_or es i d)) (get_or es i d ∷ []) [])
    ∙ taken (p (get_or es i d)) (deciding n (take i es)) (get_or es i d)

pub loop-entry-preserved : goal.loop-entry-preserved
loop-entry-preserved c =
    let n = digits_in c.args.node.now in
    let es = c.args.entries.now in
    let i = c.loop-entry.entry-index in
    let e = c.entry-item.result in
    let b = lent c.loop-entry.best in
    c.better_of-best.ensures ∙ ap (λ x. cond (leads (digits_in x.digits) n) (longer_of b x) b) c.entry-item.is
    ∙ ap (λ o. cond (leads (digits_in (get_or es i e).digits) n) (longer_of o (get_or es i e)) o) c.loop-entry.invariant
    ∙ sym (more n es i e (omega arith))

pub returns : goal.returns
returns c =
    c.loop-entry.invariant ∙ ap (deciding (digits_in c.args.node.now)) (take_all c.loop-entry.entry-index c.args.entries.now (omega arith))
