-- Laws of `same` and `place`.
use Rattle.std.proofs.Common.{◌≡◌, Bool, true, false, cond, Decides, Option, sym, refl, ap, ◌∙◌}
use mathlib.Core.Path.{fun_ext}
use Rattle.std.proofs.lemmas.Bool.Decides.{same_from_decides}
use Rattle.numbers.specs.declared.imsi.Imsi.{Imsi}
use Rattle.numbers.proofs.Rounds.{laws}
use Rattle.subscription.specs.declared.stay.Record.{Record}
use Rattle.store.specs.Records.{same, place}

pub same_decides : (i j : Imsi) → Decides (same i j) (i ≡ j)
unfolding same
same_decides i j = laws.same_imsi i j

pub same_flip : (i j : Imsi) → same i j ≡ same j i
same_flip i j = same_from_decides {P = i ≡ j} (same i j) (same j i) (same_decides i j) (λ t. sym ((same_decides j i).0 t), λ e. (same_decides j i).1 (sym e))

-- a place that holds already what is placed there changes nothing
pub place_same : (f : Imsi → Option Record) (i : Imsi) (w : Option Record) → f i ≡ w → place f i w ≡ f
place_same f i w e = fun_ext (λ j. at j (same j i) refl)
  where
    at : (j : Imsi) (b : Bool) → same j i ≡ b → cond (same j i) w (f j) ≡ f j
    at j true h = rw h (sym e ∙ ap f (sym ((same_decides j i).0 h)))
    at j false h = rw h refl
