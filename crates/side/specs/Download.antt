-- A download: a numbered list of inserts from a profile, for a side.
use Rattle.std.specs.Prelude.{ℕ, zero, suc, ◌+◌, List, [], ◌∷◌, ◌++◌, length, None, Option, slice_get}
use Rattle.numbers.specs.declared.imsi.Imsi.{Imsi}
use Rattle.message.specs.declared.kinds.Service.{Service}
use Rattle.message.specs.declared.kinds.Service.TheVariants.{Bearer, Teleservice}
use Rattle.message.specs.Messages.{codes_insert}
use Rattle.subscription.specs.declared.profile.Profile.{Profile}
use Rattle.subscription.specs.Codes.{codes_in}
use Rattle.side.specs.Meaning.{Meaning}

-- the codes that are left whenever ten more have been sent, once k are passed over
abbrev pub left_after : ℕ → List ℕ → List (List ℕ)
left_after k [] = []
left_after zero (c ∷ cs) = (c ∷ cs) ∷ left_after 9 cs
left_after (suc k) (c ∷ cs) = left_after k cs

abbrev pub by_tens : List ℕ → List (List ℕ)
by_tens cs = left_after 0 cs

-- inserts with codes of one kind, the first of which has the number n
abbrev pub numbered : ℕ → Service → List (List ℕ) → List (List ℕ)
numbered n s [] = []
numbered n s (left ∷ more) = codes_insert n s left ∷ numbered (n + 1) s more

-- the inserts after the first: bearer codes, then teleservice codes
abbrev pub later : List ℕ → List ℕ → List (List ℕ)
later bs ts = numbered 2 Bearer (by_tens bs) ++ numbered (2 + length (by_tens bs)) Teleservice (by_tens ts)

unfoldable pub download : {S : Type 0} → Meaning S → Option Imsi → Profile → List (List ℕ)
download side i p = side.first i p ∷ later (side.bearers p) (codes_in p.teleservices)

-- insert n, counted from 1
abbrev pub insert_at : List (List ℕ) → ℕ → Option (List ℕ)
insert_at ds zero = None
insert_at ds (suc k) = slice_get ds k
