-- What put and delete do, said by what is found for each IMSI and by the free places.
use Rattle.std.specs.Prelude.{◌≡◌, ℕ, ◌+◌, ◌-◌, Bool, true, cond, is_some, Some, None, Option, nat_lt}
use Rattle.numbers.specs.declared.imsi.Imsi.{Imsi}
use Rattle.subscription.specs.declared.stay.Record.{Record}
use Rattle.store.specs.Records.{place}

-- the IMSI of a record that was found under i
abbrev pub imsi_found : Option Record → Imsi → Imsi
imsi_found None i = i
imsi_found (Some r) i = r.imsi

-- put is refused exactly when the IMSI is new and no place is free
abbrev pub accepted : Option Record → ℕ → Bool
accepted (Some r) n = true
accepted None n = nat_lt 0 n

-- the free places after a put
abbrev pub places_after : Option Record → ℕ → ℕ
places_after (Some r) n = n
places_after None n = n - 1

-- Put replaces the record of its IMSI, or adds it in a free place, or is refused and alters nothing.
pub record Put (f : Imsi → Option Record) (n : ℕ) (r : Record) (ok : Bool) (g : Imsi → Option Record) (m : ℕ) : Type 0 where
  pub answer : ok ≡ accepted (f r.imsi) n
  pub after : g ≡ cond (accepted (f r.imsi) n) (place f r.imsi (Some r)) f
  pub places : m ≡ places_after (f r.imsi) n

-- Delete removes the record of an IMSI and frees its place, and says whether there was one.
pub record Deleted (f : Imsi → Option Record) (n : ℕ) (i : Imsi) (was : Bool) (g : Imsi → Option Record) (m : ℕ) : Type 0 where
  pub answer : was ≡ is_some (f i)
  pub after : g ≡ place f i None
  pub places : m ≡ cond (is_some (f i)) (n + 1) n
