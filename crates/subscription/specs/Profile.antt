-- Profiles, from octets as a caller hands them over.
use Rattle.std.specs.Prelude.{ℕ, cond, List, Ok, Err, Result, ◌==◌}
use Rattle.std.specs.Option.{ok_or, option_map}
use Rattle.octets.specs.declared.range.OutOfRange.{OutOfRange as NoCase}
use Rattle.numbers.specs.declared.digits.Digits.{Digits}
use Rattle.numbers.specs.declared.node.Msisdn.{Msisdn}
use Rattle.numbers.specs.Number.{number_of}
use Rattle.message.specs.declared.kinds.AccessMode.{AccessMode}
use Rattle.message.specs.Kinds.{mode_of}
use Rattle.subscription.specs.declared.code_list.CodeList.{CodeList}
use Rattle.subscription.specs.declared.profile.Bar.{Bar}
use Rattle.subscription.specs.declared.profile.Bar.TheVariants.{NoBar, OutsideHomeCountry, OutsideHomeNetwork}
use Rattle.subscription.specs.declared.profile.Profile.{Profile}
use Rattle.subscription.specs.declared.profile.RawProfile.{RawProfile}
use Rattle.subscription.specs.declared.profile.SubscriptionFault.{SubscriptionFault}
use Rattle.subscription.specs.declared.profile.SubscriptionFault.TheVariants.{OutOfRange}
use Rattle.subscription.specs.Codes.{codes_of}

-- the number of the refusal
abbrev pub fault_number : SubscriptionFault → ℕ
fault_number OutOfRange = 12

abbrev pub bar_number : Bar → ℕ
bar_number NoBar = 0
bar_number OutsideHomeCountry = 1
bar_number OutsideHomeNetwork = 2

-- the bar with a number
abbrev pub bar_of : ℕ → Result Bar NoCase
bar_of n =
    cond (n == bar_number NoBar) (Ok NoBar) (
    cond (n == bar_number OutsideHomeCountry) (Ok OutsideHomeCountry) (
    cond (n == bar_number OutsideHomeNetwork) (Ok OutsideHomeNetwork) (Err (record {}))))

abbrev pub msisdn_with : Digits → Msisdn
msisdn_with d = record { digits = d }

abbrev pub msisdn_of : List ℕ → Result Msisdn SubscriptionFault
msisdn_of bs = ok_or (option_map msisdn_with (number_of bs)) OutOfRange

-- the octets of a profile as they are handed over
pub record Raw : Type 0 where
  pub msisdn : List ℕ
  pub category : ℕ
  pub bearers : List ℕ
  pub teleservices : List ℕ
  pub mode : ℕ
  pub bar : ℕ

abbrev pub raw_of : RawProfile → Raw
raw_of p = record {
  msisdn = p.msisdn.now;
  category = p.category;
  bearers = p.bearers.now;
  teleservices = p.teleservices.now;
  mode = p.mode;
  bar = p.bar;
}

abbrev pub profile_with : Msisdn → ℕ → CodeList → CodeList → AccessMode → Bar → Profile
profile_with m c b t a r = record { msisdn = m; category = c; bearers = b; teleservices = t; mode = a; bar = r }

-- what is made of a field that was read; whatever refused the field, the subscription is refused
abbrev pub and_then : {A B E : Type 0} → Result A E → (A → Result B SubscriptionFault) → Result B SubscriptionFault
and_then (Ok a) f = f a
and_then (Err e) f = Err OutOfRange

-- the profile in them; refused where a field is out of range or a code stands twice
abbrev pub profile_of : Raw → Result Profile SubscriptionFault
profile_of p =
    and_then (msisdn_of p.msisdn) (λ m.
    and_then (codes_of p.bearers) (λ b.
    and_then (codes_of p.teleservices) (λ t.
    and_then (mode_of p.mode) (λ a.
    and_then (bar_of p.bar) (λ r.
    Ok (profile_with m p.category b t a r))))))
