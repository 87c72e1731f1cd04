-- Roaming: which entry decides, and what it decides.
use Rattle.std.specs.Prelude.{ℕ, ◌-◌, Bool, true, cond, List, [], ◌∷◌, ◌++◌, length, take, filter, fold, Some, None, Ok, Err, Option, Result, ◌==◌, nat_eq, nat_lt}
use Rattle.std.specs.Borrow.{Bor}
use Rattle.std.specs.Option.{option_map}
use Rattle.std.specs.List.{starts_with}
use Rattle.octets.specs.declared.range.OutOfRange.{OutOfRange}
use Rattle.numbers.specs.declared.digits.Digits.{Digits}
use Rattle.numbers.specs.Digit.{digits_in, digits_of}
use Rattle.numbers.specs.Packing.{unpacked}
use Rattle.operation.specs.declared.user_error.Cause.{Cause}
use Rattle.operation.specs.declared.user_error.Cause.TheVariants.{PlmnRoamingNotAllowed, OperatorDeterminedBarring}
use Rattle.subscription.specs.declared.profile.Bar.{Bar}
use Rattle.subscription.specs.Profile.{bar_number}
use Rattle.roaming.specs.declared.entry.Class.{Class}
use Rattle.roaming.specs.declared.entry.Class.TheVariants.{HomeNetwork, HomeCountry, Abroad}
use Rattle.roaming.specs.declared.entry.Entry.{Entry}
use Rattle.roaming.specs.declared.entry.RoamFault.{RoamFault}
use Rattle.roaming.specs.declared.entry.RoamFault.TheVariants.{NoEntry, ListFull}
use Rattle.roaming.specs.declared.roaming_list.RoamingList.{RoamingList}

-- the number of a class, and of a refusal
abbrev pub class_number : Class → ℕ
class_number HomeNetwork = 0
class_number HomeCountry = 1
class_number Abroad = 2

abbrev pub fault_number : RoamFault → ℕ
fault_number NoEntry = 1
fault_number ListFull = 2

-- the class with a number
abbrev pub class_of : ℕ → Result Class OutOfRange
class_of n =
    cond (n == class_number HomeNetwork) (Ok HomeNetwork) (
    cond (n == class_number HomeCountry) (Ok HomeCountry) (
    cond (n == class_number Abroad) (Ok Abroad) (Err (record {}))))

-- a node of no known network is cause 0; bar b forbids the classes above 2 - b, with cause 3
abbrev pub decided : Option Class → Bar → Result (Unit {0}) Cause
decided None b = Err PlmnRoamingNotAllowed
decided (Some c) b = cond (nat_lt (2 - bar_number b) (class_number c)) (Err OperatorDeterminedBarring) (Ok tt)

-- the entries of a list, in the order in which they were added
abbrev pub entries_in : RoamingList → List Entry
entries_in l = take l.len l.entries

-- an entry's digits are the first digits of a node's number
abbrev pub leads : List ℕ → List ℕ → Bool
leads e n = starts_with nat_eq n e

-- the entry that is lent
abbrev pub lent : Option (Bor Entry) → Option Entry
lent None = None
lent (Some e) = Some e.now

-- an entry decides in place of the best so far if it is longer; between equal ones the first added decides
abbrev pub is_longer : Entry → Option Entry → Bool
is_longer e None = true
is_longer e (Some b) = nat_lt (length (digits_in b.digits)) (length (digits_in e.digits))

abbrev pub longer_of : Option Entry → Entry → Option Entry
longer_of b e = cond (is_longer e b) (Some e) b

-- the entry that decides, of those that lead a node's number
abbrev pub deciding : List ℕ → List Entry → Option Entry
deciding n es = fold longer_of None (filter (λ e. leads (digits_in e.digits) n) es)

-- the class of a node
abbrev pub class_for : List ℕ → List Entry → Option Class
class_for n es = option_map (λ e. e.class) (deciding n es)

abbrev pub entry_with : Digits → Class → Entry
entry_with d c = record { digits = d; class = c }

abbrev pub entry_from : Option Digits → Result Class OutOfRange → Result Entry RoamFault
entry_from None c = Err NoEntry
entry_from (Some d) (Err e) = Err NoEntry
entry_from (Some d) (Ok c) = Ok (entry_with d c)

-- an entry from its packed digits and the number of its class
abbrev pub entry_of : List ℕ → ℕ → Result Entry RoamFault
entry_of bs c = entry_from (digits_of (unpacked bs)) (class_of c)

-- the list with an entry more; it has room for 32
abbrev pub added : List Entry → Result Entry RoamFault → Result (List Entry) RoamFault
added es (Err f) = Err f
added es (Ok e) = cond (nat_lt (length es) 32) (Ok (es ++ e ∷ [])) (Err ListFull)

-- what the call roam makes of a list
abbrev pub roamed : List Entry → List ℕ → ℕ → Result (List Entry) RoamFault
roamed es bs c = added es (entry_of bs c)

abbrev pub answer : {A F : Type 0} → Result A F → Result (Unit {0}) F
answer (Ok a) = Ok tt
answer (Err f) = Err f

abbrev pub after : {A F : Type 0} → Result A F → A → A
after (Ok a) old = a
after (Err f) old = old
