-- Elements in a list of octets: a tag octet, a length and the rest.
use Rattle.std.specs.Prelude.{◌≡◌, ℕ, zero, suc, ◌+◌, ◌-◌, ◌*◌, cond, ◌||◌, List, [], ◌∷◌, length, take, drop, Some, None, Ok, Err, Option, Result, ◌==◌, bit_and, nat_le, nat_lt, slice_index, slice_index_or}
use Rattle.element.specs.declared.fault.ElementFault.{ElementFault}
use Rattle.element.specs.declared.fault.ElementFault.TheVariants.{Missing, Unreadable}
use Rattle.element.specs.declared.reader.Reader.{Reader}
use Rattle.element.specs.declared.reader.Element.{Element}
use Rattle.element.specs.declared.reading.Head.{Head}

-- what stands at the front of octets: an element, by its tag, the octets of its tag and length, and those of its content, or nothing that can be read
pub data Front : Type 0 where
  unreadable : Front
  element : ℕ → ℕ → ℕ → Front

-- an element, if its content of n octets fits into the m that follow its length
abbrev pub fitting : ℕ → ℕ → ℕ → ℕ → Front
fitting m t h n = cond (nat_le n m) (element t h n) unreadable

-- a length is one octet below 80, or 81 and one octet, or 82 and two octets; a tag whose five low bits are all set is not read
abbrev pub front : List ℕ → Front
front bs =
    let m = length bs in
    let t = slice_index_or bs 0 0 in
    let l = slice_index_or bs 1 0 in
    cond (nat_lt m 2 || bit_and t 0x1f == 0x1f) unreadable (
    cond (nat_lt l 0x80) (fitting (m - 2) t 2 l) (
    cond (nat_lt m 3) unreadable (
    cond (l == 0x81) (fitting (m - 3) t 3 (slice_index bs 2)) (
    cond (nat_lt m 4) unreadable (
    cond (l == 0x82) (fitting (m - 4) t 4 (slice_index bs 2 * 256 + slice_index bs 3)) unreadable)))))

-- elements in a row, each by its tag, its place, its content's place and its content; at the end the place where they end, or where no element can be read
pub data Elements : Type 0 where
  ended : ℕ → Elements
  broken : ℕ → Elements
  next : ℕ → ℕ → ℕ → List ℕ → Elements → Elements

-- the elements of octets, the first of which has the place p, once k octets are passed over
abbrev pub elements_after : ℕ → ℕ → List ℕ → Elements
elements_after k p [] = ended p
elements_after (suc k) p (b ∷ bs) = elements_after k (p + 1) bs
elements_after zero p (b ∷ bs) =
    elim (front (b ∷ bs)) [
      | unreadable ↦ broken p
      | element t h n ↦ next t p (p + h) (take n (drop h (b ∷ bs))) (elements_after (h + n - 1) (p + 1) bs)
    ]

-- the elements of octets, the first of which has the place p
abbrev pub elements : ℕ → List ℕ → Elements
elements p bs = elements_after 0 p bs

-- the elements that a reader has yet to read
abbrev pub unread : Reader → Elements
unread r = elements r.spot.place r.rest.now

-- what was read, with the elements after it
abbrev pub fault_read : ElementFault → Elements
fault_read (Missing s) = ended s.place
fault_read (Unreadable s) = broken s.place

abbrev pub read_off : Result Element ElementFault → Elements → Elements
read_off (Ok e) es = next e.tag e.spot.place e.start e.content.now es
read_off (Err f) es = fault_read f

-- a step of an iteration: the element that comes next, or the fault at one that cannot be read, after which nothing is left to read; none at the end
abbrev pub NextElement : Reader → Option (Result Element ElementFault) → Reader → Type 0
NextElement r None s = (unread r ≡ ended r.spot.place) × (s ≡ r)
NextElement r (Some (Ok e)) s = (read_off (Ok e) (unread s) ≡ unread r) × (s.spot.layer ≡ r.spot.layer)
NextElement r (Some (Err f)) s = (f ≡ Unreadable r.spot) × (unread r ≡ broken r.spot.place) × (unread s ≡ ended s.spot.place)

-- what a head tells of the octets that it stands before
abbrev pub head_front : Option Head → Front
head_front None = unreadable
head_front (Some h) = element h.tag h.size (length h.content.now)
