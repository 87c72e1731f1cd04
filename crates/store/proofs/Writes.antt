-- What reading and writing one row does to the records that rows hold.
use Rattle.std.proofs.Common.{◌≡◌, ℕ, zero, suc, ◌+◌, ◌<◌, Bool, true, false, cond, not, List, [], ◌∷◌, length, get_or, nat_lt, set, is_some, is_none, position, replicate, Some, None, Option, sym, refl, ap, ◌∙◌, arith}
use mathlib.Core.Path.{fun_ext}
use Rattle.std.specs.List.{position_or_len}
use Rattle.std.specs.Option.{option_or}
use Rattle.std.proofs.lemmas.Bool.{cond-true, cond-false, and_parts, and_from, false≢true, true≢false, lt-ltb, ltb-false}
use Rattle.std.proofs.lemmas.List.Quantifiers.{position-Some}
use Rattle.std.proofs.lemmas.List.Folds.{sum_by-replicate}
use Rattle.std.proofs.lemmas.List.Sums.{fails_before_first, sum_by-cons, sum_by-set}
use Rattle.numbers.specs.declared.imsi.Imsi.{Imsi}
use Rattle.subscription.specs.declared.stay.Record.{Record}
use Rattle.store.specs.Calls.{accepted, imsi_found, places_after, Put, Deleted}
use Rattle.store.specs.Records.{same, record_of, once, place}
use Rattle.store.specs.Rows.{Row, has, index_of, first_unused, records_in, unused}
use Rattle.store.proofs.Keys.{same_decides, same_flip, place_same}

abbrev lookup : List Row → Imsi → Option Record
lookup ws = record_of (records_in ws)

-- each row holds a record or is free
pub records_count : (ws : List Row) → length (records_in ws) + unused ws ≡ length ws
records_count [] = refl
records_count (None ∷ ws) =
    let h = records_count ws in
    let held : length (records_in (None ∷ ws)) ≡ length (records_in ws) = refl in
    let free : unused (None ∷ ws) ≡ 1 + unused ws = sum_by-cons (λ w. cond (is_none w) 1 0) None ws in omega arith
records_count (Some r ∷ ws) =
    let h = records_count ws in
    let held : length (records_in (Some r ∷ ws)) ≡ suc (length (records_in ws)) = refl in
    let free : unused (Some r ∷ ws) ≡ 0 + unused ws = sum_by-cons (λ w. cond (is_none w) 1 0) (Some r) ws in omega arith

-- what is found in rows, the first one apart
front : (w : Row) (ws : List Row) (q : Imsi) → lookup (w ∷ ws) q ≡ cond (has q w) w (lookup ws q)
front None ws q = refl
front (Some r) ws q = refl

rest_once : (w : Row) (ws : List Row) → once (records_in (w ∷ ws)) ≡ true → once (records_in ws) ≡ true
rest_once None ws o = o
rest_once (Some r) ws o = (and_parts (not (is_some (lookup ws r.imsi))) (once (records_in ws)) o).1

-- a row for an IMSI: it holds its record, or none
abbrev For : Imsi → Row → Type 0
For k None = Unit
For k (Some r) = r.imsi ≡ k

for_other : (k q : Imsi) (w : Row) → For k w → same q k ≡ false → has q w ≡ false
for_other k q None f h = refl
for_other k q (Some r) f h = ap (λ x. same x q) f ∙ same_flip k q ∙ h

for_own : (k : Imsi) (w : Row) (o : Option Record) → For k w → o ≡ None → cond (has k w) w o ≡ w
for_own k None o f e = e
for_own k (Some r) o f e = cond-true (same r.imsi k) _ _ ((same_decides r.imsi k).1 f)

-- place i is free for the IMSI k: its row is for k, and no other row holds k's record
abbrev Slot : Imsi → List Row → ℕ → Type 0
Slot k [] i = ⊥
Slot k (w ∷ ws) zero = For k w × (lookup ws k ≡ None)
Slot k (w ∷ ws) (suc i) = (has k w ≡ false) × Slot k ws i

slot_lookup : (k : Imsi) (ws : List Row) (i : ℕ) (v : Row) → For k v → Slot k ws i → (q : Imsi) → lookup (set ws i v) q ≡ place (lookup ws) k v q
slot_lookup k [] i v f s q = absurd s
slot_lookup k (w ∷ ws) zero v f s q = front v ws q ∙ go (same q k) refl
  where
    go : (b : Bool) → same q k ≡ b → cond (has q v) v (lookup ws q) ≡ cond (same q k) v (lookup (w ∷ ws) q)
    go true h = ap (λ x. cond (has x v) v (lookup ws x)) ((same_decides q k).0 h) ∙ for_own k v (lookup ws k) f s.1 ∙ sym (cond-true (same q k) _ _ h)
    go false h = cond-false (has q v) _ _ (for_other k q v f h) ∙ sym (cond-false (same q k) _ _ h ∙ front w ws q ∙ cond-false (has q w) _ _ (for_other k q w s.0 h))
slot_lookup k (w ∷ ws) (suc i) v f s q = front w (set ws i v) q ∙ ap (cond (has q w) w) (slot_lookup k ws i v f s.1 q) ∙ go (same q k) refl
  where
    go : (b : Bool) → same q k ≡ b → cond (has q w) w (cond (same q k) v (lookup ws q)) ≡ cond (same q k) v (lookup (w ∷ ws) q)
    go true h = cond-false (has q w) _ _ (ap (λ x. has x w) ((same_decides q k).0 h) ∙ s.0) ∙ cond-true (same q k) _ _ h ∙ sym (cond-true (same q k) _ _ h)
    go false h = ap (cond (has q w) w) (cond-false (same q k) _ _ h) ∙ sym (cond-false (same q k) _ _ h ∙ front w ws q)

-- a row for k that is written at k's place keeps the IMSIs apart
slot_once : (k : Imsi) (ws : List Row) (i : ℕ) (v : Row) → For k v → Slot k ws i → once (records_in ws) ≡ true → once (records_in (set ws i v)) ≡ true
slot_once k [] i v f s o = absurd s
slot_once k (w ∷ ws) zero v f s o = first v f (rest_once w ws o)
  where
    first : (v : Row) → For k v → once (records_in ws) ≡ true → once (records_in (v ∷ ws)) ≡ true
    first None f o = o
    first (Some r) f o = and_from (not (is_some (lookup ws r.imsi))) (once (records_in ws)) (ap (λ x. not (is_some (lookup ws x))) f ∙ ap (λ p. not (is_some p)) s.1) o
slot_once k (None ∷ ws) (suc i) v f s o = slot_once k ws i v f s.1 o
slot_once k (Some r ∷ ws) (suc i) v f s o =
    let parts = and_parts (not (is_some (lookup ws r.imsi))) (once (records_in ws)) o in
    and_from (not (is_some (lookup (set ws i v) r.imsi))) (once (records_in (set ws i v)))
    (ap (λ p. not (is_some p)) (slot_lookup k ws i v f s.1 r.imsi ∙ cond-false (same r.imsi k) _ _ s.0) ∙ parts.0) (slot_once k ws i v f s.1 parts.1)

none : (o : Option Record) → not (is_some o) ≡ true → o ≡ None
none None h = refl
none (Some r) h = absurd (false≢true h)

-- the first row that has an IMSI: its place is free for it, and it holds what is found
known_slot : (k : Imsi) (ws : List Row) (i : ℕ) (d : Row) → once (records_in ws) ≡ true → i < length ws → has k (get_or ws i d) ≡ true → ((j : ℕ) → j < i → has k (get_or ws j d) ≡ false) →
    Slot k ws i × (lookup ws k ≡ get_or ws i d)
known_slot k [] i d o l h b = absurd (omega arith)
known_slot k (None ∷ ws) zero d o l h b = absurd (false≢true h)
known_slot k (Some r ∷ ws) zero d o l h b =
    let is : r.imsi ≡ k = (same_decides r.imsi k).0 h in
    let others = none (lookup ws r.imsi) (and_parts (not (is_some (lookup ws r.imsi))) (once (records_in ws)) o).0 in
    ((is, ap (lookup ws) (sym is) ∙ others), cond-true (same r.imsi k) _ _ h)
known_slot k (w ∷ ws) (suc i) d o l h b =
    let later = known_slot k ws i d (rest_once w ws o) (omega arith) h (λ j m. b (suc j) (omega arith)) in
    let not_here : has k w ≡ false = b 0 (omega arith) in
    ((not_here, later.0), front w ws k ∙ cond-false (has k w) _ _ not_here ∙ later.1)

-- any row that holds none is free for an IMSI that no row has
free_slot : (k : Imsi) (ws : List Row) (i : ℕ) (d : Row) → lookup ws k ≡ None → i < length ws → is_none (get_or ws i d) ≡ true → Slot k ws i
free_slot k [] i d e l h = absurd (omega arith)
free_slot k (None ∷ ws) zero d e l h = (tt, e)
free_slot k (Some r ∷ ws) zero d e l h = absurd (false≢true h)
free_slot k (w ∷ ws) (suc i) d e l h = let parts = not_first w (sym (front w ws k) ∙ e) in (parts.0, free_slot k ws i d parts.1 (omega arith) h)
  where
    not_first : (w : Row) → cond (has k w) w (lookup ws k) ≡ None → (has k w ≡ false) × (lookup ws k ≡ None)
    not_first None e = (refl, e)
    not_first (Some r) e = go (same r.imsi k) refl e
      where
        go : (b : Bool) → same r.imsi k ≡ b → cond b (Some r) (lookup ws k) ≡ None → (same r.imsi k ≡ false) × (lookup ws k ≡ None)
        go true h e = cc
        go false h e = (h, e)

-- where no row passes
none_passes : (p : Row → Bool) (ws : List Row) (d : Row) → position p ws ≡ None → (j : ℕ) → j < length ws → p (get_or ws j d) ≡ false
none_passes p ws d e j l = fails_before_first p ws j d (past (nat_lt (position_or_len p ws) (length ws)) refl e)
  where
    past : (b : Bool) → nat_lt (position_or_len p ws) (length ws) ≡ b → cond b (Some (position_or_len p ws)) None ≡ None → j < position_or_len p ws
    past true h e = absurd (cc)
    past false h e = let m = ltb-false (position_or_len p ws) (length ws) h in omega arith

none_found : (k : Imsi) (ws : List Row) (d : Row) → ((j : ℕ) → j < length ws → has k (get_or ws j d) ≡ false) → lookup ws k ≡ None
none_found k [] d b = refl
none_found k (w ∷ ws) d b = front w ws k ∙ cond-false (has k w) _ _ (b 0 (omega arith)) ∙ none_found k ws d (λ j m. b (suc j) (omega arith))

none_unused : (ws : List Row) (d : Row) → ((j : ℕ) → j < length ws → is_none (get_or ws j d) ≡ false) → unused ws ≡ 0
none_unused [] d b = refl
none_unused (None ∷ ws) d b = absurd (true≢false (b 0 (omega arith)))
none_unused (Some r ∷ ws) d b = none_unused ws d (λ j m. b (suc j) (omega arith))

abbrev one : Row → ℕ
one w = cond (is_none w) 1 0

pub find_none : (ws : List Row) (k : Imsi) → index_of ws k ≡ None → lookup ws k ≡ None
find_none ws k e = none_found k ws None (none_passes (has k) ws None e)

-- what is known of the place of an IMSI
known : (ws : List Row) (k : Imsi) (i : ℕ) → once (records_in ws) ≡ true → index_of ws k ≡ Some i → (i < length ws) × Slot k ws i × (lookup ws k ≡ get_or ws i None) × (has k (get_or ws i None) ≡ true)
known ws k i o e =
    let at = position-Some (has k) ws i None e in
    let s = known_slot k ws i None o at.0 at.1 at.2 in
    (at.0, s.0, s.1, at.1)

-- what the record of k is, where k has a place
found : (ws : List Row) (k : Imsi) (i : ℕ) → once (records_in ws) ≡ true → index_of ws k ≡ Some i → is_some (lookup ws k) ≡ true
found ws k i o e = let s = known ws k i o e in some (get_or ws i None) s.2 s.3
  where
    some : (w : Row) → lookup ws k ≡ w → has k w ≡ true → is_some (lookup ws k) ≡ true
    some None f h = absurd (false≢true h)
    some (Some r) f h = ap is_some f

pub find_some : (ws : List Row) (k : Imsi) (i : ℕ) (d : Row) → once (records_in ws) ≡ true → index_of ws k ≡ Some i → get_or ws i d ≡ lookup ws k
find_some ws k i d o e = let at = position-Some (has k) ws i d e in sym (known_slot k ws i d o at.0 at.1 at.2).1

-- a record that is found has the IMSI that was sought
pub found_keyed : (rs : List Record) (k : Imsi) → imsi_found (record_of rs k) k ≡ k
found_keyed [] k = refl
found_keyed (r ∷ rs) k = go (same r.imsi k) refl (found_keyed rs k)
  where
    go : (b : Bool) → same r.imsi k ≡ b → imsi_found (record_of rs k) k ≡ k → imsi_found (cond b (Some r) (record_of rs k)) k ≡ k
    go true h later = (same_decides r.imsi k).0 h
    go false h later = later

-- what a write leaves: no IMSI twice, and what put or delete promises
put_in : (ws : List Row) (i : ℕ) (r : Record) → once (records_in ws) ≡ true → Slot r.imsi ws i → accepted (lookup ws r.imsi) (unused ws) ≡ true →
    unused (set ws i (Some r)) ≡ places_after (lookup ws r.imsi) (unused ws) →
    (once (records_in (set ws i (Some r))) ≡ true) × Put (lookup ws) (unused ws) r true (lookup (set ws i (Some r))) (unused (set ws i (Some r)))
put_in ws i r o s a p = (
  slot_once r.imsi ws i (Some r) refl s o,
  record {
    answer = sym a;
    after = fun_ext (slot_lookup r.imsi ws i (Some r) refl s) ∙ sym (cond-true (accepted (lookup ws r.imsi) (unused ws)) _ _ a);
    places = p;
  },
)

pub put_at : (ws : List Row) (i : ℕ) (r : Record) → once (records_in ws) ≡ true → option_or (index_of ws r.imsi) (first_unused ws) ≡ Some i →
    (once (records_in (set ws i (Some r))) ≡ true) × Put (lookup ws) (unused ws) r true (lookup (set ws i (Some r))) (unused (set ws i (Some r)))
put_at ws i r o e = go (index_of ws r.imsi) refl e
  where
    old : (w : Row) → lookup ws r.imsi ≡ w → has r.imsi w ≡ true → unused (set ws i (Some r)) + one w ≡ unused ws + 0 →
        (accepted (lookup ws r.imsi) (unused ws) ≡ true) × (unused (set ws i (Some r)) ≡ places_after (lookup ws r.imsi) (unused ws))
    old None f h n = absurd (false≢true h)
    old (Some q) f h n = let kept : unused (set ws i (Some r)) ≡ unused ws = omega arith in (ap (λ x. accepted x (unused ws)) f, kept ∙ sym (ap (λ x. places_after x (unused ws)) f))

    new : (w : Row) → is_none w ≡ true → lookup ws r.imsi ≡ None → unused (set ws i (Some r)) + one w ≡ unused ws + 0 →
        (accepted (lookup ws r.imsi) (unused ws) ≡ true) × (unused (set ws i (Some r)) ≡ places_after (lookup ws r.imsi) (unused ws))
    new None h f n = (ap (λ x. accepted x (unused ws)) f ∙ lt-ltb 0 (unused ws) (omega arith), sym (ap (λ x. places_after x (unused ws)) f ∙ omega arith))
    new (Some q) h f n = absurd (false≢true h)

    go : (x : Option ℕ) → index_of ws r.imsi ≡ x → option_or x (first_unused ws) ≡ Some i →
        (once (records_in (set ws i (Some r))) ≡ true) × Put (lookup ws) (unused ws) r true (lookup (set ws i (Some r))) (unused (set ws i (Some r)))
    go (Some j) k e =
        let s = known ws r.imsi i o (k ∙ e) in
        let n = sum_by-set one ws i (Some r) None s.0 in
        let p = old (get_or ws i None) s.2 s.3 n in
        put_in ws i r o s.1 p.0 p.1
    go None k e =
        let f = find_none ws r.imsi k in
        let at = position-Some is_none ws i None e in
        let n = sum_by-set one ws i (Some r) None at.0 in
        let p = new (get_or ws i None) at.1 f n in
        put_in ws i r o (free_slot r.imsi ws i None f at.0 at.1) p.0 p.1

pub put_full : (ws : List Row) (r : Record) → option_or (index_of ws r.imsi) (first_unused ws) ≡ None → Put (lookup ws) (unused ws) r false (lookup ws) (unused ws)
put_full ws r e = go (index_of ws r.imsi) refl e
  where
    go : (x : Option ℕ) → index_of ws r.imsi ≡ x → option_or x (first_unused ws) ≡ None → Put (lookup ws) (unused ws) r false (lookup ws) (unused ws)
    go (Some j) k e = absurd (cc)
    go None k e =
        let f = find_none ws r.imsi k in
        let z = none_unused ws None (none_passes is_none ws None e) in
        record { answer = rw (f, z) refl; after = rw (f, z) refl; places = rw (f, z) refl }

pub delete_at : (ws : List Row) (i : ℕ) (k : Imsi) → once (records_in ws) ≡ true → index_of ws k ≡ Some i →
    (once (records_in (set ws i None)) ≡ true) × Deleted (lookup ws) (unused ws) k true (lookup (set ws i None)) (unused (set ws i None))
delete_at ws i k o e =
    let s = known ws k i o e in
    let n = sum_by-set one ws i None None s.0 in
    let f = found ws k i o e in (
      slot_once k ws i None tt s.1 o,
      record {
        answer = sym f;
        after = fun_ext (slot_lookup k ws i None tt s.1);
        places = freed (get_or ws i None) s.3 n ∙ sym (cond-true (is_some (lookup ws k)) _ _ f);
      },
    )
  where
    freed : (w : Row) → has k w ≡ true → unused (set ws i None) + one w ≡ unused ws + 1 → unused (set ws i None) ≡ unused ws + 1
    freed None h n = absurd (false≢true h)
    freed (Some r) h n = omega arith

pub delete_none : (ws : List Row) (k : Imsi) → index_of ws k ≡ None → Deleted (lookup ws) (unused ws) k false (lookup ws) (unused ws)
delete_none ws k e =
    let f = find_none ws k e in
    record { answer = rw f refl; after = sym (place_same (lookup ws) k None f); places = rw f refl }

-- rows that hold no record
pub no_records : (n : ℕ) → records_in (replicate n None) ≡ []
no_records zero = refl
no_records (suc n) = no_records n

pub all_unused : (n : ℕ) → unused (replicate n None) ≡ n
all_unused n = sum_by-replicate one n None ∙ omega arith
