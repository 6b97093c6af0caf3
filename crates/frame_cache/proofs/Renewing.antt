-- What slots hold after the last one came to the front with another frame, and while they are made.
use Rattle.std.proofs.Common.{◌≡◌, ℕ, suc, ◌+◌, ◌<◌, Bool, true, false, List, [], ◌∷◌, ◌++◌, length, take, nat_eq, Some, None}
use Rattle.std.proofs.Common.{refl, sym, ap, ◌∙◌, arith, subst, eqb-true, eq-eqb, length-append}
use Rattle.std.specs.List.{AllByRecursion, IsDistinct}
use Rattle.std.specs.Map.{keys_of, lookup, lookup_entry, remove_entry, set_value}
use Rattle.dst_spec.proofs.Lists.{all_take}
use Rattle.lru.specs.LruCache.{promoted, last_entry}
use Rattle.lru.proofs.Pairs.{cut_end, take-cut, last_of_push}
use Rattle.frame_cache.specs.declared.slots.Slot.{Slot}
use Rattle.frame_cache.specs.Slots.{held, held_in, AreFilledFirst, AreSlots}
use Rattle.frame_cache.proofs.Holding.{swapped, held-take, filled-take}

-- the last entry, and those in front of it
pub record HasLast (es : List (ℕ × Slot)) : Type 0 where
  pub front : List (ℕ × Slot)
  pub last : ℕ × Slot
  pub parts : es ≡ front ++ last ∷ []
  pub last_is : last_entry es ≡ Some last

pub last_of : (es : List (ℕ × Slot)) → 0 < length es → HasLast es
last_of es some =
    let cut = cut_end es some in
    record { front = cut.0; last = cut.1; parts = cut.2; last_is = subst (λ l. last_entry l ≡ Some cut.1) (sym cut.2) (last_of_push cut.0 cut.1).0 }

last_key : (P : ℕ → Type 0) (us : List (ℕ × Slot)) (x : ℕ × Slot) → AllByRecursion P (keys_of (us ++ x ∷ [])) → P x.0
last_key P [] x all = all.0
last_key P (u ∷ us) x all = last_key P us x all.1

-- it is found by its number
pub record IsFoundLast (us : List (ℕ × Slot)) (x : ℕ × Slot) : Type 0 where
  pub looked : lookup (nat_eq x.0) (us ++ x ∷ []) ≡ Some x.1
  pub looked_entry : lookup_entry (nat_eq x.0) (us ++ x ∷ []) ≡ Some x
  pub removed : remove_entry (nat_eq x.0) (us ++ x ∷ []) ≡ us

pub found_last : (us : List (ℕ × Slot)) (x : ℕ × Slot) → IsDistinct nat_eq (keys_of (us ++ x ∷ [])) → IsFoundLast us x
unfolding IsDistinct
found_last [] x d = let own = eq-eqb x.0 x.0 refl in record { looked = rw own refl; looked_entry = rw own refl; removed = rw own refl }
found_last (u ∷ us) x d =
    let apart = swapped u.0 x.0 (last_key (λ n. nat_eq u.0 n ≡ false) us x d.0) in
    let later = found_last us x d.1 in
    record {
      looked = rw apart later.looked;
      looked_entry = rw apart later.looked_entry;
      removed = rw apart (ap (λ l. u ∷ l) later.removed);
    }

-- the entry that is said to be the last
pub record IsLast (es : List (ℕ × Slot)) (x : ℕ × Slot) : Type 0 where
  pub front : List (ℕ × Slot)
  pub parts : es ≡ front ++ x ∷ []
  pub found : IsFoundLast front x
  pub looked : lookup (nat_eq x.0) es ≡ Some x.1

pub is_last : (es : List (ℕ × Slot)) (x : ℕ × Slot) → IsDistinct nat_eq (keys_of es) → 0 < length es → last_entry es ≡ Some x → IsLast es x
is_last es x d some is =
    let h = last_of es some in
    let same : h.last ≡ x = let known : Some h.last ≡ Some x = sym h.last_is ∙ is in cc in
    let parts : es ≡ h.front ++ x ∷ [] = subst (λ y. es ≡ h.front ++ y ∷ []) same h.parts in
    let found = found_last h.front x (subst (λ l. IsDistinct nat_eq (keys_of l)) parts d) in
    record { front = h.front; parts = parts; found = found; looked = ap (lookup (nat_eq x.0)) parts ∙ found.looked }

-- with the last slot in front and another value in it
pub renewed : (us : List (ℕ × Slot)) (x : ℕ × Slot) (slot : Slot) → IsFoundLast us x →
    set_value (nat_eq x.0) (promoted (nat_eq x.0) (us ++ x ∷ [])) slot ≡ (x.0, slot) ∷ us
renewed us x slot h =
    let own = eq-eqb x.0 x.0 refl in
    rw (h.looked_entry, own) (ap (λ l. (x.0, slot) ∷ l) h.removed)

front_is : (us : List (ℕ × Slot)) (x : ℕ × Slot) → us ≡ take (length us) (us ++ x ∷ [])
front_is us x = sym (take-cut us (x ∷ []))

pub held-renewed : (n bytes : ℕ) (us : List (ℕ × Slot)) (x : ℕ × Slot) (slot : Slot) (k : ℕ) → AreSlots n bytes (us ++ x ∷ []) → slot.frame ≡ Some k →
    held_in ((x.0, slot) ∷ us) ≡ take n (held k slot.sound.items ∷ held_in (us ++ x ∷ []))
held-renewed n bytes us x slot k slots is =
    let count : n ≡ suc (length us) = omega (arith, slots.count_is, length-append us (x ∷ [])) in
    let front : held_in us ≡ take (length us) (held_in (us ++ x ∷ [])) = ap held_in (front_is us x) ∙ held-take (length us) (us ++ x ∷ []) slots.filled in
    rw (is, count) (ap (λ ks. held k slot.sound.items ∷ ks) front)

pub slots-renewed : (n bytes : ℕ) (us : List (ℕ × Slot)) (x : ℕ × Slot) (slot : Slot) (k : ℕ) → AreSlots n bytes (us ++ x ∷ []) → slot.frame ≡ Some k →
    length slot.sound.items ≡ bytes → AreSlots n bytes ((x.0, slot) ∷ us)
slots-renewed n bytes us x slot k slots is long =
    let count : length (us ++ x ∷ []) ≡ length us + 1 = omega (arith, length-append us (x ∷ [])) in
    record {
      count_is = omega (arith, slots.count_is, count);
      long = (long, subst (λ l. AllByRecursion (λ e. length e.1.sound.items ≡ bytes) l) (sym (front_is us x)) (all_take _ (length us) _ slots.long));
      filled = rw is (tt, subst AreFilledFirst (sym (front_is us x)) (filled-take (length us) (us ++ x ∷ []) slots.filled));
    }

pub last_is_long : (bytes : ℕ) (us : List (ℕ × Slot)) (x : ℕ × Slot) → AllByRecursion (λ e. length e.1.sound.items ≡ bytes) (us ++ x ∷ []) →
    length x.1.sound.items ≡ bytes
last_is_long bytes [] x all = all.0
last_is_long bytes (u ∷ us) x all = last_is_long bytes us x all.1

-- ---- slots that are made one after the other
pub record AreMade (n bytes : ℕ) (es : List (ℕ × Slot)) : Type 0 where
  pub slots : AreSlots n bytes es
  pub none : held_in es ≡ []
  pub keys : AllByRecursion (λ k. k < n) (keys_of es)

pub none_above : (n : ℕ) (es : List (ℕ × Slot)) → AllByRecursion (λ k. k < n) (keys_of es) → lookup_entry (nat_eq n) es ≡ None
none_above n [] all = refl
none_above n (e ∷ es) all = go (nat_eq n e.0) refl (none_above n es all.1)
  where
    go : (b : Bool) → nat_eq n e.0 ≡ b → lookup_entry (nat_eq n) es ≡ None → lookup_entry (nat_eq n) (e ∷ es) ≡ None
    go true is later = let same = eqb-true n e.0 is in absurd (omega (arith, all.0))
    go false is later = rw is later

keys_more : (n : ℕ) (ks : List ℕ) → AllByRecursion (λ k. k < n) ks → AllByRecursion (λ k. k < n + 1) ks
keys_more n [] all = tt
keys_more n (k ∷ ks) all = (omega (arith, all.0), keys_more n ks all.1)

pub one_more : (n bytes : ℕ) (es : List (ℕ × Slot)) (slot : Slot) → AreMade n bytes es → slot.frame ≡ None → length slot.sound.items ≡ bytes →
    AreMade (n + 1) bytes ((n, slot) ∷ es)
one_more n bytes es slot made is long =
    let count = made.slots.count_is in
    record {
      slots = record { count_is = omega (arith, count); long = (long, made.slots.long); filled = rw is (made.none, made.slots.filled) };
      none = rw is made.none;
      keys = (omega arith, keys_more n (keys_of es) made.keys);
    }
