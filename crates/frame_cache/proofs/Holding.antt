-- What slots hold after the one that holds a frame moved to the front, and after fewer of them are taken.
use Rattle.std.proofs.Common.{◌≡◌, ℕ, zero, suc, ◌+◌, ◌==◌, Bool, true, false, List, [], ◌∷◌, length, take, nat_eq, slice_get, Option, Some, None}
use Rattle.std.proofs.Common.{option_map, refl, sym, ap, subst, ◌∙◌, arith, eqb-true, eq-eqb}
use Rattle.std.specs.List.{AllByRecursion, IsDistinct, cons_option}
use Rattle.std.specs.Map.{keys_of, lookup_entry, remove_entry}
use Rattle.lru.specs.LruCache.{promoted}
use Rattle.frame_cache.specs.declared.slots.Slot.{Slot}
use Rattle.frame_cache.specs.Slots.{HeldSound, held, held_in, found, others, moved, holds, slot_of, NoneBehind, AreFilledFirst, AreSlots}

take-none : (n : ℕ) → take {A = HeldSound} n [] ≡ []
take-none zero = refl
take-none (suc n) = refl

-- ---- the first slots
pub held-take : (n : ℕ) (es : List (ℕ × Slot)) → AreFilledFirst es → held_in (take n es) ≡ take n (held_in es)
held-take zero es filled = refl
held-take (suc n) [] filled = refl
held-take (suc n) (e ∷ es) filled = go e.1.frame filled.0 (held-take n es filled.1)
  where
    go : (o : Option ℕ) → NoneBehind o (held_in es) → held_in (take n es) ≡ take n (held_in es) →
        cons_option (option_map (λ k. held k e.1.sound.items) o) (held_in (take n es)) ≡ take
        (suc n) (cons_option (option_map (λ k. held k e.1.sound.items) o) (held_in es))
    go None none more = more ∙ ap (take n) none ∙ take-none n ∙ sym (ap (take (suc n)) none)
    go (Some k) t more = ap (λ ks. held k e.1.sound.items ∷ ks) more

pub filled-take : (n : ℕ) (es : List (ℕ × Slot)) → AreFilledFirst es → AreFilledFirst (take n es)
filled-take zero es filled = tt
filled-take (suc n) [] filled = tt
filled-take (suc n) (e ∷ es) filled = (go e.1.frame filled.0, filled-take n es filled.1)
  where
    go : (o : Option ℕ) → NoneBehind o (held_in es) → NoneBehind o (held_in (take n es))
    go None none = held-take n es filled.1 ∙ ap (take n) none ∙ take-none n
    go (Some k) t = tt

-- ---- what is taken out of entries
pub length-removed : (test : ℕ → Bool) (es : List (ℕ × Slot)) (e : ℕ × Slot) → lookup_entry test es ≡ Some e → 1 + length (remove_entry test es) ≡ length es
length-removed test [] e h = absurd cc
length-removed test (f ∷ es) e h = go (test f.0) refl (length-removed test es e)
  where
    go : (b : Bool) → test f.0 ≡ b → (lookup_entry test es ≡ Some e → 1 + length (remove_entry test es) ≡ length es) →
        1 + length (remove_entry test (f ∷ es)) ≡ length (f ∷ es)
    go true is more = rw is (omega arith)
    go false is more = let later = more (rw is at h) in rw is (omega arith)

pub all-removed : (P : ℕ × Slot → Type 0) (test : ℕ → Bool) (es : List (ℕ × Slot)) (e : ℕ × Slot) → lookup_entry test es ≡ Some e → AllByRecursion P es →
    P e × AllByRecursion P (remove_entry test es)
all-removed P test [] e h all = absurd cc
all-removed P test (f ∷ es) e h all = go (test f.0) refl (all-removed P test es e)
  where
    go : (b : Bool) → test f.0 ≡ b → (lookup_entry test es ≡ Some e → AllByRecursion P es → P e × AllByRecursion P (remove_entry test es)) →
        P e × AllByRecursion P (remove_entry test (f ∷ es))
    go true is more =
        let h' = rw is at h in
        let same : f ≡ e = cc in
        rw is (subst P same all.0, all.1)
    go false is more =
        let later = more (rw is at h) all.1 in
        rw is (later.0, (all.0, later.1))

-- ---- the slot that holds a frame
pub swapped : (a b : ℕ) → nat_eq a b ≡ false → nat_eq b a ≡ false
swapped a b h = go (nat_eq b a) refl
  where
    go : (t : Bool) → nat_eq b a ≡ t → nat_eq b a ≡ false
    go true is =
        let same = eqb-true b a is in
        let back = eq-eqb a b (sym same) in
        absurd cc
    go false is = is

-- its number is one of the keys
pub number_is_key : (P : ℕ → Type 0) (es : List (ℕ × Slot)) (k s : ℕ) → slot_of es k ≡ Some s → AllByRecursion P (keys_of es) → P s
number_is_key P [] k s h all = absurd cc
number_is_key P (f ∷ es) k s h all = go (holds f k) refl (number_is_key P es k s)
  where
    go : (b : Bool) → holds f k ≡ b → (slot_of es k ≡ Some s → AllByRecursion P (keys_of es) → P s) → P s
    go true is more =
        let h' = rw is at h in
        let same : f.0 ≡ s = cc in
        subst P same all.0
    go false is more = more (rw is at h) all.1

-- it is found by its number, holds the frame, and without it the others are held in their order
pub record HasFound (es : List (ℕ × Slot)) (k s : ℕ) : Type 0 where
  pub entry : ℕ × Slot
  pub looked : lookup_entry (nat_eq s) es ≡ Some entry
  pub holding : entry.1.frame ≡ Some k
  pub found_is : found (held_in es) k ≡ Some (held k entry.1.sound.items)
  pub others_are : held_in (remove_entry (nat_eq s) es) ≡ others (held_in es) k
  pub filled : AreFilledFirst es → AreFilledFirst (remove_entry (nat_eq s) es)

found_here : (f : ℕ × Slot) (es : List (ℕ × Slot)) (k j : ℕ) → f.1.frame ≡ Some j → (j == k) ≡ true → HasFound (f ∷ es) k f.0
found_here f es k j is test =
    let same = eqb-true j k test in
    let own = eq-eqb f.0 f.0 refl in
    record {
      entry = f;
      looked = rw own refl;
      holding = is ∙ ap (λ n. Some n) same;
      found_is = rw (is, test) (ap (λ n. Some (held n f.1.sound.items)) same);
      others_are = rw (own, is, test) refl;
      filled = λ filled. rw own filled.1;
    }

found_later_behind_none : (f : ℕ × Slot) (es : List (ℕ × Slot)) (k s : ℕ) → f.1.frame ≡ None → nat_eq s f.0 ≡ false → HasFound es k s → HasFound (f ∷ es) k s
found_later_behind_none f es k s is apart h =
    record {
      entry = h.entry;
      looked = rw apart h.looked;
      holding = h.holding;
      found_is = rw is h.found_is;
      others_are = rw (apart, is) h.others_are;
      filled = λ filled.
          let behind = rw is at filled.0 in
          rw (apart, is) (h.others_are ∙ ap (λ ks. others ks k) behind, h.filled filled.1);
    }

found_later : (f : ℕ × Slot) (es : List (ℕ × Slot)) (k s j : ℕ) → f.1.frame ≡ Some j → (j == k) ≡ false → nat_eq s f.0 ≡ false → HasFound es k s →
    HasFound (f ∷ es) k s
found_later f es k s j is test apart h =
    record {
      entry = h.entry;
      looked = rw apart h.looked;
      holding = h.holding;
      found_is = rw (is, test) h.found_is;
      others_are = rw (apart, is, test) (ap (λ ks. held j f.1.sound.items ∷ ks) h.others_are);
      filled = λ filled. rw (apart, is) (tt, h.filled filled.1);
    }

pub found_at : (es : List (ℕ × Slot)) (k s : ℕ) → slot_of es k ≡ Some s → IsDistinct nat_eq (keys_of es) → HasFound es k s
unfolding IsDistinct
found_at [] k s h d = absurd cc
found_at (f ∷ es) k s h d = by_frame f.1.frame refl (found_at es k s)
  where
    apart : slot_of es k ≡ Some s → nat_eq s f.0 ≡ false
    apart on = swapped f.0 s (number_is_key (λ n. nat_eq f.0 n ≡ false) es k s on d.0)

    by_test : (j : ℕ) (b : Bool) → f.1.frame ≡ Some j → (j == k) ≡ b → (slot_of es k ≡ Some s → IsDistinct nat_eq (keys_of es) → HasFound es k s) →
        HasFound (f ∷ es) k s
    by_test j true is test more =
        let h' = rw (is, test) at h in
        let same : f.0 ≡ s = cc in
        subst (λ s. HasFound (f ∷ es) k s) same (found_here f es k j is test)
    by_test j false is test more =
        let on = rw (is, test) at h in
        found_later f es k s j is test (apart on) (more on d.1)

    by_frame : (o : Option ℕ) → f.1.frame ≡ o → (slot_of es k ≡ Some s → IsDistinct nat_eq (keys_of es) → HasFound es k s) → HasFound (f ∷ es) k s
    by_frame None is more =
        let on = rw is at h in
        found_later_behind_none f es k s is (apart on) (more on d.1)
    by_frame (Some j) is more = by_test j (j == k) is refl more

pub not_found : (es : List (ℕ × Slot)) (k : ℕ) → slot_of es k ≡ None → found (held_in es) k ≡ None
not_found [] k h = refl
not_found (f ∷ es) k h = by_frame f.1.frame refl (not_found es k)
  where
    by_test : (j : ℕ) (b : Bool) → f.1.frame ≡ Some j → (j == k) ≡ b → (slot_of es k ≡ None → found (held_in es) k ≡ None) → found (held_in (f ∷ es)) k ≡ None
    by_test j true is test more = let h' = rw (is, test) at h in absurd cc
    by_test j false is test more = rw (is, test) (more (rw (is, test) at h))

    by_frame : (o : Option ℕ) → f.1.frame ≡ o → (slot_of es k ≡ None → found (held_in es) k ≡ None) → found (held_in (f ∷ es)) k ≡ None
    by_frame None is more = rw is (more (rw is at h))
    by_frame (Some j) is more = by_test j (j == k) is refl more

-- ---- with that slot in front
pub held-promoted : (es : List (ℕ × Slot)) (k s : ℕ) → HasFound es k s → held_in (promoted (nat_eq s) es) ≡ moved (held_in es) k
held-promoted es k s h = rw (h.looked, h.found_is, h.holding) (ap (λ ks. held k h.entry.1.sound.items ∷ ks) h.others_are)

pub slots-promoted : (n bytes : ℕ) (es : List (ℕ × Slot)) (k s : ℕ) → HasFound es k s → AreSlots n bytes es → AreSlots n bytes (promoted (nat_eq s) es)
slots-promoted n bytes es k s h slots =
    let long = all-removed (λ e. length e.1.sound.items ≡ bytes) (nat_eq s) es h.entry h.looked slots.long in
    let count = length-removed (nat_eq s) es h.entry h.looked in
    rw h.looked (record {
      count_is = omega (arith, count, slots.count_is);
      long = long;
      filled = rw h.holding (tt, h.filled slots.filled);
    })

-- ---- the frame in front
pub none_first : (es : List (ℕ × Slot)) (x : HeldSound) (xs : List HeldSound) → slice_get es 0 ≡ None → held_in es ≡ x ∷ xs → ⊥
none_first [] x xs none h = absurd cc
none_first (e ∷ es) x xs none h = absurd cc

pub sound_first : (es : List (ℕ × Slot)) (e : ℕ × Slot) (x : HeldSound) (xs : List HeldSound) → AreFilledFirst es → slice_get es 0 ≡ Some e →
    held_in es ≡ x ∷ xs →
    e.1.sound.items ≡ x.sound
sound_first [] e x xs filled first h = absurd cc
sound_first (f ∷ es) e x xs filled first h = subst (λ (e : ℕ × Slot). e.1.sound.items ≡ x.sound) same (by_frame f.1.frame filled.0 h)
  where
    same : f ≡ e
    same = cc

    by_frame : (o : Option ℕ) → NoneBehind o (held_in es) → cons_option (option_map (λ k. held k f.1.sound.items) o) (held_in es) ≡ x ∷ xs →
        f.1.sound.items ≡ x.sound
    by_frame None none is = let empty : [] ≡ x ∷ xs = sym none ∙ is in absurd cc
    by_frame (Some k) t is = let one : held k f.1.sound.items ≡ x = cc in ap (λ y. y.sound) one

pub first_is_long : (bytes : ℕ) (es : List (ℕ × Slot)) (e : ℕ × Slot) → AllByRecursion (λ e. length e.1.sound.items ≡ bytes) es → slice_get es 0 ≡ Some e →
    length e.1.sound.items ≡ bytes
first_is_long bytes [] e all first = absurd cc
first_is_long bytes (f ∷ es) e all first =
    let same : f ≡ e = cc in
    subst (λ (e : ℕ × Slot). length e.1.sound.items ≡ bytes) same all.0
