-- The fields of tables that were read are the tables that they gave.
use Rattle.std.proofs.Common.{◌≡◌, ◌≢◌, ℕ, zero, suc, ◌+◌, ◌-◌, ◌^◌, ◌<◌, ◌≤◌, ◌==◌, ◌&&◌, nat_lt, Bool, true, false, cond, if◌then◌else◌, List, []}
use Rattle.std.proofs.Common.{◌∷◌, ◌++◌, length, take, drop, reverse, refl, ap, ap₂, sym, subst, ◌∙◌, arith, length-append, append_assoc, append-nil}
use Rattle.std.proofs.Common.{take_at, drop_at, ℤ, ◌+ℤ◌, ◌-ℤ◌, Option, Some, None, eqb-true, ltb-false}
use Rattle.std.proofs.lemmas.Int.{ints}
use Rattle.std.proofs.lemmas.Bool.{eqb-false}
use Rattle.std.specs.List.{AllByRecursion}
use Rattle.dst_spec.specs.Bits.{low_bits}
use Rattle.dst_spec.specs.Rice.{rice}
use Rattle.dst_spec.specs.Table.{Kind, InRange, IsTable, is_alone, plain_value, plain_values, eighth, later_values, Spelling, plain, coded, Suits}
use Rattle.dst_spec.specs.Table.{body, table_bits, HasTable}
use Rattle.dst_spec.specs.Header.{HasTables}
use Rattle.dst_spec.specs.Fields.{gives, ◌>>=◌, any, number}
use Rattle.dst_spec.specs.Offends.{times, value_of, plain_fields, range_rule, later_fields, method_rule, coded_fields, body_fields, table_fields}
use Rattle.dst_spec.specs.declared.faults.Reason.{Reason}
use Rattle.dst_spec.specs.declared.faults.Reason.TheVariants.{MethodReserved, TableTooShort}
use Rattle.dst_spec.proofs.Taking.{Takes, Takes-gives, Takes-bind, Takes-field, Takes-residual, Takes-last, Takes-weaker, Takes-bit}
use Rattle.dst_spec.proofs.Tables.{IsKind, InRange-range_rule}
use Rattle.dst_spec.proofs.Lists.{all_append}
use Rattle.dst_spec.proofs.TakingMaps.{EachIs, Takes-times}

-- tables
Takes-plain : (K : Kind) → IsKind K → Takes (plain_fields K) (λ w v. InRange K v × (w ≡ plain_value K v))
Takes-plain K k =
    Takes-field K.value_bits any (λ x. gives (value_of K x)) (λ w v. InRange K v × (w ≡ plain_value K v))
    (λ x h e. Takes-gives (value_of K x) (λ w v. InRange K v × (low_bits K.value_bits x ++ w ≡ plain_value K v))
    ((k.back x h).0, append-nil (low_bits K.value_bits x) ∙ sym (k.back x h).1))

each_plain : (K : Kind) (w : List ℕ) (vs : List ℤ) → EachIs (λ w v. InRange K v × (w ≡ plain_value K v)) w vs →
    AllByRecursion (InRange K) vs × (w ≡ plain_values K vs)
unfolding plain_values
each_plain K w [] h = (tt, h)
each_plain K w (v ∷ vs) h =
    let rest = each_plain K h.1 vs h.3 in
    ((h.2.0, rest.0), h.4 ∙ ap₂ (λ s t. s ++ t) h.2.1 rest.1)

abbrev ArePlain : Kind → ℕ → List ℕ → List ℤ → Type 0
ArePlain K n w vs = (length vs ≡ n) × AllByRecursion (InRange K) vs × (w ≡ plain_values K vs)

Takes-plains : (K : Kind) (n : ℕ) → IsKind K → Takes (times n (plain_fields K)) (ArePlain K n)
Takes-plains K n k =
    Takes-weaker (times n (plain_fields K)) (λ w vs. (length vs ≡ n) × EachIs (λ w v. InRange K v × (w ≡ plain_value K v)) w vs) (ArePlain K n)
    (Takes-times n (plain_fields K) (λ w v. InRange K v × (w ≡ plain_value K v)) (Takes-plain K k))
    (λ w vs h. (h.0, (each_plain K w vs h.1).0, (each_plain K w vs h.1).1))

abbrev AreLater : Kind → List ℤ → ℕ → ℕ → List ℤ → List ℕ → List ℤ → Type 0
AreLater K weights m n earlier w vs = (length vs ≡ n) × AllByRecursion (InRange K) vs × (w ≡ later_values weights m earlier vs)

Takes-later : (K : Kind) (weights : List ℤ) (m n : ℕ) (earlier : List ℤ) → Takes (later_fields K weights m n earlier) (AreLater K weights m n earlier)
unfolding later_fields later_values
Takes-later K weights m zero earlier = Takes-gives [] (AreLater K weights m 0 earlier) (refl, tt, refl)
Takes-later K weights m (suc n) earlier =
    let e = eighth weights earlier in
    Takes-residual m (λ r. range_rule K (r -ℤ e)) (λ r. later_fields K weights m n ((r -ℤ e) ∷ earlier) >>= (λ vs. gives ((r -ℤ e) ∷ vs)))
    (AreLater K weights m (suc n) earlier)
    (λ r keeps.
    let v = r -ℤ e in
    let again : v +ℤ e ≡ r = omega (arith, ints) in
    Takes-last (later_fields K weights m n (v ∷ earlier)) (λ vs. v ∷ vs) (AreLater K weights m n (v ∷ earlier))
    (λ w vs. AreLater K weights m (suc n) earlier (rice r m ++ w) vs)
    (Takes-later K weights m n (v ∷ earlier))
    (λ w vs a. (ap suc a.0, (InRange-range_rule K v keeps, a.1), ap₂ (λ s t. rice s m ++ t) (sym again) a.2)))

met_method : (count method : ℕ) → method < 4 → method_rule count method ≡ None → (method < 3) × (method + 1 ≤ count)
met_method count method h k = go (method == 3) (nat_lt count (method + 1)) refl refl k
  where
    go : (a b : Bool) → (method == 3) ≡ a → nat_lt count (method + 1) ≡ b →
        ◌≡◌ {A = Option Reason} (cond a (Some MethodReserved) (cond b (Some TableTooShort) None)) None → (method < 3) × (method + 1 ≤ count)
    go true b p q e = absurd cc
    go false true p q e = absurd cc
    go false false p q e =
        let ne : method ≢ 3 = eqb-false method 3 p in
        (omega arith, ltb-false count (method + 1) q)

-- what a coded table's fields behind its method are
record IsCodedAs (K : Kind) (count method : ℕ) (w : List ℕ) (vs : List ℤ) : Type 0 where
  first : List ℤ
  later : List ℤ
  m : ℕ
  small : m < 8
  front : length first ≡ method + 1
  first_each : AllByRecursion (InRange K) first
  behind : length later ≡ count - (method + 1)
  later_each : AllByRecursion (InRange K) later
  whole : vs ≡ first ++ later
  spelled : w ≡ plain_values K first ++ (low_bits 3 m ++ later_values (K.weights method) m (reverse first) later)

-- those behind the first values
record IsBehind (K : Kind) (count method : ℕ) (first : List ℤ) (w : List ℕ) (vs : List ℤ) : Type 0 where
  later : List ℤ
  m : ℕ
  small : m < 8
  behind : length later ≡ count - (method + 1)
  later_each : AllByRecursion (InRange K) later
  whole : vs ≡ first ++ later
  spelled : w ≡ low_bits 3 m ++ later_values (K.weights method) m (reverse first) later

Takes-behind : (K : Kind) (count method : ℕ) (first : List ℤ) →
    Takes (number 3 >>= (λ m. later_fields K (K.weights method) m (count - (method + 1)) (reverse first) >>= (λ later. gives (first ++ later))))
    (IsBehind K count method first)
Takes-behind K count method first =
    Takes-field 3 any (λ m. later_fields K (K.weights method) m (count - (method + 1)) (reverse first) >>= (λ later. gives (first ++ later)))
    (IsBehind K count method first)
    (λ m h k. Takes-last (later_fields K (K.weights method) m (count - (method + 1)) (reverse first)) (λ later. first ++ later)
    (AreLater K (K.weights method) m (count - (method + 1)) (reverse first))
    (λ w vs. IsBehind K count method first (low_bits 3 m ++ w) vs) (Takes-later K (K.weights method) m (count - (method + 1)) (reverse first))
    (λ w later a. record { later = later; m = m; small = h; behind = a.0; later_each = a.1; whole = refl; spelled = ap (λ zs. low_bits 3 m ++ zs) a.2 }))

Takes-coded_as : (K : Kind) (count method : ℕ) → IsKind K →
    Takes (times (method + 1) (plain_fields K) >>= (λ first.
    number 3 >>= (λ m. later_fields K (K.weights method) m (count - (method + 1)) (reverse first) >>= (λ later. gives (first ++ later)))))
    (IsCodedAs K count method)
Takes-coded_as K count method k =
    Takes-bind (times (method + 1) (plain_fields K)) (λ first.
    number 3 >>= (λ m. later_fields K (K.weights method) m (count - (method + 1)) (reverse first) >>= (λ later. gives (first ++ later))))
    (ArePlain K (method + 1)) (IsBehind K count method) (IsCodedAs K count method) (Takes-plains K (method + 1) k) (Takes-behind K count method)
    (λ u v first vs a b. record {
      first = first;
      later = b.later;
      m = b.m;
      small = b.small;
      front = a.0;
      first_each = a.1;
      behind = b.behind;
      later_each = b.later_each;
      whole = b.whole;
      spelled = ap₂ (λ s t. s ++ t) a.2 b.spelled;
    })

-- a table's values behind its length
record IsBody (K : Kind) (count : ℕ) (w : List ℕ) (vs : List ℤ) : Type 0 where
  long : length vs ≡ count
  each : AllByRecursion (InRange K) vs
  spelling : Spelling
  suits : Suits K vs spelling
  spelled : w ≡ body K vs spelling

regrouped : (a b c d : List ℕ) → a ++ (b ++ (c ++ d)) ≡ a ++ b ++ c ++ d
regrouped a b c d = simp append_assoc

body_of_coded : (K : Kind) (count method : ℕ) (w : List ℕ) (vs : List ℤ) → is_alone K count ≡ false → method < 3 → method + 1 ≤ count →
    IsCodedAs K count method w vs → IsBody K count (1 ∷ low_bits 2 method ++ w) vs
body_of_coded K count method w vs alone h k c =
    let n = method + 1 in
    let front : take n vs ≡ c.first = ap (take n) c.whole ∙ take_at c.first c.later n c.front in
    let behind : drop n vs ≡ c.later = ap (drop n) c.whole ∙ drop_at c.first c.later n c.front in
    let long : length vs ≡ count = ap length c.whole ∙ omega (arith, length-append c.first c.later, c.front, c.behind) in
    record {
      long = long;
      each = subst (AllByRecursion (InRange K)) (sym c.whole) (all_append (InRange K) c.first c.later c.first_each c.later_each);
      spelling = coded method c.m;
      suits = (ap (is_alone K) long ∙ alone, h, omega arith, c.small);
      spelled = ap (λ zs. 1 ∷ low_bits 2 method ++ zs) c.spelled
          ∙ rw (front, behind) (ap (λ zs. 1 ∷ zs) (regrouped (low_bits 2 method) (plain_values K c.first) (low_bits 3 c.m)
          (later_values (K.weights method) c.m (reverse c.first) c.later)));
    }

Takes-body : (K : Kind) (count : ℕ) → IsKind K → is_alone K count ≡ false → Takes (body_fields K count) (IsBody K count)
Takes-body K count k alone =
    Takes-bit (λ x. if x == 0 then times count (plain_fields K) else coded_fields K count) (IsBody K count)
    (Takes-weaker (times count (plain_fields K)) (ArePlain K count) (λ w vs. IsBody K count (0 ∷ w) vs) (Takes-plains K count k)
    (λ w vs a. record { long = a.0; each = a.1; spelling = plain; suits = tt; spelled = ap (λ zs. 0 ∷ zs) a.2 }))
    (Takes-field 2 (method_rule count) (λ method. times (method + 1) (plain_fields K) >>=
    (λ first. number 3 >>= (λ m. later_fields K (K.weights method) m (count - (method + 1)) (reverse first) >>= (λ later. gives (first ++ later)))))
    (λ w vs. IsBody K count (1 ∷ w) vs)
    (λ method h keeps.
    let met = met_method count method h keeps in
    Takes-weaker (times (method + 1) (plain_fields K) >>= (λ first.
    number 3 >>= (λ m. later_fields K (K.weights method) m (count - (method + 1)) (reverse first) >>= (λ later. gives (first ++ later)))))
    (IsCodedAs K count method) (λ w vs. IsBody K count (1 ∷ low_bits 2 method ++ w) vs) (Takes-coded_as K count method k)
    (λ w vs c. body_of_coded K count method w vs alone met.0 met.1 c)))

-- a table
alone_is : (K : Kind) (count : ℕ) → (K.lone && (count == 1)) ≡ true → (K.lone ≡ true) × (count ≡ 1)
alone_is K count e = go K.lone (count == 1) refl refl e
  where
    go : (a b : Bool) → K.lone ≡ a → (count == 1) ≡ b → (a && b) ≡ true → (K.lone ≡ true) × (count ≡ 1)
    go true true p q r = (p, eqb-true count 1 q)
    go true false p q r = absurd cc
    go false b p q r = absurd cc

not_both : (K : Kind) (count : ℕ) → K.lone ≡ true → count ≡ 1 → is_alone K count ≡ false → ⊥
not_both K count l one e =
    let at_one : is_alone K 1 ≡ true = rw l refl in
    let t : is_alone K count ≡ true = ap (is_alone K) one ∙ at_one in
    cc

Takes-table : (K : Kind) → IsKind K → InRange K K.greatest → Takes (table_fields K) (λ w vs. HasTable K vs w)
unfolding table_fields table_bits
Takes-table K k top =
    Takes-field K.length_bits any (λ longer. if is_alone K (longer + 1) then gives (K.greatest ∷ []) else body_fields K (longer + 1)) (λ w vs. HasTable K vs w)
    (λ longer h e. go longer h (is_alone K (longer + 1)) refl)
  where
    go : (longer : ℕ) → longer < 2 ^ K.length_bits → (b : Bool) → is_alone K (longer + 1) ≡ b →
        Takes (if b then gives (K.greatest ∷ []) else body_fields K (longer + 1)) (λ w vs. HasTable K vs (low_bits K.length_bits longer ++ w))
    go longer h true e =
        let p = alone_is K (longer + 1) e in
        let none : longer ≡ 0 = omega (arith, p.1) in
        let at_one : is_alone K 1 ≡ true = ap (is_alone K) (sym p.1) ∙ e in
        let some : 1 ≤ 2 ^ K.length_bits = omega (arith, h) in
        Takes-gives (K.greatest ∷ []) (λ w vs. HasTable K vs (low_bits K.length_bits longer ++ w)) (record {
          table = record { least = omega arith; most = some; each = (top, tt); alone = λ a b. refl };
          spelling = plain;
          suits = tt;
          spelled = ap (λ z. low_bits K.length_bits z ++ []) none
              ∙ ap (λ b. low_bits K.length_bits 0 ++ cond b [] (body K (K.greatest ∷ []) plain)) (sym at_one);
        })
    go longer h false e =
        Takes-weaker (body_fields K (longer + 1)) (IsBody K (longer + 1)) (λ w vs. HasTable K vs (low_bits K.length_bits longer ++ w))
        (Takes-body K (longer + 1) k e)
        (λ w vs b.
        let not_alone : is_alone K (length vs) ≡ false = ap (is_alone K) b.long ∙ e in
        let long = b.long in
        let last : longer ≡ length vs - 1 = omega arith in
        record {
          table = record { least = omega arith; most = omega (arith, h); each = b.each; alone = λ l one. absurd (not_both K (length vs) l one not_alone) };
          spelling = b.spelling;
          suits = b.suits;
          spelled = ap₂ (λ z t. low_bits K.length_bits z ++ t) last (b.spelled ∙ ap (λ c. cond c [] (body K vs b.spelling)) (sym not_alone));
        })

-- tables one after the other
tables_are : (K : Kind) (w : List ℕ) (tables : List (List ℤ)) → EachIs (λ w vs. HasTable K vs w) w tables → HasTables K tables w
unfolding HasTables
tables_are K w [] h = h
tables_are K w (vs ∷ tables) h = (h.0, h.1, h.2, tables_are K h.1 tables h.3, h.4)

pub each_is_table : (K : Kind) (w : List ℕ) (tables : List (List ℤ)) → HasTables K tables w → AllByRecursion (IsTable K) tables
unfolding HasTables
each_is_table K w [] h = tt
each_is_table K w (vs ∷ tables) h = (h.2.table, each_is_table K h.1 tables h.3)

pub Takes-tables : (K : Kind) (n : ℕ) → IsKind K → InRange K K.greatest →
    Takes (times n (table_fields K)) (λ w tables. (length tables ≡ n) × HasTables K tables w)
Takes-tables K n k top =
    Takes-weaker (times n (table_fields K)) (λ w ts. (length ts ≡ n) × EachIs (λ w vs. HasTable K vs w) w ts) (λ w tables. (length tables ≡ n)
    × HasTables K tables w)
    (Takes-times n (table_fields K) (λ w vs. HasTable K vs w) (Takes-table K k top)) (λ w ts h. (h.0, tables_are K w ts h.1))
