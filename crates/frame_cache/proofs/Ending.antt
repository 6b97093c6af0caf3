-- A read goes on with a frame, or ends: at a frame that is refused, where the source fails, or behind the last frame.
use Rattle.std.proofs.Common.{◌≡◌, ℕ, zero, suc, ◌+◌, ◌-◌, ◌*◌, ◌/◌, ◌<◌, ◌≤◌, false, List, [], ◌∷◌, ◌++◌, length, take, Option, Some, refl}
use Rattle.std.proofs.Common.{sym, ap, subst, ◌∙◌, arith}
use Rattle.std.specs.Prelude.{min}
use Rattle.std.specs.List.{range_with_len}
use Rattle.std.proofs.Math.Nat.{mul-le-mul}
use Rattle.std.proofs.lemmas.List.{take_all}
use Rattle.std.proofs.lemmas.Nat.{div-add-mod'}
use Rattle.dst_spec.specs.Sample.{IsShape, sound_bytes}
use Rattle.dst_spec.specs.Means.{Means}
use Rattle.dst_spec.specs.Offends.{Offends}
use Rattle.dst_spec.specs.declared.faults.FrameFault.{FrameFault}
use Rattle.dst_spec.proofs.Numbers.{length-range}
use Rattle.dst_spec.proofs.SymbolsBefore.{range-more}
use Rattle.dsdiff_spec.specs.Bytes.{bytes_at}
use Rattle.dsdiff_spec.specs.Form.{Form, shape, sound_bytes_of}
use Rattle.dsdiff_spec.specs.Walk.{entry, entries, frame_at}
use Rattle.dsdiff_spec.specs.Ranges.{Sound, is_held, touched}
use Rattle.frame_cache.specs.Reader.{Reader, HoldsTogether, order, wanted, frame_in, IsSame, IsReaderOf, HoldsSounds}
use Rattle.frame_cache.specs.Reads.{HasWanted, IsPartWay, IsRefusedAt}
use Rattle.frame_cache.proofs.Orders.{HasInFront, in_front_of, range-parts, few_decoded}
use Rattle.frame_cache.proofs.Sounding.{part_of_sound}
use Rattle.frame_cache.proofs.Wanting.{none_wanted, wanted_then}

-- ---- bounds
pub frame_below : (r : Reader) (n k bytes : ℕ) → HoldsTogether r → n ≡ sound_bytes r.shape → bytes ≤ r.size → k * n < bytes → k < length r.index
frame_below r n k bytes h is within l =
    let product = ap (λ m. length r.index * m) is in
    let whole : bytes ≤ length r.index * n = omega (arith, product, h.size_most) in
    grind arith

pub size_is_small : (r : Reader) (n : ℕ) → HoldsTogether r → n ≡ sound_bytes r.shape → n ≤ 112896 → r.size ≤ 112896000000
size_is_small r n h is most =
    let product = mul-le-mul {n₁ = length r.index} {m₁ = n} {n₂ = 1000000} {m₂ = 112896} h.few most in
    let whole = ap (λ m. length r.index * m) is in
    omega (arith, product, whole, h.size_most)

pub decoded_below : (r r' : Reader) (a m n : ℕ) (bytes : Option (List ℕ)) (g g' : ℕ) → HasWanted r r' (range_with_len a m) n bytes g g' → n ≤ m
decoded_below r r' a m n bytes g g' w = omega (arith, w.decoded_is, few_decoded (order r) (range_with_len a m) r.capacity, length-range a m)

pub one_decoded : (r r' : Reader) (k n : ℕ) (bytes : Option (List ℕ)) (g g' : ℕ) → HasWanted r r' (k ∷ []) n bytes g g' → n ≤ 1
one_decoded r r' k n bytes g g' w = omega (arith, w.decoded_is, few_decoded (order r) (k ∷ []) r.capacity)

pub some_bytes : (from len first end frame : ℕ) → (len ≡ 0 → end ≡ first) → first ≤ frame → frame < end → from < from + len
some_bytes from zero first end frame none least below = let same = none refl in absurd (omega arith)
some_bytes from (suc len) first end frame none least below = omega arith

pub all_bytes : (from len end n frame : ℕ) → (0 < len → from + len ≤ end * n) → frame ≡ end → min (from + len) (frame * n) - from ≡ len
all_bytes from zero end n frame reached is = omega arith
all_bytes from (suc len) end n frame reached is =
    let enough = reached (omega arith) in
    let product = ap (λ k. k * n) is in
    omega arith

-- ---- in front of the first frame
pub nothing_wanted : (r : Reader) (a : ℕ) (bytes : Option (List ℕ)) (given : ℕ) → HasWanted r r (range_with_len a (a - a)) 0 bytes given given
nothing_wanted r a bytes given =
    let none : 0 ≡ a - a = omega arith in
    subst (λ m. HasWanted r r (range_with_len a m) 0 bytes given given) none (none_wanted r bytes given)

pub nothing_read : (sound out : List ℕ) (from len n : ℕ) →
    take (min (from + len) (from / n * n) - from) out ≡ bytes_at sound from (min (from + len) (from / n * n) - from)
nothing_read sound out from len n =
    let none : min (from + len) (from / n * n) - from ≡ 0 = omega (arith, div-add-mod' from n) in
    rw none refl

-- ---- one frame more
pub front_is : (r r1 r2 : Reader) (k : ℕ) (ks : List ℕ) (n m : ℕ) (bytes bytes' : Option (List ℕ)) (g g' h h' : ℕ) → 0 < r.capacity →
    HasWanted r r1 ks n bytes g g' → HasWanted r1 r2 (k ∷ []) m bytes' h h' → HasInFront r2.held k
front_is r r1 r2 k ks n m bytes bytes' g g' h h' some w w' =
    let capacity = ap (λ (x : Reader). x.capacity) w.same in
    in_front_of r2.held (order r1) k r1.capacity w'.order_is (omega (arith, capacity, some))

pub one_more_wanted : (r r1 r2 : Reader) (a k n m : ℕ) (bytes bytes' : Option (List ℕ)) (g g' g'' : ℕ) → a ≤ k → bytes' ≡ bytes →
    HasWanted r r1 (range_with_len a (k - a)) n bytes g g' → HasWanted r1 r2 (k ∷ []) m bytes' g' g'' →
    HasWanted r r2 (range_with_len a (k + 1 - a)) (n + m) bytes g g''
one_more_wanted r r1 r2 a k n m bytes bytes' g g' g'' le same w w' =
    let count : k + 1 - a ≡ k - a + 1 = omega arith in
    let last : a + (k - a) ≡ k = omega arith in
    let all : range_with_len a (k - a) ++ k ∷ [] ≡ range_with_len a (k + 1 - a) =
    sym (ap (range_with_len a) count ∙ range-more a (k - a) ∙ ap (λ j. range_with_len a (k - a) ++ j ∷ []) last) in
    subst (λ ks. HasWanted r r2 ks (n + m) bytes g g'') all
    (wanted_then r r1 r2 (range_with_len a (k - a)) (k ∷ []) n m bytes g g' g'' w (subst (λ b. HasWanted r1 r2 (k ∷ []) m b g' g'') same w'))

-- a part of the frame in front is that part of the whole sound
pub front_part : (file : List ℕ) (form : Form) (sound s : List ℕ) (r r' : Reader) (k n end : ℕ) → IsReaderOf file form r → IsShape r.shape →
    Sound file form sound →
    IsSame r r' → HoldsSounds file r' → (h : HasInFront r'.held k) → s ≡ h.first.sound → k < length r.index → n ≡ sound_bytes r.shape → end ≤ r.size →
    (i m : ℕ) → i + m ≤ n → k * n + i + m ≤ end → bytes_at sound (k * n + i) m ≡ bytes_at s i m
front_part file form sound s r r' k n end of lawful whole same holds_sounds h is l bytes most i m fits within =
    let held = subst (HoldsSounds file) same holds_sounds in
    let first = (subst (λ ks. HoldsSounds file (record r { held = ks })) h.parts held).0 in
    let here : Means r.shape (frame_in file r k) h.first.sound = subst (λ j. Means r.shape (frame_in file r j) h.first.sound) h.frame_is first in
    let shaped : Means (shape form) (frame_at file (entry r.index k)) h.first.sound =
    subst (λ f. Means f (frame_in file r k) h.first.sound) (sym of.shape_is) here in
    let found : Means (shape form) (frame_at file (entry (entries file form) k)) h.first.sound =
    subst (λ es. Means (shape form) (frame_at file (entry es k)) h.first.sound) (sym of.entries_are) shaped in
    let n_is : n ≡ sound_bytes_of form = bytes ∙ ap sound_bytes (sym of.shape_is) in
    let count = ap length of.entries_are in
    let place : k * n ≡ k * sound_bytes_of form = ap (λ b. k * b) n_is in
    ap (λ p. bytes_at sound (p + i) m) place
    ∙ part_of_sound file form sound k i m h.first.sound (subst IsShape (sym of.shape_is) lawful) whole (omega (arith, count, l)) found
    (omega (arith, n_is, fits))
    (omega (arith, place, within, most, of.size_is))
    ∙ ap (λ w. bytes_at w i m) (sym is)

-- ---- the frames that a part wants stand in a row
pub wants_are : (r : Reader) (n from len end : ℕ) → n ≡ sound_bytes r.shape → touched n from (from + len) ≡ range_with_len (from / n) (end - from / n) →
    wanted r from len ≡ range_with_len (from / n) (end - from / n)
wants_are r n from len end bytes row = ap (λ n. touched n from (from + len)) (sym bytes) ∙ row

pub is_among : (first k end : ℕ) → first ≤ k → k < end → k - first < end - first
is_among first k end after before = omega arith

-- ---- a read that ends before its last frame
wants_from : (wants : List ℕ) (a e k : ℕ) → wants ≡ range_with_len a e → a ≤ k → k - a < e →
    wants ≡ range_with_len a (k - a) ++ k ∷ range_with_len (k + 1) (e - (k - a) - 1)
wants_from wants a e k is le l =
    let count : e ≡ k - a + suc (e - (k - a) - 1) = omega arith in
    let last : a + (k - a) ≡ k = omega arith in
    is ∙ ap (range_with_len a) count ∙ range-parts a (k - a) (e - (k - a) - 1)
    ∙ ap (λ j. range_with_len a (k - a) ++ j ∷ range_with_len (j + 1) (e - (k - a) - 1)) last

pub part_way : (r r1 r2 : Reader) (wants : List ℕ) (a e k n : ℕ) (bytes : Option (List ℕ)) (g g' : ℕ) → wants ≡ range_with_len a e → a ≤ k → k - a < e →
    HasWanted r r1 (range_with_len a (k - a)) n bytes g g' → r2 ≡ r1 → IsPartWay r wants (order r2)
part_way r r1 r2 wants a e k n bytes g g' is le l w same =
    record {
      before = range_with_len a (k - a);
      behind = k ∷ range_with_len (k + 1) (e - (k - a) - 1);
      parts = wants_from wants a e k is le l;
      order_is = ap order same ∙ w.order_is;
    }

pub refused_at : (r r1 r2 : Reader) (wants : List ℕ) (a e k n : ℕ) (bytes bytes' : Option (List ℕ)) (g g' : ℕ) (fault : FrameFault) →
    wants ≡ range_with_len a e → a ≤ k → k - a < e → HasWanted r r1 (range_with_len a (k - a)) n bytes g g' → r2 ≡ r1 → is_held (order r1) k ≡ false →
    bytes' ≡ bytes → ((file : List ℕ) → bytes' ≡ Some file → Offends r1.shape (frame_in file r1 k) fault) → IsRefusedAt r wants (order r2) bytes k fault
refused_at r r1 r2 wants a e k n bytes bytes' g g' fault is le l w same none told offends =
    record {
      before = range_with_len a (k - a);
      behind = range_with_len (k + 1) (e - (k - a) - 1);
      parts = wants_from wants a e k is le l;
      order_is = ap order same ∙ w.order_is;
      not_held = subst (λ (x : Reader). is_held (order x) k ≡ false) (sym same) none;
      offends = λ file h. subst (λ (x : Reader). Offends x.shape (frame_in file x k) fault) w.same (offends file (told ∙ h));
      first = w.means;
    }

-- ---- a read that is done
pub all_read : (sound out : List ℕ) (from len done : ℕ) → length out ≡ len → done ≡ len → take done out ≡ bytes_at sound from done →
    out ≡ bytes_at sound from len
all_read sound out from len done long is h = sym (take_all len out (omega arith)) ∙ ap (λ k. take k out) (sym is) ∙ h ∙ ap (bytes_at sound from) is
