-- Bytes of which some parts are written, and pairs of which some are written.
use Rattle.std.proofs.Common.{◌≡◌, ℕ, suc, ◌+◌, ◌*◌, ◌/◌, ◌<◌, List, [], ◌∷◌, ◌++◌, length, get_or, take, drop, Option, refl, sym, ap, ap₂, subst, ◌∙◌, arith}
use Rattle.std.proofs.Common.{append-nil, append_assoc}
use Rattle.std.specs.Prelude.{flat_map}
use Rattle.std.proofs.Math.Seq.{drop-cons}
use Rattle.std.proofs.lemmas.Grind.{flat_map-append}
use Rattle.std.proofs.lemmas.List.{take-append-drop}
use Rattle.dst_spec.specs.Sample.{sound_bytes}
use Rattle.frame_cache.specs.Reader.{Reader, IsSame}
use Rattle.dst_read.specs.declared.faults.DecodeFault.{DecodeFault}
use Rattle.dst_ranges.specs.Parts.{Part, part, parts_between, parts_of}
use Rattle.dst_ranges.specs.Reading.{Wrote, Stopped}
use Rattle.dst_ranges.proofs.Asking.{parts_more}
use Rattle.dst_ranges.proofs.Geometry.{first_count, first_part, no_parts}
use Rattle.dst_ranges.proofs.Reading.{wrote_nothing, wrote_then, stopped_among}

-- ---- the bytes from a place up to an end: the parts in front of another place are written
pub record IsUnderway (r r' : Reader) (n from place end : ℕ) (bytes : Option (List ℕ)) (given given' : ℕ) (old new : Option (List ℕ)) (room left : Option ℕ) :
    Type 0 where
  pub done : List Part
  pub split : parts_between n from end ≡ done ++ parts_between n place end
  pub wrote : Wrote r r' done bytes given given' old new room left

pub at_first : (r : Reader) (n from end : ℕ) (bytes : Option (List ℕ)) (given : ℕ) (old : Option (List ℕ)) (room : Option ℕ) →
    IsUnderway r r n from from end bytes given given old old room room
at_first r n from end bytes given old room = record { done = []; split = refl; wrote = wrote_nothing r bytes given old room }

-- the part that comes next
next_split : (n from place end count : ℕ) (done : List Part) → 0 < n → place < end → count ≡ first_count n place end →
    parts_between n from end ≡ done ++ parts_between n place end →
    parts_between n from end ≡ done ++ part (place / n) place count ∷ parts_between n (place + count) end
next_split n from place end count done some h is split =
    split ∙ ap (λ ps. done ++ ps) (first_part n place end some h)
    ∙ ap (λ m. done ++ part (place / n) place m ∷ parts_between n (place + m) end) (sym is)

pub one_more : (r r' r'' : Reader) (n from place end count : ℕ) (bytes : Option (List ℕ)) (g g' g'' : ℕ) (old mid new : Option (List ℕ))
    (room half left : Option ℕ) →
    0 < n → place < end → count ≡ first_count n place end → IsUnderway r r' n from place end bytes g g' old mid room half →
    Wrote r' r'' (part (place / n) place count ∷ []) bytes g' g'' mid new half left → IsUnderway r r'' n from (place + count) end bytes g g'' old new room left
one_more r r' r'' n from place end count bytes g g' g'' old mid new room half left some h is u w = record {
  done = u.done ++ part (place / n) place count ∷ [];
  split = next_split n from place end count u.done some h is u.split
      ∙ sym (append_assoc u.done (part (place / n) place count ∷ []) (parts_between n (place + count) end));
  wrote = wrote_then r r' r'' u.done (part (place / n) place count ∷ []) bytes g g' g'' old mid new room half left u.wrote w;
}

pub all_done : (r r' : Reader) (n from place end : ℕ) (bytes : Option (List ℕ)) (g g' : ℕ) (old new : Option (List ℕ)) (room left : Option ℕ) →
    place ≡ end → IsUnderway r r' n from place end bytes g g' old new room left → Wrote r r' (parts_between n from end) bytes g g' old new room left
all_done r r' n from place end bytes g g' old new room left last u =
    let whole : parts_between n from end ≡ u.done =
    u.split ∙ ap (λ m. u.done ++ parts_between n m end) last ∙ ap (λ ps. u.done ++ ps) (no_parts n end) ∙ append-nil u.done in
    subst (λ ps. Wrote r r' ps bytes g g' old new room left) (sym whole) u.wrote

pub stopped_there : (fault : DecodeFault) (r r' : Reader) (n from place end count : ℕ) (bytes : Option (List ℕ)) (g g' : ℕ) (old mid new : Option (List ℕ))
    (room half : Option ℕ) →
    0 < n → place < end → count ≡ first_count n place end → IsUnderway r r' n from place end bytes g g' old mid room half →
    Stopped r' (part (place / n) place count ∷ []) fault bytes mid new half → Stopped r (parts_between n from end) fault bytes old new room
stopped_there fault r r' n from place end count bytes g g' old mid new room half some h is u s =
    subst (λ ps. Stopped r ps fault bytes old new room) (sym (next_split n from place end count u.done some h is u.split))
    (stopped_among fault r r' u.done (part (place / n) place count ∷ []) (parts_between n (place + count) end) bytes g g' old mid new room half u.wrote s)

-- ---- pairs of which the first ones are written
abbrev pub parts_at : ℕ → ℕ → List (ℕ × ℕ) → ℕ → ℕ × ℕ → List Part
parts_at n c pairs i d = parts_between n ((get_or pairs i d).0 * c) (((get_or pairs i d).0 + (get_or pairs i d).1) * c)

pub one_pair_more : (r r' r'' : Reader) (n c i : ℕ) (pairs : List (ℕ × ℕ)) (d : ℕ × ℕ) (bytes : Option (List ℕ)) (g g' g'' : ℕ)
    (old mid new : Option (List ℕ)) (room half left : Option ℕ) →
    i < length pairs → Wrote r r' (parts_of n c (take i pairs)) bytes g g' old mid room half →
    Wrote r' r'' (parts_at n c pairs i d) bytes g' g'' mid new half left →
    Wrote r r'' (parts_of n c (take (i + 1) pairs)) bytes g g'' old new room left
one_pair_more r r' r'' n c i pairs d bytes g g' g'' old mid new room half left h a b =
    subst (λ ps. Wrote r r'' ps bytes g g'' old new room left) (sym (parts_more n c pairs i d h))
    (wrote_then r r' r'' (parts_of n c (take i pairs)) (parts_at n c pairs i d) bytes g g' g'' old mid new room half left a b)

parts_split : (n c i : ℕ) (pairs : List (ℕ × ℕ)) (d : ℕ × ℕ) → i < length pairs →
    parts_of n c pairs ≡ parts_of n c (take i pairs) ++ (parts_at n c pairs i d ++ parts_of n c (drop (i + 1) pairs))
parts_split n c i pairs d h =
    let f : ℕ × ℕ → List Part = λ p. parts_between n (p.0 * c) ((p.0 + p.1) * c) in
    let next : i + 1 ≡ suc i = omega arith in
    ap (flat_map f) (sym (take-append-drop i pairs)) ∙ flat_map-append f (take i pairs) (drop i pairs)
    ∙ ap (λ ps. flat_map f (take i pairs) ++ flat_map f ps) (drop-cons pairs i d h ∙ ap (λ j. get_or pairs i d ∷ drop j pairs) (sym next))

pub stopped_in_pair : (fault : DecodeFault) (r r' : Reader) (n c i : ℕ) (pairs : List (ℕ × ℕ)) (d : ℕ × ℕ) (bytes : Option (List ℕ)) (g g' : ℕ)
    (old mid new : Option (List ℕ)) (room half : Option ℕ) →
    i < length pairs → Wrote r r' (parts_of n c (take i pairs)) bytes g g' old mid room half → Stopped r' (parts_at n c pairs i d) fault bytes mid new half →
    Stopped r (parts_of n c pairs) fault bytes old new room
stopped_in_pair fault r r' n c i pairs d bytes g g' old mid new room half h a s =
    subst (λ ps. Stopped r ps fault bytes old new room) (sym (parts_split n c i pairs d h))
    (stopped_among fault r r' (parts_of n c (take i pairs)) (parts_at n c pairs i d) (parts_of n c (drop (i + 1) pairs)) bytes g g' old mid new room half a s)

-- ---- by other names of the same
pub wrote_as : (r r' : Reader) (xs ys : List Part) (bytes bytes' : Option (List ℕ)) (g g' : ℕ) (old new : Option (List ℕ)) (room left : Option ℕ) → xs ≡ ys →
    bytes ≡ bytes' →
    Wrote r r' xs bytes g g' old new room left → Wrote r r' ys bytes' g g' old new room left
wrote_as r r' xs ys bytes bytes' g g' old new room left e f w =
    subst (λ b. Wrote r r' ys b g g' old new room left) f (subst (λ ps. Wrote r r' ps bytes g g' old new room left) e w)

pub stopped_as : (fault : DecodeFault) (r : Reader) (xs ys : List Part) (bytes bytes' : Option (List ℕ)) (old new : Option (List ℕ)) (room : Option ℕ) →
    xs ≡ ys → bytes ≡ bytes' →
    Stopped r xs fault bytes old new room → Stopped r ys fault bytes' old new room
stopped_as fault r xs ys bytes bytes' old new room e f s =
    subst (λ b. Stopped r ys fault b old new room) f (subst (λ ps. Stopped r ps fault bytes old new room) e s)

-- the part of a reader that is the same but for what it holds
pub part_as : (r r' : Reader) (n place k count : ℕ) → IsSame r r' → n ≡ sound_bytes r.shape → k ≡ count →
    part (place / sound_bytes r'.shape) place k ∷ [] ≡ part (place / n) place count ∷ []
part_as r r' n place k count same is e =
    let bytes : sound_bytes r'.shape ≡ n = ap (λ (x : Reader). sound_bytes x.shape) same ∙ sym is in
    ap₂ {A = ℕ} {B = ℕ} (λ m j. part (place / m) place j ∷ []) bytes e

-- the parts of a pair, by the places that are worked out of it
pub pair_parts : (n c : ℕ) (pairs : List (ℕ × ℕ)) (i : ℕ) (d : ℕ × ℕ) (bytes first count group : ℕ) → bytes ≡ n → first ≡ (get_or pairs i d).0 →
    count ≡ (get_or pairs i d).1 → group ≡ c →
    parts_between bytes (first * group) (first * group + count * group) ≡ parts_at n c pairs i d
pair_parts n c pairs i d bytes first count group is a b e =
    let from : first * group ≡ (get_or pairs i d).0 * c = ap₂ {A = ℕ} {B = ℕ} (λ x y. x * y) a e in
    let long : count * group ≡ (get_or pairs i d).1 * c = ap₂ {A = ℕ} {B = ℕ} (λ x y. x * y) b e in
    let both : ((get_or pairs i d).0 + (get_or pairs i d).1) * c ≡ (get_or pairs i d).0 * c + (get_or pairs i d).1 * c = omega arith in
    let end : first * group + count * group ≡ ((get_or pairs i d).0 + (get_or pairs i d).1) * c = omega (arith, from, long, both) in
    ap (λ m. parts_between m (first * group) (first * group + count * group)) is ∙ ap₂ {A = ℕ} {B = ℕ} (parts_between n) from end
