-- What the numbers of jobs and of their feed say, where they are the same.
use Rattle.std.proofs.Common.{◌≡◌, ℕ, zero, suc, ◌+◌, ◌*◌, ◌^◌, ◌<◌, ◌≤◌, Bool, true, false, List, [], ◌∷◌, length, get_or, Option, Some, None, refl, sym, ap}
use Rattle.std.proofs.Common.{max, vec_capacity, ◌∙◌, arith}
use Rattle.std.specs.Prelude.{◌&&◌, not, if◌then◌else◌}
use Rattle.std.specs.List.{list_all}
use Rattle.std.proofs.lemmas.Bool.{and_parts, and_from, eqb-true, eq-eqb, le-ltb, lt-ltb, ltb-true, ltb-false, not-true}
use Rattle.dst_spec.specs.Sample.{Shape, sound_bytes}
use Rattle.dsdiff_spec.specs.Bytes.{◌below◌, ◌above◌}
use Rattle.dsdiff_spec.specs.Walk.{Entry, entry}
use Rattle.dst_commands.specs.Rooms.{shape_number}
use Rattle.dst_commands.proofs.Rooms.{same_shape}
use Rattle.dst_read.specs.Jobs.{longest, has_room, room_number, shape_of_job}
use Rattle.dst_read.specs.Feeding.{lies_in, feed_shape}
use Rattle.dst_read.specs.declared.feed.StoredFrames.{StoredFrames}
use Rattle.dst_read.specs.declared.jobs.Job.{Job}

-- ---- buffers that have the number of a shape have room for its frames
pub record HasRoom (size long room sound : ℕ) (f g : Shape) : Type 0 where
  pub same : f ≡ g
  pub short : size ≤ long
  pub most : long ≤ longest g
  pub enough : longest g ≤ room
  pub sound_long : sound ≡ sound_bytes g

pub room_for : (size long room sound : ℕ) (f g : Shape) → g.channels < 8 → room_number size long room sound f ≡ shape_number g →
    HasRoom size long room sound f g
room_for size long room sound f g small e = go (has_room size long room sound f) refl e
  where
    go : (b : Bool) → has_room size long room sound f ≡ b → (if b then shape_number f else 0) ≡ shape_number g → HasRoom size long room sound f g
    go false h n = absurd (omega (arith, n))
    go true h n =
        let s = and_parts _ _ h in
        let r = and_parts _ _ s.0 in
        let q = and_parts _ _ r.0 in
        let p = and_parts _ _ q.0 in
        let same = same_shape f g (ltb-true f.channels 8 p.0) small n in
        let sizes = ap longest same in
        record {
          same = same;
          short = ltb-false long size (not-true _ p.1);
          most = omega (arith, ltb-false (longest f) long (not-true _ q.1), sizes);
          enough = omega (arith, ltb-false room (longest f) (not-true _ r.1), sizes);
          sound_long = eqb-true sound (sound_bytes f) s.1 ∙ ap sound_bytes same;
        }

pub has_number : (size long room sound : ℕ) (f g : Shape) → g.channels < 8 → HasRoom size long room sound f g →
    room_number size long room sound f ≡ shape_number g
has_number size long room sound f g small h =
    let few : g.channels below 8 ≡ true = lt-ltb g.channels 8 small in
    let all : has_room size long room sound g ≡ true = and_from _ _ (and_from _ _ (and_from _ _ (and_from _ _ few (ap not (le-ltb long size h.short)))
    (ap not (le-ltb (longest g) long h.most))) (ap not (le-ltb room (longest g) h.enough))) (eq-eqb sound (sound_bytes g) h.sound_long) in
    ap (room_number size long room sound) h.same ∙ ap (λ b. if b then shape_number g else 0) all

-- a number that no job has
never_one : (size long room sound : ℕ) (f : Shape) → room_number size long room sound f ≡ 1 → ⊥
never_one size long room sound f e = go (has_room size long room sound f) e
  where
    go : (b : Bool) → (if b then shape_number f else 0) ≡ 1 → ⊥
    go true n = omega (arith, n)
    go false n = omega (arith, n)

-- ---- a feed that has a job's number has the frames
all_at : {A : Type 0} (p : A → Bool) (xs : List A) (k : ℕ) (d : A) → list_all p xs ≡ true → k < length xs → p (get_or xs k d) ≡ true
all_at p [] k d h l = absurd (omega arith)
all_at p (x ∷ xs) zero d h l = (and_parts _ _ h).0
all_at p (x ∷ xs) (suc k) d h l = all_at p xs k d (and_parts _ _ h).1 (omega arith)

all_from : {A : Type 0} (p : A → Bool) (xs : List A) (d : A) → ((k : ℕ) → k < length xs → p (get_or xs k d) ≡ true) → list_all p xs ≡ true
all_from p [] d h = refl
all_from p (x ∷ xs) d h = and_from _ _ (h 0 (omega arith)) (all_from p xs d (λ k l. h (suc k) (omega arith)))

pub record CanFill (known : Option ℕ) (index : List Entry) (size long room sound : ℕ) (f g : Shape) : Type 0 where
  pub bytes : ℕ
  pub known_is : known ≡ Some bytes
  pub few : g.channels < 8
  pub has : HasRoom size long room sound f g
  pub inside : (k : ℕ) (d : Entry) → k < length index → (get_or index k d).offset + (get_or index k d).size ≤ bytes
  pub fits : (k : ℕ) (d : Entry) → k < length index → (get_or index k d).offset + (get_or index k d).size < 2 ^ 64
  pub short : (k : ℕ) (d : Entry) → k < length index → (get_or index k d).size ≤ longest g

lies : (bytes : ℕ) (g : Shape) (e : Entry) → lies_in bytes g e ≡ true →
    (e.offset + e.size ≤ bytes) × (e.offset + e.size < 2 ^ 64) × (e.size ≤ 2 * (sound_bytes g + 1))
lies bytes g e h =
    let q = and_parts (not (e.offset + e.size above bytes) && e.offset + e.size below 2 ^ 64) (not (e.size above 2 * (sound_bytes g + 1))) h in
    let p = and_parts (not (e.offset + e.size above bytes)) (e.offset + e.size below 2 ^ 64) q.0 in (
      ltb-false bytes (e.offset + e.size) (not-true _ p.0),
      ltb-true (e.offset + e.size) (2 ^ 64) p.1,
      ltb-false (2 * (sound_bytes g + 1)) e.size (not-true _ q.1),
    )

pub can_fill : (known : Option ℕ) (index : List Entry) (size long room sound : ℕ) (f g : Shape) →
    room_number size long room sound f ≡ feed_shape known index g → CanFill known index size long room sound f g
can_fill None index size long room sound f g e = absurd (never_one size long room sound f e)
can_fill (Some bytes) index size long room sound f g e = go (g.channels below 8 && list_all (lies_in bytes g) index) refl e
  where
    go : (b : Bool) → (g.channels below 8 && list_all (lies_in bytes g) index) ≡ b →
        room_number size long room sound f ≡ (if b then shape_number g else 1) → CanFill (Some bytes) index size long room sound f g
    go false h n = absurd (never_one size long room sound f n)
    go true h n =
        let p = and_parts _ _ h in
        let few = ltb-true g.channels 8 p.0 in
        record {
          bytes = bytes;
          known_is = refl;
          few = few;
          has = room_for size long room sound f g few n;
          inside = λ k d l. (lies bytes g (get_or index k d) (all_at (lies_in bytes g) index k d p.1 l)).0;
          fits = λ k d l. (lies bytes g (get_or index k d) (all_at (lies_in bytes g) index k d p.1 l)).1;
          short = λ k d l. (lies bytes g (get_or index k d) (all_at (lies_in bytes g) index k d p.1 l)).2;
        }

-- the next entry of a feed lies in the source, and the job has room for it
pub record CanRead (known : Option ℕ) (e : Entry) (job : Job) (f : Shape) : Type 0 where
  pub lies : (n : ℕ) × (known ≡ Some n) × (e.offset + e.size ≤ n)
  pub fits : e.offset + e.size < 2 ^ 64
  pub short : e.size ≤ longest f
  pub has : HasRoom job.size (length job.frame.items) (vec_capacity job.frame) (length job.sound.items) job.channels f

pub can_read : {S : Type 0} (known : Option ℕ) (s : StoredFrames S) (job : Job) (e : Entry) →
    shape_of_job job ≡ feed_shape known s.walked.now.index s.walked.now.form.channels → s.next < length s.walked.now.index →
    e ≡ entry s.walked.now.index s.next → CanRead known e job s.walked.now.form.channels
can_read known s job e shapes next is =
    let can = can_fill known s.walked.now.index job.size (length job.frame.items) (vec_capacity job.frame) (length job.sound.items) job.channels
    s.walked.now.form.channels shapes in
    let offset = ap (λ (e : Entry). e.offset) is in
    let size = ap (λ (e : Entry). e.size) is in
    let none : Entry = record { offset = 0; size = 0 } in
    record {
      lies = (can.bytes, can.known_is, omega (arith, can.inside s.next none next, offset, size));
      fits = omega (arith, can.fits s.next none next, offset, size);
      short = omega (arith, can.short s.next none next, size);
      has = can.has;
    }

pub readable : (bytes : ℕ) (index : List Entry) (f : Shape) (d : Entry) → f.channels < 8 →
    ((k : ℕ) → k < length index → (get_or index k d).offset + (get_or index k d).size ≤ bytes) →
    ((k : ℕ) → k < length index → (get_or index k d).offset + (get_or index k d).size < 2 ^ 64) →
    ((k : ℕ) → k < length index → (get_or index k d).size ≤ 2 * (sound_bytes f + 1)) →
    feed_shape (Some bytes) index f ≡ shape_number f
readable bytes index f d few inside fits short =
    let all : list_all (lies_in bytes f) index ≡ true = all_from (lies_in bytes f) index d (λ k l.
    and_from _ _ (and_from _ _ (ap not (le-ltb _ _ (inside k l))) (lt-ltb _ _ (fits k l))) (ap not (le-ltb _ _ (short k l)))) in
    ap (λ b. if b then shape_number f else 1) (and_from _ _ (lt-ltb f.channels 8 few) all)

-- ---- a job keeps its shape where its buffer is made so long that the next frame lies in it
pub refilled : {S : Type 0} (known : Option ℕ) (s : StoredFrames S) (job : Job) (e : Entry) (size long room : ℕ) →
    shape_of_job job ≡ feed_shape known s.walked.now.index s.walked.now.form.channels → CanRead known e job s.walked.now.form.channels →
    size ≤ max (length job.frame.items) e.size → long ≡ max (length job.frame.items) e.size → vec_capacity job.frame ≤ room →
    room_number size long room (length job.sound.items) job.channels ≡ shape_of_job job
refilled known s job e size long room shapes can within is more =
    let f = s.walked.now.form.channels in
    let sound = length job.sound.items in
    let few = (can_fill known s.walked.now.index job.size (length job.frame.items) (vec_capacity job.frame) sound job.channels f shapes).few in
    let has : HasRoom size long room sound job.channels f = record {
      same = can.has.same;
      short = omega (arith, within, is);
      most = omega (arith, can.has.most, can.short, is);
      enough = omega (arith, can.has.enough, more);
      sound_long = can.has.sound_long;
    } in
    has_number size long room sound job.channels f few has
    ∙ sym (has_number job.size (length job.frame.items) (vec_capacity job.frame) sound job.channels f few can.has)
