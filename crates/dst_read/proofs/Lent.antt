-- Jobs that are decoded where their bytes are lent to, and given back.
use Rattle.std.proofs.Common.{◌≡◌, ℕ, suc, ◌+◌, ◌*◌, ◌<◌, ◌≤◌, List, [], ◌∷◌, length, get_or, vec_capacity, ap, sym, ◌∙◌, arith}
use Rattle.std.specs.Prelude.{All}
use Rattle.std.specs.List.{AllZip}
use Rattle.dst_spec.specs.Sample.{Shape, sound_bytes}
use Rattle.dst_commands.specs.Rooms.{shape_number}
use Rattle.dst_frames.specs.Batch.{IsDecoded, stored_in}
use Rattle.dst_frames.specs.declared.stored.StoredFrame.{StoredFrame}
use Rattle.dst_frames.specs.declared.stored.DecodedFrame.{DecodedFrame}
use Rattle.dst_frames.proofs.Lanes.{one_of}
use Rattle.dst_read.specs.declared.jobs.Job.{Job}
use Rattle.dst_read.specs.Jobs.{room_number, shape_of_job, IsWorked, stored_in as stored_in_job}
use Rattle.dst_read.specs.Lending.{IsLent, given_back}
use Rattle.dst_read.proofs.Shapes.{room_for}
use Rattle.dst_read.proofs.Working.{heard_or_refused}

-- what is lent has room for the frame and its sound
pub record HasLent (f : Shape) (frame : StoredFrame) (heard : DecodedFrame) : Type 0 where
  pub short : frame.size ≤ length frame.bytes.items
  pub most : frame.size ≤ 2 * (sound_bytes f + 1)
  pub sound : length heard.sound.items ≡ sound_bytes f

pub has_lent : (f : Shape) (before after : Job) (frame : StoredFrame) (heard : DecodedFrame) → f.channels < 8 → shape_of_job before ≡ shape_number f →
    IsLent before after frame heard → HasLent f frame heard
has_lent f before after frame heard few shape lent =
    let room = room_for before.size (length before.frame.items) (vec_capacity before.frame) (length before.sound.items) before.channels f few shape in
    record {
      short = rw lent.frame_is room.short;
      most = rw lent.frame_is (omega (arith, room.short, room.most));
      sound = ap (λ v. length v.items) lent.sound_is ∙ room.sound_long;
    }

pub lent_at : (f : Shape) (before after : List Job) (frames : List StoredFrame) (heard : List DecodedFrame) (n : ℕ) (frame : StoredFrame)
    (sound : DecodedFrame) → f.channels < 8 → n < length before → All (λ j. shape_of_job j ≡ shape_number f) before →
    ((n : ℕ) (job : Job) (frame : StoredFrame) (sound : DecodedFrame) → n < length before →
    IsLent (get_or before n job) (get_or after n job) (get_or frames n frame) (get_or heard n sound)) →
    HasLent f (get_or frames n frame) (get_or heard n sound)
lent_at f before after frames heard n frame sound few l shapes lent =
    let job = one_of before n l in
    has_lent f (get_or before n job) (get_or after n job) (get_or frames n frame) (get_or heard n sound) few (shapes n job l) (lent n job frame sound l)

pub worked : (f : Shape) (before after : Job) (frame : StoredFrame) (lent heard : DecodedFrame) → IsLent before after frame lent →
    IsDecoded f (stored_in frame) heard.sound.items heard.answer → IsWorked f before (given_back after frame heard)
worked f before after frame lent heard is decoded =
    let d : IsDecoded f (stored_in_job before) heard.sound.items heard.answer = rw is.frame_is at decoded in
    record {
      number = is.number;
      answer = heard_or_refused heard.answer f (stored_in_job before) heard.sound.items d.sound_is d.whole d.fault;
    }

pub shape_back : (f : Shape) (before after : Job) (frame : StoredFrame) (lent heard : DecodedFrame) → f.channels < 8 → shape_of_job before ≡ shape_number f →
    IsLent before after frame lent → length heard.sound.items ≡ sound_bytes f → shape_of_job (given_back after frame heard) ≡ shape_number f
shape_back f before after frame lent heard few shape is long =
    let room = room_for before.size (length before.frame.items) (vec_capacity before.frame) (length before.sound.items) before.channels f few shape in
    let same : length heard.sound.items ≡ length before.sound.items = long ∙ sym room.sound_long in
    let all : room_number after.size (length frame.bytes.items) (vec_capacity frame.bytes) (length heard.sound.items) after.channels ≡ shape_number f =
    rw (is.size, is.channels, is.frame_is, same) shape in
    all

-- lists of one length whose elements are related place by place
pub all_zip : {A : Type 0} (R : A → A → Type 0) (xs ys : List A) → length ys ≡ length xs →
    ((n : ℕ) (d : A) → n < length xs → R (get_or xs n d) (get_or ys n d)) → AllZip R xs ys
all_zip R [] [] same each = tt
all_zip R [] (y ∷ ys) same each = absurd (omega (arith, same))
all_zip R (x ∷ xs) [] same each = absurd (omega (arith, same))
all_zip R (x ∷ xs) (y ∷ ys) same each = (each 0 x (omega arith), all_zip R xs ys (omega (arith, same)) (λ n d h. each (suc n) d (omega arith)))
