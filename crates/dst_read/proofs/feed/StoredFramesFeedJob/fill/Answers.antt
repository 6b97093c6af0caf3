-- The next frame lies in the source, and has room in the job.
use Rattle.std.proofs.Common.{◌≡◌, ℕ, ◌+◌, ◌<◌, ◌≤◌, max, length, take, drop, vec_capacity, refl, ap, ◌∙◌, arith}
use Rattle.dsdiff_spec.specs.Walk.{Entry, frame_at}
use Rattle.frame_index.specs.Entries.{entry_seen}
use Rattle.std.proofs.lemmas.List.{with_items_is}
use Rattle.dst_read.specs.Feeding.{bytes_left, bytes_of_entries}
use Rattle.dst_read.specs.Jobs.{room_number, shape_of_job}
use Rattle.dst_read.proofs.Once.{next_left}
use Rattle.dst_read.proofs.Shapes.{CanRead, can_read, refilled}
use Rattle.dst_read.proofs.feed.StoredFramesFeedJob.fill.Given.{Over}
use Rattle.dst_read.proofs.feed.StoredFramesFeedJob.fill.Goals as goal
use Rattle.dst_read.proofs.feed.StoredFramesFeedJob.fill.Goals.{After-deref_mut, After-struct_known-1}

-- there is a next frame
next_there : (g : Over) (c : After-struct_known-1 g) → c.args.self.now.next < length c.args.self.now.walked.now.index
next_there g c = omega (arith, c.if-self-length.false, c.length.ensures.length)

-- the next frame lies in the source, and the job has room for it
able : (g : Over) (c : After-struct_known-1 g) →
    CanRead (g.S.Source.known c.args.self.now.source.now) (entry_seen c.entry-entry.result) c.args.job.now c.args.self.now.walked.now.form.channels
able g c =
    can_read (g.S.Source.known c.args.self.now.source.now) c.args.self.now c.args.job.now _ c.requires (next_there g c) c.entry-entry.ensures

pub lengthen-requires : goal.lengthen-requires
lengthen-requires g c = let can = able g c in omega (arith, can.short, can.has.enough)

pub read_frame-requires-clause-size : goal.read_frame-requires-clause-size
read_frame-requires-clause-size g c = (able g c.before.before.before.before).lies

pub read_frame-requires-clause-fits : goal.read_frame-requires-clause-fits
read_frame-requires-clause-fits g c = (able g c.before.before.before.before).fits

pub read_frame-requires-clause-room : goal.read_frame-requires-clause-room
read_frame-requires-clause-room g c = omega (arith, c.lengthen.ensures.long, ap length c.deref_mut.ensures.value, c.lengthen.new.frame.ok.0)

-- a buffer that is as long as it was made for the frame leaves the job its shape, whatever part of it is a frame
still_shaped : (g : Over) (c : After-deref_mut g) (size : ℕ) {long new : ℕ} → size ≤ max (length c.args.job.now.frame.items) c.entry-entry.result.size →
    new ≡ length c.deref_mut.result.now → long ≡ new →
    room_number size long (vec_capacity c.lengthen.new.frame) (length c.args.job.now.sound.items) c.args.job.now.channels ≡ shape_of_job c.args.job.now
still_shaped g c size within same whole =
    refilled (g.S.Source.known c.args.self.now.source.now) c.args.self.now c.args.job.now (entry_seen c.entry-entry.result) size _
    (vec_capacity c.lengthen.new.frame) c.requires (able g c.before.before.before.before) within
    (omega (arith, whole, same, c.deref_mut.ensures.len, c.lengthen.ensures.long, c.args.job.now.frame.ok.0)) c.lengthen.ensures.room

pub returns-clause-job_shape : goal.returns-clause-job_shape
returns-clause-job_shape g c =
    let whole = with_items_is c.lengthen.new.frame c.read_frame.new.frame (c.read_frame.ensures.long ∙ c.deref_mut.ensures.len) in
    still_shaped g c.before.before.before.before.before c.entry-entry.result.size (omega arith) c.read_frame.ensures.long (ap length whole)

pub returns-in-Err-clause-job_shape : goal.returns-in-Err-clause-job_shape
returns-in-Err-clause-job_shape g c =
    let whole = with_items_is c.lengthen.new.frame c.read_frame.new.frame (c.read_frame.ensures.long ∙ c.deref_mut.ensures.len) in
    let short = (able g c.before.before.before.before.before.before.before).has.short in
    still_shaped g c.before.before.before c.args.job.now.size (omega (arith, short)) c.read_frame.ensures.long (ap length whole)

-- the bytes of the next frame are given, and are no longer left
read_once : (g : Over) (c : After-deref_mut g) {given : ℕ} → given ≤ g.S.Source.given c.args.self.now.source.now + c.entry-entry.result.size →
    given + bytes_of_entries (drop (c.args.self.now.next + 1) c.args.self.now.walked.now.index)
    ≤ g.S.Source.given c.args.self.now.source.now + bytes_left c.args.self.now
read_once g c more =
    let next = next_there g c.before.before.before.before in
    omega (arith, next_left c.args.self.now.walked.now.index c.args.self.now.next next, ap (λ (e : Entry). e.size) c.entry-entry.ensures, more)

pub returns-clause-given : goal.returns-clause-given
returns-clause-given g c =
    let whole = with_items_is c.lengthen.new.frame c.read_frame.new.frame (c.read_frame.ensures.long ∙ c.deref_mut.ensures.len) in
    λ given. record {
      same = record {
        lent = refl;
        index_is = refl;
        bytes_are = c.read_frame.ensures.bytes;
        size_is = c.read_frame.ensures.stays;
        later = c.read_frame.ensures.cause.later;
        once = read_once g c.before.before.before.before.before c.read_frame.ensures.given;
      };
      next = refl;
      within = next_there g c.before.before.before.before.before.before.before.before.before;
      number = refl;
      frame = λ file told. ap (take c.entry-entry.result.size) whole ∙ c.in-Ok.ensures.frame file told ∙ ap (frame_at file) c.entry-entry.ensures;
    }

pub returns-in-Err-clause-fault : goal.returns-in-Err-clause-fault
returns-in-Err-clause-fault g c = record {
  same = record {
    lent = refl;
    index_is = refl;
    bytes_are = c.read_frame.ensures.bytes;
    size_is = c.read_frame.ensures.stays;
    later = c.read_frame.ensures.cause.later;
    once = read_once g c.before.before.before c.read_frame.ensures.given;
  };
  rose = c.in-Err.ensures.cause.failed;
}
