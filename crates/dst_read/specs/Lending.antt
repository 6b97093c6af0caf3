-- Jobs whose stored bytes and sounds are moved to where up to eight frames are decoded, and back.
use Rattle.std.specs.Prelude.{◌≡◌}
use Rattle.dst_read.specs.declared.jobs.Job.{Job}
use Rattle.dst_frames.specs.declared.stored.StoredFrame.{StoredFrame}
use Rattle.dst_frames.specs.declared.stored.DecodedFrame.{DecodedFrame}

-- the frame of a job
abbrev pub lent_frame : Job → StoredFrame
lent_frame job = record { bytes = job.frame; size = job.size }

-- The stored bytes and the sound of a job are lent. What it has in their place isn't said.
pub record IsLent (before after : Job) (frame : StoredFrame) (heard : DecodedFrame) : Type 0 where
  pub number : after.number ≡ before.number
  pub size : after.size ≡ before.size
  pub channels : after.channels ≡ before.channels
  pub frame_is : frame ≡ lent_frame before
  pub sound_is : heard.sound ≡ before.sound

-- a job with its stored bytes and its sound back, and with the answer that decoding gave
abbrev pub given_back : Job → StoredFrame → DecodedFrame → Job
given_back job frame heard = record {
  number = job.number;
  size = job.size;
  channels = job.channels;
  frame = frame.bytes;
  sound = heard.sound;
  answer = heard.answer;
}
