-- Of the sound as many bytes as are left are written, or the frame is answered as refused.
use Rattle.std.proofs.Common.{◌≡◌, ℕ, min, List, length, take, refl, ap, sym, subst, ◌∙◌, arith}
use Rattle.std.proofs.Math.Nat.{le_refl}
use Rattle.std.proofs.lemmas.List.{take_min}
use Rattle.dst_commands.specs.Writing.{Adds, Stops}
use Rattle.dst_read.proofs.drain.SoundWriterDrainJob.drain.Goals as goal

-- what holds of the part of a sound up to its end or to the bytes that are left holds of these bytes
of_part : (P : List ℕ → Type 0) (left n count : ℕ) (all sound : List ℕ) → P (take n all) → all ≡ sound → n ≡ min left count → length sound ≡ count →
    P (take left sound)
of_part P left n count all sound h value least long =
    subst P (ap (take n) value ∙ ap (λ k. take k sound) (least ∙ ap (min left) (sym long)) ∙ take_min left sound) h

-- ---- a frame that is refused
pub returns-in-Err-clause-took : goal.returns-in-Err-clause-took
returns-in-Err-clause-took g c = tt {0}

pub returns-in-Err-clause-fault : goal.returns-in-Err-clause-fault
returns-in-Err-clause-fault g c = record {
  same = record { lent = refl; later = le_refl (g.K.Sink.faults c.args.self.now.sink.now) };
  ends = (record { number = refl; answer = c.in-Err.is }, refl);
}

pub returns-in-Err-clause-self_shape : goal.returns-in-Err-clause-self_shape
returns-in-Err-clause-self_shape g c = refl

pub returns-in-Err-clause-job_shape : goal.returns-in-Err-clause-job_shape
returns-in-Err-clause-job_shape g c = refl

-- ---- a sound that is written
pub overflow_sub-self : goal.overflow_sub-self
overflow_sub-self g c = omega arith

pub returns-in-Ok-clause-took : goal.returns-in-Ok-clause-took
returns-in-Ok-clause-took g c =
    let sink = c.args.self.now.sink.now in
    let new = c.write_any.new.sink in
    let sound = c.args.job.now.sound in
    let long : length sound.items ≡ c.len.result = omega (arith, c.len.ensures, sound.ok.0) in
    record {
      same = record { lent = refl; later = c.in-Ok.ensures.cause.later };
      tail = c.in_default.field-0;
      answer = c.in_default.is;
      left = omega (arith, c.min-length.ensures, long);
      adds = of_part (λ p. Adds p (g.K.Sink.written sink) (g.K.Sink.written new) (g.K.Sink.room sink) (g.K.Sink.room new))
          c.args.self.now.left _ c.len.result _ sound.items c.in-Ok.ensures.written (cc) c.min-length.ensures long;
    }

pub returns-in-Ok-clause-fault : goal.returns-in-Ok-clause-fault
returns-in-Ok-clause-fault g c = tt {0}

pub returns-in-Ok-clause-self_shape : goal.returns-in-Ok-clause-self_shape
returns-in-Ok-clause-self_shape g c = refl

pub returns-in-Ok-clause-job_shape : goal.returns-in-Ok-clause-job_shape
returns-in-Ok-clause-job_shape g c = refl

-- ---- a sink that fails
pub returns-in-Err-write_any-clause-took : goal.returns-in-Err-write_any-clause-took
returns-in-Err-write_any-clause-took g c = tt {0}

pub returns-in-Err-write_any-clause-fault : goal.returns-in-Err-write_any-clause-fault
returns-in-Err-write_any-clause-fault g c =
    let sink = c.args.self.now.sink.now in
    let new = c.write_any.new.sink in
    let sound = c.args.job.now.sound in
    let long : length sound.items ≡ c.len.result = omega (arith, c.len.ensures, sound.ok.0) in
    record {
      same = record { lent = refl; later = c.in-Err-write_any.ensures.cause.later };
      ends = record {
        tail = c.in_default.field-0;
        answer = c.in_default.is;
        stops = of_part (λ p. Stops (Unit {0}) p (g.K.Sink.written sink) (g.K.Sink.written new) (g.K.Sink.room sink))
            c.args.self.now.left _ c.len.result _ sound.items c.in-Err-write_any.ensures.written (cc) c.min-length.ensures long;
        rose = c.in-Err-write_any.ensures.cause.failed;
      };
    }

pub returns-in-Err-write_any-clause-self_shape : goal.returns-in-Err-write_any-clause-self_shape
returns-in-Err-write_any-clause-self_shape g c = refl

pub returns-in-Err-write_any-clause-job_shape : goal.returns-in-Err-write_any-clause-job_shape
returns-in-Err-write_any-clause-job_shape g c = refl
