-- One job more has what was lent of it.
use Rattle.std.proofs.Common.{◌≡◌, ◌≢◌, ℕ, ◌<◌, length, get_or, set, get_or-set_same, get_or-set_other, below_more, ◌∙◌, arith}
use Rattle.std.proofs.lemmas.List.{get_or_default}
use Rattle.dst_frames.specs.declared.stored.StoredFrame.{StoredFrame}
use Rattle.dst_frames.specs.declared.stored.DecodedFrame.{DecodedFrame}
use Rattle.dst_read.specs.declared.jobs.Job.{Job}
use Rattle.dst_read.specs.Lending.{given_back}
use Rattle.dst_read.proofs.work.give_back_all.Goals as goal

pub loop-n-preserved : goal.loop-n-preserved
loop-n-preserved c =
    let i = c.loop-n.n in
    let inv = c.loop-n.invariant in
    let run = c.loop-n.run in
    let frames = c.loop-n.frames in
    let heard = c.loop-n.heard in
    let old = c.args.run.now in
    let lent = c.args.frames.now in
    let sounds = c.args.heard.now in
    let a = c.give_back.new.job in
    let b = c.give_back.new.frame in
    let e = c.give_back.new.heard in
    let lt : i < length run = omega arith in
    let run_was : (job : Job) → get_or run i c.index-run-n.result ≡ get_or old i job = λ job.
    inv.run_left i c.index-run-n.result (omega arith) ∙ get_or_default old i c.index-run-n.result job (omega arith) in
    let frame_was : (frame : StoredFrame) → get_or frames i c.index-frames-n.result ≡ get_or lent i frame = λ frame.
    inv.frames_left i c.index-frames-n.result (omega arith) ∙ get_or_default lent i c.index-frames-n.result frame (omega (arith, c.requires.frames)) in
    let heard_was : (sound : DecodedFrame) → get_or heard i c.index-heard-n.result ≡ get_or sounds i sound = λ sound.
    inv.heard_left i c.index-heard-n.result (omega arith) ∙ get_or_default sounds i c.index-heard-n.result sound (omega (arith, c.requires.heard)) in
    let P : ℕ → Type 0 = λ m. (job : Job) (frame : StoredFrame) (sound : DecodedFrame) → get_or (set run i a) m job
    ≡ given_back (get_or old m job) (get_or lent m frame) (get_or sounds m sound) in
    let below : (m : ℕ) → m < i → P m = λ m h job frame sound.
    let ne : m ≢ i = omega arith in
    get_or-set_other run i m a job ne ∙ inv.back m job frame sound h in
    let here : P i = λ job frame sound.
    let is = rw (run_was job, frame_was frame, heard_was sound) at c.give_back.ensures in
    get_or-set_same run i a job lt ∙ is in
    record {
      back = λ m job frame sound h. below_more P i below here m h job frame sound;
      run_left = λ m job h.
          let ne : m ≢ i = omega arith in
          get_or-set_other run i m a job ne ∙ inv.run_left m job (omega arith);
      frames_left = λ m frame h.
          let ne : m ≢ i = omega arith in
          get_or-set_other frames i m b frame ne ∙ inv.frames_left m frame (omega arith);
      heard_left = λ m sound h.
          let ne : m ≢ i = omega arith in
          get_or-set_other heard i m e sound ne ∙ inv.heard_left m sound (omega arith);
    }
