-- One job more is lent.
use Rattle.std.proofs.Common.{◌≡◌, ◌≢◌, ℕ, ◌<◌, length, get_or, set, get_or-set_same, get_or-set_other, below_more, subst, ◌∙◌, arith}
use Rattle.std.proofs.lemmas.List.{get_or_default}
use Rattle.dst_frames.specs.declared.stored.StoredFrame.{StoredFrame}
use Rattle.dst_frames.specs.declared.stored.DecodedFrame.{DecodedFrame}
use Rattle.dst_read.specs.declared.jobs.Job.{Job}
use Rattle.dst_read.specs.Lending.{IsLent}
use Rattle.dst_read.proofs.work.lend_all.Goals as goal

pub loop-n-preserved : goal.loop-n-preserved
loop-n-preserved c =
    let i = c.loop-n.n in
    let inv = c.loop-n.invariant in
    let run = c.loop-n.run in
    let frames = c.loop-n.frames in
    let heard = c.loop-n.heard in
    let old = c.args.run.now in
    let a = c.lend.new.job in
    let b = c.lend.new.frame in
    let e = c.lend.new.heard in
    let lt : i < length run = omega arith in
    let lt_frames : i < length frames = omega (arith, c.requires.frames) in
    let lt_heard : i < length heard = omega (arith, c.requires.heard) in
    let was : (job : Job) → get_or run i c.index-run-n.result ≡ get_or old i job = λ job.
    inv.left i c.index-run-n.result (omega arith) ∙ get_or_default old i c.index-run-n.result job (omega arith) in
    let P : ℕ → Type 0 = λ m. (job : Job) (frame : StoredFrame) (sound : DecodedFrame) → IsLent (get_or old m job) (get_or (set run i a) m job)
    (get_or (set frames i b) m frame) (get_or (set heard i e) m sound) in
    let below : (m : ℕ) → m < i → P m = λ m h job frame sound.
    let ne : m ≢ i = omega arith in
    rw (get_or-set_other run i m a job ne, get_or-set_other frames i m b frame ne, get_or-set_other heard i m e sound ne) (inv.lent m job frame sound h) in
    let here : P i = λ job frame sound.
    rw (get_or-set_same run i a job lt, get_or-set_same frames i b frame lt_frames, get_or-set_same heard i e sound lt_heard)
    (subst (λ j. IsLent j a b e) (was job) c.lend.ensures) in
    record {
      lent = λ m job frame sound h. below_more P i below here m h job frame sound;
      left = λ m job h.
          let ne : m ≢ i = omega arith in
          get_or-set_other run i m a job ne ∙ inv.left m job (omega arith);
    }
