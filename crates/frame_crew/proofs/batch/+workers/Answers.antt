-- Where the first run and the rest are done, all jobs are; and all scratches keep their shape.
use Rattle.std.proofs.Common.{◌≡◌, List, ◌++◌, take, sym, subst}
use Rattle.std.proofs.lemmas.List.Elements.{All-append, All-set, All-same, All-take}
use Rattle.std.specs.List.{AllZip}
use Rattle.frame_crew.proofs.Lists.{AllZip-append}
use Rattle.frame_crew.proofs.batch.+workers.Goals as goal

pub work_from-returns-clause-done : goal.work_from-returns-clause-done
work_from-returns-clause-done g t c =
    let cut = c.split_at_mut-run in
    let P : List g.row.W-Job.Denot → Type 0 = λ jobs. AllZip (g.W.FrameWork.done c.args.work.now) jobs (c.work_beside.new.run ++ c.work_beside.new.rest) in
    subst P (sym cut.ensures.value)
    (AllZip-append _ cut.result.0.now c.work_beside.new.run cut.result.1.now c.work_beside.new.rest c.work_beside.ensures.run_done
    c.work_beside.ensures.rest_done)

pub work_from-returns-clause-scratch_shapes : goal.work_from-returns-clause-scratch_shapes
work_from-returns-clause-scratch_shapes g t c =
    let cut = c.split_at_mut-own in
    let P : g.row.W-Scratch.Denot → Type 0 = λ scratch. g.W.Scratch.Slot.shape scratch ≡ g.W.FrameWork.shape c.args.work.now in
    let own = All-same P cut.result.0.now (take 1 c.args.scratches.now) cut.ensures.front (All-take P 1 c.args.scratches.now c.requires.scratch_shapes) in
    All-append P _ c.work_beside.new.others (All-set P cut.result.0.now 0 c.work_beside.new.own c.work_beside.ensures.own_shape own)
    c.work_beside.ensures.other_shapes
