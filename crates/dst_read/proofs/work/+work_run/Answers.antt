-- The first eight jobs of a run are decoded, then those behind them, and all keep their shape.
use Rattle.std.proofs.Common.{◌≡◌, ◌++◌, sym, subst, arith}
use Rattle.std.specs.Prelude.{All}
use Rattle.std.specs.List.{AllZip}
use Rattle.std.proofs.lemmas.List.Elements.{All-append, All-take}
use Rattle.frame_crew.proofs.Lists.{AllZip-append}
use Rattle.dst_commands.specs.Rooms.{shape_number}
use Rattle.dst_read.specs.Jobs.{shape_of_job, IsWorked}
use Rattle.dst_read.specs.declared.jobs.Job.{Job}
use Rattle.dst_read.proofs.work.+work_run.Goals as goal

pub work_eight-requires-clause-few : goal.work_eight-requires-clause-few
work_eight-requires-clause-few t c = c.requires.few

pub work_eight-requires-clause-eight : goal.work_eight-requires-clause-eight
work_eight-requires-clause-eight t c = omega arith

pub work_eight-requires-clause-tables : goal.work_eight-requires-clause-tables
work_eight-requires-clause-tables t c = c.requires.tables

pub work_eight-requires-clause-jobs : goal.work_eight-requires-clause-jobs
work_eight-requires-clause-jobs t c = c.requires.jobs

pub returns-then-run-le8-clause-done : goal.returns-then-run-le8-clause-done
returns-then-run-le8-clause-done t c = c.work_eight.ensures.done

pub returns-then-run-le8-clause-shapes : goal.returns-then-run-le8-clause-shapes
returns-then-run-le8-clause-shapes t c = c.work_eight.ensures.shapes

pub returns-then-run-le8-clause-tables : goal.returns-then-run-le8-clause-tables
returns-then-run-le8-clause-tables t c = c.work_eight.ensures.tables

pub work_eight-requires-2-clause-few : goal.work_eight-requires-2-clause-few
work_eight-requires-2-clause-few t c = c.requires.few

pub work_eight-requires-2-clause-eight : goal.work_eight-requires-2-clause-eight
work_eight-requires-2-clause-eight t c = omega (arith, c.split_at_mut-first.ensures.front_len)

pub work_eight-requires-2-clause-tables : goal.work_eight-requires-2-clause-tables
work_eight-requires-2-clause-tables t c = c.requires.tables

pub work_eight-requires-2-clause-jobs : goal.work_eight-requires-2-clause-jobs
work_eight-requires-2-clause-jobs t c =
    let P = λ (j : Job). shape_of_job j ≡ shape_number c.args.channels in
    subst (All P) (sym c.split_at_mut-first.ensures.front) (All-take P 8 c.args.run.now c.requires.jobs)

pub returns-clause-done : goal.returns-clause-done
returns-clause-done t c =
    subst (λ jobs. AllZip (IsWorked c.args.channels) jobs (c.work_eight-2.new.run ++ c.work_run.new.run)) (sym c.split_at_mut-first.ensures.value)
    (AllZip-append (IsWorked c.args.channels) _ _ _ _ c.work_eight-2.ensures.done c.work_run.ensures.done)

pub returns-clause-shapes : goal.returns-clause-shapes
returns-clause-shapes t c =
    All-append (λ (j : Job). shape_of_job j ≡ shape_number c.args.channels) c.work_eight-2.new.run c.work_run.new.run
    c.work_eight-2.ensures.shapes c.work_run.ensures.shapes

pub returns-clause-tables : goal.returns-clause-tables
returns-clause-tables t c = c.work_run.ensures.tables
