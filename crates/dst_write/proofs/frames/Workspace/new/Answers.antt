-- The room is what each call gives, and there are as many jobs as these workers have.
use Rattle.std.proofs.Common.{sym, ap, ◌∙◌, arith}
use Rattle.dst_commands.specs.Rooms.{jobs_in}
use Rattle.dst_write.proofs.frames.Workspace.new.Goals as goal

pub returns-clause-room : goal.returns-clause-room
returns-clause-room c = record {
  scratches = c.in_ok-scratches_for.ensures.scratches;
  jobs = c.in_ok-jobs_for.ensures.jobs;
  count = c.in_ok-jobs_for.ensures.count ∙ ap (jobs_in c.args.channels c.args.frames) (sym c.in_ok-scratches_for.ensures.count);
  sizes = c.in_ok-vec.ensures.items_if_clones_equal (λ b e. e);
  buffer = omega (arith, c.in_ok-vec-2.ensures.len, c.in_ok-vec-2.field-0.ok.0);
}
