-- There are as many jobs as these workers have.
use Rattle.std.proofs.Common.{sym, ap, ◌∙◌}
use Rattle.dst_commands.specs.Rooms.{jobs_in}
use Rattle.dst_dsf.proofs.workspace.Workspace.new.Goals as goal

pub returns-clause-room : goal.returns-clause-room
returns-clause-room c = record {
  tables = c.in_ok-tables_for.ensures.tables;
  jobs = c.in_ok-jobs_for.ensures.jobs;
  count = c.in_ok-jobs_for.ensures.count ∙ ap (jobs_in c.args.channels c.args.frames) (sym c.in_ok-tables_for.ensures.count);
}
