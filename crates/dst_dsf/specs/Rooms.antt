-- The room that a file is decoded in.
use Rattle.std.specs.Prelude.{◌≡◌, ℕ, length}
use Rattle.dst_spec.specs.Sample.{Shape}
use Rattle.dst_commands.specs.Rooms.{jobs_in}
use Rattle.dst_read.specs.Jobs.{AreJobsFor, AreTablesFor}
use Rattle.dst_dsf.specs.declared.workspace.Workspace.{Workspace}

-- what workers decode with, and jobs for frames of this shape, as many as these workers have
pub record HasRoomFor (f : Shape) (frames : ℕ) (w : Workspace) : Type 0 where
  pub tables : AreTablesFor f w.tables.items
  pub jobs : AreJobsFor f w.jobs.items
  pub count : length w.jobs.items ≡ jobs_in f frames (length w.tables.items)
