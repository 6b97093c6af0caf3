-- There are as many jobs as the definition counts, and at least one.
use Rattle.std.proofs.Common.{rules, arith}
use Rattle.std.proofs.lemmas.Grind.{common_steps}
use Rattle.dst_commands.proofs.jobs.job_count.Goals as goal

pub returns-clause-count : goal.returns-clause-count
returns-clause-count c = grind (arith, common_steps)

pub returns-clause-least : goal.returns-clause-least
returns-clause-least c = search rules
