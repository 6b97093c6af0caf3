-- The correlations of a channel alone are lawful, so that rows can be made of them.
use Rattle.std.proofs.Common.{[], ◌∷◌, sym, subst, arith}
use Rattle.level_spec.specs.Laws.{AreCorrelations}
use Rattle.level_spec.proofs.Sizes.{are_correlations}
use Rattle.filter_analyser.proofs.refined.refine_alone.Goals as goal

pub keep_rows-rows-requires : goal.keep_rows-rows-requires
keep_rows-rows-requires c =
    subst AreCorrelations (sym c.correlate.ensures)
    (are_correlations c.args.channels c.args.sound.now (c.args.c ∷ []) c.requires.shape (omega arith) (omega arith))
