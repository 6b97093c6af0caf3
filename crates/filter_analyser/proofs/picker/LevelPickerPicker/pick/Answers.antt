-- At level 0 the cleared candidates are what the level picks: none.
use Rattle.std.proofs.Common.{ap, sym, ◌∙◌}
use Rattle.level_spec.specs.Picks.{level_picks}
use Rattle.filter_analyser.proofs.picker.LevelPickerPicker.pick.Goals as goal

pub returns-in-0-clause-found : goal.returns-in-0-clause-found
unfolding level_picks
returns-in-0-clause-found c = c.clear.ensures ∙ ap (λ l. level_picks l c.args.sound.now c.args.channels) (sym c.in-0.is ∙ c.self.view_is)
