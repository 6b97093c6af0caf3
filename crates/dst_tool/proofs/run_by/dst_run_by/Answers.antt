-- Words that aren't understood, and commands.
use Rattle.std.proofs.Common.{◌≡◌, ◌≤◌, List, Option, length, map, option_map, ap, sym, subst}
use Rattle.std.specs.String.{string_bytes}
use Rattle.dsdiff_spec.specs.Lines.{words_line}
use Rattle.words_spec.specs.Rows.{command_of, task_of}
use Rattle.dsdiff_spec.specs.Words.{Task, Word}
use Rattle.dst_words.specs.Commands.{command_seen}
use Rattle.dst_tool.proofs.OneLine.{same_run}
use Rattle.dst_tool.proofs.Runs.{same_command, some_command, reported}
use Rattle.dst_tool.proofs.run_by.dst_run_by.Goals as goal

-- the command of what the words ask for
command_from : (words : List Word) (o : Option Task) → o ≡ task_of words → option_map (λ (t : Task). t.command) o ≡ command_of words
command_from words o e = ap (option_map (λ (t : Task). t.command)) e

pub returns-in-None-clause-run : goal.returns-in-None-clause-run
returns-in-None-clause-run g c asks is = absurd (some_command _ asks is (sym (command_from _ _ c.in-None.ensures.task)))

pub returns-in-None-clause-words : goal.returns-in-None-clause-words
returns-in-None-clause-words g c none =
    reported 1 c.report_line.result words_line _ _ _ _ _ c.words_not_understood.ensures c.report_line.ensures.reported c.report_line.ensures.whole
    c.report_line.ensures.cut_short c.report_line.ensures.added c.report_line.ensures.stopped

pub returns-in-None-clause-sure : goal.returns-in-None-clause-sure
returns-in-None-clause-sure g c none seven room known fits =
    c.report_line.ensures.sure seven room known (subst (λ bytes. length bytes ≤ room) (sym c.words_not_understood.ensures) fits)

pub returns-in-Some-clause-run : goal.returns-in-Some-clause-run
returns-in-Some-clause-run g c asks is =
    let seen = command_seen c.in-Some.field-0.command in
    same_run (same_command (map string_bytes c.args.words.now) asks seen is (sym (command_from _ _ c.in-Some.ensures.task))) c.run_command.ensures

pub returns-in-Some-clause-words : goal.returns-in-Some-clause-words
returns-in-Some-clause-words g c none =
    absurd (some_command (map string_bytes c.args.words.now) (command_seen c.in-Some.field-0.command) (sym (command_from _ _ c.in-Some.ensures.task)) none)

pub returns-in-Some-clause-untouched : goal.returns-in-Some-clause-untouched
returns-in-Some-clause-untouched g c none =
    absurd (some_command (map string_bytes c.args.words.now) (command_seen c.in-Some.field-0.command) (sym (command_from _ _ c.in-Some.ensures.task)) none)

pub returns-in-Some-clause-sure : goal.returns-in-Some-clause-sure
returns-in-Some-clause-sure g c none =
    absurd (some_command (map string_bytes c.args.words.now) (command_seen c.in-Some.field-0.command) (sym (command_from _ _ c.in-Some.ensures.task)) none)
