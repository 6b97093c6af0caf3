-- One entry more is in range, or breaks the rule; where all are, and a lone one is 128, the rule holds.
use Rattle.std.proofs.Common.{◌≡◌, rules, length, get_or, arith, pos, map}
use Rattle.std.proofs.lemmas.List.Elements.{All-more}
use Rattle.dst_spec.specs.Table.{prob_kind, IsTable}
use Rattle.dst_num.proofs.TableRules.{IsEntry, all_of_front, is_prob, entry_of_prob}
use Rattle.dst_num.proofs.tables.ProbTable.new.Goals as goal

pub returns-then-entry-lt1-clause-none : goal.returns-then-entry-lt1-clause-none
returns-then-entry-lt1-clause-none c table =
    let p = entry_of_prob c.args.entries.now c.loop-entry.entry-index table (search rules) in
    grind (arith, p)

pub loop-entry-preserved : goal.loop-entry-preserved
loop-entry-preserved c =
    All-more IsEntry c.args.entries.now c.loop-entry.entry-index 0 (search rules) c.loop-entry.invariant (search rules)

pub invariant_of-result : goal.invariant_of-result
invariant_of-result c =
    let all = all_of_front IsEntry c.args.entries.now c.loop-entry.entry-index (search rules) c.loop-entry.invariant in
    let lone : length c.args.entries.now ≡ 1 → get_or c.args.entries.now 0 0 ≡ 128 = λ one. grind arith in
    let table : IsTable prob_kind (map pos c.args.entries.now) = is_prob c.args.entries.now (search rules) (search rules) lone all in
    rw c.in-Ok.ensures.0 table

pub returns-in-Ok-clause-table : goal.returns-in-Ok-clause-table
returns-in-Ok-clause-table c =
    let all = all_of_front IsEntry c.args.entries.now c.loop-entry.entry-index (search rules) c.loop-entry.invariant in
    let lone : length c.args.entries.now ≡ 1 → get_or c.args.entries.now 0 0 ≡ 128 = λ one. grind arith in
    let table : IsTable prob_kind (map pos c.args.entries.now) = is_prob c.args.entries.now (search rules) (search rules) lone all in
    rw c.in-Ok.ensures.0 table
