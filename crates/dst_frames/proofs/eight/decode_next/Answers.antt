-- A lane gives the symbol of its chance, which stands for the next sample; lanes without a frame go on as well.
use Rattle.std.proofs.Common.{ℕ, ◌+◌, ◌%◌, ◌&&◌, nat_lt, if◌then◌else◌, get_or, arith}
use Rattle.dst_frames.specs.Eight.{state_in, table_at}
use Rattle.dst_frames.proofs.Lanes.{lane_steps, further_by, some_chance}
use Rattle.dst_frames.proofs.eight.decode_next.Goals as goal

pub returns-clause-steps : goal.returns-clause-steps
returns-clause-steps c = λ n bytes h lane ahead used chance.
    let before = state_in c.args.row.now n in
    let early = c.args.start && nat_lt c.args.t (table_at c.args.tables.now c.args.from.now n).early in
    let w = c.chances_at-now.ensures.prob n (before.next % 128 + 1) h chance.prob in
    let d = c.decode-given.ensures n (if early then 128 else before.next % 128 + 1) bytes (omega (arith, c.requires.few)) lane w ahead used in
    lane_steps c.args.place early (table_at c.args.tables.now c.args.from.now n) before (state_in c.take.new.self n) _ _ (get_or c.decode-given.result n 0)
    (get_or c.take.new.self.chances n 0) (get_or c.args.row.now.chances n 0) (get_or c.chances_at-now.result n 0) (c.take.ensures.taken n h) chance
    (c.chances_at-now.ensures.mark n) (d.0, d.1, d.2.stands)

pub returns-clause-further : goal.returns-clause-further
returns-clause-further c = λ n p bytes h lane ahead used chance.
    let early : ℕ → ℕ = λ m. (table_at c.args.tables.now c.args.from.now m).early in
    let now = some_chance early c.args.row.now.chances c.chances_at-now.result c.args.count c.args.t c.args.start n p c.chances_at-now.ensures.prob
    c.chances_at-now.ensures.others chance in
    let d = c.decode-given.ensures n now.0 bytes h lane now.1 ahead used in
    further_by c.args.lanes.now c.decode-given.new.self n bytes now.0 d.0 d.2
