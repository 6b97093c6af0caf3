-- There is room for each value, as there is for all, and its number spells it in the kind's number of bits.
use Rattle.std.proofs.Common.{◌≡◌, ◌+◌, ◌≤◌, ◌++◌, ℤ, pos, rules, length, get_or, take, ap, ◌∙◌, arith}
use Rattle.std.proofs.lemmas.Int.{to_z-of_z}
use Rattle.std.proofs.lemmas.List.{take_all}
use mir.Val.{SFits}
use mir.Syntax.{w32}
use Rattle.std.specs.List.{flat_map}
use Rattle.dst_spec.specs.Bits.{low_bits}
use Rattle.dst_spec.specs.Table.{plain_value, plain_values}
use Rattle.table_code.proofs.Appended.{next_bits, next_room, still_room, plain_values-flat_map}
use Rattle.table_code.proofs.Lengths.{length-plain_value}
use Rattle.table_code.proofs.writing.append_values.Given as given
use Rattle.table_code.proofs.writing.append_values.Goals as goal

pub append-requires-clause-room : goal.append-requires-clause-room
append-requires-clause-room g c =
    let K = g.K.TableKind.kind in
    let vs = c.args.values.now in
    let width : c.VALUE_BITS.result ≡ K.value_bits = c.VALUE_BITS.ensures ∙ g.met.K.TableKind.value_bits in
    let whole : length (flat_map (plain_value K) vs) ≤ c.args.writer.now.room = rw (plain_values-flat_map K vs) c.requires.room in
    omega (
      arith,
      still_room (plain_value K) vs c.loop-value.value-index (pos 0) c.args.writer.now.room c.loop-value.writer.room
          (omega arith) whole c.loop-value.invariant.room,
      length-plain_value K (get_or vs c.loop-value.value-index (pos 0)),
      width,
    )

pub loop-value-preserved : goal.loop-value-preserved
loop-value-preserved g c =
    let K = g.K.TableKind.kind in
    let vs = c.args.values.now in
    let i = c.loop-value.value-index in
    let v : ℤ = get_or vs i (pos 0) in
    let fits : SFits w32 v = search rules in
    let width : c.VALUE_BITS.result ≡ K.value_bits = c.VALUE_BITS.ensures ∙ g.met.K.TableKind.value_bits in
    let number = rw (to_z-of_z w32 v fits) at c.plain_number.ensures.bits in
    let added : c.append.new.writer.bits ≡ c.loop-value.writer.bits ++ plain_value K v =
    c.append.ensures.bits ∙ ap (λ n. c.loop-value.writer.bits ++ low_bits n c.plain_number.result) width ∙ ap (λ xs. c.loop-value.writer.bits ++ xs) number in
    let taken : c.append.new.writer.room + length (plain_value K v) ≡ c.loop-value.writer.room =
    omega (arith, c.append.ensures.room, length-plain_value K v, width) in
    record {
      bits = next_bits (plain_value K) vs i (pos 0) c.args.writer.now.bits c.loop-value.writer.bits c.append.new.writer.bits
          (omega arith) c.loop-value.invariant.bits added;
      room = next_room (plain_value K) vs i (pos 0) c.args.writer.now.room c.loop-value.writer.room c.append.new.writer.room
          (omega arith) c.loop-value.invariant.room taken;
    }

all_values : (g : given.Over) (c : goal.After-loop-value g) →
    flat_map (plain_value g.K.TableKind.kind) (take c.loop-value.value-index c.args.values.now) ≡ plain_values g.K.TableKind.kind c.args.values.now
all_values g c =
    let K = g.K.TableKind.kind in
    ap (flat_map (plain_value K)) (take_all c.loop-value.value-index c.args.values.now (omega arith)) ∙ plain_values-flat_map K c.args.values.now

pub returns-clause-bits : goal.returns-clause-bits
returns-clause-bits g c = c.loop-value.invariant.bits ∙ ap (λ xs. c.args.writer.now.bits ++ xs) (all_values g c)

pub returns-clause-room : goal.returns-clause-room
returns-clause-room g c = omega (arith, ap length (all_values g c), c.loop-value.invariant.room)
