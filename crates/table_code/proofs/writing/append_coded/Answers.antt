-- The method, first values, Rice number and residuals are the body, part by part, and there is room for each.
use Rattle.std.proofs.Common.{◌≡◌, ◌+◌, ◌∷◌, ◌++◌, length, take, drop, reverse, ap, ◌∙◌, arith}
use Rattle.std.specs.List.{flat_map}
use Rattle.dst_spec.specs.Bits.{low_bits}
use Rattle.dst_spec.specs.Rice.{rice}
use Rattle.dst_spec.specs.Table.{plain_values, later_values}
use Rattle.table_code.specs.Choices.{residuals}
use Rattle.table_code.proofs.Appended.{later-flat_map, coded_method, four}
use Rattle.table_code.proofs.Lengths.{length-coded_body}
use Rattle.table_code.proofs.writing.append_coded.Given as given
use Rattle.table_code.proofs.writing.append_coded.Goals as goal

pub append-requires-clause-room : goal.append-requires-clause-room
append-requires-clause-room g c = omega (arith, length-coded_body g.K.TableKind.kind c.args.values.now c.args.method c.args.m, c.requires.room)

pub append_values-requires-clause-room : goal.append_values-requires-clause-room
append_values-requires-clause-room g c = omega (arith, length-coded_body g.K.TableKind.kind c.args.values.now c.args.method c.args.m, c.requires.room)

pub append-requires-2-clause-room : goal.append-requires-2-clause-room
append-requires-2-clause-room g c = omega (arith, length-coded_body g.K.TableKind.kind c.args.values.now c.args.method c.args.m, c.requires.room)

pub append_residuals-requires-clause-room : goal.append_residuals-requires-clause-room
append_residuals-requires-clause-room g c =
    let K = g.K.TableKind.kind in
    let ws = K.weights c.args.method in
    let n = c.args.method + 1 in
    let same : c.as_slice.result.now ≡ residuals ws (reverse (take n c.args.values.now)) (drop n c.args.values.now) = c.as_slice.ensures.value
    ∙ c.residuals-residuals.ensures.residuals in
    let bits : flat_map (λ r. rice r c.args.m) c.as_slice.result.now ≡ later_values ws c.args.m (reverse (take n c.args.values.now))
    (drop n c.args.values.now) =
    ap (flat_map (λ r. rice r c.args.m)) same ∙ later-flat_map ws c.args.m (reverse (take n c.args.values.now)) (drop n c.args.values.now) in
    omega (arith, ap length bits, length-coded_body K c.args.values.now c.args.method c.args.m, c.requires.room)

later_is : (g : given.Over) (c : goal.After-append_residuals g) →
    flat_map (λ r. rice r c.args.m) c.as_slice.result.now ≡ later_values (g.K.TableKind.kind.weights c.args.method) c.args.m
    (reverse (take (c.args.method + 1) c.args.values.now)) (drop (c.args.method + 1) c.args.values.now)
later_is g c =
    let ws = g.K.TableKind.kind.weights c.args.method in
    let n = c.args.method + 1 in
    ap (flat_map (λ r. rice r c.args.m)) (c.as_slice.ensures.value ∙ c.residuals-residuals.ensures.residuals)
    ∙ later-flat_map ws c.args.m (reverse (take n c.args.values.now)) (drop n c.args.values.now)

pub returns-clause-bits : goal.returns-clause-bits
returns-clause-bits g c =
    let K = g.K.TableKind.kind in
    let vs = c.args.values.now in
    let first = take (c.args.method + 1) vs in
    let method = c.append.ensures.bits ∙ ap (λ xs. c.args.writer.now.bits ++ xs) (coded_method c.args.method c.requires.method) in
    let later = c.append_residuals.ensures.bits ∙ ap (λ xs. c.append-2.new.writer.bits ++ xs) (later_is g c) in
    four c.args.writer.now.bits c.append.new.writer.bits c.append_values.new.writer.bits c.append-2.new.writer.bits c.append_residuals.new.writer.bits
    (1 ∷ low_bits 2 c.args.method) (plain_values K first) (low_bits 3 c.args.m)
    (later_values (K.weights c.args.method) c.args.m (reverse first) (drop (c.args.method + 1) vs))
    method c.append_values.ensures.bits c.append-2.ensures.bits later

pub returns-clause-room : goal.returns-clause-room
returns-clause-room g c =
    omega (
      arith,
      ap length (later_is g c),
      length-coded_body g.K.TableKind.kind c.args.values.now c.args.method c.args.m,
      c.append.ensures.room,
      c.append_values.ensures.room,
      c.append-2.ensures.room,
      c.append_residuals.ensures.room,
    )
