-- The table of a channel alike is shared, or the next one of the pool is built, for which there is room.
use Rattle.std.proofs.Common.{◌≡◌, ◌+◌, ◌*◌, ◌<◌, length, get_or, set, length-set, refl, ap, sym, subst, ◌∙◌, arith}
use Rattle.std.proofs.lemmas.Nat.{mul-add-lt}
use Rattle.std.proofs.lemmas.List.{with_items_is}
use Rattle.std.specs.Vec.{with_items}
use Rattle.byte_predictor.specs.Upward.{size_sum}
use Rattle.dst_frames.specs.declared.eight.EightTables.{EightTables}
use Rattle.dst_frames.proofs.OneOfEight.{no_numbers}
use Rattle.dst_frames.proofs.Sharing.{IsSet, HasTables, HasTablesBefore, shared, built_own}
use Rattle.dst_frames.proofs.batch.share_or_build.Goals as goal

pub grow_to-requires : goal.grow_to-requires
grow_to-requires c =
    let channels = length c.args.eight.now.numbers.items in
    let few = c.requires.taken.few in
    let more : c.args.n * channels + c.args.c < channels * 8 = mul-add-lt c.args.n channels c.args.c 8 (omega (arith, c.requires.lane)) c.requires.channel in
    omega (arith, few, more, c.requires.eight.room)

-- the table of another channel
sharing : (c : goal.After-eight-1) → HasTables c.args.params.now c.args.n c.args.c c.args.eight.now
    (record {
      tables = c.args.eight.now.tables;
      numbers = with_items c.args.eight.now.numbers (set c.as_mut_slice-numbers.result.now c.args.c c.set.new.self);
      taken = c.args.eight.now.taken;
    })
sharing c =
    let r = c.requires in
    let n = c.args.n in
    let i = c.args.c in
    let alike = c.alike_channel-alike.result in
    let old = c.args.eight.now in
    let all = c.as_mut_slice-numbers.result.now in
    let value : all ≡ old.numbers.items = c.as_mut_slice-numbers.ensures.value in
    let one = c.set.new.self in
    let new : EightTables = record { tables = old.tables; numbers = with_items old.numbers (set all i one); taken = old.taken } in
    let before : HasTablesBefore c.args.params.now n i old = record { channel = r.channel; pool = r.eight; taken = r.taken; built = r.before } in
    let is : IsSet n (get_or (get_or all alike no_numbers).of n 0) (get_or all i no_numbers) one =
    record { own = c.set.ensures.own; others = c.set.ensures.others } in
    let long : length (set all i one) ≡ old.numbers.len = simp length-set c.as_mut_slice-numbers.ensures.len in
    shared c.args.params.now old new n i alike no_numbers one no_numbers before
    (subst (λ xs. IsSet n (get_or (get_or xs alike no_numbers).of n 0) (get_or xs i no_numbers) one) value is)
    (with_items_is old.numbers (set all i one) long ∙ ap (λ xs. set xs i one) value) refl refl c.if-alike-c.true c.alike_channel-alike.ensures.alike

-- a table of its own
building : (c : goal.After-eight-else-alike-c-3-1) → HasTables c.args.params.now c.args.n c.args.c c.args.eight.now
    (record {
      tables = with_items c.grow_to.new.tables (set c.as_mut_slice-tables.result.now c.args.eight.now.taken c.build.new.self);
      numbers = with_items c.args.eight.now.numbers (set c.as_mut_slice-numbers.result.now c.args.c c.set-else-alike-c.new.self);
      taken = c.args.eight.now.taken + 1;
    })
building c =
    let r = c.requires in
    let n = c.args.n in
    let i = c.args.c in
    let old = c.args.eight.now in
    let all = c.as_mut_slice-numbers.result.now in
    let value : all ≡ old.numbers.items = c.as_mut_slice-numbers.ensures.value in
    let one = c.set-else-alike-c.new.self in
    let grown = c.grow_to.new.tables in
    let tables = c.as_mut_slice-tables.result.now in
    let table = c.build.new.self in
    let new : EightTables = record {
      tables = with_items grown (set tables old.taken table);
      numbers = with_items old.numbers (set all i one);
      taken = old.taken + 1;
    } in
    let before : HasTablesBefore c.args.params.now n i old = record { channel = r.channel; pool = r.eight; taken = r.taken; built = r.before } in
    let is : IsSet n old.taken (get_or all i no_numbers) one = record { own = c.set-else-alike-c.ensures.own; others = c.set-else-alike-c.ensures.others } in
    let long : length (set all i one) ≡ old.numbers.len = simp length-set c.as_mut_slice-numbers.ensures.len in
    let tables_long : length (set tables old.taken table) ≡ grown.len = simp length-set c.as_mut_slice-tables.ensures.len in
    built_own c.args.params.now old new n i no_numbers one grown.items table before
    (subst (λ xs. IsSet n old.taken (get_or xs i no_numbers) one) value is)
    (with_items_is old.numbers (set all i one) long ∙ ap (λ xs. set xs i one) value) c.grow_to.ensures.grown
    (with_items_is grown (set tables old.taken table) tables_long ∙ ap (λ xs. set xs old.taken table) c.as_mut_slice-tables.ensures.value)
    c.grow_to.ensures.capacity refl (subst (λ f. size_sum f < 32768) (sym c.build.ensures.filter_is) r.narrow) c.build.ensures

pub returns-then-alike-c-clause-built : goal.returns-then-alike-c-clause-built
returns-then-alike-c-clause-built c = (sharing c).built

pub returns-then-alike-c-clause-tables : goal.returns-then-alike-c-clause-tables
returns-then-alike-c-clause-tables c = (sharing c).tables

pub returns-then-alike-c-clause-eight : goal.returns-then-alike-c-clause-eight
returns-then-alike-c-clause-eight c = (sharing c).pool

pub returns-then-alike-c-clause-taken : goal.returns-then-alike-c-clause-taken
returns-then-alike-c-clause-taken c = (sharing c).taken

pub returns-else-alike-c-clause-built : goal.returns-else-alike-c-clause-built
returns-else-alike-c-clause-built c = (building c).built

pub returns-else-alike-c-clause-tables : goal.returns-else-alike-c-clause-tables
returns-else-alike-c-clause-tables c = (building c).tables

pub returns-else-alike-c-clause-eight : goal.returns-else-alike-c-clause-eight
returns-else-alike-c-clause-eight c = (building c).pool

pub returns-else-alike-c-clause-taken : goal.returns-else-alike-c-clause-taken
returns-else-alike-c-clause-taken c = (building c).taken
