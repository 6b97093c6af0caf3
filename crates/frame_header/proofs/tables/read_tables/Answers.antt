-- Each table that is read leaves one fewer to come, and one that fails is the fault of them all.
use Rattle.std.proofs.Common.{◌≡◌, ◌≤◌, ◌+◌, [], ◌∷◌, ◌++◌, length, map, refl, ap, sym, subst, ◌∙◌, arith}
use Rattle.std.proofs.lemmas.List.{map-append}
use Rattle.dst_spec.specs.Offends.{times, table_fields}
use Rattle.bit_io.specs.Reading.{left, IsAtFault}
use Rattle.frame_header.proofs.Stepping.{handed_on, shorter}
use Rattle.frame_header.proofs.Coming.{TimesToCome, times_start, times_more, times_fail, times_end}
use Rattle.frame_header.proofs.tables.read_tables.Goals as goal

pub loop-read-init : goal.loop-read-init
loop-read-init g c =
    let old = c.args.reader.now in
    let m = table_fields g.K.TableKind.kind in
    record {
      bytes = refl;
      few = c.requires.few;
      long = ap length c.new-tables.ensures;
      coming = subst (λ tables. TimesToCome m c.args.count old 0 (map g.K.TableKind.values tables) old) (sym c.new-tables.ensures)
          (times_start m c.args.count old);
    }

pub returns-in_err-table-clause-fault : goal.returns-in_err-table-clause-fault
returns-in_err-table-clause-fault g c =
    let l = c.loop-read in
    let fault = c.in_err-table.field-0.0 in
    let old = c.args.reader.now in
    let m = table_fields g.K.TableKind.kind in
    handed_on c.from_residual.result fault (IsAtFault (times c.args.count m) old) c.from_residual.ensures.1
    (times_fail m c.args.count old l.reader l.read (map g.K.TableKind.values l.tables.items) fault l.invariant.coming c.loop-read-test.true
    c.in_err-table.ensures.fault)

pub loop-read-preserved : goal.loop-read-preserved
loop-read-preserved g c =
    let l = c.loop-read in
    let old = c.args.reader.now in
    let next = c.read_table.new.reader in
    let m = table_fields g.K.TableKind.kind in
    let values = g.K.TableKind.values in
    let t = c.in_ok-table.table in
    let p = c.push in
    let read = c.in_ok-table.ensures.table in
    let given : map values p.new.self.items ≡ map values l.tables.items ++ values t ∷ [] =
    ap (map values) p.ensures.items ∙ map-append values l.tables.items (t ∷ []) in
    let fewer : length (left next) ≤ length (left l.reader) = shorter m (left l.reader) l.reader.place (values t, left next, next.place) read in
    record {
      bytes = c.in_ok-table.ensures.bytes ∙ l.invariant.bytes;
      few = omega (arith, fewer, l.invariant.few);
      long = p.ensures.len ∙ ap (λ n. n + 1) l.invariant.long;
      coming = subst (λ xs. TimesToCome m c.args.count old (l.read + 1) xs next) (sym given)
          (times_more m c.args.count old l.reader next l.read (map values l.tables.items) (values t) l.invariant.coming read);
    }

pub returns-clause-read : goal.returns-clause-read
returns-clause-read g c =
    let l = c.loop-read in
    times_end (table_fields g.K.TableKind.kind) c.args.count c.args.reader.now l.reader l.read
    (map g.K.TableKind.values l.tables.items) l.invariant.coming l.auto.read-end c.loop-read-test.false
