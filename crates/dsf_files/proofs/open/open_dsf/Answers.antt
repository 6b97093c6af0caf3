-- A file shorter than a header is refused; of any other the header and the size decide all rules.
use Rattle.std.proofs.Common.{◌≡◌, ℕ, List, Some, ap, ◌∙◌, arith}
use Rattle.dsdiff_spec.specs.declared.faults.FileFault.TheVariants.{DsfForm}
use Rattle.dsdiff_spec.specs.Dsf.{dsf_fault}
use Rattle.dsf_files.specs.Opening.{header_fault}
use Rattle.dsf_files.proofs.Headers.{short_is_refused, fault_by_header, said_by}
use Rattle.dsf_files.proofs.open.open_dsf.Given.{Over}
use Rattle.dsf_files.proofs.open.open_dsf.Goals as goal
use Rattle.dsf_files.proofs.open.open_dsf.Goals.{After-header-3-1}

pub returns-then-size-clause-fault : goal.returns-then-size-clause-fault
returns-then-size-clause-fault g c fault e xs told =
    let long = g.met.S.Source.size_is_length _ xs _ (c.in-Ok.ensures.bytes ∙ told) c.in-Ok.ensures.size in
    let same : DsfForm ≡ fault = cc in
    short_is_refused xs (omega (arith, long, c.if-size.true)) ∙ ap Some same

pub returns-in-Ok-form_of-clause-size_stays : goal.returns-in-Ok-form_of-clause-size_stays
returns-in-Ok-form_of-clause-size_stays g c n known = c.in-Ok-read_range.ensures.size_stays ∙ c.in-Ok.ensures.stays n known

pub returns-in-Err-clause-size_stays : goal.returns-in-Err-clause-size_stays
returns-in-Err-clause-size_stays g c n known = c.in-Ok-read_range.ensures.size_stays ∙ c.in-Ok.ensures.stays n known

-- the rules on a file that is no shorter than a header speak of its size and of the header that was read
by_header : (g : Over) (c : After-header-3-1 g) (xs : List ℕ) → g.S.Source.bytes c.args.source.now ≡ Some xs →
    dsf_fault xs ≡ header_fault c.in-Ok.size c.read_range.new.out
by_header g c xs told =
    let there = c.in-Ok.ensures.bytes ∙ told in
    fault_by_header xs _ c.in-Ok.size (g.met.S.Source.size_is_length _ xs _ there c.in-Ok.ensures.size) c.if-size.false
    (c.in-Ok-read_range.ensures.read xs there)

pub returns-in-Ok-form_of-clause-form : goal.returns-in-Ok-form_of-clause-form
returns-in-Ok-form_of-clause-form g c xs told = record {
  accepted = by_header g c.before.before xs told ∙ c.in-Ok-form_of.ensures.accepted;
  says = said_by xs _ _ (c.in-Ok-read_range.ensures.read xs (c.in-Ok.ensures.bytes ∙ told)) c.in-Ok-form_of.ensures.says;
}

pub returns-in-Err-clause-fault : goal.returns-in-Err-clause-fault
returns-in-Err-clause-fault g c fault e xs told =
    let same : c.in-Err.fault ≡ fault = cc in
    by_header g c.before.before xs told ∙ c.in-Err.ensures.refused ∙ ap Some same
