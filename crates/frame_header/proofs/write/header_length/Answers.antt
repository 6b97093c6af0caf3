-- A header is its front, its filters and its probability tables, so its length is the sum of theirs.
use Rattle.std.proofs.Common.{◌≡◌, length, ap, ◌∙◌, arith}
use Rattle.frame_header.proofs.SpelledHeaders.{filters_spelling, probs_spelling, AreParts, parts_long}
use Rattle.frame_header.proofs.write.header_length.Goals as goal

pub returns-clause-length : goal.returns-clause-length
returns-clause-length c =
    let P = c.args.params.now in
    let front = c.of-front.result in
    let fs = c.as_slice-filters.result.now in
    let ps = c.as_slice-probs.result.now in
    let parts : AreParts P front fs ps = record {
      front_is = c.of-front.ensures.bits;
      filters_are = c.as_slice-filters.ensures.value ∙ ap (λ Q. Q.filters) c.params.view_is;
      probs_are = c.as_slice-probs.ensures.value ∙ ap (λ Q. Q.probs) c.params.view_is;
    } in
    let long = parts_long P front fs ps parts in
    let filters : c.tables_length.result ≡ length (filters_spelling fs) = c.tables_length.ensures.length in
    let probs : c.tables_length-2.result ≡ length (probs_spelling ps) = c.tables_length-2.ensures.length in
    omega (arith, long, c.length.ensures.length, filters, probs, c.from.ensures)
