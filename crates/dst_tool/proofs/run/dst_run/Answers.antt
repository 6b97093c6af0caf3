-- What words leave: what their command does, or words that aren't understood.
use Rattle.std.proofs.Common.{◌≤◌, inr, true, [], ◌∷◌, length, map, refl, ap, subst, arith}
use Rattle.std.specs.String.{string_bytes}
use Rattle.dsdiff_spec.specs.Lines.{report, words_line}
use Rattle.dsdiff_spec.specs.Words.{frame, index}
use Rattle.dst_tool.proofs.Runs.{by_words, by_status, of_command, ends_of_words, run_headline, run_completes, run_refused, run_refused_frame}
use Rattle.dst_tool.proofs.Runs.{no_command, none_headline, only_words_line, words_status, words_caused, at_most_seven, no_fewer}
use Rattle.dst_tool.proofs.run.dst_run.Goals as goal

pub returns : goal.returns
returns g c =
    let words = map string_bytes c.args.words.now in
    let r = c.dst_run_by.ensures in
    record {
      headline = λ file told no_read no_write no_report.
          by_words words
          (λ none. none_headline words file c.dst_run_by.result _ _ _ _ _ _ none (ap g.K.Sink.written (r.untouched none).1) (r.words none)
          (λ e. no_report (r.reported e)))
          (λ asks is. run_headline words asks file c.dst_run_by.result _ _ _ _ _ _ _ _ _ _ _ _ is (r.run asks is) told no_read no_write no_report);
      complete = λ file told all no_read no_write no_report.
          run_completes words all.0 file c.dst_run_by.result _ _ _ _ all.1 all
          (run_headline words all.0 file c.dst_run_by.result _ _ _ _ _ _ _ _ _ _ _ _ all.1 (r.run all.0 all.1) told no_read no_write no_report);
      ends = λ file told.
          by_words words
          (λ none. (
            1,
            words_line ∷ [],
            inr (inr (inr (no_command words file _ _ none (ap g.K.Sink.written (r.untouched none).1)))),
            words_caused _ _ _ _,
            r.words none,
          ))
          (λ asks is. let ends = (r.run asks is).ends file told in
          (ends.0, ends.1, ends_of_words words asks file ends.0 ends.1 _ _ is ends.2, ends.3, ends.4));
      words = λ none. words_status _ _ _ _ _ (r.words none);
      only_words = λ one. by_words words (λ none. none) (λ asks is. absurd ((r.run asks is).least_status one));
      untouched = λ none. r.untouched none;
      no_call = λ asks is nowhere. (r.run asks is).idle nowhere;
      no_write = λ asks is nowhere. (r.run asks is).no_write nowhere;
      no_read = λ asks is nothing. (r.run asks is).unread nothing;
      made = λ asks is nothing.
          let ends = (r.run asks is).made nothing in
          (ends.0, ends.1, ends_of_words words asks [] ends.0 ends.1 _ _ is ends.2, ends.3, ends.4);
      no_file = λ asks is nothing. (r.run asks is).no_file nothing;
      settled = λ asks is writes zero_status. (r.run asks is).settled writes zero_status;
      bytes = by_words words (λ none. ap g.S.Source.bytes (r.untouched none).0) (λ asks is. (r.run asks is).bytes_stay);
      later_source = by_words words (λ none. no_fewer _ _ (ap g.S.Source.faults (r.untouched none).0)) (λ asks is. (r.run asks is).later_source);
      later_sink = by_words words (λ none. no_fewer _ _ (ap g.K.Sink.faults (r.untouched none).1)) (λ asks is. (r.run asks is).later_sink);
      later_report = r.later;
      read = λ two. by_status words 2 c.dst_run_by.result _ _ _ _ r.words two (omega arith) (omega arith) (λ asks is. (r.run asks is).read two);
      write = λ three. by_status words 3 c.dst_run_by.result _ _ _ _ r.words three (omega arith) (omega arith) (λ asks is. (r.run asks is).write three);
      reported = λ seven. r.reported seven;
      sure_sink = λ file told o outcome room known fits three.
          by_status words 3 c.dst_run_by.result _ _ _ _ r.words three (omega arith) (omega arith)
          (λ asks is. (r.run asks is).sure_sink file told o (of_command words asks file o is outcome) room known fits three);
      sure_report = λ file told o outcome no_read no_write room known least fits seven.
          by_words words
          (λ none. r.sure none seven room known (subst (λ lines. length (report lines) ≤ room) (only_words_line words file o none outcome) fits))
          (λ asks is. (r.run asks is).sure_report file told o (of_command words asks file o is outcome) no_read no_write room known least fits seven);
      memory = λ four. by_status words 4 c.dst_run_by.result _ _ _ _ r.words four (omega arith) (omega arith) (λ asks is. (r.run asks is).memory four);
      no_output = λ file fault told (asks, is, refused). (r.run asks is).no_output file told fault refused;
      memory_line = λ four.
          by_status words 4 c.dst_run_by.result _ _ _ _ r.words four (omega arith) (omega arith)
          (λ asks is. (r.run asks is).memory_answered four);
      silent = λ is file told none zero_status. (r.run index is).silent refl file told none zero_status;
      file = λ five. by_status words 5 c.dst_run_by.result _ _ _ _ r.words five (omega arith) (omega arith) (λ asks is. (r.run asks is).file_refused five);
      refused = λ five file told.
          by_status words 5 c.dst_run_by.result _ _ _ _ r.words five (omega arith) (omega arith)
          (λ asks is. run_refused words asks file c.dst_run_by.result _ _ _ _ _ _ _ _ _ _ _ _ is (r.run asks is) told five);
      frame = λ six file told.
          by_status words 6 c.dst_run_by.result _ _ _ _ r.words six (omega arith) (omega arith)
          (λ asks is. run_refused_frame words asks file c.dst_run_by.result _ _ _ _ _ _ _ _ _ _ _ _ is (r.run asks is) told six);
      by_index = λ k is file told. (r.run (frame k true) is).by_index k refl file told;
      any_source = λ k is. (r.run (frame k true) is).any_source k refl;
      status = by_words words (λ none. at_most_seven _ _ _ _ _ (r.words none)) (λ asks is. (r.run asks is).most_status);
    }
