-- The words of each row are read as it has them.
use Rattle.std.proofs.Common.{◌≡◌, ◌-◌, List, ◌∷◌, length, map, take, drop, get_or, ap, sym, ◌∙◌, Option}
use Rattle.std.specs.Prelude.{codes}
use Rattle.std.specs.String.{string_bytes}
use Prim.Native.String.{String}
use Rattle.dsdiff_spec.specs.Words.{Word, Task}
use Rattle.words_spec.specs.Rows.{task_of}
use Rattle.dst_words.specs.RowWords.{encode_words, decode_words, cut_words, frame_words, check_words, show_words, index_words, make_words, encode_dsf_words}
use Rattle.dst_words.specs.RowWords.{decode_dsf_words, range_words}
use Rattle.dst_words.proofs.Options.{encode_row, encode_dsf_row, row_named}
use Rattle.dst_words.proofs.Making.{cut_row, make_row}
use Rattle.dst_words.proofs.Named.{decode_row, frame_row, check_row, show_row, index_row, decode_dsf_row, no_words_are, other_name, other_words}
use Rattle.dst_words.proofs.Ranges.{range_row_read}
use Rattle.dst_words.proofs.words.read_words.Goals as goal
use Rattle.dst_words.proofs.words.read_words.Goals.{After-as_str}

-- the bytes that are compared with names are those of the first word
first_word : (c : After-as_str) → string_bytes (get_or c.args.words.now 0 c.name-item.result) ≡ c.as_str.result.now
first_word c = ap (λ s. string_bytes s) (sym c.name-item.is) ∙ sym c.as_str.ensures.value

-- where the first word is a row's name, all words ask for what the row makes of those behind it
by_row : (c : After-as_str) (name : String) (row : List Word → Option Task) → ((words : List Word) → task_of (codes name ∷ words) ≡ row words) →
    c.as_str.result.now ≡ codes name →
    row (map (λ s. string_bytes s) (take (length c.args.words.now - 1) (drop 1 c.args.words.now))) ≡ task_of (map (λ s. string_bytes s) c.args.words.now)
by_row c name row same is =
    sym (row_named (λ s. string_bytes s) name row same c.args.words.now c.name-item.result c.in-len1-up.len_at_least (first_word c ∙ is))

pub returns-in_default-clause-task : goal.returns-in_default-clause-task
returns-in_default-clause-task c = sym (no_words_are (λ s. string_bytes s) c.args.words.now c.in_default.len_below)

pub returns-in-encode-clause-task : goal.returns-in-encode-clause-task
returns-in-encode-clause-task c =
    c.read_encode.ensures.task ∙ by_row (goal.at.returns-in-encode-clause-task c).After-as_str "encode" encode_words encode_row c.in-encode.is

pub returns-in-decode-clause-task : goal.returns-in-decode-clause-task
returns-in-decode-clause-task c =
    c.read_decode.ensures.task ∙ by_row (goal.at.returns-in-decode-clause-task c).After-as_str "decode" decode_words decode_row c.in-decode.is

pub returns-in-cut-clause-task : goal.returns-in-cut-clause-task
returns-in-cut-clause-task c =
    c.read_cut.ensures.task ∙ by_row (goal.at.returns-in-cut-clause-task c).After-as_str "cut" cut_words cut_row c.in-cut.is

pub returns-in-frame-clause-task : goal.returns-in-frame-clause-task
returns-in-frame-clause-task c =
    c.read_frame.ensures.task ∙ by_row (goal.at.returns-in-frame-clause-task c).After-as_str "frame" frame_words frame_row c.in-frame.is

pub returns-in-check-clause-task : goal.returns-in-check-clause-task
returns-in-check-clause-task c =
    c.read_check.ensures.task ∙ by_row (goal.at.returns-in-check-clause-task c).After-as_str "check" check_words check_row c.in-check.is

pub returns-in-show-clause-task : goal.returns-in-show-clause-task
returns-in-show-clause-task c =
    c.read_show.ensures.task ∙ by_row (goal.at.returns-in-show-clause-task c).After-as_str "show" show_words show_row c.in-show.is

pub returns-in-index-clause-task : goal.returns-in-index-clause-task
returns-in-index-clause-task c =
    c.read_index.ensures.task ∙ by_row (goal.at.returns-in-index-clause-task c).After-as_str "index" index_words index_row c.in-index.is

pub returns-in-make-clause-task : goal.returns-in-make-clause-task
returns-in-make-clause-task c =
    c.read_make.ensures.task ∙ by_row (goal.at.returns-in-make-clause-task c).After-as_str "make" make_words make_row c.in-make.is

pub returns-in-text-clause-task : goal.returns-in-text-clause-task
returns-in-text-clause-task c =
    c.read_encode_dsf.ensures.task ∙ by_row (goal.at.returns-in-text-clause-task c).After-as_str "encode-dsf" encode_dsf_words encode_dsf_row c.in-text.is

pub returns-in-text-2-clause-task : goal.returns-in-text-2-clause-task
returns-in-text-2-clause-task c =
    c.read_decode_dsf.ensures.task ∙ by_row (goal.at.returns-in-text-2-clause-task c).After-as_str "decode-dsf" decode_dsf_words decode_dsf_row c.in-text-2.is

pub returns-in-range-clause-task : goal.returns-in-range-clause-task
returns-in-range-clause-task c =
    c.read_range.ensures.task ∙ by_row (goal.at.returns-in-range-clause-task c).After-as_str "range" range_words range_row_read c.in-range.is

pub returns-in_default-as_str-clause-task : goal.returns-in_default-as_str-clause-task
returns-in_default-as_str-clause-task c =
    let is = sym (first_word (goal.at.returns-in_default-as_str-clause-task c).After-as_str) in
    let d = c.in_default-as_str in
    sym (other_words (λ s. string_bytes s) c.args.words.now c.name-item.result c.in-len1-up.len_at_least
    (λ rest. other_name _ rest (λ e. d.not-encode (is ∙ e)) (λ e. d.not-decode (is ∙ e)) (λ e. d.not-cut (is ∙ e)) (λ e. d.not-frame (is ∙ e))
    (λ e. d.not-check (is ∙ e)) (λ e. d.not-show (is ∙ e)) (λ e. d.not-index (is ∙ e)) (λ e. d.not-make (is ∙ e))
    (λ e. d.not-text (is ∙ e)) (λ e. d.not-text-2 (is ∙ e)) (λ e. d.not-range (is ∙ e))))
