-- A numeral is read as its number.
use Rattle.std.proofs.Common.{◌≡◌, true, sym, subst, ap, ◌∙◌}
use Rattle.std.specs.String.{string_bytes}
use Rattle.std.specs.Str.Parse.{ParsesUnsigned}
use Rattle.words_spec.specs.Slots.{is_numeral}
use Rattle.dst_words.proofs.Digits.{number_read, number_not_read}
use Rattle.dst_words.proofs.slots.read_number.Goals as goal

pub returns-in-Ok : goal.returns-in-Ok
returns-in-Ok c =
    let word = string_bytes c.args.word.now in
    let numeral : is_numeral word ≡ true = sym (c.is_numeral.ensures ∙ ap is_numeral c.as_bytes.ensures.value) ∙ c.if-not-is_numeral.false in
    number_read word c.parse.result c.in-Ok.number numeral
    (subst (λ w. ParsesUnsigned 32 10 w c.parse.result) c.deref.ensures c.parse.ensures.value.0) c.in-Ok.is

pub returns-in-Err : goal.returns-in-Err
returns-in-Err c =
    let word = string_bytes c.args.word.now in
    let numeral : is_numeral word ≡ true = sym (c.is_numeral.ensures ∙ ap is_numeral c.as_bytes.ensures.value) ∙ c.if-not-is_numeral.false in
    number_not_read word c.parse.result c.in-Err.field-0 numeral
    (subst (λ w. ParsesUnsigned 32 10 w c.parse.result) c.deref.ensures c.parse.ensures.value.0) c.in-Err.is
