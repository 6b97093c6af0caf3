-- The code behind the header is the spelling, and where one of both has no room the whole is too long.
use Rattle.std.proofs.Common.{◌≡◌, ◌++◌, ◌∷◌, false, length, map, refl, ap, ap₂, ◌∙◌, arith}
use Rattle.dst_spec.specs.Bits.{octets}
use Rattle.dst_spec.specs.Spell.{code_spelling, header_spelling}
use Rattle.dst_spec.proofs.CodeLengths.{code_bits}
use Rattle.bit_io.proofs.ByteLists.{octets-zeros}
use Rattle.frame_store.specs.Pairs.{pair_of, all_pairs}
use Rattle.frame_store.proofs.spell.write_spelling.Goals as goal

pub returns-in-Err-clause-long : goal.returns-in-Err-clause-long
returns-in-Err-clause-long c = omega (
  arith,
  c.in-Err.ensures.full,
  c.if-not-write_header.ensures.room refl,
  code_bits
      (all_pairs c.args.params.now c.args.symbols.now),
)

pub returns-then-encode_all-clause-bytes : goal.returns-then-encode_all-clause-bytes
returns-then-encode_all-clause-bytes c =
    let P = c.args.params.now in
    let front = c.encode_all.new.encoder.before in
    let pairs = (false, c.reserved_probability.result) ∷ map pair_of c.args.symbols.now in
    let header : front ≡ header_spelling P =
    c.encode_all.ensures.before ∙ c.in-Ok.ensures.before ∙ c.if-not-write_header.ensures.bits refl ∙ ap (λ xs. xs ++ header_spelling P) c.requires.empty in
    ap octets (c.finish.ensures.bits pairs (c.if-encode_all.ensures.stands refl)) ∙ octets-zeros (front ++ code_spelling pairs)
    ∙ ap₂ (λ xs p. octets (xs ++ code_spelling ((false, p) ∷ map pair_of c.args.symbols.now))) header c.reserved_probability.ensures

pub returns-else-encode_all-clause-long : goal.returns-else-encode_all-clause-long
returns-else-encode_all-clause-long c =
    let pairs = (false, c.reserved_probability.result) ∷ map pair_of c.args.symbols.now in
    let same = ap (λ p. length (code_spelling ((false, p) ∷ map pair_of c.args.symbols.now))) c.reserved_probability.ensures in
    omega (arith, same, code_bits pairs, c.if-encode_all.ensures.long refl, c.in-Ok.ensures.room, c.if-not-write_header.ensures.room refl)
