-- The line is that of the definitions, piece by piece from its end.
use Rattle.dst_lines.proofs.lines.checked.Goals as goal

pub returns : goal.returns
returns c = rw (
  c.ended.ensures,
  c.push_str-2.ensures.bytes,
  c.push_number-2.ensures.text,
  c.push_str.ensures.bytes,
  c.push_number.ensures.text,
  c.line_of-line.ensures.text,
)
