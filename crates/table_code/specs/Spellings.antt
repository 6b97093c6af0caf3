-- A spelling, as it runs, is one of the definitions.
use Rattle.dst_spec.specs.Table.{Spelling as Spelled, plain, coded}
use Rattle.table_code.specs.declared.spelling.Spelling.{Spelling}
use Rattle.table_code.specs.declared.spelling.Spelling.TheVariants.{Plain, Coded}

abbrev pub spelled : Spelling → Spelled
spelled Plain = plain
spelled (Coded method rice) = coded method rice
