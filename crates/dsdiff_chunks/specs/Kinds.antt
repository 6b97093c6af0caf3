-- The kind of a sound chunk.
use Rattle.dsdiff_spec.specs.Form as files
use Rattle.dsdiff_chunks.specs.declared.common.Kind.{Kind}
use Rattle.dsdiff_chunks.specs.declared.common.Kind.TheVariants.{Plain, Coded}

abbrev pub kind_seen : Kind → files.Kind
kind_seen Plain = files.plain
kind_seen Coded = files.coded
